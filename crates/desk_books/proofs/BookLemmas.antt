-- Books that are told one after another.
use Rattle.std.proofs.Common.{◌≡◌, ℕ, List, [], length, map, sym, ap, ◌∙◌}
use Rattle.std.specs.Prelude.{Ok, Err, MatchOption, Option, Some, None}
use Rattle.std.proofs.lemmas.List.{length-map}
use Rattle.abc_fields.specs.Books.{book_answer, book_runs, tune_texts}
use Rattle.abc_fields.specs.Tunes.{joined}
use Rattle.abc_fields.specs.declared.book.BookFault.{BookFault}
use Rattle.tune_store.specs.Limits.{longest_text}
use Rattle.tune_store.specs.declared.layout.Layout.TheVariants.{Two}
use Rattle.tune_scripts.specs.Consoles.{InputTold, OutputTold}
use Rattle.tune_desk.specs.DeskDeeds.{DeskDeed}
use Rattle.desk_books.specs.CheckedBooks.{summary, summary_by, answer_to, lost_of, status_by, taken_line}
use Rattle.desk_books.specs.Stages.{Stage}

-- STAGES
abbrev pub stage_with : {D : Type 0} → InputTold → OutputTold → List (DeskDeed D) → Stage D
stage_with input output deeds = record { deeds = deeds; input = input; output = output }

pub same_stage : {D : Type 0} (input : InputTold) (output : OutputTold) (one other : List (DeskDeed D)) → one ≡ other
    → stage_with input output one ≡ stage_with input output other
same_stage input output one other e = ap (stage_with input output) e

-- ONE BOOK
-- what is told of a book, by the fault that it has as a whole
pub told_line : (name book line : List ℕ) (fault : Option BookFault) (longest tunes lost status : ℕ) → longest ≡ longest_text Two
    → MatchOption fault (book_answer longest book ≡ Ok (tune_texts book)) (λ why. book_answer longest book ≡ Err why)
    → MatchOption fault (line ≡ taken_line name tunes lost) (λ _. line ≡ []) → MatchOption fault (status ≡ 0) (λ _. status ≡ 1)
    → tunes ≡ length (tune_texts book) → lost ≡ lost_of book → (line ≡ summary name book) × (status ≡ status_by (answer_to book))
told_line name book line None longest tunes lost status most answer is_line is_status is_tunes is_lost =
    let same : answer_to book ≡ Ok (tune_texts book) = ap (λ n. book_answer n book) (sym most) ∙ answer in (
      is_line ∙ ap (λ n. taken_line name n lost) is_tunes ∙ ap (taken_line name (length (tune_texts book))) is_lost
          ∙ sym (ap (λ texts. summary_by name texts (lost_of book)) same),
      is_status ∙ sym (ap status_by same),
    )
told_line name book line (Some why) longest tunes lost status most answer is_line is_status is_tunes is_lost =
    let same : answer_to book ≡ Err why = ap (λ n. book_answer n book) (sym most) ∙ answer in
    (is_line ∙ sym (ap (λ texts. summary_by name texts (lost_of book)) same), is_status ∙ sym (ap status_by same))

-- as many tunes are told as the book has
pub tunes_told_of : {A B : Type 0} (f : A → B) (g : List (List ℕ) → B) (told : List A) (book : List ℕ) → map f told ≡ map g (book_runs book)
    → length told ≡ length (tune_texts book)
tunes_told_of f g told book e =
    sym (length-map told f) ∙ ap length e ∙ length-map (book_runs book) g ∙ sym (length-map (book_runs book) joined)
