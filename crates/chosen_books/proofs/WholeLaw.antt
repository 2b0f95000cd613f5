-- A book that goes in as it stands has its own tunes.
use Rattle.std.proofs.Common.{◌≡◌, ℕ, ◌+◌, Bool, true, false, cond, not, ltb, List, [], ◌∷◌, ◌++◌, length, map, Ok, Err, Option, Some, None}
use Rattle.std.proofs.Common.{refl, ap, sym, ◌∙◌, subst, arith, append-nil}
use Rattle.std.proofs.Common.{◌≤◌, ◌||◌, ◌&&◌}
use Rattle.std.specs.Prelude.{count_by, ⊤}
use Rattle.std.proofs.lemmas.Bool.{and_parts, or_parts, not-true, le-ltb, ltb-false}
use Rattle.std.proofs.lemmas.List.Sums.{sum_by-cons}
use Rattle.abc_fields.specs.Limits.{longest_book}
use Rattle.abc_fields.specs.Books.{book_answer}
use Rattle.desk_terms.specs.declared.adding.Adding.{Adding}
use Rattle.abc_fields.specs.Tunes.{is_tune_start, tune_run, tune_runs, has_key, joined}
use Rattle.abc_fields.specs.FileHeaders.{file_header, with_header}
use Rattle.abc_fields.specs.Books.{Texts, before_texts, runs_answer, book_of_runs, book_runs}
use Rattle.abc_fields.specs.declared.book.BookFault.{BookFault}
use Rattle.abc_fields.specs.declared.book.BookFault.TheVariants.{BadTune, BookTooLong, NoTune}
use Rattle.abc_fields.specs.declared.book.TuneFault.{TuneFault}
use Rattle.abc_fields.specs.declared.book.TuneFault.TheVariants.{NoKey, TooLong}
use Rattle.told_books.specs.Fates.{book_lines, fates_of}
use Rattle.told_books.specs.ToldTunes.{fault_of_tune}
use Rattle.told_books.specs.declared.fates.Fate.{Fate}
use Rattle.told_books.specs.declared.fates.Fate.TheVariants.{Kept, Carried, Blank, Version, Dropped}
use Rattle.told_books.proofs.KeptLaw.{fates_length}
use Rattle.chosen_books.specs.BookTunes.{BookTune, Passed, behind_line, behind_start, book_tunes, is_carried_between, nothing_passed, tune_here}
use Rattle.chosen_books.specs.BookTunes.{book_tunes_from}
use Rattle.chosen_books.specs.ChosenTunes.{with_left_out, bad_tunes, carries_some, first_refused, good_or, good_tunes, most_carried, texts_of, tunes_refused}
use Rattle.chosen_books.specs.ChosenTunes.{GoIn, chosen_tunes, is_book_too_long, longest_header, new_tunes, refusal, stays_whole}
use Rattle.chosen_books.specs.declared.found_tunes.GoodTune.{GoodTune}
use Rattle.chosen_books.specs.declared.found_tunes.LeftOut.{LeftOut}

-- the lines of tunes
abbrev pub lines_in : List BookTune → List (List (List ℕ))
lines_in tunes = map (λ tune. tune.lines) tunes

none_between : (fate : Fate) (line : List ℕ) → is_carried_between false fate line ≡ false
none_between (Kept tune) line = refl
none_between Carried line = refl
none_between Blank line = refl
none_between Version line = refl
none_between (Dropped directive) line = refl

here_same : (header : List (List ℕ)) (at : Passed) (lines : List (List ℕ)) → at.between ≡ []
    → (tune_here header at lines).lines ≡ with_header header (tune_run lines)
here_same header at lines none = ap (λ put. with_header put (tune_run lines)) (ap (λ ls. header ++ ls) none ∙ append-nil header)

runs_from : (header : List (List ℕ)) (at : Passed) (fates : List Fate) (lines : List (List ℕ)) → at.between ≡ [] → length fates ≡ length lines
    → lines_in (book_tunes_from false header at fates lines) ≡ map (with_header header) (tune_runs lines)
runs_from header at [] [] none same = refl
runs_from header at [] (line ∷ lines) none same = absurd (omega arith)
runs_from header at (fate ∷ fates) [] none same = absurd (omega arith)
runs_from header at (fate ∷ fates) (line ∷ lines) none same =
    rw (none_between fate line) (by (runs_from header (behind_start at) fates lines none (omega arith))
    (runs_from header (behind_line false line at) fates lines none (omega arith)) (is_tune_start line))
  where
    by : lines_in (book_tunes_from false header (behind_start at) fates lines) ≡ map (with_header header) (tune_runs lines)
        → lines_in (book_tunes_from false header (behind_line false line at) fates lines) ≡ map (with_header header) (tune_runs lines)
        → (b : Bool) → lines_in (cond b (tune_here header at lines ∷ book_tunes_from false header (behind_start at) fates lines)
        (book_tunes_from false header (behind_line false line at) fates lines))
        ≡ map (with_header header) (cond b (tune_run lines ∷ tune_runs lines) (tune_runs lines))
    by start other true = ap (λ run. run ∷ lines_in (book_tunes_from false header (behind_start at) fates lines)) (here_same header at lines none)
        ∙ ap (λ runs. with_header header (tune_run lines) ∷ runs) start
    by start other false = other

-- without lines between them, the tunes are those of the book
pub own_runs : (book : List ℕ) → lines_in (book_tunes false book) ≡ book_runs book
own_runs book = runs_from (file_header (book_lines book)) _ (fates_of (book_lines book)) (book_lines book) refl (fates_length (book_lines book))

-- EACH TUNE
-- tunes that carry no line between tunes, of which the first has this place
abbrev pub AreOwn : ℕ → List BookTune → Type 0
AreOwn place [] = ⊤
AreOwn place (tune ∷ tunes) = (tune.place ≡ place) × (tune.carried ≡ 0) × AreOwn (place + 1) tunes

own_from : (header : List (List ℕ)) (at : Passed) (fates : List Fate) (lines : List (List ℕ)) → at.between ≡ []
    → AreOwn (at.tunes + 1) (book_tunes_from false header at fates lines)
own_from header at [] lines none = tt
own_from header at (fate ∷ fates) [] none = tt
own_from header at (fate ∷ fates) (line ∷ lines) none =
    rw (none_between fate line) (by (own_from header (behind_start at) fates lines none) (own_from header (behind_line false line at) fates lines none)
    (is_tune_start line))
  where
    by : AreOwn (at.tunes + 1 + 1) (book_tunes_from false header (behind_start at) fates lines)
        → AreOwn (at.tunes + 1) (book_tunes_from false header (behind_line false line at) fates lines)
        → (b : Bool) → AreOwn (at.tunes + 1) (cond b (tune_here header at lines ∷ book_tunes_from false header (behind_start at) fates lines)
        (book_tunes_from false header (behind_line false line at) fates lines))
    by start other true = (refl, ap length none, start)
    by start other false = other

pub own_tunes : (book : List ℕ) → AreOwn 1 (book_tunes false book)
own_tunes book = own_from (file_header (book_lines book)) nothing_passed (fates_of (book_lines book)) (book_lines book) refl

-- none of them carries a line
most_step : (fault : Option TuneFault) (tune : BookTune) (later : List GoodTune) → tune.carried ≡ 0 → most_carried later ≡ 0
    → most_carried (good_or fault tune later) ≡ 0
most_step None tune later own none = rw (own, none) refl
most_step (Some fault) tune later own none = none

pub none_most : (longest place : ℕ) (tunes : List BookTune) → AreOwn place tunes → most_carried (good_tunes longest tunes) ≡ 0
none_most longest place [] own = refl
none_most longest place (tune ∷ tunes) own =
    most_step (fault_of_tune longest tune.lines) tune (good_tunes longest tunes) own.1 (none_most longest (place + 1) tunes own.2)

some_step : (fault : Option TuneFault) (tune : BookTune) (later : List GoodTune) → tune.carried ≡ 0 → count_by carries_some later ≡ 0
    → count_by carries_some (good_or fault tune later) ≡ 0
some_step None tune later own none =
    sum_by-cons (λ t. cond (carries_some t) 1 0) (record { text = joined tune.lines; carried = tune.carried }) later ∙ rw (own, none) refl
some_step (Some fault) tune later own none = none

pub none_carry : (longest place : ℕ) (tunes : List BookTune) → AreOwn place tunes → count_by carries_some (good_tunes longest tunes) ≡ 0
none_carry longest place [] own = refl
none_carry longest place (tune ∷ tunes) own =
    some_step (fault_of_tune longest tune.lines) tune (good_tunes longest tunes) own.1 (none_carry longest (place + 1) tunes own.2)

-- THE ANSWER
-- the texts of a book, unless it is refused
abbrev pub answer_of : Option BookFault → List (List ℕ) → Texts
answer_of None texts = Ok texts
answer_of (Some fault) texts = Err fault

good_before : (fault : Option BookFault) (text : List ℕ) (texts : List (List ℕ))
    → before_texts (text ∷ []) (answer_of fault texts) ≡ answer_of fault (text ∷ texts)
good_before None text texts = refl
good_before (Some fault) text texts = refl

tune_answers : (place : ℕ) (tune : BookTune) (keyed long : Bool) (later : Texts) (good : List GoodTune) (bad : List LeftOut) → tune.place ≡ place
    → later ≡ answer_of (first_refused false bad) (texts_of good)
    → cond (not keyed) (Err (BadTune place NoKey)) (cond long (Err (BadTune place TooLong)) (before_texts (joined tune.lines ∷ []) later))
    ≡ answer_of (first_refused false (with_left_out (cond (not keyed) (Some NoKey) (cond long (Some TooLong) None)) tune bad))
    (texts_of (good_or (cond (not keyed) (Some NoKey) (cond long (Some TooLong) None)) tune good))
tune_answers place tune false long later good bad at e = ap (λ n. Err (BadTune n NoKey)) (sym at)
tune_answers place tune true true later good bad at e = ap (λ n. Err (BadTune n TooLong)) (sym at)
tune_answers place tune true false later good bad at e =
    ap (before_texts (joined tune.lines ∷ [])) e ∙ good_before (first_refused false bad) (joined tune.lines) (texts_of good)

answers_from : (longest place : ℕ) (tunes : List BookTune) → AreOwn place tunes
    → runs_answer longest place (lines_in tunes) ≡ answer_of (first_refused false (bad_tunes longest tunes)) (texts_of (good_tunes longest tunes))
answers_from longest place [] own = refl
answers_from longest place (tune ∷ tunes) own =
    tune_answers place tune (has_key tune.lines) (ltb longest (length (joined tune.lines))) (runs_answer longest (place + 1) (lines_in tunes))
    (good_tunes longest tunes) (bad_tunes longest tunes) own.0 (answers_from longest (place + 1) tunes own.2)

whole_from : (longest : ℕ) (tunes : List BookTune) → AreOwn 1 tunes
    → book_of_runs longest (lines_in tunes) ≡ answer_of (tunes_refused false longest tunes) (texts_of (good_tunes longest tunes))
whole_from longest [] own = refl
whole_from longest (tune ∷ tunes) own = answers_from longest 1 (tune ∷ tunes) own

pub whole_answer : (longest : ℕ) (book : List ℕ) → length book ≤ longest_book
    → book_answer longest book ≡ answer_of (tunes_refused false longest (book_tunes false book)) (texts_of (good_tunes longest (book_tunes false book)))
whole_answer longest book short =
    rw (le-ltb longest_book (length book) short)
    (ap (book_of_runs longest) (sym (own_runs book)) ∙ whole_from longest (book_tunes false book) (own_tunes book))

texts_then : (fault : Option BookFault) (own texts : List (List ℕ)) → answer_of fault own ≡ Ok texts → (fault ≡ None) × (own ≡ texts)
texts_then None own texts e = (refl, let h : Ok own ≡ Ok texts = e in cc)
texts_then (Some fault) own texts e = absurd (let h : Err fault ≡ Ok texts = e in cc)

fault_then : (fault : Option BookFault) (own : List (List ℕ)) (told : BookFault) → answer_of fault own ≡ Err told → fault ≡ Some told
fault_then None own told e = absurd (let h : Ok own ≡ Err told = e in cc)
fault_then (Some fault) own told e = let h : Err fault ≡ Err told = e in cc

none_bad : (bad : List LeftOut) → first_refused false bad ≡ None → bad ≡ []
none_bad [] e = refl
none_bad (tune ∷ bad) e = absurd (let h : Some (BadTune tune.place tune.fault) ≡ None = e in cc)

no_bad : (longest : ℕ) (tunes : List BookTune) → tunes_refused false longest tunes ≡ None → bad_tunes longest tunes ≡ []
no_bad longest [] e = absurd (let h : Some NoTune ≡ None = e in cc)
no_bad longest (tune ∷ tunes) e = none_bad (bad_tunes longest (tune ∷ tunes)) e

-- nothing is asked for that changes a book
pub record IsWhole (how : Adding) (book : List ℕ) : Type 0 where
  pub short : length book ≤ longest_book
  pub new : how.only_new ≡ false
  pub good : how.good ≡ false
  pub carry : how.carry ≡ false

pub is_whole : (how : Adding) (book : List ℕ) → stays_whole how book ≡ true → IsWhole how book
is_whole how book whole =
    let parts = and_parts (not (ltb longest_book (length book))) (not (how.only_new || (how.good || how.carry))) whole in
    let changes = or_parts how.only_new (how.good || how.carry) (not-true (how.only_new || (how.good || how.carry)) parts.1) in
    let more = or_parts how.good how.carry changes.1 in
    record {
      short = ltb-false longest_book (length book) (not-true (ltb longest_book (length book)) parts.0);
      new = changes.0;
      good = more.0;
      carry = more.1;
    }

and_none : (b : Bool) → (b && false) ≡ false
and_none true = refl
and_none false = refl

pub whole_refusal : (how : Adding) (longest : ℕ) (book : List ℕ) → stays_whole how book ≡ true
    → refusal how longest book ≡ tunes_refused false longest (book_tunes false book)
whole_refusal how longest book whole =
    let is = is_whole how book whole in
    let short : is_book_too_long how book ≡ false =
    ap (λ b. (not how.split && b) || (not (stays_whole how book) && ltb longest_header (length (joined (file_header (book_lines book))))))
    (le-ltb longest_book (length book) is.short)
    ∙ ap (λ b. (not how.split && false) || (not b && ltb longest_header (length (joined (file_header (book_lines book)))))) whole
    ∙ ap (λ b. b || false) (and_none (not how.split)) in
    ap (λ b. cond b (Some BookTooLong) (tunes_refused how.good longest (book_tunes how.carry book))) short
    ∙ ap (λ b. tunes_refused b longest (book_tunes how.carry book)) is.good
    ∙ ap (λ b. tunes_refused false longest (book_tunes b book)) is.carry

pub record IsAccepted (longest : ℕ) (book : List ℕ) (texts : List (List ℕ)) : Type 0 where
  pub taken : tunes_refused false longest (book_tunes false book) ≡ None
  pub good : texts_of (good_tunes longest (book_tunes false book)) ≡ texts
  pub bad : bad_tunes longest (book_tunes false book) ≡ []

pub accepted : (longest : ℕ) (book : List ℕ) (texts : List (List ℕ)) → length book ≤ longest_book → book_answer longest book ≡ Ok texts
    → IsAccepted longest book texts
accepted longest book texts short e =
    let tunes = book_tunes false book in
    let both = texts_then (tunes_refused false longest tunes) (texts_of (good_tunes longest tunes)) texts (sym (whole_answer longest book short) ∙ e) in
    record { taken = both.0; good = both.1; bad = no_bad longest tunes both.0 }

pub refused_whole : (how : Adding) (longest : ℕ) (book : List ℕ) (fault : BookFault) → stays_whole how book ≡ true → book_answer longest book ≡ Err fault
    → refusal how longest book ≡ Some fault
refused_whole how longest book fault whole e =
    whole_refusal how longest book whole
    ∙ fault_then (tunes_refused false longest (book_tunes false book)) (texts_of (good_tunes longest (book_tunes false book))) fault
    (sym (whole_answer longest book (is_whole how book whole).short) ∙ e)

pub length_lines : (tunes : List BookTune) → length (lines_in tunes) ≡ length tunes
length_lines [] = refl
length_lines (tune ∷ tunes) = omega (arith, length_lines tunes)

pub length_texts : (tunes : List GoodTune) → length (texts_of tunes) ≡ length tunes
length_texts [] = refl
length_texts (tune ∷ tunes) = omega (arith, length_texts tunes)

pub whole_chosen : (how : Adding) (longest : ℕ) (sums : List (List ℕ)) (book : List ℕ) → stays_whole how book ≡ true
    → chosen_tunes how longest sums book ≡ good_tunes longest (book_tunes false book)
whole_chosen how longest sums book whole =
    let is = is_whole how book whole in
    let good = good_tunes longest (book_tunes how.carry book) in
    ap (λ b. cond b (new_tunes sums good) good) is.new ∙ ap (λ b. good_tunes longest (book_tunes b book)) is.carry

-- a book that is one part
pub one_part : (longest : ℕ) (book : List ℕ) (parts texts own : List (List ℕ)) → parts ≡ book ∷ [] → book_answer longest book ≡ Ok texts → own ≡ texts
    → GoIn longest parts own
one_part longest book parts texts own one answer same =
    let go : GoIn longest (book ∷ []) texts = (texts, [], answer, append-nil texts, refl) in
    subst (λ ps. GoIn longest ps own) (sym one) (subst (GoIn longest (book ∷ [])) (sym same) go)
