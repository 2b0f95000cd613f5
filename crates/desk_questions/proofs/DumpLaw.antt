-- What the commands of a dump make, one after another.
use Rattle.std.proofs.Common.{◌≡◌, ◌≢◌, ℕ, ◌+◌, ◌^◌, ◌<◌, ◌≤◌, max, true, false, eqb, ltb, leb, List, [], ◌∷◌, ◌++◌, length, map}
use Rattle.std.proofs.Common.{Option, Some, None, Result, Ok, refl, sym, ap, ◌∙◌, subst, arith, append_assoc, append-nil, codes, inl, inr, is_some, is_ok}
use Rattle.std.proofs.Common.{length-append}
use Rattle.std.specs.Prelude.{decimal}
use Rattle.std.specs.List.{AllByRecursion, flat_map}
use Rattle.std.proofs.lemmas.Bool.{cases_Bool, eqb-true, eqb-false, eq-eqb, ne_eqb, le-ltb, ltb-true, ltb-false, lt-leb}
use Rattle.std.proofs.lemmas.Fmt.{length-decimal-le}
use Rattle.std.proofs.lemmas.List.{map-append, length-map}
use Rattle.abc_fields.specs.Limits.{longest_book}
use Rattle.abc_fields.specs.Books.{book_answer}
use Rattle.abc_fields.specs.Tunes.{IsTuneText}
use Rattle.tune_books.specs.WrittenBooks.{written_tune, book_header}
use Rattle.tune_books.proofs.ReadBack.{book_gives_back}
use Rattle.tune_sets.specs.Calls.{places_of, places_found, create_set, add_to}
use Rattle.tune_sets.specs.Limits.{most_places, most_sets}
use Rattle.tune_sets.specs.Names.{is_good_name, is_before}
use Rattle.tune_sets.specs.Sets.{set_at, set_inserted, empty_set, with_numbers, IsTuneSet}
use Rattle.tune_sets.specs.Sets.{NamesRiseFrom as NamesRise}
use Rattle.tune_sets.specs.declared.set_lists.TuneSet.{TuneSet}
use Rattle.tune_sets.proofs.NameOrder.{same_name, before_differs, before_not_after}
use Rattle.tune_sets.proofs.ChangeLemmas.{rises-below}
use Rattle.tune_store.specs.Limits.{longest_text, most_tunes, greatest_number}
use Rattle.tune_store.specs.Questions.{exported}
use Rattle.tune_store.specs.SetSteps.{set_add_found, sets_step}
use Rattle.tune_store.specs.State.{State, NumbersRiseFrom, greatest, tune_at, empty_of, IsTune, IsState, AreHeld, NameTunes}
use Rattle.tune_store.specs.Step.{step}
use Rattle.tune_store.specs.TuneSteps.{Outcome, numbered, with_texts, import_texts, import_book, tunes_step, tune_inserted as tune_inserted}
use Rattle.tune_store.specs.TuneSteps.{without_tune, moved_if, moved}
use Rattle.tune_store.specs.declared.layout.Layout.{Layout}
use Rattle.tune_store.specs.declared.layout.Layout.TheVariants.{One, Two}
use Rattle.tune_store.specs.declared.tune.Tune.{Tune}
use Rattle.tune_store.specs.declared.command.Command.{Command}
use Rattle.tune_store.specs.declared.command.Command.TheVariants.{Import, Renumber, SetNew, SetAdd}
use Rattle.tune_store.specs.declared.command.Reply.{Reply}
use Rattle.tune_store.specs.declared.command.Reply.TheVariants.{Imported, Renumbered, SetMade, SetAdded}
use Rattle.tune_store.proofs.LookUpLemmas.{renumber_moves}
use Rattle.tune_store.proofs.StateLemmas.{greatest-append}
use Rattle.desk_questions.specs.Dumps.{piece_size, book_of, imported, tune_dump_commands, set_dump_commands, sets_commands, dump_commands, LeadsUnrefused}
use Rattle.desk_questions.specs.Dumps.{imported_tune, made_anew}
use Rattle.desk_questions.proofs.DumpLemmas.{goes_with, goes_next, goes_alone}
use Rattle.desk_questions.proofs.TuneLemmas.{written_more}

-- COMMANDS, ONE AFTER ANOTHER
leads_on : (old mid new : State) (some more : List Command) → LeadsUnrefused old some mid → LeadsUnrefused mid more new → LeadsUnrefused old (some ++ more) new
leads_on old mid new [] more same leads = subst (λ (state : State). LeadsUnrefused state more new) (sym same) leads
leads_on old mid new (command ∷ some) more first leads = (first.0, leads_on (step old command).0 mid new some more first.1 leads)

-- a command that is accepted, and more
leads_by : (old mid new : State) (command : Command) (reply : Reply) (more : List Command) → step old command ≡ (mid, Ok reply) → LeadsUnrefused mid more new
    → LeadsUnrefused old (command ∷ more) new
leads_by old mid new command reply more e leads =
    let is : is_ok (step old command).1 ≡ true = ap (λ (outcome : Outcome). is_ok outcome.1) e in
    let to : (step old command).0 ≡ mid = ap (λ (outcome : Outcome). outcome.0) e in
    (is, subst (λ (state : State). LeadsUnrefused state more new) (sym to) leads)

-- TUNES
-- a state of these tunes, without set lists
abbrev at : List Tune → State
at tunes = record { layout = Two; tunes = tunes; sets = [] }

-- a tune that layout 2 allows
record Fits (tune : Tune) : Type 0 where
  text : IsTuneText tune.text
  short : length tune.text ≤ 64000
  number : tune.number ≤ greatest_number

all-append : {A : Type 0} (P : A → Type 0) (some more : List A) → AllByRecursion P some → AllByRecursion P more → AllByRecursion P (some ++ more)
all-append P [] more each later = later
all-append P (x ∷ some) more each later = (each.0, all-append P some more each.1 later)

-- numbers in a row, from behind this one
abbrev InRow : ℕ → List Tune → Type 0
InRow last [] = Unit {0}
InRow last (tune ∷ tunes) = (tune.number ≡ last + 1) × InRow tune.number tunes

numbered_anew : (last : ℕ) (tunes : List Tune) → InRow last tunes → numbered (last + 1) (map (λ (tune : Tune). tune.text) tunes) ≡ map imported_tune tunes
numbered_anew last [] row = refl
numbered_anew last (tune ∷ tunes) row =
    ap (λ (n : ℕ). record { number = n; revision = 1; text = tune.text } ∷ numbered (n + 1) (map (λ (tune : Tune). tune.text) tunes)) (sym row.0)
    ∙ ap (λ (rest : List Tune). imported_tune tune ∷ rest) (numbered_anew tune.number tunes row.1)

row-push : (last : ℕ) (tunes : List Tune) (tune : Tune) → InRow last tunes → tune.number ≡ last + length tunes + 1 → InRow last (tunes ++ tune ∷ [])
row-push last [] tune row next = (omega arith, tt)
row-push last (first ∷ tunes) tune row next =
    let e = row.0 in (row.0, row-push first.number tunes tune row.1 (omega arith))

greatest_row : (last : ℕ) (tunes : List Tune) → InRow last tunes → max last (greatest tunes) ≡ last + length tunes
greatest_row last [] row = omega arith
greatest_row last (tune ∷ tunes) row = let e = row.0 in let later = greatest_row tune.number tunes row.1 in omega arith

greatest-anew : (tunes : List Tune) → greatest (map imported_tune tunes) ≡ greatest tunes
greatest-anew [] = refl
greatest-anew (tune ∷ tunes) = ap (λ n. max tune.number n) (greatest-anew tunes)

-- IMPORT
abbrev numbers_in : List Tune → List ℕ
numbers_in tunes = map (λ (tune : Tune). tune.number) tunes

abbrev texts_in : List Tune → List (List ℕ)
texts_in tunes = map (λ (tune : Tune). tune.text) tunes

small_numbers : (tunes : List Tune) → AllByRecursion Fits tunes → AllByRecursion (λ n. n < 2 ^ 64) (numbers_in tunes)
small_numbers [] each = tt
small_numbers (tune ∷ tunes) each = let few = each.0.number in (omega arith, small_numbers tunes each.1)

their_texts : (tunes : List Tune) → AllByRecursion Fits tunes → AllByRecursion IsTuneText (texts_in tunes)
their_texts [] each = tt
their_texts (tune ∷ tunes) each = (each.0.text, their_texts tunes each.1)

short_texts : (tunes : List Tune) → AllByRecursion Fits tunes → AllByRecursion (λ text. length text ≤ 64000) (texts_in tunes)
short_texts [] each = tt
short_texts (tune ∷ tunes) each = (each.0.short, short_texts tunes each.1)

some_texts : (tune : Tune) (tunes : List Tune) → texts_in (tune ∷ tunes) ≢ []
some_texts tune tunes none = cc

book_read : (tune : Tune) (tunes : List Tune) → AllByRecursion Fits (tune ∷ tunes) → length (exported (tune ∷ tunes)) ≤ longest_book
    → book_answer 64000 (exported (tune ∷ tunes)) ≡ Ok (texts_in (tune ∷ tunes))
book_read tune tunes each short =
    let all = tune ∷ tunes in
    let same : length (numbers_in all) ≡ length (texts_in all) = omega (
      arith,
      length-map all (λ (tune : Tune). tune.number),
      length-map all (λ (tune : Tune).
          tune.text),
    ) in
    (book_gives_back (numbers_in all) (texts_in all) same (small_numbers all each) (their_texts all each)).read 64000 (some_texts tune tunes) short
    (short_texts all each)

import_gives : (old : List Tune) (tune : Tune) (tunes : List Tune) → AllByRecursion Fits (tune ∷ tunes)
    → length (exported (tune ∷ tunes)) ≤ longest_book → length old + length (tune ∷ tunes) ≤ 50000
    → greatest old + length (tune ∷ tunes) ≤ greatest_number
    → step (at old) (Import (exported (tune ∷ tunes)))
    ≡ (at (with_texts old (texts_in (tune ∷ tunes))), Ok (Imported (greatest old + 1) (greatest old + length (texts_in (tune ∷ tunes)))))
import_gives old tune tunes each short room numbers =
    let all = tune ∷ tunes in
    let texts = texts_in all in
    let count : length texts ≡ length all = length-map all (λ (tune : Tune). tune.text) in
    let few : ltb 50000 (length old + length texts) ≡ false = le-ltb 50000 (length old + length texts) (omega arith) in
    let low : ltb greatest_number (greatest old + length texts) ≡ false = le-ltb greatest_number (greatest old + length texts) (omega arith) in
    let given : import_texts Two old texts ≡ (with_texts old texts, Ok (Imported (greatest old + 1) (greatest old + length texts))) = rw (few, low) refl in
    ap (λ (answer : Result (List (List ℕ)) _). tunes_step (at old) (import_book Two old answer)) (book_read tune tunes each short)
    ∙ ap (tunes_step (at old)) given

-- the tunes of a piece, behind those that are there
piece_gives : (done : List Tune) (tune : Tune) (tunes : List Tune) → InRow (greatest done) (tune ∷ tunes) → AllByRecursion Fits (tune ∷ tunes)
    → length (exported (tune ∷ tunes)) ≤ longest_book → length done + length (tune ∷ tunes) ≤ 50000
    → greatest done + length (tune ∷ tunes) ≤ greatest_number
    → LeadsUnrefused (at (map imported_tune done)) (imported (book_of (tune ∷ tunes))) (at (map imported_tune (done ++ tune ∷ tunes)))
piece_gives done tune tunes row each short room numbers =
    let all = tune ∷ tunes in
    let old = map imported_tune done in
    let top : greatest old ≡ greatest done = greatest-anew done in
    let count : length old ≡ length done = length-map done imported_tune in
    let whole : with_texts old (texts_in all) ≡ map imported_tune (done ++ all) =
    ap (λ n. old ++ numbered (n + 1) (texts_in all)) top ∙ ap (λ (more : List Tune). old ++ more) (numbered_anew (greatest done) all row)
    ∙ sym (map-append imported_tune done all) in
    leads_by _ _ _ (Import (exported all)) _ [] (import_gives old tune tunes each short (omega arith) (omega arith)) (ap at whole)

import_leads : (done piece : List Tune) → InRow (greatest done) piece → AllByRecursion Fits piece
    → length (book_of piece) ≤ longest_book → length done + length piece ≤ 50000 → greatest done + length piece ≤ greatest_number
    → LeadsUnrefused (at (map imported_tune done)) (imported (book_of piece)) (at (map imported_tune (done ++ piece)))
import_leads done [] row each short room numbers = ap (λ (tunes : List Tune). at (map imported_tune tunes)) (sym (append-nil done))
import_leads done (tune ∷ tunes) row each short room numbers = piece_gives done tune tunes row each short room numbers

-- RENUMBER
none_above : (number : ℕ) (tunes : List Tune) → greatest tunes < number → tune_at number tunes ≡ None
none_above number [] above = refl
none_above number (tune ∷ tunes) above = rw (ne_eqb tune.number number (λ e. absurd (omega arith))) (none_above number tunes (omega arith))

found_last : (tunes : List Tune) (tune : Tune) → greatest tunes < tune.number → tune_at tune.number (tunes ++ tune ∷ []) ≡ Some tune
found_last [] tune above = rw (eq-eqb tune.number tune.number refl) refl
found_last (first ∷ tunes) tune above =
    rw (ne_eqb first.number tune.number (λ e. absurd (omega arith))) (found_last tunes tune (omega arith))

without_last : (tunes : List Tune) (tune : Tune) → greatest tunes < tune.number → without_tune tune.number (tunes ++ tune ∷ []) ≡ tunes
without_last [] tune above = rw (eq-eqb tune.number tune.number refl) refl
without_last (first ∷ tunes) tune above =
    rw (ne_eqb first.number tune.number (λ e. absurd (omega arith))) (ap (λ (rest : List Tune). first ∷ rest) (without_last tunes tune (omega arith)))

inserted_last : (tunes : List Tune) (tune : Tune) → greatest tunes < tune.number → tune_inserted tune tunes ≡ tunes ++ tune ∷ []
inserted_last [] tune above = refl
inserted_last (first ∷ tunes) tune above =
    rw (le-ltb tune.number first.number (omega arith)) (ap (λ (rest : List Tune). first ∷ rest) (inserted_last tunes tune (omega arith)))

abbrev under : ℕ → Tune → Tune
under number tune = record tune { number = number }

renumber_gives : (old : List Tune) (tune : Tune) (from : ℕ) → greatest old < from → from < tune.number → tune.number ≤ greatest_number
    → step (at (old ++ under from tune ∷ [])) (Renumber from tune.number) ≡ (at (old ++ tune ∷ []), Ok (Renumbered from tune.number))
renumber_gives old tune from low gap few =
    let had = under from tune in
    let all = old ++ had ∷ [] in
    let has : tune_at from all ≡ Some had = found_last old had low in
    let top : greatest all ≡ max (greatest old) (greatest (had ∷ [])) = greatest-append old (had ∷ []) in
    let free : tune_at tune.number all ≡ None = none_above tune.number all (omega arith) in
    let rest : without_tune from all ≡ old = without_last old had low in
    let whole : moved from tune.number all ≡ old ++ tune ∷ [] =
    ap (moved_if tune.number all) has ∙ ap (tune_inserted tune) rest ∙ inserted_last old tune (omega arith) in
    renumber_moves (at all) from tune.number had (omega arith) few has free
    ∙ ap (λ (tunes : List Tune). (at tunes, Ok (Renumbered from tune.number))) whole

-- A TUNE ALONE
length_written : (tune : Tune) → Fits tune → length (codes "\n" ++ written_tune tune.number tune.text) ≤ 64100
length_written tune fits =
    let short = fits.short in
    let few = fits.number in
    let digits = length-decimal-le 6 tune.number (omega arith) (omega arith) (omega arith) in
    let whole : length (codes "\n" ++ written_tune tune.number tune.text) ≡ 4 + length (decimal tune.number) + length tune.text =
    simp length-append (omega arith) in
    omega arith

length_one : (tune : Tune) → Fits tune → length (book_of (tune ∷ [])) ≤ 64200
length_one tune fits = let e = length_written tune fits in let f = length-append (codes "\n" ++ written_tune tune.number tune.text) [] in omega arith

length_more : (piece : List Tune) (tune : Tune) → Fits tune → length (book_of (piece ++ tune ∷ [])) ≤ length (book_of piece) + 64200
length_more [] tune fits = let e = length_one tune fits in omega arith
length_more (first ∷ piece) tune fits =
    let e = length_written tune fits in
    let all = first ∷ piece in
    let whole : book_of (all ++ tune ∷ []) ≡ book_of all ++ (codes "\n" ++ written_tune tune.number tune.text) =
    ap (λ rest. book_header ++ rest) (written_more all tune) in
    let f = ap length whole in
    let g = length-append (book_of all) (codes "\n" ++ written_tune tune.number tune.text) in
    omega arith

alone_gives : (done : List Tune) (tune : Tune) (last : ℕ) → last ≡ greatest done → Fits tune → last + 1 < tune.number → length done + 1 ≤ 50000
    → LeadsUnrefused (at (map imported_tune done)) (Import (exported (tune ∷ [])) ∷ Renumber (last + 1) tune.number ∷ [])
    (at (map imported_tune (done ++ tune ∷ [])))
alone_gives done tune last is fits gap room =
    let old = map imported_tune done in
    let few = fits.number in
    let top : greatest old ≡ greatest done = greatest-anew done in
    let count : length old ≡ length done = length-map done imported_tune in
    let short = length_one tune fits in
    let new : Tune = imported_tune tune in
    let put : with_texts old (tune.text ∷ []) ≡ old ++ under (last + 1) new ∷ [] =
    ap (λ (n : ℕ). old ++ record { number = n + 1; revision = 1; text = tune.text } ∷ []) (top ∙ sym is) in
    let mid = at (old ++ under (last + 1) new ∷ []) in
    leads_by _ mid _ (Import (exported (tune ∷ []))) _ (Renumber (last + 1) tune.number ∷ [])
    (import_gives old tune [] (fits, tt) (omega arith) (omega arith) (omega arith) ∙ ap (λ (tunes : List Tune). (
      at tunes,
      Ok (Imported (greatest old + 1) (greatest
          old + 1)),
    )) put)
    (leads_by mid (at (old ++ new ∷ [])) _ (Renumber (last + 1) tune.number) _ [] (renumber_gives old new (last + 1) (omega arith) gap few)
    (ap at (sym (map-append imported_tune done (tune ∷ [])))))

-- ALL TUNES
-- what is known where these went in, those of the piece were begun, and these are still to come
record Stands (done piece rest : List Tune) (last : ℕ) : Type 0 where
  row : InRow (greatest done) piece
  ends : last ≡ greatest done + length piece
  within : last ≤ greatest_number
  rises : NumbersRiseFrom last rest
  fits_piece : AllByRecursion Fits piece
  fits_rest : AllByRecursion Fits rest
  room : length done + length piece + length rest ≤ 50000
  short : length (book_of piece) ≤ piece_size + 64200

greatest_with : (done piece : List Tune) → InRow (greatest done) piece → greatest (done ++ piece) ≡ greatest done + length piece
greatest_with done piece row = greatest-append done piece ∙ greatest_row (greatest done) piece row

stands_with : (done piece rest : List Tune) (tune : Tune) (last : ℕ) → Stands done piece (tune ∷ rest) last → tune.number ≡ last + 1
    → length (book_of piece) ≤ piece_size → Stands done (piece ++ tune ∷ []) rest tune.number
stands_with done piece rest tune last was next fits =
    let ends = was.ends in
    let room = was.room in
    let few = was.fits_rest.0.number in
    let e = length-append piece (tune ∷ []) in
    let f = length_more piece tune was.fits_rest.0 in
    record {
      row = row-push (greatest done) piece tune was.row (omega arith);
      ends = omega arith;
      within = few;
      rises = was.rises.1;
      fits_piece = all-append Fits piece (tune ∷ []) was.fits_piece (was.fits_rest.0, tt);
      fits_rest = was.fits_rest.1;
      room = omega arith;
      short = omega arith;
    }

stands_next : (done piece rest : List Tune) (tune : Tune) (last : ℕ) → Stands done piece (tune ∷ rest) last → tune.number ≡ last + 1
    → Stands (done ++ piece) (tune ∷ []) rest tune.number
stands_next done piece rest tune last was next =
    let ends = was.ends in
    let room = was.room in
    let few = was.fits_rest.0.number in
    let top = greatest_with done piece was.row in
    let e = length-append done piece in
    let f = length_one tune was.fits_rest.0 in
    record {
      row = (omega arith, tt);
      ends = omega arith;
      within = few;
      rises = was.rises.1;
      fits_piece = (was.fits_rest.0, tt);
      fits_rest = was.fits_rest.1;
      room = omega arith;
      short = omega arith;
    }

stands_alone : (done piece rest : List Tune) (tune : Tune) (last : ℕ) → Stands done piece (tune ∷ rest) last
    → Stands ((done ++ piece) ++ tune ∷ []) [] rest tune.number
stands_alone done piece rest tune last was =
    let ends = was.ends in
    let room = was.room in
    let above = was.rises.0 in
    let few = was.fits_rest.0.number in
    let top = greatest_with done piece was.row in
    let last_ = greatest-append (done ++ piece) (tune ∷ []) in
    let e = length-append done piece in
    let f = length-append (done ++ piece) (tune ∷ []) in
    record {
      row = tt;
      ends = omega arith;
      within = few;
      rises = was.rises.1;
      fits_piece = tt;
      fits_rest = was.fits_rest.1;
      room = omega arith;
      short = omega arith;
    }

piece_leads : (done piece rest : List Tune) (last : ℕ) → Stands done piece rest last
    → LeadsUnrefused (at (map imported_tune done)) (imported (book_of piece)) (at (map imported_tune (done ++ piece)))
piece_leads done piece rest last was =
    let ends = was.ends in
    let room = was.room in
    let within = was.within in
    let short = was.short in
    import_leads done piece was.row was.fits_piece (omega arith) (omega arith) (omega arith)

abbrev Leads : List Tune → List Command → List Tune → Type 0
Leads old commands new = LeadsUnrefused (at (map imported_tune old)) commands (at (map imported_tune new))

ends_at : (old new other : List Tune) (commands : List Command) → new ≡ other → Leads old commands new → Leads old commands other
ends_at old new other commands same leads = subst (λ (tunes : List Tune). Leads old commands tunes) same leads

by_commands : (old new : List Tune) (commands others : List Command) → commands ≡ others → Leads old others new → Leads old commands new
by_commands old new commands others same leads = subst (λ (some : List Command). Leads old some new) (sym same) leads

tunes_lead : (done piece rest : List Tune) (last : ℕ) → Stands done piece rest last → Leads done (tune_dump_commands last piece rest) (done ++ (piece ++ rest))
tunes_lead done piece [] last was =
    ends_at done (done ++ piece) (done ++ (piece ++ [])) (imported (book_of piece)) (ap (λ (tunes : List Tune). done ++ tunes) (sym (append-nil piece)))
    (piece_leads done piece [] last was)
tunes_lead done piece (tune ∷ rest) last was = elim (cases_Bool (eqb tune.number (last + 1))) [
  | inl follows ↦
      let next = eqb-true tune.number (last + 1) follows in
      elim (cases_Bool (ltb piece_size (length (book_of piece)))) [
        | inl full ↦
            by_commands _ _ _ _ (goes_next last tune piece rest next (ltb-true piece_size (length (book_of piece)) full))
            (ends_at done ((done ++ piece) ++ (tune ∷ rest)) _ _ (append_assoc done piece (tune ∷ rest))
            (leads_on _ (at (map imported_tune (done ++ piece))) _ (imported (book_of piece)) _ (piece_leads done piece (tune ∷ rest) last was)
            (tunes_lead (done ++ piece) (tune ∷ []) rest tune.number (stands_next done piece rest tune last was next))))
        | inr fits ↦
            let short = ltb-false piece_size (length (book_of piece)) fits in
            by_commands _ _ _ _ (goes_with last tune piece rest next short)
            (ends_at done (done ++ ((piece ++ tune ∷ []) ++ rest)) _ _ (ap (λ (tunes : List Tune). done ++ tunes) (append_assoc piece (tune ∷ []) rest))
            (tunes_lead done (piece ++ tune ∷ []) rest tune.number (stands_with done piece rest tune last was next short)))
      ]
  | inr apart ↦
      let gap = eqb-false tune.number (last + 1) apart in
      let above = was.rises.0 in
      let ends = was.ends in
      let room = was.room in
      let top = greatest_with done piece was.row in
      let count = length-append done piece in
      by_commands _ _ _ _ (goes_alone last tune piece rest gap)
      (ends_at done (((done ++ piece) ++ tune ∷ []) ++ rest) _ _
      (append_assoc (done ++ piece) (tune ∷ []) rest ∙ append_assoc done piece (tune ∷ rest))
      (leads_on _ (at (map imported_tune (done ++ piece))) _ (imported (book_of piece)) _ (piece_leads done piece (tune ∷ rest) last was)
      (leads_on (at (map imported_tune (done ++ piece))) (at (map imported_tune ((done ++ piece) ++ tune ∷ []))) _
      (Import (exported (tune ∷ [])) ∷ Renumber (last + 1) tune.number ∷ []) _
      (alone_gives (done ++ piece) tune last (omega arith) was.fits_rest.0 (omega arith) (omega arith))
      (tunes_lead ((done ++ piece) ++ tune ∷ []) [] rest tune.number (stands_alone done piece rest tune last was)))))
]

-- SET LISTS
abbrev kept : List Tune → List TuneSet → State
kept tunes lists = record { layout = Two; tunes = tunes; sets = lists }

-- the names of these stand before this one
abbrev AreBefore : List ℕ → List TuneSet → Type 0
AreBefore name lists = AllByRecursion (λ (set : TuneSet). is_before set.name name ≡ true) lists

set_none : (name : List ℕ) (lists : List TuneSet) → AreBefore name lists → set_at name lists ≡ None
set_none name [] before = refl
set_none name (set ∷ lists) before = rw (before_differs set.name name before.0) (set_none name lists before.1)

set_comes_last : (new : TuneSet) (lists : List TuneSet) → AreBefore new.name lists → set_inserted new lists ≡ lists ++ new ∷ []
set_comes_last new [] before = refl
set_comes_last new (set ∷ lists) before =
    rw (before_not_after set.name new.name before.0) (ap (λ (rest : List TuneSet). set ∷ rest) (set_comes_last new lists before.1))

set_found : (lists : List TuneSet) (set : TuneSet) → AreBefore set.name lists → set_at set.name (lists ++ set ∷ []) ≡ Some set
set_found [] set before = rw (same_name set.name set.name refl) refl
set_found (first ∷ lists) set before = rw (before_differs first.name set.name before.0) (set_found lists set before.1)

abbrev renamed : List ℕ → List ℕ → TuneSet
renamed name numbers = record { name = name; numbers = numbers }

set_numbered : (lists : List TuneSet) (set : TuneSet) (numbers : List ℕ) → AreBefore set.name lists
    → with_numbers set.name numbers (lists ++ set ∷ []) ≡ lists ++ renamed set.name numbers ∷ []
set_numbered [] set numbers before = rw (same_name set.name set.name refl) refl
set_numbered (first ∷ lists) set numbers before =
    rw (before_differs first.name set.name before.0) (ap (λ (rest : List TuneSet). first ∷ rest) (set_numbered lists set numbers before.1))

create_gives : (tunes : List Tune) (lists : List TuneSet) (name : List ℕ) → is_good_name name ≡ true → AreBefore name lists → length lists < most_sets
    → step (kept tunes lists) (SetNew name) ≡ (kept tunes (lists ++ empty_set name ∷ []), Ok (SetMade name))
create_gives tunes lists name good before room =
    let none = set_none name lists before in
    let few : leb most_sets (length lists) ≡ false = lt-leb most_sets (length lists) room in
    let made : create_set name lists ≡ (set_inserted (empty_set name) lists, Ok tt) = rw (good, none, few) refl in
    ap (sets_step (λ done. SetMade name) (kept tunes lists))
    (made ∙ ap (λ (new : List TuneSet). (new, Ok tt)) (set_comes_last (empty_set name) lists before))

add_gives : (tunes : List Tune) (lists : List TuneSet) (set : TuneSet) (number : ℕ) → AreBefore set.name lists → length set.numbers < most_places
    → is_some (tune_at number tunes) ≡ true
    → step (kept tunes (lists ++ set ∷ [])) (SetAdd set.name number)
    ≡ (kept tunes (lists ++ renamed set.name (set.numbers ++ number ∷ []) ∷ []), Ok (SetAdded set.name (length set.numbers + 1)))
add_gives tunes lists set number before room held = by (tune_at number tunes) refl
  where
    all : List TuneSet
    all = lists ++ set ∷ []

    by : (found : Option Tune) → tune_at number tunes ≡ found → step (kept tunes (lists ++ set ∷ [])) (SetAdd set.name number)
        ≡ (kept tunes (lists ++ renamed set.name (set.numbers ++ number ∷ []) ∷ []), Ok (SetAdded set.name (length set.numbers + 1)))
    by None none = absurd (let e = ap is_some none in cc)
    by (Some tune) some =
        let few : leb most_places (length set.numbers) ≡ false = lt-leb most_places (length set.numbers) room in
        let there = set_found lists set before in
        let added : add_to set.name number (lists ++ set ∷ []) (Some set)
        ≡ (with_numbers set.name (set.numbers ++ number ∷ []) (lists ++ set ∷ []), Ok (length set.numbers + 1)) = rw few refl in
        ap (set_add_found (kept tunes (lists ++ set ∷ [])) set.name number) some
        ∙ ap (sets_step (λ place. SetAdded set.name place) (kept tunes (lists ++ set ∷ [])))
        (ap (add_to set.name number (lists ++ set ∷ [])) there ∙ added
        ∙ ap (λ (new : List TuneSet). (new, Ok (length set.numbers + 1))) (set_numbered lists set (set.numbers ++ number ∷ []) before))

adds_lead : (tunes : List Tune) (lists : List TuneSet) (name numbers more : List ℕ) → AreBefore name lists → length numbers + length more ≤ most_places
    → AllByRecursion (λ number. is_some (tune_at number tunes) ≡ true) more
    → LeadsUnrefused (kept tunes (lists ++ renamed name numbers ∷ [])) (map (SetAdd name) more) (kept tunes (lists ++ renamed name (numbers ++ more) ∷ []))
adds_lead tunes lists name numbers [] before room held =
    ap (λ some. kept tunes (lists ++ renamed name some ∷ [])) (sym (append-nil numbers))
adds_lead tunes lists name numbers (number ∷ more) before room held =
    let count = length-append numbers (number ∷ []) in
    leads_by _ (kept tunes (lists ++ renamed name (numbers ++ number ∷ []) ∷ [])) _ (SetAdd name number) _ (map (SetAdd name) more)
    (add_gives tunes lists (renamed name numbers) number before (omega arith) held.0)
    (subst (λ some. LeadsUnrefused (kept tunes (lists ++ renamed name (numbers ++ number ∷ []) ∷ [])) (map (SetAdd name) more)
    (kept tunes (lists ++ renamed name some ∷ []))) (append_assoc numbers (number ∷ []) more)
    (adds_lead tunes lists name (numbers ++ number ∷ []) more before (omega arith) held.1))

set_leads : (tunes : List Tune) (lists : List TuneSet) (set : TuneSet) → IsTuneSet set → AreBefore set.name lists → length lists < most_sets
    → AllByRecursion (λ number. is_some (tune_at number tunes) ≡ true) set.numbers
    → LeadsUnrefused (kept tunes lists) (set_dump_commands set.name (Ok set.numbers)) (kept tunes (lists ++ set ∷ []))
set_leads tunes lists set is before room held =
    let few = is.places in
    leads_by _ (kept tunes (lists ++ empty_set set.name ∷ [])) _ (SetNew set.name) _ (map (SetAdd set.name) set.numbers)
    (create_gives tunes lists set.name is.name before room)
    (adds_lead tunes lists set.name [] set.numbers before (omega arith) held)

-- names that rise from above a name stand after it
later_names : (low : List ℕ) (lists : List TuneSet) → NamesRise low lists → AllByRecursion (λ (set : TuneSet). is_before low set.name ≡ true) lists
later_names low [] rises = tt
later_names low (set ∷ lists) rises = (rises.0, later_names low lists (rises-below low set.name lists rises.0 rises.1))

in_more : (first : TuneSet) (all lists : List TuneSet) → AllByRecursion (λ (set : TuneSet). is_before first.name set.name ≡ true) lists
    → AllByRecursion (λ (set : TuneSet). set_at set.name all ≡ Some set) lists
    → AllByRecursion (λ (set : TuneSet). set_at set.name (first ∷ all) ≡ Some set) lists
in_more first all [] later own = tt
in_more first all (set ∷ lists) later own =
    (rw (before_differs first.name set.name later.0) own.0, in_more first all lists later.1 own.1)

-- so each is the one of its name
own_sets : (low : List ℕ) (lists : List TuneSet) → NamesRise low lists → AllByRecursion (λ (set : TuneSet). set_at set.name lists ≡ Some set) lists
own_sets low [] rises = tt
own_sets low (set ∷ lists) rises =
    (rw (same_name set.name set.name refl) refl, in_more set lists lists (later_names set.name lists rises.1) (own_sets set.name lists rises.1))

abbrev AreAhead : List TuneSet → List TuneSet → Type 0
AreAhead lists rest = AllByRecursion (λ (set : TuneSet). AreBefore set.name lists) rest

ahead_none : (rest : List TuneSet) → AreAhead [] rest
ahead_none [] = tt
ahead_none (set ∷ rest) = (tt, ahead_none rest)

ahead_more : (lists rest : List TuneSet) (set : TuneSet) → AreAhead lists rest
    → AllByRecursion (λ (other : TuneSet). is_before set.name other.name ≡ true) rest → AreAhead (lists ++ set ∷ []) rest
ahead_more lists [] set ahead later = tt
ahead_more lists (first ∷ rest) set ahead later = (
  all-append (λ (one : TuneSet). is_before one.name first.name ≡ true) lists (set ∷ []) ahead.0 (later.0, tt),
  ahead_more lists rest set ahead.1 later.1,
)

sets_lead : (tunes : List Tune) (all lists rest : List TuneSet) (low : List ℕ) → NamesRise low rest → AreAhead lists rest
    → AllByRecursion IsTuneSet rest → length lists + length rest ≤ most_sets
    → AllByRecursion (λ (set : TuneSet). AllByRecursion (λ number. is_some (tune_at number tunes) ≡ true) set.numbers) rest
    → AllByRecursion (λ (set : TuneSet). set_at set.name all ≡ Some set) rest
    → LeadsUnrefused (kept tunes lists) (flat_map (λ (set : TuneSet). set_dump_commands set.name (places_of set.name all)) rest) (kept tunes (lists ++ rest))
sets_lead tunes all lists [] low rises ahead each room held own = ap (kept tunes) (sym (append-nil lists))
sets_lead tunes all lists (set ∷ rest) low rises ahead each room held own =
    let count = length-append lists (set ∷ []) in
    let first : set_dump_commands set.name (places_of set.name all) ≡ set_dump_commands set.name (Ok set.numbers) =
    ap (λ (found : Option TuneSet). set_dump_commands set.name (places_found found)) own.0 in
    leads_on _ (kept tunes (lists ++ set ∷ [])) _ (set_dump_commands set.name (places_of set.name all)) _
    (subst (λ (some : List Command). LeadsUnrefused (kept tunes lists) some (kept tunes (lists ++ set ∷ []))) (sym first)
    (set_leads tunes lists set each.0 ahead.0 (omega arith) held.0))
    (subst (λ (some : List TuneSet). LeadsUnrefused (kept tunes (lists ++ set ∷ []))
    (flat_map (λ (set : TuneSet). set_dump_commands set.name (places_of set.name all)) rest) (kept tunes some)) (append_assoc lists (set ∷ []) rest)
    (sets_lead tunes all (lists ++ set ∷ []) rest set.name rises.1 (ahead_more lists rest set ahead.1 (later_names set.name rest rises.1))
    each.1 (omega arith) held.1 own.1))

-- THE WHOLE
at_anew : (number : ℕ) (tunes : List Tune) → is_some (tune_at number (map imported_tune tunes)) ≡ is_some (tune_at number tunes)
at_anew number [] = refl
at_anew number (tune ∷ tunes) = elim (cases_Bool (eqb tune.number number)) [
  | inl same ↦ rw same refl
  | inr other ↦ rw other (at_anew number tunes)
]

held_anew : (tunes : List Tune) (numbers : List ℕ) → AreHeld tunes numbers
    → AllByRecursion (λ number. is_some (tune_at number (map imported_tune tunes)) ≡ true) numbers
held_anew tunes [] held = tt
held_anew tunes (number ∷ numbers) held = (at_anew number tunes ∙ held.0, held_anew tunes numbers held.1)

all_held : (tunes : List Tune) (lists : List TuneSet) → NameTunes tunes lists
    → AllByRecursion (λ (set : TuneSet). AllByRecursion (λ number. is_some (tune_at number (map imported_tune tunes)) ≡ true) set.numbers) lists
all_held tunes [] named = tt
all_held tunes (set ∷ lists) named = (held_anew tunes set.numbers named.0, all_held tunes lists named.1)

longest_at_most : (layout : Layout) → longest_text layout ≤ 64000
longest_at_most One = omega arith
longest_at_most Two = omega arith

most_at_most : (layout : Layout) → most_tunes layout ≤ 50000
most_at_most One = omega arith
most_at_most Two = omega arith

all_fit : (layout : Layout) (tunes : List Tune) → AllByRecursion (IsTune layout) tunes → greatest tunes ≤ greatest_number → AllByRecursion Fits tunes
all_fit layout [] each top = tt
all_fit layout (tune ∷ tunes) each top =
    let few = each.0.fits in
    let most = longest_at_most layout in
    (record { text = each.0.text; short = omega arith; number = omega arith }, all_fit layout tunes each.1 (omega arith))

begins_so : (state : State) → IsState state → Stands [] [] state.tunes 0
begins_so state is =
    let count = is.tunes.count in
    let most = most_at_most state.layout in
    record {
      row = tt;
      ends = omega arith;
      within = omega arith;
      rises = is.tunes.rises;
      fits_piece = tt;
      fits_rest = all_fit state.layout state.tunes is.tunes.each is.tunes.numbers;
      room = omega arith;
      short = omega arith;
    }

pub dump_leads : (state : State) → IsState state → LeadsUnrefused (empty_of Two) (dump_commands state) (made_anew state)
dump_leads state is =
    let tunes = map imported_tune state.tunes in
    leads_on (empty_of Two) (kept tunes []) (made_anew state) (tune_dump_commands 0 [] state.tunes) (sets_commands state.sets)
    (tunes_lead [] [] state.tunes 0 (begins_so state is))
    (sets_lead tunes state.sets [] state.sets [] is.sets.rises (ahead_none state.sets) is.sets.each (omega (arith, is.sets.count))
    (all_held state.tunes state.sets is.named) (own_sets [] state.sets is.sets.rises))
