-- Rows and texts of the tunes of numbers, one after another, and what is told of what is found.
use Rattle.std.proofs.Common.{◌≡◌, ℕ, ◌+◌, ◌<◌, ◌≤◌, Bool, true, false, cond, List, [], ◌∷◌, ◌++◌, length, map, take, drop, get_or}
use Rattle.std.proofs.Common.{Result, Ok, Err, refl, sym, ap, ◌∙◌, subst, arith, append_assoc, append-nil, codes, zero, suc, add-one, Some}
use Rattle.std.specs.Prelude.{filter, ◌%◌}
use Rattle.std.specs.List.{list_any, AllByRecursion, take-map, drop-map}
use Rattle.std.proofs.lemmas.List.{map-append, take_more, take_all, length-map}
use Rattle.tune_books.specs.WrittenBooks.{written_tunes, written_tune, book_header}
use Rattle.tune_store.specs.Labels.{labels_of, LabelsRise}
use Rattle.tune_store.specs.Questions.{row_of, exported}
use Rattle.tune_store.specs.State.{State, NumbersRiseFrom, tune_at}
use Rattle.tune_store.specs.declared.catalog.Label.{Label}
use Rattle.tune_store.specs.declared.tune.Tune.{Tune}
use Rattle.tune_store.specs.declared.index_rows.IndexRow.{IndexRow}
use Rattle.tune_store.specs.declared.command.Refusal.{Refusal}
use Rattle.tune_store.specs.declared.command.Refusal.TheVariants.{BadQuery}
use Rattle.desk_terms.specs.declared.form.Form.{Form}
use Rattle.desk_lists.specs.ListForms.{tune_list_bytes, count_line}
use Rattle.desk_questions.specs.Conditions.{asks_nothing}
use Rattle.desk_questions.specs.Told.{found_by_all, of_found, listed_tunes, chosen, tunes_at, as_told, shown_tunes}
use Rattle.desk_terms.specs.declared.condition.Condition.{Condition}
use Rattle.tune_asking.specs.AskingCalls.{tune_told}
use Rattle.desk_questions.specs.Inside.QuestionCalls.{AreFound, AreRowsAt, AreWritten}
use Rattle.desk_questions.proofs.TuneLemmas.{at_more, at_none, at_own, all_in, all_filter, all_take, all_drop, written_more}
use Rattle.desk_questions.proofs.FoundLemmas.{rises_of}

-- ONE NUMBER MORE
pub rows_none : (state : State) → AreRowsAt [] state []
rows_none state = record { tunes = []; at = refl; are = refl }

pub rows_more : (numbers : List ℕ) (i number : ℕ) (state : State) (old new : List IndexRow) (tune : Tune) (row : IndexRow) → i < length numbers
    → number ≡ get_or numbers i 0 → AreRowsAt (take i numbers) state old → tune_told number state ≡ Ok tune → row ≡ row_of tune → new ≡ old ++ row ∷ []
    → AreRowsAt (take (i + 1) numbers) state new
rows_more numbers i number state old new tune row l at was has is e = record {
  tunes = was.tunes ++ tune ∷ [];
  at = ap (λ some. tunes_at some state.tunes) (take_more numbers i 0 l ∙ ap (λ n. take i numbers ++ n ∷ []) (sym at))
      ∙ at_more (take i numbers) number state.tunes was.tunes tune was.at has;
  are = e ∙ ap (λ rows. rows ++ row ∷ []) was.are ∙ ap (λ one. map row_of was.tunes ++ one ∷ []) is ∙ sym (map-append row_of was.tunes (tune ∷ []));
}

pub written_none : (bytes : List ℕ) (state : State) → AreWritten [] bytes bytes state
written_none bytes state = record { tunes = []; at = refl; are = sym (append-nil bytes) }

pub written_next : (numbers : List ℕ) (i number : ℕ) (state : State) (first old new : List ℕ) (tune : Tune) → i < length numbers
    → number ≡ get_or numbers i 0 → AreWritten (take i numbers) first old state → tune_told number state ≡ Ok tune
    → new ≡ old ++ (codes "\n" ++ written_tune tune.number tune.text) → AreWritten (take (i + 1) numbers) first new state
written_next numbers i number state first old new tune l at was has e = record {
  tunes = was.tunes ++ tune ∷ [];
  at = ap (λ some. tunes_at some state.tunes) (take_more numbers i 0 l ∙ ap (λ n. take i numbers ++ n ∷ []) (sym at))
      ∙ at_more (take i numbers) number state.tunes was.tunes tune was.at has;
  are = e ∙ ap (λ bytes. bytes ++ (codes "\n" ++ written_tune tune.number tune.text)) was.are ∙ append_assoc first _ _
      ∙ ap (λ bytes. first ++ bytes) (sym (written_more was.tunes tune));
}

-- a number that no tune has ends it
rest_from : (numbers : List ℕ) (i : ℕ) → i < length numbers → numbers ≡ take i numbers ++ get_or numbers i 0 ∷ drop (suc i) numbers
rest_from [] i l = absurd (omega arith)
rest_from (first ∷ numbers) zero l = refl
rest_from (first ∷ numbers) (suc i) l = ap (λ some. first ∷ some) (rest_from numbers i (omega arith))

pub rest_of : (numbers : List ℕ) (i : ℕ) → i < length numbers → numbers ≡ take i numbers ++ get_or numbers i 0 ∷ drop (i + 1) numbers
rest_of numbers i l = rw (add-one i) (rest_from numbers i l)

pub refused_at : (numbers : List ℕ) (i number : ℕ) (state : State) (found : List Tune) (refusal : Refusal) → i < length numbers
    → number ≡ get_or numbers i 0 → tunes_at (take i numbers) state.tunes ≡ Ok found → tune_told number state ≡ Err refusal
    → tunes_at numbers state.tunes ≡ Err refusal
refused_at numbers i number state found refusal l at was none =
    ap (λ some. tunes_at some state.tunes) (rest_of numbers i l ∙ ap (λ n. take i numbers ++ n ∷ drop (i + 1) numbers) (sym at))
    ∙ at_none (take i numbers) number (drop (i + 1) numbers) state.tunes found refusal was none

pub rows_all : (numbers : List ℕ) (i : ℕ) (state : State) (rows : List IndexRow) → length numbers ≤ i → AreRowsAt (take i numbers) state rows
    → AreRowsAt numbers state rows
rows_all numbers i state rows le was = subst (λ some. AreRowsAt some state rows) (take_all i numbers le) was

pub written_all : (numbers : List ℕ) (i : ℕ) (state : State) (old new : List ℕ) → length numbers ≤ i → AreWritten (take i numbers) old new state
    → AreWritten numbers old new state
written_all numbers i state old new le was = subst (λ some. AreWritten some old new state) (take_all i numbers le) was

pub found_all : (conditions : List Condition) (i : ℕ) (labels : List Label) (state : State) (numbers : List ℕ) → length conditions ≤ i
    → AreFound (take i conditions) labels state numbers → AreFound conditions labels state numbers
found_all conditions i labels state numbers le was = subst (λ some. AreFound some labels state numbers) (take_all i conditions le) was

-- WHAT IS TOLD
same_ok : (a b : List Tune) (r : Result (List Tune) Refusal) → r ≡ Ok a → r ≡ Ok b → a ≡ b
same_ok a b r e f = let g : Ok a ≡ Ok b = sym e ∙ f in cc

-- tunes that are found are the tunes of their numbers
pub own_at : (conditions : List Condition) (labels : List Label) (state : State) → LabelsRise 0 labels → labels ≡ labels_of state.tunes
    → AllByRecursion (λ (tune : Tune). tune_at tune.number state.tunes ≡ Some tune) (found_by_all conditions state)
own_at conditions labels state rise same =
    all_filter _ _ state.tunes (all_in 0 state.tunes (rises_of 0 state.tunes (subst (LabelsRise 0) same rise)))

-- the rows of all that are found
pub told_found : (as_told : List Tune → List ℕ) (conditions : List Condition) (state : State) → list_any asks_nothing conditions ≡ false
    → of_found as_told conditions state ≡ Ok (as_told (found_by_all conditions state))
told_found as_told conditions state asks = rw asks refl

pub told_nothing : (as_told : List Tune → List ℕ) (conditions : List Condition) (state : State) → list_any asks_nothing conditions ≡ true
    → of_found as_told conditions state ≡ Err BadQuery
told_nothing as_told conditions state asks = rw asks refl

pub rows_of_found : (conditions : List Condition) (labels : List Label) (state : State) (numbers : List ℕ) (rows : List IndexRow)
    → AreFound conditions labels state numbers → AreRowsAt numbers state rows → labels ≡ labels_of state.tunes
    → rows ≡ map row_of (found_by_all conditions state)
rows_of_found conditions labels state numbers rows are at same =
    let rise = are.rise in
    let own = at_own state.tunes (found_by_all conditions state) (own_at conditions labels state rise same) in
    let numbers_own : tunes_at numbers state.tunes ≡ Ok (found_by_all conditions state) = ap (λ some. tunes_at some state.tunes) (are.are same) ∙ own in
    at.are ∙ ap (map row_of) (same_ok at.tunes (found_by_all conditions state) (tunes_at numbers state.tunes) at.at numbers_own)

-- so they are never refused
pub never_refused : (conditions : List Condition) (labels : List Label) (state : State) (numbers : List ℕ) (refusal : Refusal)
    → AreFound conditions labels state numbers → tunes_at numbers state.tunes ≡ Err refusal → labels ≡ labels_of state.tunes → ⊥
never_refused conditions labels state numbers refusal are refused same =
    let own = at_own state.tunes (found_by_all conditions state) (own_at conditions labels state are.rise same) in
    let held : tunes_at numbers state.tunes ≡ Ok (found_by_all conditions state) = ap (λ some. tunes_at some state.tunes) (are.are same) ∙ own in
    cc

-- the row of one of them
pub rows_of_chosen : (conditions : List Condition) (labels : List Label) (state : State) (numbers : List ℕ) (chance : ℕ) (rows : List IndexRow)
    → AreFound conditions labels state numbers
    → AreRowsAt (take 1 (drop (chance % length numbers) numbers)) state rows → labels ≡ labels_of state.tunes
    → rows ≡ map row_of (chosen chance (found_by_all conditions state))
rows_of_chosen conditions labels state numbers chance rows are at same =
    let rise = are.rise in
    let all = found_by_all conditions state in
    let number : Tune → ℕ = λ tune. tune.number in
    let long : length numbers ≡ length all = ap length (are.are same) ∙ length-map all number in
    let one = chosen chance all in
    let numbers_one : take 1 (drop (chance % length numbers) numbers) ≡ map number one =
    ap (λ n. take 1 (drop (chance % n) numbers)) long ∙ ap (λ some. take 1 (drop (chance % length all) some)) (are.are same)
    ∙ ap (take 1) (drop-map number (chance % length all) all) ∙ take-map number 1 (drop (chance % length all) all) in
    let own = at_own state.tunes one (all_take _ 1 _ (all_drop _ (chance % length all) all (own_at conditions labels state rise same))) in
    let numbers_own = ap (λ some. tunes_at some state.tunes) numbers_one ∙ own in
    at.are ∙ ap (map row_of) (same_ok at.tunes one (tunes_at (take 1 (drop (chance % length numbers) numbers)) state.tunes) at.at numbers_own)

pub chosen_never_refused : (conditions : List Condition) (labels : List Label) (state : State) (numbers : List ℕ) (chance : ℕ) (refusal : Refusal)
    → AreFound conditions labels state numbers → tunes_at (take 1 (drop (chance % length numbers) numbers)) state.tunes ≡ Err refusal
    → labels ≡ labels_of state.tunes → ⊥
chosen_never_refused conditions labels state numbers chance refusal are refused same =
    let all = found_by_all conditions state in
    let number : Tune → ℕ = λ tune. tune.number in
    let at = chance % length numbers in
    let numbers_one : take 1 (drop at numbers) ≡ map number (take 1 (drop at all)) =
    ap (λ some. take 1 (drop at some)) (are.are same) ∙ ap (take 1) (drop-map number at all) ∙ take-map number 1 (drop at all) in
    let own = at_own state.tunes (take 1 (drop at all)) (all_take _ 1 _ (all_drop _ at all (own_at conditions labels state are.rise same))) in
    let held = ap (λ some. tunes_at some state.tunes) numbers_one ∙ own in
    cc

-- texts
pub told_shown : (numbers bytes : List ℕ) (state : State) → AreWritten numbers [] bytes state
    → as_told shown_tunes (tunes_at numbers state.tunes) ≡ Ok (drop 1 bytes)
told_shown numbers bytes state are = rw are.at (ap (λ some. Ok (drop 1 some)) (sym are.are))

pub told_book : (numbers bytes : List ℕ) (state : State) → AreWritten numbers book_header bytes state
    → as_told exported (tunes_at numbers state.tunes) ≡ Ok bytes
told_book numbers bytes state are = rw are.at (ap Ok (sym are.are))

pub told_refused : {A : Type 0} (tell : A → List ℕ) (answer : Result A Refusal) (refusal : Refusal) → answer ≡ Err refusal
    → as_told tell answer ≡ Err refusal
told_refused tell answer refusal e = rw e refl

pub told_ok : {A : Type 0} (tell : A → List ℕ) (answer : Result A Refusal) (value : A) → answer ≡ Ok value → as_told tell answer ≡ Ok (tell value)
told_ok tell answer value e = rw e refl

-- from rows and texts that are empty, and bytes that are those of these
pub rows_begin : (state : State) (rows : List IndexRow) → rows ≡ [] → AreRowsAt [] state rows
rows_begin state rows e = record { tunes = []; at = refl; are = e }
