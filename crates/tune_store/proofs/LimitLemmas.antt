-- Each command keeps the limits.
use Rattle.std.proofs.Common.{◌≡◌, ℕ, ◌+◌, ◌<◌, ◌≤◌, Bool, true, false, not, cond, ltb, leb, eqb, List, [], ◌∷◌, length, Option, Some, None, Ok, Err, refl, ap}
use Rattle.std.proofs.Common.{inl, inr, arith}
use Rattle.std.specs.Prelude.{is_some}
use Rattle.std.specs.List.{AllByRecursion}
use Rattle.std.proofs.lemmas.Bool.{ltb-false, ltb-true, leb-true, cases_Bool, and_parts}
use Rattle.abc_fields.specs.Tunes.{IsTextWithin}
use Rattle.abc_fields.specs.Books.{Texts, book_answer}
use Rattle.abc_fields.proofs.BookLemmas.{TextsWithin, book_within}
use Rattle.tune_sets.specs.Sets.{holder}
use Rattle.tune_sets.proofs.LimitLemmas.{create_keeps, add_keeps, cut_keeps, drop_keeps}
use Rattle.tune_sets.proofs.ChangeLemmas.{are_renumbered}
use Rattle.tune_store.specs.declared.layout.Layout.TheVariants.{One, Two}
use Rattle.tune_store.specs.State.{State, IsState, IsTune, IsTunes, greatest, tune_at, NameTunes}
use Rattle.tune_store.specs.Step.{step}
use Rattle.tune_store.specs.TuneSteps.{TunesOutcome, with_texts, with_tune, revised, import_book, replace_tune, replace_book, delete_tune, is_number}
use Rattle.tune_store.specs.TuneSteps.{renumber, renumber_found, renumber_unless}
use Rattle.tune_store.specs.SetSteps.{set_add_found}
use Rattle.tune_store.specs.declared.tune.Tune.{Tune}
use Rattle.tune_store.specs.Limits.{longest_text, most_tunes, greatest_number, greatest_revision}
use Rattle.tune_store.specs.declared.command.Command.{Command}
use Rattle.tune_store.specs.declared.command.Command.TheVariants.{Import, Replace, Delete, Renumber, SetNew, SetAdd, SetCut, SetDrop, Upgrade}
use Rattle.tune_store.specs.declared.command.Reply.{Reply}
use Rattle.tune_store.specs.declared.command.Refusal.{Refusal}
use Rattle.tune_store.specs.declared.command.Refusal.TheVariants.{ArchiveFull, NumbersSpent}
use Rattle.tune_store.proofs.StateLemmas.{KeepsLimits, state_after_import, state_after_text, state_after_delete}
use Rattle.tune_store.proofs.MoveLemmas.{state_after_move, number_within}
use Rattle.tune_store.proofs.NamedLemmas.{KeepsNumbers, append_keeps, with_tune_keeps, named_after, named_without, named_moved}
use Rattle.tune_store.proofs.NamedLemmas.{named_create, named_add, named_cut, named_drop}
use Rattle.tune_store.specs.declared.layout.Layout.{Layout}

-- IMPORT, REPLACE
-- the two tests of an import let only texts through for which there is room
import_tests : {layout : Layout} → (tunes : List Tune) (texts : List (List ℕ)) (reply : Reply) (full spent : Bool)
    → ltb (most_tunes layout) (length tunes + length texts) ≡ full
    → ltb greatest_number (greatest tunes + length texts) ≡ spent
    → IsTunes layout tunes → AllByRecursion (IsTextWithin (longest_text layout)) texts
    → KeepsLimits layout (cond full (tunes, Err ArchiveFull) (cond spent (tunes, Err NumbersSpent) (with_texts tunes texts, Ok reply)))
import_tests tunes texts reply true spent room numbers is within = is
import_tests tunes texts reply false true room numbers is within = is
import_tests tunes texts reply false false room numbers is within = state_after_import tunes texts is within (ltb-false _ _ room) (ltb-false _ _ numbers)

-- an import keeps the limits, where the texts of its book are within the length
import_limits : {layout : Layout} → (tunes : List Tune) (texts : Texts) → IsTunes layout tunes → TextsWithin (longest_text layout) texts
    → KeepsLimits layout (import_book layout tunes texts)
import_limits tunes (Err why) is within = is
import_limits {layout = layout} tunes (Ok texts) is within =
    import_tests tunes texts _ (ltb (most_tunes layout) (length tunes + length texts)) (ltb greatest_number (greatest tunes + length texts)) refl refl is within

-- so does a replacement
replace_limits : {layout : Layout} → (tunes : List Tune) (number revision : ℕ) (texts : Texts) → IsTunes layout tunes → TextsWithin (longest_text layout) texts
    → KeepsLimits layout (replace_book tunes number revision texts)
replace_limits tunes number revision (Err why) is within = is
replace_limits tunes number revision (Ok []) is within = is
replace_limits tunes number revision (Ok (text ∷ [])) is within = state_after_text tunes number revision text (tune_at number tunes) is within.0
replace_limits tunes number revision (Ok (text ∷ next ∷ texts)) is within = is

-- THE NUMBERS OF TUNES
-- an outcome keeps the numbers of tunes
abbrev KeepsNumbersIn : List Tune → TunesOutcome → Type 0
KeepsNumbersIn old outcome = KeepsNumbers old outcome.0

-- an outcome by two tests, of which each refuses, keeps them where its acceptance does
two_tests_keep_numbers : (old new : List Tune) (a b : Bool) (x y : Refusal) (reply : Reply) → KeepsNumbers old new
    → KeepsNumbersIn old (cond a (old, Err x) (cond b (old, Err y) (new, Ok reply)))
two_tests_keep_numbers old new true b x y reply keeps = λ number was. was
two_tests_keep_numbers old new false true x y reply keeps = λ number was. was
two_tests_keep_numbers old new false false x y reply keeps = keeps

-- an import keeps the numbers
import_numbers : (layout : Layout) (tunes : List Tune) (texts : Texts) → KeepsNumbersIn tunes (import_book layout tunes texts)
import_numbers layout tunes (Err why) = λ number was. was
import_numbers layout tunes (Ok texts) =
    two_tests_keep_numbers tunes (with_texts tunes texts) (ltb (most_tunes layout) (length tunes + length texts))
    (ltb greatest_number (greatest tunes + length texts)) _ _ _ (append_keeps tunes _)

-- so does a replacement, of the tune that was found
replace_tune_numbers : (tunes : List Tune) (number revision : ℕ) (text : List ℕ) (found : Option Tune)
    → KeepsNumbersIn tunes (replace_tune tunes number revision text found)
replace_tune_numbers tunes number revision text None = λ other was. was
replace_tune_numbers tunes number revision text (Some tune) =
    two_tests_keep_numbers tunes (with_tune (revised tune text) tunes) (not (eqb tune.revision revision)) (not (ltb tune.revision greatest_revision)) _ _ _
    (with_tune_keeps (revised tune text) tunes)

-- by the texts of a book
replace_numbers : (tunes : List Tune) (number revision : ℕ) (texts : Texts) → KeepsNumbersIn tunes (replace_book tunes number revision texts)
replace_numbers tunes number revision (Err why) = λ other was. was
replace_numbers tunes number revision (Ok []) = λ other was. was
replace_numbers tunes number revision (Ok (text ∷ [])) = replace_tune_numbers tunes number revision text (tune_at number tunes)
replace_numbers tunes number revision (Ok (text ∷ next ∷ texts)) = λ other was. was

-- A DELETION
delete_limits : {layout : Layout} → (tunes : List Tune) (number : ℕ) (held : Option (List ℕ)) (found : Option Tune) → IsTunes layout tunes
    → KeepsLimits layout (delete_tune tunes number held found)
delete_limits tunes number held None is = is
delete_limits tunes number (Some name) (Some tune) is = is
delete_limits tunes number None (Some tune) is = state_after_delete number tunes is

delete_named : (state : State) (number : ℕ) (held : Option (List ℕ)) (found : Option Tune) → holder number state.sets ≡ held
    → NameTunes state.tunes state.sets → NameTunes (delete_tune state.tunes number held found).0 state.sets
delete_named state number held None e named = named
delete_named state number (Some name) (Some tune) e named = named
delete_named state number None (Some tune) e named = named_without number state.tunes state.sets e named

-- ANOTHER NUMBER
renumber_free : (state : State) (number to : ℕ) (tune : Tune) (found : Option Tune) → IsState state → 0 < to → to ≤ greatest_number
    → tune_at number state.tunes ≡ Some tune → tune_at to state.tunes ≡ found → IsState (renumber_unless state number to found).0
renumber_free state number to tune None is above within its free = record {
  tunes = state_after_move number to state.tunes is.tunes free above within;
  sets = are_renumbered number to state.sets (omega arith) is.sets;
  named = named_moved number to state.tunes tune state.sets its free is.named;
}
renumber_free state number to tune (Some other) is above within its free = elim (cases_Bool (eqb number to)) [
  | inl same ↦ rw same is
  | inr differs ↦ rw differs is
]

renumber_limits_found : (state : State) (number to : ℕ) (found : Option Tune) → IsState state → 0 < to → to ≤ greatest_number
    → tune_at number state.tunes ≡ found → IsState (renumber_found state number to found).0
renumber_limits_found state number to None is above within its = is
renumber_limits_found state number to (Some tune) is above within its =
    renumber_free state number to tune (tune_at to state.tunes) is above within its refl

renumber_limits : (state : State) (number to : ℕ) → IsState state → IsState (renumber state number to).0
renumber_limits state number to is = elim (cases_Bool (is_number to)) [
  | inl good ↦
      let parts = and_parts (ltb 0 to) (leb to greatest_number) good in
      rw good (renumber_limits_found state number to (tune_at number state.tunes) is (ltb-true 0 to parts.0) (leb-true to greatest_number parts.1) refl)
  | inr bad ↦ rw bad is
]

-- A PLACE MORE
add_limits : (state : State) (name : List ℕ) (number : ℕ) (found : Option Tune) → IsState state → tune_at number state.tunes ≡ found
    → IsState (set_add_found state name number found).0
add_limits state name number None is e = is
add_limits state name number (Some tune) is e =
    let within = number_within number state.tunes tune e in
    let top = is.tunes.numbers in
    record {
      tunes = is.tunes;
      sets = add_keeps name number state.sets is.sets (omega arith);
      named = named_add state.tunes name number state.sets is.named (ap is_some e);
    }

-- LAYOUT 2
-- its limits are no less
roomier : (layout : Layout) → (longest_text layout ≤ longest_text Two) × (most_tunes layout ≤ most_tunes Two)
roomier One = (omega arith, omega arith)
roomier Two = (omega arith, omega arith)

each_upgraded : (layout : Layout) (tunes : List Tune) → AllByRecursion (IsTune layout) tunes → AllByRecursion (IsTune Two) tunes
each_upgraded layout [] each = tt
each_upgraded layout (tune ∷ tunes) each =
    let more = (roomier layout).0 in
    let fits = each.0.fits in
    (record { revised = each.0.revised; revision = each.0.revision; text = each.0.text; fits = omega arith }, each_upgraded layout tunes each.1)

upgrade_limits : (layout : Layout) (tunes : List Tune) → IsTunes layout tunes → IsTunes Two tunes
upgrade_limits layout tunes is =
    let more = (roomier layout).1 in
    let few = is.count in
    record { rises = is.rises; numbers = is.numbers; each = each_upgraded layout tunes is.each; count = omega arith }

-- EACH COMMAND
-- a state within the limits stays within them
pub step_keeps_limits : (state : State) (command : Command) → IsState state → IsState (step state command).0
step_keeps_limits state (Import book) is =
    let texts : Texts = book_answer (longest_text state.layout) book in
    record {
      tunes = import_limits state.tunes texts is.tunes (book_within (longest_text state.layout) book);
      sets = is.sets;
      named = named_after state.tunes _ state.sets (import_numbers _ state.tunes texts) is.named;
    }
step_keeps_limits state (Replace number revision book) is =
    let texts : Texts = book_answer (longest_text state.layout) book in
    record {
      tunes = replace_limits state.tunes number revision texts is.tunes (book_within (longest_text state.layout) book);
      sets = is.sets;
      named = named_after state.tunes _ state.sets (replace_numbers state.tunes number revision texts) is.named;
    }
step_keeps_limits state (Delete number) is = record {
  tunes = delete_limits state.tunes number (holder number state.sets) (tune_at number state.tunes) is.tunes;
  sets = is.sets;
  named = delete_named state number (holder number state.sets) (tune_at number state.tunes) refl is.named;
}
step_keeps_limits state (Renumber number to) is = renumber_limits state number to is
step_keeps_limits state (SetNew name) is = record {
  tunes = is.tunes;
  sets = create_keeps name state.sets is.sets;
  named = named_create state.tunes name state.sets is.named;
}
step_keeps_limits state (SetAdd name number) is = add_limits state name number (tune_at number state.tunes) is refl
step_keeps_limits state (SetCut name place) is = record {
  tunes = is.tunes;
  sets = cut_keeps name place state.sets is.sets;
  named = named_cut state.tunes name place state.sets is.named;
}
step_keeps_limits state (SetDrop name) is = record {
  tunes = is.tunes;
  sets = drop_keeps name state.sets is.sets;
  named = named_drop state.tunes name state.sets is.named;
}
step_keeps_limits state Upgrade is = record {
  tunes = upgrade_limits state.layout state.tunes is.tunes;
  sets = is.sets;
  named = is.named;
}
step_keeps_limits state command is = is
