-- How many pages of a file are in use, by the state that it stands for, and of the files before a change and after it.
use Rattle.std.proofs.Common.{◌≡◌, inl, inr, ℕ, ◌+◌, ◌<◌, ◌≤◌, List, [], ◌∷◌, length, All, set, drop, refl, sym, ap, subst, arith}
use Rattle.std.proofs.Common.{◌∙◌, Bool, true, false, cond, eqb, Option, None, Some, Result, Ok, Err, length-append, length-take, length-drop}
use Rattle.std.proofs.lemmas.Bool.{cases_eq}
use Rattle.std.proofs.lemmas.List.Elements.{All-head, All-tail, All-set}
use Rattle.std.proofs.lemmas.List.FromFn.{length-map-range_with_len, get_or-map-range_with_len}
use Rattle.tune_journal.specs.FileOffsets.{block_bytes, gate_open}
use Rattle.tune_journal.specs.Image.{window, number, page_offset, entry_offset, pages_of, entries, gate_of, count_of, new_count_of, entry_count_of, log_of}
use Rattle.tune_journal.specs.Image.{StandsFor}
use Rattle.tune_journal.specs.Pages.{changed_pages}
use Rattle.tune_pages.proofs.FreePages.{AreSized}
use Rattle.tune_parts.specs.Parts.{trails}
use Rattle.tune_store.specs.SetSteps.{set_add_found}
use Rattle.tune_store.specs.State.{State, IsState, IsTunes, tune_at}
use Rattle.tune_store.specs.Step.{step}
use Rattle.tune_store.specs.TuneSteps.{Outcome, is_number, renumber_found, renumber_unless}
use Rattle.tune_store.specs.declared.command.Command.{Command}
use Rattle.tune_store.specs.declared.command.Command.TheVariants.{Import, Replace, Delete, Renumber, SetAdd}
use Rattle.tune_store.specs.declared.command.Refusal.{Refusal}
use Rattle.tune_store.specs.declared.command.Refusal.TheVariants.{BadNumber, Taken}
use Rattle.tune_store.specs.declared.command.Reply.{Reply}
use Rattle.tune_store.specs.declared.command.Reply.TheVariants.{Renumbered}
use Rattle.tune_store.specs.declared.layout.Layout.{Layout}
use Rattle.tune_store.specs.declared.layout.Layout.TheVariants.{One, Two}
use Rattle.tune_store.specs.declared.tune.Tune.{Tune}
use Rattle.tune_format.specs.States.{Holds}
use Rattle.tune_contents.specs.FilePages.{parts_in, pages_in_use, pages_of_both}
use Rattle.tune_contents.specs.Most.{enough_pages, most_in_use, most_part_pages}
use Rattle.tune_contents.proofs.StatePages.{filed_count}

-- EACH PAGE OF A FILE HAS THE BYTES OF A BLOCK
window_size : (at : ℕ) (file : List ℕ) → at + block_bytes ≤ length file → length (window at block_bytes file) ≡ block_bytes
window_size at file long = omega (arith, length-take block_bytes (drop at file), length-drop at file)

sized_pages : (n : ℕ) (file : List ℕ) → page_offset n ≤ length file → AreSized (pages_of n file)
unfolding pages_of
sized_pages n file long = λ p d lt.
    (let image : ℕ → List ℕ = λ q. window (page_offset q) block_bytes file in
    let within : p < n = omega (arith, lt, length-map-range_with_len image 0 n) in
    ap (λ (l : List ℕ). length l) (get_or-map-range_with_len image 0 n p p d within (omega arith))
    ∙ window_size (page_offset p) file (omega (arith, within, long)))

sized_entries : (m k : ℕ) (file : List ℕ) → entry_offset m k ≤ length file → All (λ (e : ℕ × List ℕ). length e.1 ≡ block_bytes) (entries m k file)
unfolding entries
sized_entries m k file long = λ i d lt.
    (let entry : ℕ → ℕ × List ℕ = λ j. (number (entry_offset m j) file, window (entry_offset m j + 4) block_bytes file) in
    let within : i < k = omega (arith, lt, length-map-range_with_len entry 0 k) in
    ap (λ (e : ℕ × List ℕ). length e.1) (get_or-map-range_with_len entry 0 k i i d within (omega arith))
    ∙ window_size (entry_offset m i + 4) file (omega (arith, within, long)))

sized_after : (log : List (ℕ × List ℕ)) (pages : List (List ℕ)) → All (λ (e : ℕ × List ℕ). length e.1 ≡ block_bytes) log → AreSized pages
    → AreSized (changed_pages pages log)
sized_after [] pages each sized = sized
sized_after (e ∷ log) pages each sized =
    let Sized : ℕ × List ℕ → Type 0 = λ entry. length entry.1 ≡ block_bytes in
    sized_after log (set pages e.0 e.1) (All-tail Sized e log each)
    (All-set (λ (page : List ℕ). length page ≡ block_bytes) pages e.0 e.1 (All-head Sized e log each) sized)

stands_sized : (pages : List (List ℕ)) (file : List ℕ) → StandsFor pages file → AreSized pages
stands_sized pages file stands = elim (cases_eq (gate_of file) gate_open) [
  | inl is ↦
      (let log = stands.is_open is in
      subst (λ (l : List (List ℕ)). AreSized l) (sym log.1) (sized_after (log_of file) (pages_of (new_count_of file) file)
      (sized_entries (new_count_of file) (entry_count_of file) file log.0.long) (sized_pages (new_count_of file) file log.0.count.long)))
  | inr shut ↦
      (let at = stands.is_closed shut in
      subst (λ (l : List (List ℕ)). AreSized l) (sym at.1) (sized_pages (count_of file) file at.0.long))
]

-- IN NUMBERS
in_numbers : (layout : Layout) → most_part_pages layout + 1 ≡ most_in_use layout
in_numbers One = refl
in_numbers Two = refl

both_in_numbers : (layout : Layout) → most_part_pages layout + 1 + most_part_pages layout < enough_pages layout
both_in_numbers One = omega arith
both_in_numbers Two = omega arith

-- A FILE
-- the chains and leaves of a file whose tunes are within the limits of a layout
module _ (file : List ℕ) (state : State) (stands : Holds file state) where
  few_parts : (limits : Layout) → IsTunes limits state.tunes → length (trails (parts_in stands)) ≤ most_part_pages limits
  few_parts limits within = filed_count limits state.layout stands.pages state.tunes state.sets stands.is.filed
      (stands_sized stands.pages file stands.stands) within stands.is.within.sets

  pub few_in_use : length (pages_in_use stands) ≤ most_in_use state.layout
  few_in_use =
      let few = few_parts state.layout stands.is.within.tunes in
      let all = in_numbers state.layout in
      omega (arith, few, all)

-- TWO FILES
pub few_of_both : (one other : List ℕ) (old new : State) (before : Holds one old) (after : Holds other new) → IsTunes old.layout new.tunes
    → length (pages_of_both before after) < enough_pages old.layout
few_of_both one other old new before after within =
    let was = few_parts one old before old.layout before.is.within.tunes in
    let is = few_parts other new after old.layout within in
    let all = both_in_numbers old.layout in
    omega (arith, was, is, all, length-append (pages_in_use before) (trails (parts_in after)))

-- AFTER A COMMAND
-- the tunes of an outcome are within the limits of a layout
abbrev TunesWithin : Layout → Outcome → Type 0
TunesWithin layout outcome = IsTunes layout outcome.0.tunes

either_way : (state : State) (test : Bool) (one other : Result Reply Refusal) → IsTunes state.layout state.tunes
    → TunesWithin state.layout (cond test (state, one) (state, other))
either_way state true one other was = was
either_way state false one other was = was

renumbered_unless : (state : State) (number to : ℕ) (other : Option Tune) → IsTunes state.layout state.tunes
    → IsState (renumber_unless state number to other).0 → TunesWithin state.layout (renumber_unless state number to other)
renumbered_unless state number to None was is = is.tunes
renumbered_unless state number to (Some other) was is = either_way state (eqb number to) (Ok (Renumbered number to)) (Err (Taken to)) was

renumbered_found : (state : State) (number to : ℕ) (found : Option Tune) → IsTunes state.layout state.tunes
    → IsState (renumber_found state number to found).0 → TunesWithin state.layout (renumber_found state number to found)
renumbered_found state number to None was is = was
renumbered_found state number to (Some tune) was is = renumbered_unless state number to (tune_at to state.tunes) was is

abbrev renumbered_if : State → ℕ → ℕ → Bool → Outcome
renumbered_if state number to good = cond good (renumber_found state number to (tune_at number state.tunes)) (state, Err BadNumber)

renumbered : (state : State) (number to : ℕ) (good : Bool) → IsTunes state.layout state.tunes → IsState (renumbered_if state number to good).0
    → TunesWithin state.layout (renumbered_if state number to good)
renumbered state number to true was is = renumbered_found state number to (tune_at number state.tunes) was is
renumbered state number to false was is = was

added : (state : State) (name : List ℕ) (number : ℕ) (found : Option Tune) → IsTunes state.layout state.tunes
    → TunesWithin state.layout (set_add_found state name number found)
added state name number None was = was
added state name number (Some tune) was = was

-- they are within the limits that there were before the command
pub within_after : (state : State) (command : Command) → IsState state → IsState (step state command).0
    → IsTunes state.layout (step state command).0.tunes
within_after state (Import book) was is = is.tunes
within_after state (Replace number revision book) was is = is.tunes
within_after state (Delete number) was is = is.tunes
within_after state (Renumber number to) was is = renumbered state number to (is_number to) was.tunes is
within_after state (SetAdd name number) was is = added state name number (tune_at number state.tunes) was.tunes
within_after state command was is = was.tunes

pub few_together : (one other : List ℕ) (state : State) (command : Command) (before : Holds one state)
    (after : Holds other (step state command).0) → length (pages_of_both before after) < enough_pages state.layout
few_together one other state command before after =
    few_of_both one other state (step state command).0 before after (within_after state command before.is.within after.is.within)
