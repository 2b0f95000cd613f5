-- How the parts of an entry stand, as they are looked at one after another.
use Rattle.std.proofs.Common.{◌≡◌, ℕ, ◌+◌, ◌<◌, Bool, true, false, cond, List, [], ◌∷◌, ◌++◌, length, take, drop, get_or, Some, refl, sym, ap, ◌∙◌}
use Rattle.std.specs.Prelude.{◌||◌, ◌&&◌}
use Rattle.std.proofs.lemmas.List.{drop_more}
use Rattle.std.proofs.lemmas.List.Folds.{list_all_more}
use Rattle.tune_store.specs.State.{State}
use Rattle.tune_undo.specs.declared.old_entries.Part.{Part}
use Rattle.tune_changes.specs.Judging.{all_before, numbers_begin_with, first_changed, is_run_of, part_verdict, says_before, says_changed}

-- RUNS OF NUMBERS
pub run_next : (run numbers : List ℕ) (i : ℕ) → i < length numbers → numbers_begin_with run (drop i numbers) ≡ false
    → is_run_of run (drop i numbers) ≡ is_run_of run (drop (i + 1) numbers)
run_next run numbers i l none =
    let e = drop_more numbers i 0 l in
    ap (is_run_of run) e ∙ ap (λ b. b || is_run_of run (drop (i + 1) numbers)) (ap (numbers_begin_with run) (sym e) ∙ none)

pub run_here : (run numbers : List ℕ) (i : ℕ) → i < length numbers → numbers_begin_with run (drop i numbers) ≡ true
    → is_run_of run (drop i numbers) ≡ true
run_here run numbers i l all =
    let e = drop_more numbers i 0 l in
    ap (is_run_of run) e ∙ ap (λ b. b || is_run_of run (drop (i + 1) numbers)) (ap (numbers_begin_with run) (sym e) ∙ all)

-- PARTS
changed_at : (parts : List Part) (i : ℕ) (part : Part) (state : State) → i < length parts → part ≡ get_or parts i part
    → first_changed (drop i parts) i state
    ≡ cond (says_changed (part_verdict part state)) (Some i) (first_changed (drop (i + 1) parts) (i + 1) state)
changed_at parts i part state l at =
    ap (λ some. first_changed some i state) (drop_more parts i part l ∙ ap (λ (p : Part). p ∷ drop (i + 1) parts) (sym at))

pub changed_here : (parts : List Part) (i : ℕ) (part : Part) (state : State) → i < length parts → part ≡ get_or parts i part
    → says_changed (part_verdict part state) ≡ true → first_changed (drop i parts) i state ≡ Some i
changed_here parts i part state l at is =
    changed_at parts i part state l at ∙ ap (λ b. cond b (Some i) (first_changed (drop (i + 1) parts) (i + 1) state)) is

pub changed_next : (parts : List Part) (i : ℕ) (part : Part) (state : State) → i < length parts → part ≡ get_or parts i part
    → says_changed (part_verdict part state) ≡ false → first_changed (drop i parts) i state ≡ first_changed (drop (i + 1) parts) (i + 1) state
changed_next parts i part state l at is =
    changed_at parts i part state l at ∙ ap (λ b. cond b (Some i) (first_changed (drop (i + 1) parts) (i + 1) state)) is

pub before_next : (parts : List Part) (i : ℕ) (part : Part) (state : State) → i < length parts → part ≡ get_or parts i part
    → all_before (take (i + 1) parts) state ≡ (all_before (take i parts) state && says_before (part_verdict part state))
before_next parts i part state l at =
    list_all_more (λ (p : Part). says_before (part_verdict p state)) parts i part l
    ∙ ap (λ (p : Part). all_before (take i parts) state && says_before (part_verdict p state)) (sym at)
