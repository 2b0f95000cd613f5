-- The last change of some entries.
use Rattle.std.proofs.Common.{◌≡◌, ◌<◌, ◌≤◌, ℕ, ◌+◌, ◌-◌, List, [], ◌∷◌, ◌++◌, Bool, true, false, take, drop, length, refl, sym, ◌∙◌, ap, subst, arith}
use Rattle.std.proofs.Common.{if◌then◌else◌}
use Rattle.std.proofs.Common.{append_assoc, append-nil, length-append}
use Rattle.std.proofs.lemmas.List.{take-append-drop, map-append, drop-take, take-take}
use Rattle.std.specs.List.{AllByRecursion}
use Rattle.tune_undo.specs.OldEntries.{StepValue, step_value}
use Rattle.tune_undo.specs.declared.old_entries.Step.{Step}
use Rattle.desk_changes.specs.Inside.TriedUndoings.{steps_of, EndsFrom}
use Rattle.desk_lists.specs.declared.change_rows.ChangeRow.{ChangeRow}
use Rattle.desk_changes.specs.ToldChanges.{change_row, rows_of_changes}
use Rattle.desk_changes.specs.OldChanges.{BookChange, begins_further, changes_of_steps, is_further, put_before}

-- entries of which each is of a further book of an add
abbrev pub AreFurther : List StepValue → Type 0
AreFurther steps = AllByRecursion (λ step. is_further step.entry.kind ≡ true) steps

pub one_change : (step : StepValue) (more : List StepValue) → AreFurther more → changes_of_steps (step ∷ more) ≡ (step ∷ more) ∷ []
one_change step [] further = refl
one_change step (other ∷ more) further =
    ap (put_before step) (one_change other more further.1)
    ∙ ap (λ (b : Bool). if b then (step ∷ other ∷ more) ∷ [] else (step ∷ []) ∷ (other ∷ more) ∷ []) further.0

if_append : (b : Bool) (xs ys zs : List BookChange) → (if b then xs ++ zs else ys ++ zs) ≡ (if b then xs else ys) ++ zs
if_append true xs ys zs = refl
if_append false xs ys zs = refl

put_more : (step : StepValue) (changes : List BookChange) (change : BookChange) → begins_further change ≡ false
    → put_before step (changes ++ change ∷ []) ≡ put_before step changes ++ change ∷ []
put_more step [] change first = ap (λ (b : Bool). if b then (step ∷ change) ∷ [] else (step ∷ []) ∷ change ∷ []) first
put_more step (other ∷ changes) change first =
    if_append (begins_further other) ((step ∷ other) ∷ changes) ((step ∷ []) ∷ other ∷ changes) (change ∷ [])

-- entries before a change
pub front_stays : (steps : List StepValue) (change : BookChange) → begins_further change ≡ false → changes_of_steps change ≡ change ∷ []
    → changes_of_steps (steps ++ change) ≡ changes_of_steps steps ++ change ∷ []
front_stays [] change first one = one
front_stays (step ∷ steps) change first one =
    ap (put_before step) (front_stays steps change first one) ∙ put_more step (changes_of_steps steps) change first

pub split_at : (changes : List Step) (first : ℕ) → steps_of changes ≡ steps_of (take first changes) ++ steps_of (drop first changes)
split_at changes first =
    ap steps_of (sym (take-append-drop first changes)) ∙ map-append step_value (take first changes) (drop first changes)

-- from an entry that is of no further book, behind which all are
pub ends_at : (changes later : List Step) (first : ℕ) (step : Step) → drop first changes ≡ step ∷ later
    → is_further step.entry.kind ≡ false → AreFurther (steps_of later) → EndsFrom first changes
ends_at changes later first step at other further =
    let change = step_value step ∷ steps_of later in
    let same : steps_of (drop first changes) ≡ change = ap steps_of at in
    ap changes_of_steps (split_at changes first ∙ ap (λ some. steps_of (take first changes) ++ some) same)
    ∙ front_stays (steps_of (take first changes)) change other (one_change (step_value step) (steps_of later) further)
    ∙ ap (λ (some : BookChange). changes_of_steps (steps_of (take first changes)) ++ some ∷ []) (sym same)

-- from the first one
pub ends_first : (changes : List Step) (first : ℕ) → first ≡ 0 → 0 < length changes → AreFurther (steps_of (drop first changes)) → EndsFrom first changes
ends_first [] first none some further = absurd (omega (arith, some))
ends_first (step ∷ changes) first none some further =
    subst (λ (n : ℕ). EndsFrom n (step ∷ changes)) (sym none)
    (one_change (step_value step) (steps_of changes) (subst (λ (n : ℕ). AreFurther (steps_of (drop n (step ∷ changes)))) none further).1)

-- the changes that are left end in one
abbrev pub EndsIn : List Step → ℕ → ℕ → BookChange → Type 0
EndsIn changes left first change =
    changes_of_steps (steps_of (take left changes)) ≡ changes_of_steps (steps_of (take first changes)) ++ change ∷ []

pub ends_in : (changes : List Step) (left first : ℕ) → first ≤ left → EndsFrom first (take left changes)
    → EndsIn changes left first (steps_of (take (left - first) (drop first changes)))
ends_in changes left first within ends =
    let on : first + (left - first) ≡ left = omega (arith, within) in
    let same : drop first (take left changes) ≡ take (left - first) (drop first changes) =
    ap (λ n. drop first (take n changes)) (sym on) ∙ drop-take first (left - first) changes in
    ends ∙ ap (λ l. changes_of_steps (steps_of l) ++ steps_of (drop first (take left changes)) ∷ []) (take-take first left changes within)
    ∙ ap (λ l. changes_of_steps (steps_of (take first changes)) ++ steps_of l ∷ []) same

pub split_more : (changes : List Step) (left first : ℕ) (change : BookChange) (gone : List BookChange) → EndsIn changes left first change
    → changes_of_steps (steps_of changes) ≡ changes_of_steps (steps_of (take left changes)) ++ gone
    → changes_of_steps (steps_of changes) ≡ changes_of_steps (steps_of (take first changes)) ++ change ∷ gone
split_more changes left first change gone ends split =
    split ∙ ap (λ some. some ++ gone) ends ∙ append_assoc (changes_of_steps (steps_of (take first changes))) (change ∷ []) gone

-- THE ROWS OF CHANGES
-- those of the changes from a place on
pub record RowsTo (entries : List Step) (left : ℕ) (rows : List ChangeRow) : Type 0 where
  pub gone : List BookChange
  pub split : changes_of_steps (steps_of entries) ≡ changes_of_steps (steps_of (take left entries)) ++ gone
  pub are : rows ≡ rows_of_changes gone

pub rows_none : (entries : List Step) (left : ℕ) (rows : List ChangeRow) → take left entries ≡ entries → rows ≡ [] → RowsTo entries left rows
rows_none entries left rows all none = record {
  gone = [];
  split = ap (λ some. changes_of_steps (steps_of some)) (sym all) ∙ sym (append-nil (changes_of_steps (steps_of (take left entries))));
  are = none;
}

-- as many as there are changes
pub row_count : (changes : List BookChange) → length (rows_of_changes changes) ≡ length changes
row_count [] = refl
row_count (change ∷ changes) = length-append (rows_of_changes changes) _ ∙ ap (λ (n : ℕ). n + 1) (row_count changes) ∙ omega arith

pub rows_next : (entries : List Step) (left first : ℕ) (change : BookChange) (rows : List ChangeRow) (so : RowsTo entries left rows)
    → EndsIn entries left first change → RowsTo entries first (rows ++ change_row (length rows + 1) change ∷ [])
rows_next entries left first change rows so ends = record {
  gone = change ∷ so.gone;
  split = split_more entries left first change so.gone ends so.split;
  are = let count : length rows ≡ length so.gone = ap length so.are ∙ row_count so.gone in
      ap (λ (l : List ChangeRow). l ++ change_row (length rows + 1) change ∷ []) so.are
      ∙ ap (λ (n : ℕ). rows_of_changes so.gone ++ change_row (n + 1) change ∷ []) count;
}

pub rows_all : (entries : List Step) (left : ℕ) (rows : List ChangeRow) → left ≡ 0 → RowsTo entries left rows
    → rows ≡ rows_of_changes (changes_of_steps (steps_of entries))
rows_all entries left rows none so =
    so.are ∙ ap rows_of_changes (sym (so.split ∙ ap (λ (n : ℕ). changes_of_steps (steps_of (take n entries)) ++ so.gone) none))
