-- The walk over a book of old texts, and the steps that it keeps.
use Rattle.std.proofs.Common.{◌≡◌, ℕ, zero, suc, ◌-◌, ◌<◌, ◌≤◌, Bool, true, false, cond, List, [], ◌∷◌, ◌++◌, length, take, drop}
use Rattle.std.proofs.Common.{refl, ap, sym, subst, ◌∙◌, arith, append-nil}
use Rattle.std.specs.Prelude.{◌==◌, Option, None, Some, slice_index, map}
use Rattle.std.specs.Option.{option_to_list}
use Rattle.std.proofs.lemmas.Bool.{ne_eqb, cond-true, cond-false, false_from_ne_true}
use Rattle.std.proofs.lemmas.List.{map_push, take-map, length-map, nil_from_length}
use Rattle.abc_fields.specs.Bytes.{line_feed}
use Rattle.tune_undo.specs.OldEntries.{StepValue, step_value}
use Rattle.tune_undo.specs.OldItems.{Item, ItemPlace, Top, Start, Within, place_after_feed, next, Stands, IsItemLog, without_last, begun_last, standing_after}
use Rattle.tune_undo.specs.Inside.Found.{place_of, IsLaterLog, after_found}
use Rattle.tune_undo.specs.declared.old_entries.Step.{Step}

-- THE END OF THE STEPS
pub without_push : (steps : List StepValue) (step : StepValue) → without_last (steps ++ step ∷ []) ≡ steps
without_push [] step = refl
without_push (s ∷ []) step = refl
without_push (s ∷ t ∷ steps) step = ap (λ ss. s ∷ ss) (without_push (t ∷ steps) step)

pub begun_push : (greatest : ℕ) (steps : List StepValue) (step : StepValue)
    → begun_last greatest (steps ++ step ∷ []) ≡ steps ++ record { entry = step.entry; begun = Some greatest } ∷ []
begun_push greatest [] step = refl
begun_push greatest (s ∷ []) step = refl
begun_push greatest (s ∷ t ∷ steps) step = ap (λ ss. s ∷ ss) (begun_push greatest (t ∷ steps) step)

without_take : (steps : List StepValue) → take (length steps - 1) steps ≡ without_last steps
without_take [] = refl
without_take (s ∷ []) = refl
without_take (s ∷ t ∷ steps) =
    let less : length (s ∷ t ∷ steps) - 1 ≡ suc (length (t ∷ steps) - 1) = omega arith in
    ap (λ n. take n (s ∷ t ∷ steps)) less ∙ ap (λ ss. s ∷ ss) (without_take (t ∷ steps))

pub dropped : (old new : List Step) (n : ℕ) → n ≡ length old → new ≡ take (n - 1) old → map step_value new ≡ without_last (map step_value old)
dropped old new n size e =
    ap (map step_value) e ∙ sym (take-map step_value (n - 1) old)
    ∙ ap (λ k. take (k - 1) (map step_value old)) (size ∙ sym (length-map old step_value)) ∙ without_take (map step_value old)

pub begun_more : (old new pushed : List Step) (step made : Step) (greatest : ℕ) → old ≡ new ++ step ∷ [] → pushed ≡ new ++ made ∷ []
    → step_value made ≡ record { entry = (step_value step).entry; begun = Some greatest }
    → map step_value pushed ≡ begun_last greatest (map step_value old)
begun_more old new pushed step made greatest was is same =
    ap (map step_value) is ∙ map_push step_value new made ∙ ap (λ v. map step_value new ++ v ∷ []) same
    ∙ sym (ap (λ ss. begun_last greatest (map step_value ss)) was ∙ ap (begun_last greatest) (map_push step_value new step)
    ∙ begun_push greatest (map step_value new) (step_value step))

pub begun_none : (old new : List Step) (greatest : ℕ) → old ≡ new ++ [] → length old ≡ 0 → map step_value new ≡ begun_last greatest (map step_value old)
begun_none old new greatest same none =
    let empty : old ≡ [] = nil_from_length old none in
    ap (map step_value) (sym (append-nil new) ∙ sym same ∙ empty) ∙ sym (ap (λ ss. begun_last greatest (map step_value ss)) empty)

-- LINES
-- within a line nothing begins
within_log : (byte : ℕ) (bytes : List ℕ) (items : List Item) → IsItemLog (next Within byte) bytes items → IsItemLog Within (byte ∷ bytes) items
within_log byte bytes items log = (None, items, refl, log, refl)

feed_next : (place : ItemPlace) (byte : ℕ) → (byte == line_feed) ≡ true → next place byte ≡ place_after_feed place
feed_next place byte is = cond-true (byte == line_feed) _ _ is

other_next : (place : ItemPlace) (byte : ℕ) → (byte == line_feed) ≡ false → next place byte ≡ Within
other_next place byte is = cond-false (byte == line_feed) _ _ is

-- the rest of a line, up to its line feed
within_first : (bytes : List ℕ) (i : ℕ) (items : List Item) → i < length bytes → (slice_index bytes i == line_feed) ≡ true
    → ((k : ℕ) → 0 ≤ k → k < i → (slice_index bytes k == line_feed) ≡ true → ⊥) → IsItemLog Start (drop (suc i) bytes) items → IsItemLog Within bytes items
within_first [] i items l p none log = absurd (omega arith)
within_first (byte ∷ bytes) zero items l p none log =
    let P : ItemPlace → Type 0 = λ place. IsItemLog place bytes items in
    within_log byte bytes items (subst P (sym (feed_next Within byte p)) log)
within_first (byte ∷ bytes) (suc i) items l p none log =
    let P : ItemPlace → Type 0 = λ place. IsItemLog place bytes items in
    let no : (byte == line_feed) ≡ false = false_from_ne_true _ (none 0 (omega arith) (omega arith)) in
    let more = within_first bytes i items (omega arith) p (λ k low high. none (suc k) (omega arith) (omega arith)) log in
    within_log byte bytes items (subst P (sym (other_next Within byte no)) more)

within_absent : (bytes : List ℕ) → ((k : ℕ) → 0 ≤ k → k < length bytes → (slice_index bytes k == line_feed) ≡ true → ⊥) → IsItemLog Within bytes []
within_absent [] none = refl
within_absent (byte ∷ bytes) none =
    let P : ItemPlace → Type 0 = λ place. IsItemLog place bytes [] in
    let no : (byte == line_feed) ≡ false = false_from_ne_true _ (none 0 (omega arith) (omega arith)) in
    let more = within_absent bytes (λ k low high. none (suc k) (omega arith) (omega arith)) in
    within_log byte bytes [] (subst P (sym (other_next Within byte no)) more)

pub later_first : (bytes : List ℕ) (i : ℕ) (items : List Item) → i < length bytes → (slice_index bytes i == line_feed) ≡ true
    → ((k : ℕ) → 0 ≤ k → k < i → (slice_index bytes k == line_feed) ≡ true → ⊥) → IsItemLog (place_of (i == 0)) (drop (suc i) bytes) items
    → IsLaterLog bytes items
later_first [] i items l p none log = absurd (omega arith)
later_first (byte ∷ bytes) zero items l p none log =
    let P : ItemPlace → Type 0 = λ place. IsItemLog place bytes items in subst P (sym (feed_next Start byte p)) log
later_first (byte ∷ bytes) (suc i) items l p none log =
    let P : ItemPlace → Type 0 = λ place. IsItemLog place bytes items in
    let no : (byte == line_feed) ≡ false = false_from_ne_true _ (none 0 (omega arith) (omega arith)) in
    let start : IsItemLog Start (drop (suc i) bytes) items =
    subst (λ (b : Bool). IsItemLog (place_of b) (drop (suc i) bytes) items) (ne_eqb (suc i) 0 (λ e. omega arith)) log in
    let more = within_first bytes i items (omega arith) p (λ k low high. none (suc k) (omega arith) (omega arith)) start in
    subst P (sym (other_next Start byte no)) more

pub later_absent : (bytes : List ℕ) → ((k : ℕ) → 0 ≤ k → k < length bytes → (slice_index bytes k == line_feed) ≡ true → ⊥) → IsLaterLog bytes []
later_absent [] none = refl
later_absent (byte ∷ bytes) none =
    let P : ItemPlace → Type 0 = λ place. IsItemLog place bytes [] in
    let no : (byte == line_feed) ≡ false = false_from_ne_true _ (none 0 (omega arith) (omega arith)) in
    let more = within_absent bytes (λ k low high. none (suc k) (omega arith) (omega arith)) in
    subst P (sym (other_next Start byte no)) more

-- the log of bytes that begin at the top of a line, by what stands there and by what follows the first byte
pub log_from : (top : Bool) (bytes : List ℕ) (found : Option Item) (later : List Item) → 0 < length bytes → Stands (place_of top) bytes found
    → IsLaterLog bytes later → IsItemLog (place_of top) bytes (option_to_list found ++ later)
log_from top [] found later some stands log = absurd (omega arith)
log_from true (byte ∷ bytes) found later some stands log = (found, later, stands, log_at_top byte log, refl)
  where
    log_at_top : (byte : ℕ) → IsItemLog (next Start byte) bytes later → IsItemLog (next Top byte) bytes later
    log_at_top byte log = let P : ItemPlace → Type 0 = λ place. IsItemLog place bytes later in subst P (same_next (byte == line_feed)) log
      where
        same_next : (b : Bool) → cond b (place_after_feed Start) Within ≡ cond b (place_after_feed Top) Within
        same_next true = refl
        same_next false = refl
log_from false (byte ∷ bytes) found later some stands log = (found, later, stands, log, refl)

-- the steps after what was found, and after the rest
pub standing_found : (steps : List StepValue) (found : Option Item) (later : List Item)
    → standing_after steps (option_to_list found ++ later) ≡ standing_after (after_found steps found) later
standing_found steps None later = refl
standing_found steps (Some item) later = refl
