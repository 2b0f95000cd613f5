-- Steps in a row that has room for eleven.
use Rattle.std.proofs.Common.{◌≡◌, ℕ, suc, ◌+◌, ◌-◌, ◌<◌, ◌≤◌, List, [], ◌∷◌, ◌++◌, length, take, drop, set}
use Rattle.std.proofs.Common.{replicate, ap, sym, ◌∙◌, arith, ℤ, pos, append_assoc}
use Rattle.std.proofs.Common.{length-append}
use Rattle.std.proofs.Math.Seq.{drop-append-add}
use Rattle.std.proofs.lemmas.List.{take_more_set, set_split, drop-replicate, length-take, length-replicate}
use Rattle.tune_incipit.specs.Inside.StepRows.{most_steps, padded_steps, IsPaddedRow}

-- a row has eleven numbers
pub length-row : (count : ℕ) (row : List ℤ) → count ≤ most_steps → IsPaddedRow count row → length row ≡ most_steps
length-row count row few e =
    let long = ap length e.zeros in
    let zeros = most_steps - length (take count row) in
    omega (
      arith,
      long,
      length-append (take count row) (replicate zeros (pos 0)),
      length-replicate {A = ℤ} zeros (pos 0),
      length-take count row,
    )

-- a step that is put after the others
pub padded_more : (count : ℕ) (row : List ℤ) (step : ℤ) → count < most_steps → IsPaddedRow count row
    → IsPaddedRow (count + 1) (set row count step)
padded_more count row step few e =
    let held : List ℤ = take count row in
    let held_long : length held ≡ count = e.steps in
    let long : length row ≡ most_steps = length-row count row (omega arith) e in
    let more : take (count + 1) (set row count step) ≡ held ++ step ∷ [] = take_more_set row count step (omega arith) in
    let past : suc count ≡ length held + 1 = omega arith in
    let gap : most_steps - length held - 1 ≡ most_steps - length (held ++ step ∷ []) = omega (arith, length-append held (step ∷ [])) in
    let rest : drop (suc count) row ≡ replicate (most_steps - length (held ++ step ∷ [])) (pos 0) =
    (λ i. drop (past i) (e.zeros i)) ∙ drop-append-add held (replicate (most_steps - length held) (pos 0)) 1
    ∙ drop-replicate 1 (most_steps - length held) (pos 0) ∙ ap (λ n. replicate n (pos 0)) gap in
    record {
      steps = ap length more ∙ length-append held (step ∷ []) ∙ ap (λ n. n + 1) held_long;
      zeros =
          set_split row count step (omega arith) ∙ ap (λ r. held ++ step ∷ r) rest
          ∙ sym (append_assoc held (step ∷ []) (replicate (most_steps - length (held ++ step ∷ [])) (pos 0)))
          ∙ ap (padded_steps most_steps) (sym more);
    }
