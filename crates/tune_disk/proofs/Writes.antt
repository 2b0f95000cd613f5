-- What a write makes of a file.
use Rattle.std.proofs.Common.{◌≡◌, ◌⊎◌, inl, inr, ℕ, ◌+◌, ◌-◌, ◌<◌, ◌≤◌, max, List, ◌++◌, length, get_or, take, drop, sym, ◌∙◌, subst, arith}
use Rattle.std.proofs.lemmas.Bool.{cases_lt}
use Rattle.std.proofs.lemmas.List.{take_at, ext_get_or}
use Rattle.tune_disk.specs.Disk.{Written}
use Rattle.tune_disk.proofs.Overwrites.{length_after_some}

-- a write of some bytes reaches to their end
pub written_long : (at : ℕ) (bytes old new : List ℕ) → Written at bytes old new → 0 < length bytes → length new ≡ max (length old) (at + length bytes)
written_long at bytes old new w some = w.long ∙ length_after_some at (length bytes) (length old) some

-- a write of these bytes has one result
pub written_once : (at : ℕ) (bytes old a b : List ℕ) → Written at bytes old a → Written at bytes old b → a ≡ b
written_once at bytes old a b wa wb = ext_get_or 0 a b same_length (λ i lt. each i (where_is i))
  where
    same_length : length a ≡ length b
    same_length = wa.long ∙ sym wb.long

    where_is : (i : ℕ) → ((k : ℕ) × (k < length bytes) × (i ≡ at + k)) ⊎ ((i < at) ⊎ (at + length bytes ≤ i))
    where_is i = elim (cases_lt i at) [
      | inl lt ↦ inr (inl lt)
      | inr ge ↦ elim (cases_lt i (at + length bytes)) [
        | inl in_it ↦ inl (i - at, omega arith, omega arith)
        | inr past ↦ inr (inr past)
      ]
    ]

    each : (i : ℕ) → ((k : ℕ) × (k < length bytes) × (i ≡ at + k)) ⊎ ((i < at) ⊎ (at + length bytes ≤ i)) → get_or a i 0 ≡ get_or b i 0
    each i (inl at_k) = subst (λ (j : ℕ). get_or a j 0 ≡ get_or b j 0) (sym at_k.2) (wa.inside at_k.0 at_k.1 ∙ sym (wb.inside at_k.0 at_k.1))
    each i (inr out) = wa.outside i out ∙ sym (wb.outside i out)

-- of a buffer that a copy filled, the front that was copied is the whole copy
pub whole : (n : ℕ) (xs ys : List ℕ) → length ys ≡ length xs → n ≡ length xs → take n (ys ++ drop (length ys) xs) ≡ ys
whole n xs ys same is = take_at ys (drop (length ys) xs) n (omega arith)
