-- How long a file is after a write, and which bytes it then has.
use Rattle.std.proofs.Common.{◌≡◌, ◌⊎◌, inl, inr, ℕ, zero, suc, ◌+◌, ◌-◌, ◌<◌, ◌≤◌, max, List, []}
use Rattle.std.proofs.Common.{◌∷◌, ◌++◌, length, get_or, take, drop, replicate, refl, sym, ◌∙◌, ap}
use Rattle.std.proofs.Common.{arith, length-append, length-drop}
use Rattle.std.proofs.lemmas.Bool.{cases_lt}
use Rattle.std.proofs.lemmas.List.{places, get_or-append_right, get_or_append_left}
use Rattle.std.proofs.lemmas.List.{get_or-replicate, get_or_past, length-replicate, length-take}
use Rattle.tune_disk.specs.ByteWrites.{filled, pasted, put}
use Rattle.tune_disk.specs.Disk.{Written, length_after}

-- a write of some bytes makes the file reach past them
pub length_after_some : (at n long : ℕ) → 0 < n → length_after at n long ≡ max long (at + n)
length_after_some at zero long some = absurd (omega arith)
length_after_some at (suc n) long some = refl

-- no write shortens the file
pub longer_after : (at n long : ℕ) → long ≤ length_after at n long
longer_after at zero long = omega arith
longer_after at (suc n) long = omega arith

-- a longer file stays the longer one
pub length_after_rises : (at n short long : ℕ) → short ≤ long
    → length_after at n short ≤ length_after at n long
length_after_rises at zero short long le = le
length_after_rises at (suc n) short long le = omega arith

pub same_byte : (n k z : ℕ) → get_or (replicate n z) k z ≡ z
same_byte n k z = elim (cases_lt k n) [
  | inl lt ↦ get_or-replicate n k z z lt
  | inr ge ↦ get_or_past (replicate n z) k z (omega (arith, length-replicate {A = ℕ}))
]

-- zeros behind a file don't show
get_or-filled : (n : ℕ) (file : List ℕ) (i : ℕ) → get_or (filled n file) i 0 ≡ get_or file i 0
get_or-filled n file i =
    let zeros = replicate (n - length file) 0 in
    elim (cases_lt i (length file)) [
      | inl lt ↦ get_or_append_left file zeros 0 i lt
      | inr ge ↦
          get_or-append_right file zeros (length file) i 0 refl ge
          ∙ same_byte (n - length file) (i - length file) 0
          ∙ sym (get_or_past file i 0 ge)
    ]

pub length-filled : (n : ℕ) (file : List ℕ) → length (filled n file) ≡ max (length file) n
length-filled n file = omega (arith, length-append {A = ℕ}, length-replicate {A = ℕ})

module _ (at : ℕ) (bytes file : List ℕ) (room : at + length bytes ≤ length file) where
  front : length (take at file) ≡ at
  front = omega (arith, length-take at file)

  pub length-pasted : length (pasted at bytes file) ≡ length file
  length-pasted =
      let rest = drop (at + length bytes) file in
      omega (
        arith,
        front,
        length-append (take at file) bytes,
        length-append (take at file ++ bytes) rest,
        length-drop (at + length bytes) file,
      )

  pasted_inside : (k : ℕ) → k < length bytes
      → get_or (pasted at bytes file) (at + k) 0 ≡ get_or bytes k 0
  pasted_inside k lt = grind (arith, places, front)

  pasted_outside : (i : ℕ) → (i < at) ⊎ (at + length bytes ≤ i)
      → get_or (pasted at bytes file) i 0 ≡ get_or file i 0
  pasted_outside i (inl lt) = grind (arith, places, front)
  pasted_outside i (inr ge) = grind (arith, places, front)

pub written_pasted : (at : ℕ) (bytes old new : List ℕ) → 0 < length bytes
    → new ≡ pasted at bytes (filled (at + length bytes) old) → Written at bytes old new
written_pasted at bytes old new some is =
    let end = at + length bytes in
    let full = filled end old in
    let room : end ≤ length full = omega (arith, length-filled end old) in
    record {
      long =
          ap length is ∙ length-pasted at bytes full room ∙ length-filled end old
          ∙ sym (length_after_some at (length bytes) (length old) some);
      inside = λ k lt.
          ap (λ (l : List ℕ). get_or l (at + k) 0) is ∙ pasted_inside at bytes full room k lt;
      outside = λ i out.
          ap (λ (l : List ℕ). get_or l i 0) is ∙ pasted_outside at bytes full room i out
          ∙ get_or-filled end old i;
    }

pub put_written : (at : ℕ) (bytes file : List ℕ) → Written at bytes file (put at bytes file)
put_written at [] file = record {
  long = refl;
  inside = λ k lt. absurd (omega arith);
  outside = λ i _. refl;
}
put_written at (b ∷ bytes) file = written_pasted at (b ∷ bytes) file _ (omega arith) refl
