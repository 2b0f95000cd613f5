-- Signatures: an accidental for each letter, and those of a count of sharps or flats (ABC 2.1,
-- 3.1.14).
use Rattle.std.specs.Prelude.{◌≡◌, ℕ, zero, suc, ◌+◌, ℤ, pos, negsuc, List, [], ◌∷◌, take, ⊤}
use Rattle.std.specs.List.{fold}
use Rattle.abc_keys.specs.declared.letters.Letter.{Letter}
use Rattle.abc_keys.specs.declared.letters.Letter.TheVariants.{C, D, E, F, G, A, B}
use Rattle.abc_keys.specs.declared.letters.Accidental.{Accidental}
use Rattle.abc_keys.specs.declared.letters.Accidental.TheVariants.{Flat, Natural, Sharp}
use Rattle.abc_keys.specs.declared.signatures.Signature.{Signature}

-- the accidental at a letter
abbrev pub accidental_at : Signature → Letter → Accidental
accidental_at s C = s.c
accidental_at s D = s.d
accidental_at s E = s.e
accidental_at s F = s.f
accidental_at s G = s.g
accidental_at s A = s.a
accidental_at s B = s.b

-- the signature with another accidental at a letter
abbrev pub with_accidental : Signature → Letter → Accidental → Signature
with_accidental s C accidental = record s { c = accidental }
with_accidental s D accidental = record s { d = accidental }
with_accidental s E accidental = record s { e = accidental }
with_accidental s F accidental = record s { f = accidental }
with_accidental s G accidental = record s { g = accidental }
with_accidental s A accidental = record s { a = accidental }
with_accidental s B accidental = record s { b = accidental }

-- no sharps and no flats
abbrev pub no_accidentals : Signature
no_accidentals = record {
  c = Natural;
  d = Natural;
  e = Natural;
  f = Natural;
  g = Natural;
  a = Natural;
  b = Natural;
}

-- SHARPS AND FLATS BY THEIR COUNT
-- the order in which sharps come
abbrev pub sharp_order : List Letter
sharp_order = F ∷ C ∷ G ∷ D ∷ A ∷ E ∷ B ∷ []

-- and that in which flats come
abbrev pub flat_order : List Letter
flat_order = B ∷ E ∷ A ∷ D ∷ G ∷ C ∷ F ∷ []

-- these letters with one accidental, and the others with none
abbrev pub with_letters : Accidental → List Letter → Signature
with_letters accidental letters =
    fold (λ s letter. with_accidental s letter accidental) no_accidentals letters

-- so many sharps, or flats below zero, each in its order
abbrev pub of_count : ℤ → Signature
of_count (pos n) = with_letters Sharp (take n sharp_order)
of_count (negsuc n) = with_letters Flat (take (n + 1) flat_order)

-- as many of the first letters of a list as this have the accidental, and its other letters have
-- none
abbrev pub HaveFirst : Accidental → ℕ → List Letter → Signature → Type 0
HaveFirst accidental n [] s = ⊤
HaveFirst accidental zero (letter ∷ letters) s =
    (accidental_at s letter ≡ Natural) × HaveFirst accidental zero letters s
HaveFirst accidental (suc n) (letter ∷ letters) s =
    (accidental_at s letter ≡ accidental) × HaveFirst accidental n letters s

-- so many sharps, or flats below zero, in their order, and no other accidentals
abbrev pub HasCount : ℤ → Signature → Type 0
HasCount (pos n) s = HaveFirst Sharp n sharp_order s
HasCount (negsuc n) s = HaveFirst Flat (suc n) flat_order s
