-- Lists of entries that rise: an entry put in or taken out, in a whole list and in a part of it.
use Rattle.std.proofs.Common.{◌≡◌, ◌≢◌, ℕ, zero, suc, ◌+◌, ◌<◌, List, [], ◌∷◌, ◌++◌, length, get_or, refl, sym, ap, ◌∙◌, arith, inl, inr}
use Rattle.std.proofs.lemmas.Bool.{cases_lt, cases_eq}
use Rattle.std.specs.List.{insert, remove}
use Rattle.index_keys.specs.Entries.{Entry, rank, EntriesRiseFrom, IsRising, entry_inserted, removed}
use Rattle.index_keys.proofs.RisingEntries.{inserted_front, inserted_later, inserted_there, removed_later, removed_there, rises_pair}
use Rattle.tune_index.specs.Inside.EntryPlaces.{IsPlace}

-- the place in the rest of a list
place_tail : (r : ℕ) (x : Entry) (xs : List Entry) (i : ℕ) → IsPlace r (x ∷ xs) (suc i) → IsPlace r xs i
place_tail r x xs i p = record {
  in_range = let h = p.in_range in omega arith;
  smaller_before = λ k d h. p.smaller_before (suc k) d (omega arith);
  others_after = λ k d h l. p.others_after (suc k) d (omega arith) (omega arith);
}

-- an entry that is not there goes in at its place
pub inserted-at : (es : List Entry) (i : ℕ) (e : Entry) → IsPlace (rank e) es i → (i < length es → (d : Entry) → rank e < rank (get_or es i d))
    → entry_inserted e es ≡ insert es i e
inserted-at [] zero e p o = refl
inserted-at [] (suc i) e p o = let h = p.in_range in absurd (omega arith)
inserted-at (x ∷ xs) zero e p o = inserted_front e x xs (o (omega arith) e)
inserted-at (x ∷ xs) (suc i) e p o =
    inserted_later e x xs (p.smaller_before 0 e (omega arith))
    ∙ ap (λ (r : List Entry). x ∷ r) (inserted-at xs i e (place_tail (rank e) x xs i p) (λ h d. o (omega arith) d))

-- an entry that is there stays
pub inserted-same : (es : List Entry) (i : ℕ) (e : Entry) → IsPlace (rank e) es i → i < length es → ((d : Entry) → rank (get_or es i d) ≡ rank e)
    → entry_inserted e es ≡ es
inserted-same [] i e p l o = absurd (omega arith)
inserted-same (x ∷ xs) zero e p l o = inserted_there e x xs (o e)
inserted-same (x ∷ xs) (suc i) e p l o =
    inserted_later e x xs (p.smaller_before 0 e (omega arith))
    ∙ ap (λ (r : List Entry). x ∷ r) (inserted-same xs i e (place_tail (rank e) x xs i p) (omega arith) (λ d. o d))

-- an entry that is there goes out of its place
pub removed-at : (es : List Entry) (i : ℕ) (e : Entry) → IsPlace (rank e) es i → i < length es → ((d : Entry) → rank (get_or es i d) ≡ rank e)
    → removed e es ≡ remove es i
removed-at [] i e p l o = absurd (omega arith)
removed-at (x ∷ xs) zero e p l o = removed_there e x xs (o e)
removed-at (x ∷ xs) (suc i) e p l o =
    let h : rank x < rank e = p.smaller_before 0 e (omega arith) in
    removed_later e x xs (omega arith) ∙ ap (λ (r : List Entry). x ∷ r) (removed-at xs i e (place_tail (rank e) x xs i p) (omega arith) (λ d. o d))

-- an entry that is not there takes nothing out
removed-none : (es : List Entry) (e : Entry) → ((k : ℕ) (d : Entry) → k < length es → rank (get_or es k d) ≢ rank e) → removed e es ≡ es
removed-none [] e h = refl
removed-none (x ∷ xs) e h = removed_later e x xs (h 0 e (omega arith)) ∙ ap (λ (r : List Entry). x ∷ r) (removed-none xs e (λ k d l. h (suc k) d (omega arith)))

pub removed-same : (es : List Entry) (i : ℕ) (e : Entry) → IsRising es → IsPlace (rank e) es i → (i < length es → (d : Entry) → rank e < rank (get_or es i d))
    → removed e es ≡ es
removed-same es i e r p o = removed-none es e (λ k d l. elim (cases_lt k i) [
  | inl below ↦ let h = p.smaller_before k d below in omega (arith, h)
  | inr above ↦ elim (cases_lt i k) [
    | inl past ↦ let a = o (omega arith) d in let b = rises_pair 0 es i k d r past l in omega (arith, a, b)
    | inr at ↦ let same : i ≡ k = omega arith in let a = o (omega arith) d in omega (arith, rw same at a)
  ]
])

-- a list begins after an entry
abbrev pub BeginsAfter : ℕ → List Entry → Type 0
BeginsAfter r [] = Unit {0}
BeginsAfter r (z ∷ zs) = r < rank z

-- an entry before what follows goes into the front
pub inserted-before : (ys zs : List Entry) (e : Entry) → BeginsAfter (rank e) zs → entry_inserted e (ys ++ zs) ≡ entry_inserted e ys ++ zs
inserted-before [] [] e b = refl
inserted-before [] (z ∷ zs) e b = inserted_front e z zs b
inserted-before (y ∷ ys) zs e b = elim (cases_lt (rank e) (rank y)) [
  | inl front ↦ inserted_front e y (ys ++ zs) front ∙ sym (ap (λ (x : List Entry). x ++ zs) (inserted_front e y ys front))
  | inr rest ↦ elim (cases_lt (rank y) (rank e)) [
    | inl later ↦ inserted_later e y (ys ++ zs) later ∙ ap (λ (x : List Entry). y ∷ x) (inserted-before ys zs e b)
        ∙ sym (ap (λ (x : List Entry). x ++ zs) (inserted_later e y ys later))
    | inr there ↦ inserted_there e y (ys ++ zs) (omega arith) ∙ sym (ap (λ (x : List Entry). x ++ zs) (inserted_there e y ys (omega arith)))
  ]
]

-- nothing after the entry is the entry
removed-later_all : (low : ℕ) (zs : List Entry) (e : Entry) → EntriesRiseFrom low zs → rank e < low → removed e zs ≡ zs
removed-later_all low [] e r b = refl
removed-later_all low (z ∷ zs) e r b = let h = r.0 in removed_later e z zs (omega arith)
    ∙ ap (λ (x : List Entry). z ∷ x) (removed-later_all (rank z + 1) zs e r.1 (omega arith))

pub removed-before : (low : ℕ) (ys zs : List Entry) (e : Entry) → EntriesRiseFrom low zs → rank e < low → removed e (ys ++ zs) ≡ removed e ys ++ zs
removed-before low [] zs e r b = removed-later_all low zs e r b
removed-before low (y ∷ ys) zs e r b = elim (cases_eq (rank y) (rank e)) [
  | inl there ↦ removed_there e y (ys ++ zs) there ∙ sym (ap (λ (x : List Entry). x ++ zs) (removed_there e y ys there))
  | inr later ↦ removed_later e y (ys ++ zs) later ∙ ap (λ (x : List Entry). y ∷ x) (removed-before low ys zs e r b)
      ∙ sym (ap (λ (x : List Entry). x ++ zs) (removed_later e y ys later))
]
