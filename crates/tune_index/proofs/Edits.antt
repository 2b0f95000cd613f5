-- What an edit of a leaf in memory does, from what the search and the test said of the slices that they were lent.
use Rattle.std.proofs.Common.{◌≡◌, ℕ, ◌<◌, List, length, get_or, sym, subst, IsTrue, Bool, true, false}
use Rattle.std.specs.List.{HoldsAt, insert, remove}
use Rattle.index_keys.specs.Entries.{Entry, rank, IsRising, entry_inserted, removed}
use Rattle.tune_index.specs.Inside.EntryPlaces.{IsPlace}
use Rattle.tune_index.proofs.Lists.{inserted-at, inserted-same, removed-at, removed-same}

-- what is known of a list `es`, lent to the search as `s` and to the test as `t`, of the place `i` and of the test's answer `b`
pub record Searched (es s t : List Entry) (i : ℕ) (e : Entry) (b : Bool) : Type 0 where
  pub first : s ≡ es
  pub second : t ≡ es
  pub place : IsRising s → IsPlace (rank e) s i
  pub here : IsTrue b → i < length t
  pub equal : IsPlace (rank e) t i → IsTrue b → HoldsAt (λ x. rank x ≡ rank e) t i
  pub other : b ≡ false → i < length t → IsPlace (rank e) t i → HoldsAt (λ x. rank e < rank x) t i

found : (es s t : List Entry) (i : ℕ) (e : Entry) (b : Bool) → Searched es s t i e b → IsRising es → IsPlace (rank e) es i
found es s t i e b h up = subst (λ (x : List Entry). IsPlace (rank e) x i) h.first (h.place (subst (λ (x : List Entry). IsRising x) (sym h.first) up))

there : (es s t : List Entry) (i : ℕ) (e : Entry) (b : Bool) → Searched es s t i e b → IsRising es → b ≡ true → (d : Entry) → rank (get_or es i d) ≡ rank e
there es s t i e b h up is d =
    let p : IsPlace (rank e) t i = subst (λ (x : List Entry). IsPlace (rank e) x i) (sym h.second) (found es s t i e b h up) in
    subst (λ (x : List Entry). rank (get_or x i d) ≡ rank e) h.second (h.equal p is d)

inside : (es s t : List Entry) (i : ℕ) (e : Entry) (b : Bool) → Searched es s t i e b → b ≡ true → i < length es
inside es s t i e b h is = subst (λ (x : List Entry). i < length x) h.second (h.here is)

past : (es s t : List Entry) (i : ℕ) (e : Entry) (b : Bool) → Searched es s t i e b → IsRising es → b ≡ false → i < length es → (d : Entry)
    → rank e < rank (get_or es i d)
past es s t i e b h up is l d =
    let p : IsPlace (rank e) t i = subst (λ (x : List Entry). IsPlace (rank e) x i) (sym h.second) (found es s t i e b h up) in
    let m : i < length t = subst (λ (x : List Entry). i < length x) (sym h.second) l in
    subst (λ (x : List Entry). rank e < rank (get_or x i d)) h.second (h.other is m p d)

pub inserts : (es s t : List Entry) (i : ℕ) (e : Entry) (b : Bool) → Searched es s t i e b → b ≡ false → IsRising es → insert es i e ≡ entry_inserted e es
inserts es s t i e b h is up = sym (inserted-at es i e (found es s t i e b h up) (past es s t i e b h up is))

pub keeps : (es s t : List Entry) (i : ℕ) (e : Entry) (b : Bool) → Searched es s t i e b → b ≡ true → IsRising es → es ≡ entry_inserted e es
keeps es s t i e b h is up = sym (inserted-same es i e (found es s t i e b h up) (inside es s t i e b h is) (there es s t i e b h up is))

pub removes : (es s t : List Entry) (i : ℕ) (e : Entry) (b : Bool) → Searched es s t i e b → b ≡ true → IsRising es → remove es i ≡ removed e es
removes es s t i e b h is up = sym (removed-at es i e (found es s t i e b h up) (inside es s t i e b h is) (there es s t i e b h up is))

pub lacks : (es s t : List Entry) (i : ℕ) (e : Entry) (b : Bool) → Searched es s t i e b → b ≡ false → IsRising es → es ≡ removed e es
lacks es s t i e b h is up = sym (removed-same es i e up (found es s t i e b h up) (past es s t i e b h up is))
