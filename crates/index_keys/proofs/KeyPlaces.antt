-- Keys that rise: a key put in, and what a search says of its place.
use Rattle.std.proofs.Common.{◌≡◌, ℕ, zero, suc, ◌+◌, ◌<◌, ◌≤◌, List, [], ◌∷◌, ◌++◌}
use Rattle.std.proofs.Common.{length, get_or, refl, sym, ap, subst, ◌∙◌, arith, Bool, true, false, IsTrue}
use Rattle.std.specs.List.{insert, HoldsAt}
use Rattle.index_keys.specs.KeyLists.{KeysRise, with_key}
use Rattle.index_keys.proofs.KeyOrder.{with_front, with_later, with_there}
use Rattle.index_keys.specs.Inside.KeyPlaces.{IsKeyPlace}

-- an element further on
rises_at : (low : ℕ) (keys : List ℕ) (i : ℕ) (d : ℕ) → KeysRise low keys → i < length keys → low ≤ get_or keys i d
rises_at low [] i d r l = absurd (omega arith)
rises_at low (k ∷ keys) zero d r l = r.0
rises_at low (k ∷ keys) (suc i) d r l = let m = rises_at (k + 1) keys i d r.1 (omega arith) in omega (arith, m, r.0)

pub rises_pair : (low : ℕ) (keys : List ℕ) (i j : ℕ) (d : ℕ) → KeysRise low keys → i < j → j < length keys → get_or keys i d < get_or keys j d
rises_pair low [] i j d r l m = absurd (omega arith)
rises_pair low (k ∷ keys) i zero d r l m = absurd (omega arith)
rises_pair low (k ∷ keys) zero (suc j) d r l m = let a = rises_at (k + 1) keys j d r.1 (omega arith) in omega (arith, a)
rises_pair low (k ∷ keys) (suc i) (suc j) d r l m = rises_pair (k + 1) keys i j d r.1 (omega arith) (omega arith)

place_tail : (key x : ℕ) (xs : List ℕ) (i : ℕ) → IsKeyPlace key (x ∷ xs) (suc i) → IsKeyPlace key xs i
place_tail key x xs i p = record {
  in_range = let h = p.in_range in omega arith;
  smaller_before = λ k d h. p.smaller_before (suc k) d (omega arith);
  others_after = λ k d h l. p.others_after (suc k) d (omega arith) (omega arith);
}

-- a key that is not there goes in at its place
with-at : (keys : List ℕ) (i : ℕ) (key : ℕ) → IsKeyPlace key keys i → (i < length keys → (d : ℕ) → key < get_or keys i d)
    → with_key key keys ≡ insert keys i key
with-at [] zero key p o = refl
with-at [] (suc i) key p o = let h = p.in_range in absurd (omega arith)
with-at (x ∷ xs) zero key p o = with_front key x xs (o (omega arith) 0)
with-at (x ∷ xs) (suc i) key p o =
    with_later key x xs (p.smaller_before 0 0 (omega arith))
    ∙ ap (λ (r : List ℕ). x ∷ r) (with-at xs i key (place_tail key x xs i p) (λ h d. o (omega arith) d))

-- a key that is there stays
with-same : (keys : List ℕ) (i : ℕ) (key : ℕ) → IsKeyPlace key keys i → i < length keys → ((d : ℕ) → get_or keys i d ≡ key) → with_key key keys ≡ keys
with-same [] i key p l o = absurd (omega arith)
with-same (x ∷ xs) zero key p l o = with_there key x xs (o 0)
with-same (x ∷ xs) (suc i) key p l o =
    with_later key x xs (p.smaller_before 0 0 (omega arith))
    ∙ ap (λ (r : List ℕ). x ∷ r) (with-same xs i key (place_tail key x xs i p) (omega arith) (λ d. o d))

-- what is known of a list `keys`, lent to the search as `s` and to the test as `t`, of the place `i` and of the test's answer `b`
pub record Searched (keys s t : List ℕ) (i : ℕ) (key : ℕ) (b : Bool) : Type 0 where
  pub first : s ≡ keys
  pub second : t ≡ keys
  pub place : KeysRise 0 s → IsKeyPlace key s i
  pub here : IsTrue b → i < length t
  pub equal : IsKeyPlace key t i → IsTrue b → HoldsAt (λ x. x ≡ key) t i
  pub other : b ≡ false → i < length t → IsKeyPlace key t i → HoldsAt (λ x. key < x) t i

found : (keys s t : List ℕ) (i : ℕ) (key : ℕ) (b : Bool) → Searched keys s t i key b → KeysRise 0 keys → IsKeyPlace key t i
found keys s t i key b h up =
    subst (λ (x : List ℕ). IsKeyPlace key x i) (h.first ∙ sym h.second) (h.place (subst (λ (x : List ℕ). KeysRise 0 x) (sym h.first) up))

pub adds : (keys s t more : List ℕ) (i : ℕ) (key : ℕ) (b : Bool) → Searched keys s t i key b → b ≡ false → more ≡ insert keys i key → KeysRise 0 keys
    → more ≡ with_key key keys
adds keys s t more i key b h is e up = e
    ∙ subst (λ (x : List ℕ). insert x i key ≡ with_key key x) h.second
    (sym (with-at t i key (found keys s t i key b h up) (λ l d. h.other is l (found keys s t i key b h up) d)))

pub keeps : (keys s t : List ℕ) (i : ℕ) (key : ℕ) (b : Bool) → Searched keys s t i key b → b ≡ true → KeysRise 0 keys → keys ≡ with_key key keys
keeps keys s t i key b h is up =
    subst (λ (x : List ℕ). x ≡ with_key key x) h.second
    (sym (with-same t i key (found keys s t i key b h up) (h.here is) (λ d. h.equal (found keys s t i key b h up) is d)))

-- behind the others
with_last : (keys : List ℕ) (key : ℕ) → IsKeyPlace key keys (length keys) → with_key key keys ≡ keys ++ key ∷ []
with_last [] key p = refl
with_last (x ∷ xs) key p =
    with_later key x xs (p.smaller_before 0 0 (omega arith))
    ∙ ap (λ (r : List ℕ). x ∷ r) (with_last xs key (place_tail key x xs (length xs) p))

pub puts_last : (keys s more : List ℕ) (i : ℕ) (key : ℕ) → s ≡ keys → (KeysRise 0 s → IsKeyPlace key s i) → i ≡ length keys → more ≡ keys ++ key ∷ []
    → KeysRise 0 keys → more ≡ with_key key keys
puts_last keys s more i key first place last e up =
    let at : IsKeyPlace key s i = place (subst (λ (x : List ℕ). KeysRise 0 x) (sym first) up) in
    let own : IsKeyPlace key keys i = subst (λ (x : List ℕ). IsKeyPlace key x i) first at in
    e ∙ sym (with_last keys key (subst (λ (n : ℕ). IsKeyPlace key keys n) last own))
