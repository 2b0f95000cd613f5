-- Keys in rising order, each once: they rise, and each key that was put in is among them.
use Rattle.std.proofs.Common.{◌≡◌, ℕ, zero, suc, ◌+◌, ◌<◌, ◌≤◌, List, [], ◌∷◌, inl, inr, subst, map}
use Rattle.std.proofs.Common.{arith}
use Rattle.std.proofs.lemmas.Bool.{cases_lt}
use Rattle.std.proofs.lemmas.Bool.Decides.{nat_tests}
use Rattle.std.specs.List.{Contains}
use Rattle.index_keys.specs.KeyLists.{KeysRise, with_key, rising_keys}
use Rattle.index_keys.proofs.Members.{contains_first, contains_later}

-- the three cases of `with_key`
pub with_front : (key other : ℕ) (keys : List ℕ) → key < other
    → with_key key (other ∷ keys) ≡ key ∷ other ∷ keys
with_front key other keys h = grind (arith, nat_tests)

pub with_later : (key other : ℕ) (keys : List ℕ) → other < key
    → with_key key (other ∷ keys) ≡ other ∷ with_key key keys
with_later key other keys h = grind (arith, nat_tests)

pub with_there : (key other : ℕ) (keys : List ℕ) → other ≡ key
    → with_key key (other ∷ keys) ≡ other ∷ keys
with_there key other keys h = grind (arith, nat_tests)

-- a key more leaves keys that rise
pub with_rises : (low key : ℕ) (keys : List ℕ) → low ≤ key → KeysRise low keys
    → KeysRise low (with_key key keys)
with_rises low key [] l r = (l, tt)
with_rises low key (other ∷ keys) l r = elim (cases_lt key other) [
  | inl front ↦ rw (with_front key other keys front) (l, (omega arith, r.1))
  | inr rest ↦ elim (cases_lt other key) [
    | inl later ↦ rw (with_later key other keys later)
        (r.0, with_rises (other + 1) key keys (omega arith) r.1)
    | inr there ↦ rw (with_there key other keys (omega arith)) r
  ]
]

pub keys_rise : (keys : List ℕ) → KeysRise 0 (rising_keys keys)
keys_rise [] = tt
keys_rise (key ∷ keys) = with_rises 0 key (rising_keys keys) (omega arith) (keys_rise keys)

-- the key that is put in, and those before it
pub with_new : (key : ℕ) (keys : List ℕ) → Contains (with_key key keys) key
with_new key [] = contains_first key []
with_new key (other ∷ keys) = elim (cases_lt key other) [
  | inl front ↦ rw (with_front key other keys front) (contains_first key (other ∷ keys))
  | inr rest ↦ elim (cases_lt other key) [
    | inl later ↦ rw (with_later key other keys later)
        (contains_later other (with_key key keys) key (with_new key keys))
    | inr there ↦
        let same : other ≡ key = omega arith in
        rw (with_there key other keys same)
        (subst (λ (n : ℕ). Contains (other ∷ keys) n) same (contains_first other keys))
  ]
]

pub with_old : (key : ℕ) (keys : List ℕ) (one : ℕ) → Contains keys one
    → Contains (with_key key keys) one
with_old key [] one c = absurd (let l = c.1 in omega arith)
with_old key (other ∷ keys) one c = elim (cases_lt key other) [
  | inl front ↦ rw (with_front key other keys front) (contains_later key (other ∷ keys) one c)
  | inr rest ↦ elim (cases_lt other key) [
    | inl later ↦ rw (with_later key other keys later)
        (behind other keys (with_key key keys) one c (with_old key keys one))
    | inr there ↦ rw (with_there key other keys (omega arith)) c
  ]
]
  where
    behind : (other : ℕ) (keys more : List ℕ) (one : ℕ) → Contains (other ∷ keys) one
        → (Contains keys one → Contains more one) → Contains (other ∷ more) one
    behind other keys more one (zero, l, e) f = (0, omega arith, e)
    behind other keys more one (suc k, l, e) f =
        contains_later other more one (f (k, omega arith, e))

-- the key of each element is among the keys of all
pub rising_has : {X : Type 0} (key_of : X → ℕ) (xs : List X) (x : X) → Contains xs x
    → Contains (rising_keys (map key_of xs)) (key_of x)
rising_has key_of [] x c = absurd (let l = c.1 in omega arith)
rising_has key_of (y ∷ ys) x (zero, l, e) =
    subst (λ z. Contains (with_key (key_of y) (rising_keys (map key_of ys))) (key_of z)) e
    (with_new (key_of y) (rising_keys (map key_of ys)))
rising_has key_of (y ∷ ys) x (suc k, l, e) =
    with_old (key_of y) (rising_keys (map key_of ys)) (key_of x)
    (rising_has key_of ys x (k, omega arith, e))
