-- Keys in rising order: what is among them, and that one list alone has them.
use Rattle.std.proofs.Common.{◌≡◌, ◌⊎◌, ℕ, ◌+◌, ◌≤◌, List, [], ◌∷◌, arith, inl, inr, refl, subst}
use Rattle.std.specs.List.{Contains}
use Rattle.std.proofs.lemmas.Bool.{cases_lt}
use Rattle.index_keys.specs.Holdings.{SameMembers}
use Rattle.index_keys.specs.KeyLists.{KeysRise, with_key, rising_keys}
use Rattle.index_keys.proofs.KeyOrder.{with_front, with_later, with_there, with_new, with_old}
use Rattle.index_keys.proofs.Members.{contains_first, contains_later, contains_cases, contains_none}

-- what is among the keys then
with_back : (key : ℕ) (keys : List ℕ) (one : ℕ) → Contains (with_key key keys) one → (key ≡ one) ⊎ Contains keys one
with_back key [] one h = elim (contains_cases key [] one h) [ inl s ↦ inl s | inr n ↦ absurd (contains_none one n) ]
with_back key (other ∷ keys) one h = elim (cases_lt key other) [
  | inl front ↦ contains_cases key (other ∷ keys) one (rw (with_front key other keys front) at h)
  | inr rest ↦ elim (cases_lt other key) [
    | inl later ↦ elim (contains_cases other (with_key key keys) one (rw (with_later key other keys later) at h)) [
      | inl here ↦ inr (subst (λ (n : ℕ). Contains (other ∷ keys) n) here (contains_first other keys))
      | inr l ↦ elim (with_back key keys one l) [ inl s ↦ inl s | inr m ↦ inr (contains_later other keys one m) ]
    ]
    | inr there ↦ inr (rw (with_there key other keys (omega arith)) at h)
  ]
]

forth : (keys : List ℕ) (one : ℕ) → Contains keys one → Contains (rising_keys keys) one
forth [] one h = h
forth (key ∷ keys) one h = elim (contains_cases key keys one h) [
  | inl here ↦ subst (λ (n : ℕ). Contains (with_key key (rising_keys keys)) n) here (with_new key (rising_keys keys))
  | inr l ↦ with_old key (rising_keys keys) one (forth keys one l)
]

back : (keys : List ℕ) (one : ℕ) → Contains (rising_keys keys) one → Contains keys one
back [] one h = h
back (key ∷ keys) one h = elim (with_back key (rising_keys keys) one h) [
  | inl here ↦ subst (λ (n : ℕ). Contains (key ∷ keys) n) here (contains_first key keys)
  | inr l ↦ contains_later key keys one (back keys one l)
]

pub keys_held : (keys : List ℕ) → SameMembers keys (rising_keys keys)
keys_held keys = record { forth = forth keys; back = back keys }

-- a key among keys that rise
pub rises_over : (low : ℕ) (ns : List ℕ) (n : ℕ) → KeysRise low ns → Contains ns n → low ≤ n
rises_over low [] n r h = absurd (contains_none n h)
rises_over low (m ∷ ms) n r h = elim (contains_cases m ms n h) [
  | inl here ↦ let l = r.0 in omega arith
  | inr later ↦ let o = rises_over (m + 1) ms n r.1 later in let l = r.0 in omega arith
]

-- two lists that rise and have the same members are the same
pub same_rising : (low : ℕ) (xs ys : List ℕ) → KeysRise low xs → KeysRise low ys
    → ((n : ℕ) → Contains xs n → Contains ys n) → ((n : ℕ) → Contains ys n → Contains xs n) → xs ≡ ys
same_rising low [] [] r s f b = refl
same_rising low [] (y ∷ ys) r s f b = absurd (contains_none y (b y (contains_first y ys)))
same_rising low (x ∷ xs) [] r s f b = absurd (contains_none x (f x (contains_first x xs)))
same_rising low (x ∷ xs) (y ∷ ys) r s f b =
    let over : y ≤ x = elim (contains_cases y ys x (f x (contains_first x xs))) [
      | inl e ↦ omega arith
      | inr k ↦ let o = rises_over (y + 1) ys x s.1 k in omega arith
    ] in
    let under : x ≤ y = elim (contains_cases x xs y (b y (contains_first y ys))) [
      | inl e ↦ omega arith
      | inr k ↦ let o = rises_over (x + 1) xs y r.1 k in omega arith
    ] in
    let e : x ≡ y = omega arith in
    let s2 : KeysRise (x + 1) ys = rw e s.1 in
    let on : (n : ℕ) → Contains xs n → Contains ys n = λ n h. elim (contains_cases y ys n (f n (contains_later x xs n h))) [
      | inl k ↦ absurd (let o = rises_over (x + 1) xs n r.1 h in omega arith)
      | inr k ↦ k
    ] in
    let off : (n : ℕ) → Contains ys n → Contains xs n = λ n h. elim (contains_cases x xs n (b n (contains_later y ys n h))) [
      | inl k ↦ absurd (let o = rises_over (y + 1) ys n s.1 h in omega arith)
      | inr k ↦ k
    ] in
    let rest : xs ≡ ys = same_rising (x + 1) xs ys r.1 s2 on off in
    cc
