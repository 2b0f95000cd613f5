-- Lists of which each element has a property, and what they contain.
use Rattle.std.proofs.Common.{◌≡◌, ◌⊎◌, inl, inr, ℕ, zero, suc, List, [], ◌∷◌, ◌++◌, refl, subst, arith}
use Rattle.std.specs.List.{AllByRecursion, Contains}
use Rattle.tune_pages.specs.Frame.{Apart, AllApart}
use Rattle.tune_pages.proofs.Marks.{contains_none}

-- LISTS OF WHICH EACH HAS A PROPERTY
module _ {X : Type 0} (P : X → Type 0) where
  pub all_left : (xs ys : List X) → AllByRecursion P (xs ++ ys) → AllByRecursion P xs
  all_left [] ys all = tt
  all_left (x ∷ xs) ys all = (all.0, all_left xs ys all.1)

  pub all_right : (xs ys : List X) → AllByRecursion P (xs ++ ys) → AllByRecursion P ys
  all_right [] ys all = all
  all_right (x ∷ xs) ys all = all_right xs ys all.1

  pub all_join : (xs ys : List X) → AllByRecursion P xs → AllByRecursion P ys → AllByRecursion P (xs ++ ys)
  all_join [] ys all also = also
  all_join (x ∷ xs) ys all also = (all.0, all_join xs ys all.1 also)

pub all_map : {X : Type 0} (P Q : X → Type 0) → ((x : X) → P x → Q x) → (xs : List X) → AllByRecursion P xs → AllByRecursion Q xs
all_map P Q f [] all = tt
all_map P Q f (x ∷ xs) all = (f x all.0, all_map P Q f xs all.1)

-- WHAT A LIST CONTAINS
pub contains_first : (x : ℕ) (xs : List ℕ) → Contains (x ∷ xs) x
contains_first x xs = (0, omega arith, refl)

pub contains_later : (y : ℕ) (xs : List ℕ) (x : ℕ) → Contains xs x → Contains (y ∷ xs) x
contains_later y xs x h = (suc h.0, (let l = h.1 in omega arith), h.2)

pub contains_cases : (y : ℕ) (xs : List ℕ) (x : ℕ) → Contains (y ∷ xs) x → (y ≡ x) ⊎ Contains xs x
contains_cases y xs x (zero, l, e) = inl e
contains_cases y xs x (suc k, l, e) = inr (k, omega arith, e)

-- what holds of each holds of those that it contains, and the other way round
pub each_of : (P : ℕ → Type 0) (xs : List ℕ) (x : ℕ) → AllByRecursion P xs → Contains xs x → P x
each_of P [] x all c = absurd (contains_none x c)
each_of P (y ∷ xs) x all c = elim (contains_cases y xs x c) [ inl e ↦ subst P e all.0 | inr l ↦ each_of P xs x all.1 l ]

pub for_each : (P : ℕ → Type 0) (xs : List ℕ) → ((x : ℕ) → Contains xs x → P x) → AllByRecursion P xs
for_each P [] f = tt
for_each P (y ∷ xs) f = (f y (contains_first y xs), for_each P xs (λ x c. f x (contains_later y xs x c)))

pub apart_each : (xs ys : List ℕ) → ((x : ℕ) → Contains xs x → Apart x ys) → AllApart xs ys
apart_each [] ys f = tt
apart_each (y ∷ xs) ys f = (f y (contains_first y xs), apart_each xs ys (λ x c. f x (contains_later y xs x c)))
