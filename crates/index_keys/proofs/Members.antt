-- Members of lists.
use Rattle.std.proofs.Common.{◌≡◌, ◌⊎◌, zero, suc, List, [], ◌∷◌, ◌++◌, Bool, true, false, cond}
use Rattle.std.proofs.Common.{map, inl, inr, refl, sym, ap, ◌∙◌, arith, subst}
use Rattle.std.specs.List.{AllByRecursion, Contains, filter}

-- the first element, one further on, and which of the two an element is
pub contains_first : {X : Type 0} (x : X) (xs : List X) → Contains (x ∷ xs) x
contains_first x xs = (0, omega arith, refl)

pub contains_later : {X : Type 0} (y : X) (xs : List X) (x : X) → Contains xs x
    → Contains (y ∷ xs) x
contains_later y xs x h = (suc h.0, (let l = h.1 in omega arith), h.2)

pub contains_cases : {X : Type 0} (y : X) (xs : List X) (x : X) → Contains (y ∷ xs) x
    → (y ≡ x) ⊎ Contains xs x
contains_cases y xs x (zero, l, e) = inl e
contains_cases y xs x (suc k, l, e) = inr (k, omega arith, e)

pub contains_none : {X : Type 0} (x : X) → Contains {X = X} [] x → ⊥
contains_none x (k, l, e) = omega arith

-- two lists end to end
pub contains_left : {X : Type 0} (xs ys : List X) (x : X) → Contains xs x → Contains (xs ++ ys) x
contains_left [] ys x h = absurd (contains_none x h)
contains_left {X} (z ∷ zs) ys x h = elim (contains_cases z zs x h) [
  | inl e ↦ subst (λ (y : X). Contains (z ∷ (zs ++ ys)) y) e (contains_first z (zs ++ ys))
  | inr l ↦ contains_later z (zs ++ ys) x (contains_left zs ys x l)
]

pub contains_right : {X : Type 0} (xs ys : List X) (x : X) → Contains ys x → Contains (xs ++ ys) x
contains_right [] ys x h = h
contains_right (z ∷ zs) ys x h = contains_later z (zs ++ ys) x (contains_right zs ys x h)

pub contains_either : {X : Type 0} (xs ys : List X) (x : X) → Contains (xs ++ ys) x
    → Contains xs x ⊎ Contains ys x
contains_either [] ys x h = inr h
contains_either {X} (z ∷ zs) ys x h = elim (contains_cases z (zs ++ ys) x h) [
  | inl e ↦ inl (subst (λ (y : X). Contains (z ∷ zs) y) e (contains_first z zs))
  | inr l ↦ elim (contains_either zs ys x l) [
    | inl a ↦ inl (contains_later z zs x a)
    | inr b ↦
        inr b
  ]
]

-- what holds of each element
pub each_of : {X : Type 0} (P : X → Type 0) (xs : List X) (x : X) → AllByRecursion P xs
    → Contains xs x → P x
each_of P [] x all c = absurd (contains_none x c)
each_of {X} P (y ∷ xs) x all c =
    elim (contains_cases y xs x c) [ inl e ↦ subst P e all.0 | inr l ↦ each_of P xs x all.1 l ]

pub for_each : {X : Type 0} (P : X → Type 0) (xs : List X) → ((x : X) → Contains xs x → P x)
    → AllByRecursion P xs
for_each P [] f = tt
for_each P (y ∷ xs) f =
    (f y (contains_first y xs), for_each P xs (λ x c. f x (contains_later y xs x c)))

-- a function of each element
pub contains_map : {X Y : Type 0} (f : X → Y) (xs : List X) (x : X) → Contains xs x
    → Contains (map f xs) (f x)
contains_map f [] x h = absurd (contains_none x h)
contains_map {X} {Y} f (y ∷ ys) x h = elim (contains_cases y ys x h) [
  | inl here ↦ subst (λ (z : Y). Contains (f y ∷ map f ys) z) (ap f here)
      (contains_first (f y) (map f ys))
  | inr later ↦ contains_later (f y) (map f ys) (f x) (contains_map f ys x later)
]

-- a filter and a map at the front
pub true_or_false : (b : Bool) → (b ≡ true) ⊎ (b ≡ false)
true_or_false true = inl refl
true_or_false false = inr refl

pub kept_front : {X Y : Type 0} (p : X → Bool) (f : X → Y) (x : X) (xs : List X) → p x ≡ true
    → map f (filter p (x ∷ xs)) ≡ f x ∷ map f (filter p xs)
kept_front {X} {Y} p f x xs e = ap (λ (b : Bool). map f (cond b (x ∷ filter p xs) (filter p xs))) e

pub dropped_front : {X Y : Type 0} (p : X → Bool) (f : X → Y) (x : X) (xs : List X) → p x ≡ false
    → map f (filter p (x ∷ xs)) ≡ map f (filter p xs)
dropped_front {X} {Y} p f x xs e =
    ap (λ (b : Bool). map f (cond b (x ∷ filter p xs) (filter p xs))) e

-- an element that passes a test, through a filter and a map
pub contains_kept : {X Y : Type 0} (p : X → Bool) (f : X → Y) (xs : List X) (x : X) → Contains xs x
    → p x ≡ true → Contains (map f (filter p xs)) (f x)
contains_kept p f [] x h is = absurd (contains_none x h)
contains_kept {X} {Y} p f (y ∷ ys) x h is = elim (contains_cases y ys x h) [
  | inl here ↦
      let t : p y ≡ true = ap p here ∙ is in
      let e : map f (filter p (y ∷ ys)) ≡ f x ∷ map f (filter p ys) = kept_front p f y ys t
      ∙ ap (λ (z : X). f z ∷ map f (filter p ys)) here in
      subst (λ (l : List Y). Contains l (f x)) (sym e) (contains_first (f x) (map f (filter p ys)))
  | inr later ↦
      let r = contains_kept p f ys x later is in
      elim (true_or_false (p y)) [
        | inl t ↦ subst (λ (l : List Y). Contains l (f x)) (sym (kept_front p f y ys t))
            (contains_later (f y) (map f (filter p ys)) (f x) r)
        | inr t ↦ subst (λ (l : List Y). Contains l (f x)) (sym (dropped_front p f y ys t)) r
      ]
]

-- what stands in a filter and a map comes from an element that passes
pub record Source {X Y : Type 0} (p : X → Bool) (f : X → Y) (xs : List X) (y : Y) : Type 0 where
  pub of : X
  pub among : Contains xs of
  pub passes : p of ≡ true
  pub gives : f of ≡ y

source_later : {X Y : Type 0} (p : X → Bool) (f : X → Y) (x : X) (xs : List X) (y : Y)
    → Source p f xs y → Source p f (x ∷ xs) y
source_later p f x xs y s =
    record {
      of = s.of;
      among = contains_later x xs s.of s.among;
      passes = s.passes;
      gives =
          s.gives;
    }

pub contains_source : {X Y : Type 0} (p : X → Bool) (f : X → Y) (xs : List X) (y : Y)
    → Contains (map f (filter p xs)) y → Source p f xs y
contains_source p f [] y h = absurd (contains_none y h)
contains_source {X} {Y} p f (x ∷ xs) y h = elim (true_or_false (p x)) [
  | inl t ↦ elim (contains_cases (f x) (map f (filter p xs)) y
      (subst (λ (l : List Y). Contains l y) (kept_front p f x xs t) h)) [
        | inl here ↦ record { of = x; among = contains_first x xs; passes = t; gives = here }
        | inr later ↦ source_later p f x xs y (contains_source p f xs y later)
      ]
  | inr t ↦ source_later p f x xs y
      (contains_source p f xs y (subst (λ (l : List Y). Contains l y) (dropped_front p f x xs t) h))
]
