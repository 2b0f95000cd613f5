-- Where the items of rings stand.
use Rattle.std.proofs.Common.{◌≡◌, ℕ, ◌+◌, ◌*◌, ◌-◌, ◌%◌, ◌<◌, ◌≤◌, ◌⊎◌, inl, inr, List, []}
use Rattle.std.proofs.Common.{◌∷◌, ◌++◌, length, get_or, set, take, drop, arith, ap, ap₂, sym, ◌∙◌, refl}
use Rattle.std.proofs.Common.{cond, lt-ltb, le-ltb, suc, zero, mod-eq_of_lt, length-drop, length-take-le, get_or-drop, get_or-take}
use native.Mathlib.Nat.{mod-eq-sub-mod}
use Rattle.std.proofs.lemmas.Bool.{cases_lt}
use Rattle.std.proofs.lemmas.Nat.{mod_below}
use Rattle.std.proofs.lemmas.List.{get_or_append_left, get_or-append_right, set-append_left, set-append_right, take-set-le, drop-set-lt, drop-set-add}
use Rattle.tiered_vector.specs.Tiers.{AreTurns, tiered, turned}
use Rattle.tiered_vector.specs.Inside.Slots.{slot_of}
use Rattle.tiered_vector.proofs.Joined.{length-turned}

-- a place goes round the end of a ring once at most
goes_round : (n : ℕ) → n < 2046 → ((n < 1023) × (n % 1023 ≡ n)) ⊎ ((1023 ≤ n) × (n % 1023 ≡ n - 1023))
goes_round n below = elim (cases_lt n 1023) [
  | inl low ↦ inl (low, mod-eq_of_lt low)
  | inr high ↦ inr (high, mod-eq-sub-mod high ∙ mod-eq_of_lt (omega arith))
]

-- the item at a place of a ring
ring_slot : {T : Type 0} (turn : ℕ) (ring : List T) (place : ℕ) (d : T) → length ring ≡ 1023 → turn < 1023 → place < 1023
    → get_or (turned turn ring) place d ≡ get_or ring ((turn + place) % 1023) d
ring_slot turn ring place d is turn_in within =
    let front_length = length-drop turn ring in
    elim (goes_round (turn + place) (omega arith)) [
      | inl low ↦
          get_or_append_left (drop turn ring) (take turn ring) d place (omega arith) ∙ get_or-drop turn ring place d ∙ ap (λ n. get_or ring n d) (sym low.1)
      | inr high ↦
          (let n : ℕ = 1023 - turn in
          let same : place - n ≡ (turn + place) % 1023 = omega arith in
          get_or-append_right (drop turn ring) (take turn ring) n place d (omega arith) (omega arith) ∙ get_or-take turn ring (place - n) d (omega arith)
          ∙ ap (λ m. get_or ring m d) same)
    ]

-- what is put into the first items of a list
take_set : {T : Type 0} (n : ℕ) (xs : List T) (i : ℕ) (x : T) → i < n → take n (set xs i x) ≡ set (take n xs) i x
take_set zero xs i x below = absurd (omega arith)
take_set (suc n) [] i x below = refl
take_set (suc n) (y ∷ ys) zero x below = refl
take_set (suc n) (y ∷ ys) (suc i) x below = ap (λ zs. y ∷ zs) (take_set n ys i x (omega arith))

-- the same, where an item is put there
ring_put : {T : Type 0} (turn : ℕ) (ring : List T) (place : ℕ) (x : T) → length ring ≡ 1023 → turn < 1023 → place < 1023
    → set (turned turn ring) place x ≡ turned turn (set ring ((turn + place) % 1023) x)
ring_put turn ring place x is turn_in within =
    let front_length = length-drop turn ring in
    elim (goes_round (turn + place) (omega arith)) [
      | inl low ↦
          set-append_left (drop turn ring) (take turn ring) place x (omega arith)
          ∙ ap₂ (λ xs ys. xs ++ ys) (sym (drop-set-add turn ring place x)) (sym (take-set-le turn ring (turn + place) x (omega arith)))
          ∙ ap (λ n. turned turn (set ring n x)) (sym low.1)
      | inr high ↦
          (let n : ℕ = 1023 - turn in
          let slot : ℕ = turn + place - 1023 in
          let same : place - n ≡ slot = omega arith in
          let untouched : drop turn (set ring slot x) ≡ drop turn ring = drop-set-lt turn ring slot x (omega arith) in
          set-append_right (drop turn ring) (take turn ring) n place x (omega arith) (omega arith)
          ∙ ap₂ (λ xs ys. xs ++ ys) (sym untouched) (ap (λ m. set (take turn ring) m x) same ∙ sym (take_set turn ring slot x (omega arith)))
          ∙ ap (λ m. turned turn (set ring m x)) (sym high.1))
    ]

-- where it stands in the first ring, and in later ones
in_first : (turn : ℕ) (turns : List ℕ) (place : ℕ) → place < 1023 → slot_of (turn ∷ turns) place ≡ (turn + place) % 1023
in_first turn turns place within =
    ap (λ b. cond b ((turn + place) % 1023) (1023 + slot_of turns (place - 1023))) (lt-ltb place 1023 within)

in_later : (turn : ℕ) (turns : List ℕ) (place : ℕ) → 1023 ≤ place → slot_of (turn ∷ turns) place ≡ 1023 + slot_of turns (place - 1023)
in_later turn turns place past =
    ap (λ b. cond b ((turn + place) % 1023) (1023 + slot_of turns (place - 1023))) (le-ltb place 1023 past)

-- the slot by the number of the ring
pub the_slot : (turns : List ℕ) (ring from place : ℕ) → place ≡ ring * 1023 + from → from < 1023 → ring < length turns
    → ring * 1023 + (get_or turns ring 0 + from) % 1023 ≡ slot_of turns place
the_slot [] ring from place is within some = absurd (omega arith)
the_slot (turn ∷ turns) zero from place is within some =
    let same : from ≡ place = omega arith in
    let here : place < 1023 = omega arith in
    let none : 0 * 1023 + (turn + from) % 1023 ≡ (turn + from) % 1023 = omega arith in
    none ∙ ap (λ n. (turn + n) % 1023) same ∙ sym (in_first turn turns place here)
the_slot (turn ∷ turns) (suc ring) from place is within some =
    let more = the_slot turns ring from (place - 1023) (omega arith) within (omega arith) in
    let past : 1023 ≤ place = omega arith in
    let next : suc ring * 1023 + (get_or turns ring 0 + from) % 1023 ≡ 1023 + (ring * 1023 + (get_or turns ring 0 + from) % 1023) = omega arith in
    next ∙ ap (λ n. 1023 + n) more ∙ sym (in_later turn turns place past)

-- behind the rings
pub the_slot_behind : (turns : List ℕ) (place : ℕ) → length turns * 1023 ≤ place → place ≡ slot_of turns place
the_slot_behind [] place past = refl
the_slot_behind (turn ∷ turns) place past =
    let more = the_slot_behind turns (place - 1023) (omega arith) in
    let there : place ≡ 1023 + (place - 1023) = omega arith in
    there ∙ ap (λ n. 1023 + n) more ∙ sym (in_later turn turns place (omega arith))

-- there is an item
pub slot_within : (turns : List ℕ) (place count : ℕ) → 1023 * length turns ≤ count → place < count → slot_of turns place < count
slot_within [] place count enough within = within
slot_within (turn ∷ turns) place count enough within = elim (cases_lt place 1023) [
  | inl low ↦ (let is = in_first turn turns place low in let below = mod_below (turn + place) 1023 (omega arith) in omega arith)
  | inr high ↦ (let is = in_later turn turns place high in
      let more = slot_within turns (place - 1023) (count - 1023) (omega arith) (omega arith) in omega arith)
]

-- the item at a place
pub item_at : {T : Type 0} (turns : List ℕ) (items : List T) (place : ℕ) (d : T) → AreTurns turns → 1023 * length turns ≤ length items
    → get_or (tiered turns items) place d ≡ get_or items (slot_of turns place) d
item_at [] items place d are enough = refl
item_at (turn ∷ turns) items place d are enough =
    let front = take 1023 items in
    let back = drop 1023 items in
    let front_length : length front ≡ 1023 = length-take-le 1023 items (omega arith) in
    let turned_length = length-turned turn front ∙ front_length in
    let back_length = length-drop 1023 items in
    elim (cases_lt place 1023) [
      | inl low ↦
          (let below = mod_below (turn + place) 1023 (omega arith) in
          get_or_append_left (turned turn front) (tiered turns back) d place (omega arith) ∙ ring_slot turn front place d front_length are.0 low
          ∙ get_or-take 1023 items ((turn + place) % 1023) d below ∙ ap (λ n. get_or items n d) (sym (in_first turn turns place low)))
      | inr high ↦
          get_or-append_right (turned turn front) (tiered turns back) 1023 place d turned_length high
          ∙ item_at turns back (place - 1023) d are.1 (omega arith) ∙ get_or-drop 1023 items (slot_of turns (place - 1023)) d
          ∙ ap (λ n. get_or items n d) (sym (in_later turn turns place high))
    ]

-- an item put in the place of another
pub item_put : {T : Type 0} (turns : List ℕ) (items : List T) (place : ℕ) (x : T) → AreTurns turns → 1023 * length turns ≤ length items
    → tiered turns (set items (slot_of turns place) x) ≡ set (tiered turns items) place x
item_put [] items place x are enough = refl
item_put (turn ∷ turns) items place x are enough =
    let front = take 1023 items in
    let back = drop 1023 items in
    let front_length : length front ≡ 1023 = length-take-le 1023 items (omega arith) in
    let turned_length = length-turned turn front ∙ front_length in
    let back_length = length-drop 1023 items in
    elim (cases_lt place 1023) [
      | inl low ↦
          (let slot : ℕ = (turn + place) % 1023 in
          let below : slot < 1023 = mod_below (turn + place) 1023 (omega arith) in
          ap (λ n. tiered (turn ∷ turns) (set items n x)) (in_first turn turns place low)
          ∙ ap₂ (λ xs ys. turned turn xs ++ tiered turns ys) (take_set 1023 items slot x below) (drop-set-lt 1023 items slot x below)
          ∙ ap (λ xs. xs ++ tiered turns back) (sym (ring_put turn front place x front_length are.0 low))
          ∙ sym (set-append_left (turned turn front) (tiered turns back) place x (omega arith)))
      | inr high ↦
          (let slot : ℕ = slot_of turns (place - 1023) in
          ap (λ n. tiered (turn ∷ turns) (set items n x)) (in_later turn turns place high)
          ∙ ap₂ (λ xs ys. turned turn xs ++ tiered turns ys) (take-set-le 1023 items (1023 + slot) x (omega arith)) (drop-set-add 1023 items slot x)
          ∙ ap (λ xs. turned turn front ++ xs) (item_put turns back (place - 1023) x are.1 (omega arith))
          ∙ sym (set-append_right (turned turn front) (tiered turns back) 1023 place x turned_length high))
    ]
