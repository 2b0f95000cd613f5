-- Rings put one behind another, and their items.
use Rattle.std.proofs.Common.{◌≡◌, ℕ, ◌+◌, ◌*◌, ◌-◌, ◌<◌, ◌≤◌, List, [], ◌∷◌, ◌++◌, length, get_or}
use Rattle.std.proofs.Common.{take, drop, replicate, arith, ap, ap₂, sym, ◌∙◌, refl, append-nil, suc, zero}
use Rattle.std.proofs.Common.{append_assoc, length-append, length-drop, take-append-drop}
use Rattle.std.proofs.lemmas.List.{get_or-append_right, take-append-le, drop-append-le, nil_from_length}
use Rattle.std.proofs.lemmas.List.Edits.{remove-append_right, insert-append_right}
use Rattle.std.specs.List.{insert, remove}
use Rattle.tiered_vector.specs.Tiers.{AreTurns, tiered, turned}

-- rings with others behind them
pub rings_joined : {T : Type 0} (before after : List ℕ) (xs ys : List T) → length xs ≡ 1023 * length before
    → tiered (before ++ after) (xs ++ ys) ≡ tiered before xs ++ tiered after ys
rings_joined [] after xs ys is =
    let none : xs ≡ [] = nil_from_length xs (omega arith) in
    ap (λ zs. tiered after (zs ++ ys)) none ∙ ap (λ zs. zs ++ tiered after ys) (sym none)
rings_joined (turn ∷ before) after xs ys is =
    let front = take-append-le 1023 xs ys (omega arith) in
    let back = drop-append-le 1023 xs ys (omega arith) in
    let more = rings_joined before after (drop 1023 xs) ys (length-drop 1023 xs ∙ omega arith) in
    ap₂ (λ zs ws. turned turn zs ++ tiered (before ++ after) ws) front back ∙ ap (λ zs. turned turn (take 1023 xs) ++ zs) more
    ∙ sym (append_assoc (turned turn (take 1023 xs)) (tiered before (drop 1023 xs)) (tiered after ys))

-- as many items as there were
pub length-turned : {T : Type 0} (turn : ℕ) (xs : List T) → length (turned turn xs) ≡ length xs
length-turned turn xs =
    length-append (drop turn xs) (take turn xs) ∙ (let whole = ap length (take-append-drop turn xs) in let parts = length-append (take turn xs)
    (drop turn xs) in omega arith)

pub length-tiered : {T : Type 0} (turns : List ℕ) (xs : List T) → length (tiered turns xs) ≡ length xs
length-tiered [] xs = refl
length-tiered (turn ∷ turns) xs =
    let front = length-turned turn (take 1023 xs) in
    let back = length-tiered turns (drop 1023 xs) in
    let whole = ap length (take-append-drop 1023 xs) in
    let parts = length-append (take 1023 xs) (drop 1023 xs) in
    length-append (turned turn (take 1023 xs)) (tiered turns (drop 1023 xs)) ∙ omega arith

-- rings that are not turned
pub straight_rings : {T : Type 0} (count : ℕ) (xs : List T) → tiered (replicate count 0) xs ≡ xs
straight_rings zero xs = refl
straight_rings (suc count) xs =
    ap₂ (λ ys zs. ys ++ zs) (append-nil (take 1023 xs)) (straight_rings count (drop 1023 xs)) ∙ take-append-drop 1023 xs

pub more_straight_rings : {T : Type 0} (turns : List ℕ) (count : ℕ) (xs : List T) → tiered (turns ++ replicate count 0) xs ≡ tiered turns xs
more_straight_rings [] count xs = straight_rings count xs
more_straight_rings (turn ∷ turns) count xs = ap (λ zs. turned turn (take 1023 xs) ++ zs) (more_straight_rings turns count (drop 1023 xs))

module _ {T : Type 0} (turns before after after' : List ℕ) (items xs ys ys' : List T) (turns_are : turns ≡ before ++ after) (items_are : items ≡ xs ++ ys)
    (is : length xs ≡ 1023 * length before) (place from : ℕ) (place_is : place ≡ length xs + from) (within : from < length ys) where
  -- an item of rings behind others
  pub item_behind : (d : T) → get_or (tiered after ys) from d ≡ get_or (tiered turns items) place d
  item_behind d =
      let front = tiered before xs in
      let front_length = length-tiered before xs in
      let was = ap₂ tiered turns_are items_are ∙ rings_joined before after xs ys is in
      let past : length xs ≤ place = omega arith in
      let there : place - length xs ≡ from = omega arith in
      ap (λ n. get_or (tiered after ys) n d) (sym there) ∙ sym (get_or-append_right front (tiered after ys) (length xs) place d front_length past)
      ∙ ap (λ zs. get_or zs place d) (sym was)

  -- an item gone from rings behind others
  pub gone_behind : (last : T) → tiered after' ys' ≡ remove (tiered after ys) from ++ last ∷ []
      → tiered (before ++ after') (xs ++ ys') ≡ remove (tiered turns items) place ++ last ∷ []
  gone_behind last gone =
      let front = tiered before xs in
      let front_length = length-tiered before xs in
      let back_length = length-tiered after ys in
      let was = ap₂ tiered turns_are items_are ∙ rings_joined before after xs ys is in
      let taken = ap (λ zs. remove zs place) was ∙ remove-append_right front (tiered after ys) (length xs) place front_length (omega arith)
      ∙ ap (λ n. front ++ remove (tiered after ys) n) (omega arith) in
      rings_joined before after' xs ys' is ∙ ap (λ zs. front ++ zs) gone ∙ sym (append_assoc front (remove (tiered after ys) from) (last ∷ []))
      ∙ ap (λ zs. zs ++ last ∷ []) (sym taken)

  -- an item come into rings behind others
  pub come_behind : (item last : T) → insert (tiered after ys) from item ≡ tiered after' ys' ++ last ∷ []
      → insert (tiered turns items) place item ≡ tiered (before ++ after') (xs ++ ys') ++ last ∷ []
  come_behind item last come =
      let front = tiered before xs in
      let front_length = length-tiered before xs in
      let was = ap₂ tiered turns_are items_are ∙ rings_joined before after xs ys is in
      ap (λ zs. insert zs place item) was ∙ insert-append_right front (tiered after ys) (length xs) place item front_length (omega arith)
      ∙ ap (λ n. front ++ insert (tiered after ys) n item) (omega arith) ∙ ap (λ zs. front ++ zs) come
      ∙ sym (append_assoc front (tiered after' ys') (last ∷ [])) ∙ ap (λ zs. zs ++ last ∷ []) (sym (rings_joined before after' xs ys' is))

-- items put behind
pub items_put_behind : {T : Type 0} (turns : List ℕ) (xs ys : List T) → 1023 * length turns ≤ length xs → tiered turns (xs ++ ys) ≡ tiered turns xs ++ ys
items_put_behind [] xs ys enough = refl
items_put_behind (turn ∷ turns) xs ys enough =
    let front = take-append-le 1023 xs ys (omega arith) in
    let back = drop-append-le 1023 xs ys (omega arith) in
    let left = length-drop 1023 xs in
    let more = items_put_behind turns (drop 1023 xs) ys (omega arith) in
    ap₂ (λ zs ws. turned turn zs ++ tiered turns ws) front back ∙ ap (λ zs. turned turn (take 1023 xs) ++ zs) more
    ∙ sym (append_assoc (turned turn (take 1023 xs)) (tiered turns (drop 1023 xs)) ys)

-- rings that are not turned put behind
pub are_turns_more : (turns : List ℕ) (count : ℕ) → AreTurns turns → AreTurns (turns ++ replicate count 0)
are_turns_more [] zero are = tt
are_turns_more [] (suc count) are = (omega arith, are_turns_more [] count are)
are_turns_more (turn ∷ turns) count are = (are.0, are_turns_more turns count are.1)

pub are_turns_first : (turns : List ℕ) (count : ℕ) → AreTurns turns → AreTurns (take count turns)
are_turns_first turns zero are = tt
are_turns_first [] (suc count) are = tt
are_turns_first (turn ∷ turns) (suc count) are = (are.0, are_turns_first turns count are.1)
