-- Rings, and what stands behind them.
use Rattle.std.proofs.Common.{◌≡◌, ℕ, ◌+◌, ◌*◌, ◌-◌, ◌<◌, ◌≤◌, List, [], ◌∷◌, ◌++◌, length, get_or, take, drop, arith, ap, ap₂, sym, ◌∙◌, append-nil, suc}
use Rattle.std.proofs.Common.{append_assoc, length-take-le, refl, set, take-append-drop}
use Rattle.std.proofs.lemmas.List.{get_or_append_left, drop_all, drop_more, drop_at, take_all, take_at}
use Rattle.std.proofs.lemmas.List.Edits.{remove-append_left, remove-append_right, insert-append_left, insert-append_right}
use Rattle.std.specs.List.{insert, remove}
use Rattle.tiered_vector.specs.Tiers.{tiered, turned}
use Rattle.tiered_vector.proofs.Joined.{length-tiered, rings_joined}

-- what stands behind rings stays as it is
pub items_behind : {T : Type 0} (turns : List ℕ) (xs ys : List T) → length xs ≡ 1023 * length turns → tiered turns (xs ++ ys) ≡ tiered turns xs ++ ys
items_behind turns xs ys is = ap (λ all. tiered all (xs ++ ys)) (sym (append-nil turns)) ∙ rings_joined turns [] xs ys is

module _ {T : Type 0} (turns : List ℕ) (items : List T) (most : ℕ) (most_is : most ≡ 1023 * length turns) (enough : most ≤ length items) where
  -- rings, and the items behind them
  whole : tiered turns items ≡ tiered turns (take most items) ++ drop most items
  whole =
      ap (λ xs. tiered turns xs) (sym (take-append-drop most items))
      ∙ items_behind turns (take most items) (drop most items) (length-take-le most items enough ∙ most_is)

  -- an item of the rings alone
  pub item_before : (rings : List T) (place : ℕ) (d : T) → rings ≡ take most items → place < most → get_or (tiered turns rings) place d ≡ get_or
      (tiered turns items) place d
  item_before rings place d are within =
      let front = tiered turns (take most items) in
      let front_length = length-tiered turns (take most items) in
      let count = length-take-le most items enough in
      ap (λ xs. get_or (tiered turns xs) place d) are ∙ sym (get_or_append_left front (drop most items) d place (omega arith))
      ∙ ap (λ xs. get_or xs place d) (sym whole)

  -- an item gone from behind
  pub gone_from_behind : (place : ℕ) → most ≤ place → place < length items → tiered turns (remove items place) ≡ remove (tiered turns items) place
  gone_from_behind place past within =
      let front = take most items in
      let back = drop most items in
      let front_length = length-take-le most items enough in
      let left = ap (λ xs. remove xs place) (sym (take-append-drop most items)) ∙ remove-append_right front back most place front_length past in
      let right = ap (λ xs. remove xs place) whole
      ∙ remove-append_right (tiered turns front) back most place (length-tiered turns front ∙ front_length) past in
      ap (λ xs. tiered turns xs) left ∙ items_behind turns front (remove back (place - most)) (front_length ∙ most_is) ∙ sym right

  -- an item come behind
  pub come_from_behind : (place : ℕ) (item : T) → most ≤ place → place ≤ length items → tiered turns (insert items place item) ≡ insert
      (tiered turns items) place item
  come_from_behind place item past within =
      let front = take most items in
      let back = drop most items in
      let front_length = length-take-le most items enough in
      let left = ap (λ xs. insert xs place item) (sym (take-append-drop most items)) ∙ insert-append_right front back most place item front_length past in
      let right = ap (λ xs. insert xs place item) whole
      ∙ insert-append_right (tiered turns front) back most place item (length-tiered turns front ∙ front_length) past in
      ap (λ xs. tiered turns xs) left ∙ items_behind turns front (insert back (place - most) item) (front_length ∙ most_is) ∙ sym right

  module _ (turns' : List ℕ) (rings rings' rest : List T) (place : ℕ) (last : T) (within : place < most) (turns_length : length turns' ≡ length turns)
      (rings_length : length rings' ≡ most) where
    -- an item gone from rings, where the first item from behind them came
    pub gone_before : most < length items → last ≡ get_or items most last → rings ≡ take most (remove items most) → rest ≡ drop most (remove items most)
        → tiered turns' rings' ≡ remove (tiered turns rings) place ++ last ∷ []
        → tiered turns' (rings' ++ rest) ≡ remove (tiered turns items) place
    gone_before some last_is rings_are rest_is gone =
        let front_length = length-take-le most items enough in
        let left = take most items in
        let front : rings ≡ left = rings_are ∙ take_at left (drop (suc most) items) most front_length in
        let next : suc most ≡ most + 1 = omega arith in
        let back : rest ≡ drop (most + 1) items =
        rest_is ∙ drop_at left (drop (suc most) items) most front_length ∙ ap (λ n. drop n items) next in
        let behind : drop most items ≡ last ∷ rest = drop_more items most last some ∙ ap₂ (λ x xs. x ∷ xs) (sym last_is) (sym back) in
        let was : tiered turns items ≡ tiered turns rings ++ last ∷ rest = whole ∙ ap₂ (λ xs ys. tiered turns xs ++ ys) (sym front) behind in
        let ring_length : length (tiered turns rings) ≡ most = length-tiered turns rings ∙ ap length front ∙ front_length in
        items_behind turns' rings' rest (rings_length ∙ most_is ∙ ap (λ n. 1023 * n) (sym turns_length)) ∙ ap (λ xs. xs ++ rest) gone
        ∙ append_assoc (remove (tiered turns rings) place) (last ∷ []) rest
        ∙ sym (remove-append_left (tiered turns rings) (last ∷ rest) place (omega arith)) ∙ ap (λ xs. remove xs place) (sym was)

    -- an item come into rings, whose last item went behind them
    pub come_before : (item : T) → rings ≡ take most items → rest ≡ drop most items → insert (tiered turns rings) place item ≡ tiered turns' rings' ++ last ∷ []
        → tiered turns' (insert (rings' ++ rest) most last) ≡ insert (tiered turns items) place item
    come_before item rings_are rest_is come =
        let was : tiered turns items ≡ tiered turns rings ++ rest = whole ∙ ap₂ (λ xs ys. tiered turns xs ++ ys) (sym rings_are) (sym rest_is) in
        let ring_length : length (tiered turns rings) ≡ most = length-tiered turns rings ∙ ap length rings_are ∙ length-take-le most items enough in
        let none : most - most ≡ 0 = omega arith in
        let put : insert (rings' ++ rest) most last ≡ rings' ++ last ∷ rest =
        insert-append_right rings' rest most most last rings_length (omega arith) ∙ ap (λ n. rings' ++ insert rest n last) none in
        ap (λ xs. tiered turns' xs) put ∙ items_behind turns' rings' (last ∷ rest) (rings_length ∙ most_is ∙ ap (λ n. 1023 * n) (sym turns_length))
        ∙ sym (append_assoc (tiered turns' rings') (last ∷ []) rest) ∙ ap (λ xs. xs ++ rest) (sym come)
        ∙ sym (insert-append_left (tiered turns rings) rest place item (omega arith)) ∙ ap (λ xs. insert xs place item) (sym was)

-- one ring
one_ring : {T : Type 0} (turns : List ℕ) (ring : List T) → length turns ≡ 1 → length ring ≡ 1023 → tiered turns ring ≡ turned (get_or turns 0 0) ring
one_ring [] ring one is = absurd (omega arith)
one_ring (turn ∷ []) ring one is =
    ap₂ (λ xs ys. turned turn xs ++ ys) (take_all 1023 ring (omega arith)) (drop_all 1023 ring (omega arith)) ∙ append-nil (turned turn ring)
one_ring (turn ∷ other ∷ more) ring one is = absurd (omega arith)

-- the last ring, and those before it
pub last_ring : {T : Type 0} (turns before last : List ℕ) (items xs ys : List T) → turns ≡ before ++ last → items ≡ xs ++ ys
    → length xs ≡ 1023 * length before → length last ≡ 1 → length ys ≡ 1023 → tiered turns items ≡ tiered before xs ++ turned (get_or last 0 0) ys
last_ring turns before last items xs ys turns_are items_are is one ring_is =
    ap₂ tiered turns_are items_are ∙ rings_joined before last xs ys is ∙ ap (λ zs. tiered before xs ++ zs) (one_ring last ys one ring_is)

-- a ring put behind others
pub ring_behind : {T : Type 0} (turns last : List ℕ) (turn : ℕ) (items ring : List T) → length items ≡ 1023 * length turns → length last ≡ 1
    → length ring ≡ 1023 → tiered (turns ++ set last 0 turn) (items ++ ring) ≡ tiered turns items ++ turned turn ring
ring_behind turns [] turn items ring is one whole = absurd (omega arith)
ring_behind turns (was ∷ []) turn items ring is one whole =
    rings_joined turns (turn ∷ []) items ring is ∙ ap (λ zs. tiered turns items ++ zs) (one_ring (turn ∷ []) ring refl whole)
ring_behind turns (was ∷ other ∷ more) turn items ring is one whole = absurd (omega arith)

-- the last ring, which becomes what stands behind the others
pub last_ring_left : {T : Type 0} (turns before last : List ℕ) (items xs ys ring : List T) → turns ≡ before ++ last → items ≡ xs ++ ys
    → length xs ≡ 1023 * length before → length last ≡ 1 → length ys ≡ 1023 → ring ≡ turned (get_or last 0 0) ys
    → tiered before (xs ++ ring) ≡ tiered turns items
last_ring_left turns before last items xs ys ring turns_are items_are is one ring_is turned_is =
    items_behind before xs ring is ∙ ap (λ zs. tiered before xs ++ zs) turned_is
    ∙ sym (last_ring turns before last items xs ys turns_are items_are is one ring_is)
