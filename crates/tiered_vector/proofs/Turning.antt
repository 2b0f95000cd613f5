-- Rings that are turned by one place.
use Rattle.std.proofs.Common.{◌≡◌, ℕ, ◌+◌, ◌-◌, ◌<◌, List, [], ◌∷◌, ◌++◌, length, get_or, set, take, drop, arith, ◌∙◌, ap, sym, append-nil, append_assoc}
use Rattle.std.proofs.Common.{length-drop, length-take-le}
use Rattle.std.proofs.lemmas.List.{drop_more, drop_all, set_split, set_at, get_or_at, take_all, take_more}
use Rattle.std.specs.List.{insert}
use borrow.Rule.Slice.PartMut.{put_mid}
use Rattle.tiered_vector.specs.Tiers.{turned}

-- a ring that begins at its last place, once it passed an item on
pub last_turn : {T : Type 0} (ring : List T) (turn : ℕ) (last x : T) → length ring ≡ turn + 1 → x ≡ get_or ring turn x
    → turned turn ring ++ last ∷ [] ≡ x ∷ turned 0 (set ring turn last)
last_turn ring turn last x length_is x_is =
    let all : drop (turn + 1) ring ≡ [] = drop_all (turn + 1) ring (omega arith) in
    let first = drop_more ring turn x (omega arith) in
    let set_is = set_split ring turn last (omega arith) in
    grind (arith, all, first, set_is, x_is, append-nil (set ring turn last), append_assoc)

-- a ring whose items from a place on are turned by one place to the right, with another item written there
pub opened : {T : Type 0} (ring turned_part : List T) (place k : ℕ) (item last : T) → place < length ring → length ring ≡ place + k
    → (let part = take k (drop place ring) in turned_part ≡ drop (length part - 1) part ++ take (length part - 1) part)
    → last ≡ get_or (put_mid place k ring turned_part) place last
    → set (put_mid place k ring turned_part) place item ++ last ∷ [] ≡ insert ring place item
opened {T} ring turned_part place k item last within length_is turned_is last_is =
    let part : List T = drop place ring in
    let front : List T = take place ring in
    let n : ℕ = k - 1 in
    let y : T = get_or part n last in
    let front_length : length front ≡ place = length-take-le place ring (omega arith) in
    let part_length : length part ≡ k = length-drop place ring ∙ omega arith in
    let whole : take k part ≡ part = take_all k part (omega arith) in
    let end : drop n part ≡ y ∷ [] = drop_more part n last (omega arith) ∙ ap (λ xs. y ∷ xs) (drop_all (n + 1) part (omega arith)) in
    let turned_to : turned_part ≡ y ∷ take n part =
    turned_is ∙ ap (λ xs. drop (length xs - 1) xs ++ take (length xs - 1) xs) whole ∙ ap (λ m. drop m part ++ take m part) (omega arith)
    ∙ ap (λ xs. xs ++ take n part) end in
    let none : drop k part ≡ [] = drop_all k part (omega arith) in
    let all : put_mid place k ring turned_part ≡ front ++ y ∷ take n part =
    ap (λ xs. front ++ (turned_part ++ xs)) none ∙ ap (λ xs. front ++ xs) (append-nil turned_part ∙ turned_to) in
    let last_to : last ≡ y = last_is ∙ ap (λ xs. get_or xs place last) all ∙ get_or_at front y (take n part) last place front_length in
    let joined : take n part ++ y ∷ [] ≡ part = sym (take_more part n last (omega arith)) ∙ take_all (n + 1) part (omega arith) in
    ap (λ xs. set xs place item ++ last ∷ []) all ∙ ap (λ xs. xs ++ last ∷ []) (set_at front y (take n part) item place front_length)
    ∙ append_assoc front (item ∷ take n part) (last ∷ []) ∙ ap (λ x. front ++ item ∷ (take n part ++ x ∷ [])) last_to ∙ ap (λ xs. front ++ item ∷ xs) joined

-- a ring that begins where its part does
pub unturned : {T : Type 0} (turn : ℕ) (ring : List T) → turn ≡ 0 → turned turn ring ≡ ring
unturned turn ring zero_is = ap (λ n. turned n ring) zero_is ∙ append-nil ring
