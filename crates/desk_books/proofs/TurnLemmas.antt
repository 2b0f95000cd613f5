-- What is done one after another.
use Rattle.std.proofs.Common.{◌≡◌, ℕ, ◌+◌, ◌<◌, max, List, [], ◌∷◌, ◌++◌, get_or, length, map, take, refl, sym, ap, ◌∙◌, subst, arith}
use Rattle.std.proofs.lemmas.List.{take_more}
use Rattle.desk_books.specs.Stages.{EachInTurn}

-- one more in turn
pub one_more : {G X : Type 0} (Does : X → G → G → ℕ → Type 0) (xs : List X) (x : X) (old mid new : G) (first later : ℕ)
    → EachInTurn Does xs old mid first → Does x mid new later → EachInTurn Does (xs ++ x ∷ []) old new (max first later)
one_more Does [] x old mid new first later h k =
    (new, later, 0, subst (λ stage. Does x stage new later) h.0 k, (refl, refl), (let none = h.1 in omega arith))
one_more Does (y ∷ xs) x old mid new first later h k =
    let rest = one_more Does xs x h.0 mid new h.2 later h.4 k in
    (h.0, h.1, max h.2 later, h.3, rest, (let all = h.5 in omega arith))

-- the first items of a list, one by one
pub next_in_turn : {G X : Type 0} (Does : X → G → G → ℕ → Type 0) (xs : List X) (i : ℕ) (x : X) (old mid new : G) (first later : ℕ)
    → i < length xs → x ≡ get_or xs i x → EachInTurn Does (take i xs) old mid first → Does x mid new later
    → EachInTurn Does (take (i + 1) xs) old new (max first later)
next_in_turn Does xs i x old mid new first later lt is h k =
    let longer : take (i + 1) xs ≡ take i xs ++ x ∷ [] = take_more xs i x lt ∙ ap (λ y. take i xs ++ y ∷ []) (sym is) in
    subst (λ l. EachInTurn Does l old new (max first later)) (sym longer) (one_more Does (take i xs) x old mid new first later h k)

-- the same of what they stand for
pub each_map : {G X Y : Type 0} (Does : Y → G → G → ℕ → Type 0) (f : X → Y) (xs : List X) (old new : G) (status : ℕ)
    → EachInTurn (λ x. Does (f x)) xs old new status → EachInTurn Does (map f xs) old new status
each_map Does f [] old new status h = h
each_map Does f (x ∷ xs) old new status h = (h.0, h.1, h.2, h.3, each_map Does f xs h.0 new h.2 h.4, h.5)
