-- The definitions at small cases, worked out by hand.
use Rattle.std.proofs.Common.{◌≡◌, ℕ, zero, suc, ◌<◌, List, [], ◌∷◌, Bool, true, false, refl, arith}
use Rattle.tune_pages.specs.Chain.{next_page_of, size_of, piece_of, IsLink, IsChain}
use Rattle.tune_pages.specs.Faults.{free_pages, pages_for}
use Rattle.tune_pages.specs.Stand.{IsUsed, IsFree, IsLeastFree, AllFree, marked, placed}

-- Of five pages these are in use: the root, 1 and 3.
abbrev marks : List Bool
marks = true ∷ true ∷ false ∷ true ∷ false ∷ []

two_are_free : free_pages marks ≡ 2
two_are_free = refl

-- the least free one is 2, and then 4; there is no third, and 7 is past the limit
two_is_least : IsLeastFree marks 2
two_is_least = record { free = refl; least = λ q lt. below q lt }
  where
    below : (q : ℕ) → q < 2 → IsUsed marks q
    below zero lt = refl
    below (suc zero) lt = refl
    below (suc (suc q)) lt = absurd (omega (arith, lt))

both_are_free : AllFree (2 ∷ 4 ∷ []) marks
both_are_free = (refl, (refl, tt))

none_twice : AllFree (2 ∷ 2 ∷ []) marks → ⊥
none_twice all = let e : true ≡ false = all.1.0 in cc

past_the_limit : IsFree marks 7 → ⊥
past_the_limit free = let e : true ≡ false = free in cc

taken_and_freed : marked false (2 ∷ []) (marked true (2 ∷ 4 ∷ []) marks) ≡ true ∷ true ∷ false ∷ true ∷ true ∷ []
taken_and_freed = refl

-- A page may be put where one stands, and behind the last.
put_over : placed 1 (9 ∷ []) ((5 ∷ []) ∷ (6 ∷ []) ∷ (7 ∷ []) ∷ []) ≡ (5 ∷ []) ∷ (9 ∷ []) ∷ (7 ∷ []) ∷ []
put_over = refl

put_behind : placed 2 (9 ∷ []) ((5 ∷ []) ∷ (6 ∷ []) ∷ []) ≡ (5 ∷ []) ∷ (6 ∷ []) ∷ (9 ∷ []) ∷ []
put_behind = refl

-- How many pages a chain wants. With a limit of 3 pages there are two besides the root: 8,180 bytes fit, 8,181 do not.
no_bytes : pages_for 0 ≡ 0
no_bytes = refl

one_byte : pages_for 1 ≡ 1
one_byte = refl

one_page : pages_for 4090 ≡ 1
one_page = refl

five_thousand : pages_for 5000 ≡ 2
five_thousand = refl

two_pages : pages_for 8180 ≡ 2
two_pages = refl

three_pages : pages_for 8181 ≡ 3
three_pages = refl

-- A page that goes on at page 258 and has two bytes that count; here it ends behind three more, at which nobody looks.
abbrev link : List ℕ
link = 0 ∷ 0 ∷ 1 ∷ 2 ∷ 0 ∷ 2 ∷ 65 ∷ 66 ∷ 0 ∷ 0 ∷ 0 ∷ []

goes_on : next_page_of link ≡ 258
unfolding next_page_of
goes_on = refl

has_two : size_of link ≡ 2
unfolding size_of
has_two = refl

has_these : piece_of link ≡ 65 ∷ 66 ∷ []
unfolding piece_of size_of
has_these = refl

-- It is no link: it goes on, and is not full.
no_link : IsLink link → ⊥
no_link is = let full = is.full (λ e. absurd (omega (arith, e, goes_on))) in absurd (omega (arith, full, has_two))

-- A chain of one page: page 1 of two.
abbrev last : List ℕ
last = 0 ∷ 0 ∷ 0 ∷ 0 ∷ 0 ∷ 3 ∷ 65 ∷ 66 ∷ 67 ∷ 0 ∷ []

last_next : next_page_of last ≡ 0
unfolding next_page_of
last_next = refl

last_size : size_of last ≡ 3
unfolding size_of
last_size = refl

last_piece : piece_of last ≡ 65 ∷ 66 ∷ 67 ∷ []
unfolding piece_of size_of
last_piece = refl

last_link : IsLink last
last_link = record { some = omega (arith, last_size); most = omega (arith, last_size); full = λ ne. absurd (ne last_next) }

-- At 0 is the chain of no bytes.
none : IsChain ([] ∷ last ∷ []) 0 [] []
none = record { leads = refl; holds = refl }

one : IsChain ([] ∷ last ∷ []) 1 (1 ∷ []) (65 ∷ 66 ∷ 67 ∷ [])
unfolding piece_of size_of
one = record { leads = (refl, omega arith, omega arith, last_link, last_next); holds = refl }
