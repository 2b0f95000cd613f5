-- Rows as an index shows them: the rest of a title stands first in its index title, and their order is that of the titles.
use Rattle.std.proofs.Common.{◌≡◌, ℕ, ◌≤◌, List, [], ◌∷◌, ◌++◌, length, take, map, Option, Some, None, refl, sym, ap, ◌∙◌, arith, inl, inr, append-nil}
use Rattle.std.proofs.lemmas.Bool.{cases_Bool}
use Rattle.std.proofs.lemmas.List.{take_at, length-append}
use Rattle.std.specs.Prelude.{codes}
use Rattle.std.specs.declared.cmp.Ordering.{Ordering}
use Rattle.std.specs.Ordering.{is_lt}
use Rattle.std.specs.Cmp.{IsTotalOrder, then_total, nat_cmp_total, on_total}
use Rattle.std.specs.Cmp.Lexicographic.{nat_list_cmp_total}
use Rattle.abc_fields.specs.Words.{trimmed}
use Rattle.tune_titles.specs.Articles.{Parts, HasTrailing, comma, leading, trailing, rest_or, rest_after, title_rest}
use Rattle.tune_titles.specs.Order.{PlacedTitle, put_in, in_order, row_order}
use Rattle.tune_titles.specs.ShownRows.{Shown, shown_row, shown_order}
use Rattle.tune_titles.specs.Titles.{index_title, shown_after}
use Rattle.tune_titles.proofs.ArticleLaw.{law_of_articles}

-- THE REST STANDS FIRST
abbrev IsFirstOf : List ℕ → List ℕ → Type 0
IsFirstOf rest whole = (more : List ℕ) × (rest ++ more ≡ whole)

without_leading : (title : List ℕ) (last : Option Parts)
    → ((article rest : List ℕ) → last ≡ Some (record { article = article; rest = rest }) → HasTrailing title article rest)
    → IsFirstOf (rest_or title last) title
without_leading title None is = ([], append-nil title)
without_leading title (Some parts) is =
    let has = is parts.article parts.rest refl in
    (has.gap ++ (comma ∷ (has.blanks ++ parts.article)), has.whole)

with_leading : (title : List ℕ) (first : Option Parts) → IsFirstOf (rest_or title (trailing title)) title
    → IsFirstOf (rest_after title first) (shown_after title first)
with_leading title None is = is
with_leading title (Some parts) is = (codes ", " ++ parts.article, refl)

rest_first : (text : List ℕ) → IsFirstOf (title_rest (trimmed text)) (index_title text)
rest_first text =
    let title = trimmed text in
    with_leading title (leading title)
    (without_leading title (trailing title) (λ article rest e. ((law_of_articles text).trailing article rest).0 e))

first_taken : (rest whole : List ℕ) → IsFirstOf rest whole → take (length rest) whole ≡ rest
first_taken rest whole is = ap (take (length rest)) (sym is.1) ∙ take_at rest is.0 (length rest) refl

first_short : (rest whole : List ℕ) → IsFirstOf rest whole → length rest ≤ length whole
first_short rest whole is = let l = ap length (sym is.1) ∙ length-append rest is.0 in omega (arith, l)

pub rest_taken : (text rest shown : List ℕ) → rest ≡ title_rest (trimmed text) → shown ≡ index_title text → take (length rest) shown ≡ rest
rest_taken text rest shown r s = rw (r, s) (first_taken (title_rest (trimmed text)) (index_title text) (rest_first text))

pub rest_short : (text rest shown : List ℕ) → rest ≡ title_rest (trimmed text) → shown ≡ index_title text → length rest ≤ length shown
rest_short text rest shown r s = rw (r, s) (first_short (title_rest (trimmed text)) (index_title text) (rest_first text))

-- THE ORDER
put_in-map : {X Y : Type 0} (f : X → Y) (cmp : X → X → Ordering) (to : Y → Y → Ordering) → ((a b : X) → to (f a) (f b) ≡ cmp a b)
    → (x : X) (xs : List X) → put_in to (f x) (map f xs) ≡ map f (put_in cmp x xs)
put_in-map f cmp to same x [] = refl
put_in-map f cmp to same x (first ∷ xs) = elim (cases_Bool (is_lt (cmp first x))) [
  | inl e ↦ rw (same first x, e) (ap (λ rows. f first ∷ rows) (put_in-map f cmp to same x xs))
  | inr e ↦ rw (same first x, e) refl
]

pub in_order-map : {X Y : Type 0} (f : X → Y) (cmp : X → X → Ordering) (to : Y → Y → Ordering) → ((a b : X) → to (f a) (f b) ≡ cmp a b)
    → (xs : List X) → in_order to (map f xs) ≡ map f (in_order cmp xs)
in_order-map f cmp to same [] = refl
in_order-map f cmp to same (x ∷ xs) =
    ap (put_in to (f x)) (in_order-map f cmp to same xs) ∙ put_in-map f cmp to same x (in_order cmp xs)

pub shown_order_total : IsTotalOrder shown_order
shown_order_total =
    then_total (on_total (λ (r : Shown). r.sorting) nat_list_cmp_total)
    (then_total (on_total (λ (r : Shown). r.number) nat_cmp_total) (on_total (λ (r : Shown). r.place) nat_cmp_total))

pub shown_in_order : (new old : List Shown) → new ≡ in_order shown_order old → (titles : List PlacedTitle) → old ≡ map shown_row titles
    → new ≡ map shown_row (in_order row_order titles)
shown_in_order new old sorted titles is =
    sorted ∙ ap (in_order shown_order) is ∙ in_order-map shown_row row_order shown_order (λ a b. refl) titles
