-- Which tunes a query finds, in a reader's words.
use Rattle.std.proofs.Common.{◌≡◌, ℕ, zero, suc, ◌<◌, Bool, true, false, List, [], ◌∷◌, length, drop, get_or, Option, Some, None}
use Rattle.std.proofs.Common.{refl, ap, sym, ◌∙◌, arith, ⊎_elim}
use Rattle.std.specs.Prelude.{◌↔◌, ◌||◌}
use Rattle.std.specs.Bool.{Decides}
use Rattle.std.specs.List.{list_any, starts_with, Contains}
use Rattle.std.specs.Option.{option_map_or}
use Rattle.std.proofs.lemmas.Bool.{cases_Bool, true≢false}
use Rattle.std.proofs.lemmas.Bool.Decides.{Decides-eqb, Decides-int_eq}
use Rattle.std.proofs.lemmas.Slice.Eq.{starts_is, bytes_eq-Decides}
use Rattle.abc_fields.specs.Fields.{titles_of, rhythm_of, key_text_of}
use Rattle.abc_keys.specs.declared.scales.Scale.{Scale}
use Rattle.abc_keys.specs.SameScales.{same_scale}
use Rattle.tune_incipit.specs.Incipits.{incipit_of, tune_notes, query_notes}
use Rattle.abc_keys.proofs.SameScaleLaw.{same_is, same_self}
use Rattle.tune_incipit.specs.Scales.{scale_of_text, is_scale}
use Rattle.tune_titles.specs.Articles.{small_letters}
use Rattle.tune_titles.specs.Titles.{sorting_title, title_matches, same_rhythm}
use Rattle.tune_queries.specs.declared.queries.Query.{Query}
use Rattle.tune_queries.specs.declared.queries.Query.TheVariants as query
use Rattle.tune_queries.specs.Queries.{BeginsWith, LawOfQuery}

-- FRONTS
front_law : {X : Type 0} {eq : X → X → Bool} → ((x y : X) → Decides (eq x y) (x ≡ y)) → (whole front : List X)
    → (starts_with eq whole front ≡ true) ↔ BeginsWith whole front
front_law {eq = eq} decides whole front =
    let is = starts_is decides whole front (starts_with eq whole front) refl in
    (λ yes. (drop (length front) whole, sym (is.0 yes)), λ begun. is.1 begun.0 (sym begun.1))

-- TITLES
or_second : (a b : Bool) → b ≡ true → (a || b) ≡ true
or_second true b e = refl
or_second false b e = e

module _ {X : Type 0} (test : X → Bool) where
  some_passes : (xs : List X) → list_any test xs ≡ true → (x : X) × Contains xs x × (test x ≡ true)
  some_passes [] is = absurd (true≢false (sym is))
  some_passes (x ∷ xs) is = ⊎_elim
      (λ (passes : test x ≡ true). (x, (0, omega arith, refl), passes))
      (λ (other : test x ≡ false).
      let later = some_passes xs (rw other at is) in
      (later.0, (suc later.1.0, omega (arith, later.1.1), later.1.2), later.2))
      (cases_Bool (test x))

  passes_at : (xs : List X) (x : X) (k : ℕ) → k < length xs → get_or xs k x ≡ x → test x ≡ true → list_any test xs ≡ true
  passes_at [] x k w e passes = absurd (omega arith)
  passes_at (y ∷ ys) x zero w e passes = ap (λ b. b || list_any test ys) (ap test e ∙ passes)
  passes_at (y ∷ ys) x (suc k) w e passes = or_second (test y) (list_any test ys) (passes_at ys x k (omega arith) e passes)

title_law : (text : List ℕ) (titles : List (List ℕ)) → (list_any (title_matches text) titles ≡ true)
    ↔ ((title : List ℕ) × Contains titles title × BeginsWith (sorting_title title) (sorting_title text))
title_law text titles = (
  λ is.
      let some = some_passes (title_matches text) titles is in
      (some.0, some.1, (front_law Decides-eqb (sorting_title some.0) (sorting_title text)).0 some.2),
  λ found.
      let at = found.1 in
      passes_at (title_matches text) titles found.0 at.0 at.1 at.2
      ((front_law Decides-eqb (sorting_title found.0) (sorting_title text)).1 found.2),
)

-- RHYTHMS
rhythm_law : (text : List ℕ) (rhythm : Option (List ℕ)) → (option_map_or (same_rhythm text) rhythm false ≡ true)
    ↔ ((own : List ℕ) × (rhythm ≡ Some own) × (small_letters text ≡ small_letters own))
rhythm_law text None = (λ is. absurd (true≢false (sym is)), λ found. let none : None ≡ Some found.0 = found.1 in cc)
rhythm_law text (Some own) = (
  λ is. (own, refl, (bytes_eq-Decides (small_letters text) (small_letters own)).0 is),
  λ found.
      let same : own ≡ found.0 = cc in
      (bytes_eq-Decides (small_letters text) (small_letters own)).1 (found.2 ∙ ap small_letters (sym same)),
)

-- SCALES
key_law : (asked own : Option Scale) → (option_map_or (λ scale. is_scale scale own) asked false ≡ true)
    ↔ ((scale : Scale) × (asked ≡ Some scale) × (own ≡ Some scale))
key_law None own = (λ is. absurd (true≢false (sym is)), λ found. let none : None ≡ Some found.0 = found.1 in cc)
key_law (Some a) None = (λ is. absurd (true≢false (sym is)), λ found. let none : None ≡ Some found.0 = found.2 in cc)
key_law (Some a) (Some b) = (
  λ is. (a, refl, ap Some (sym (same_is a b is))),
  λ found.
      let one : a ≡ found.0 = cc in
      let other : b ≡ found.0 = cc in
      ap (same_scale a) (other ∙ sym one) ∙ same_self a,
)

-- THE LAW
pub law_of_query : (notes : ℕ) (asked : Query) → LawOfQuery notes asked
law_of_query notes (query.Title text) tune = title_law text (titles_of tune)
law_of_query notes (query.Rhythm text) tune = rhythm_law text (rhythm_of tune)
law_of_query notes (query.Key text) tune = key_law (scale_of_text text) (scale_of_text (key_text_of tune))
law_of_query notes (query.Notes text) tune =
    front_law Decides-int_eq (incipit_of notes (tune_notes tune)) (incipit_of notes (query_notes text))
