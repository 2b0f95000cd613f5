-- A tune goes to the place where its number belongs.
use Rattle.std.proofs.Common.{◌≡◌, ℕ, zero, suc, ◌+◌, ◌<◌, ◌≤◌, List, [], ◌∷◌, length, get_or, Some, refl, ap, sym, ◌∙◌, subst, arith, inl, inr}
use Rattle.std.specs.List.{AllWithin, insert, remove}
use Rattle.std.proofs.lemmas.Bool.{cases_eq, cases_lt, lt-ltb, le-ltb}
use Rattle.tune_store.specs.State.{NumbersRiseFrom, tune_at}
use Rattle.tune_store.specs.TuneSteps.{without_tune, tune_inserted, moved_if, moved}
use Rattle.tune_store.specs.Inside.Lists.{IsPlaceAfter, IsPlaceFrom}
use Rattle.tune_store.specs.declared.tune.Tune.{Tune}
use Rattle.tune_store.proofs.PlaceLemmas.{ordered, above, tune_at-place, without-place}
use Rattle.tune_store.proofs.StateLemmas.{rises-without}

-- THE PLACE
-- numbers rise strictly with the place
ordered_strictly : (low : ℕ) (tunes : List Tune) (i j : ℕ) (d : Tune) → NumbersRiseFrom low tunes → i < j → j < length tunes
    → (get_or tunes i d).number < (get_or tunes j d).number
ordered_strictly low [] i j d rises h l = absurd (omega arith)
ordered_strictly low (tune ∷ tunes) zero zero d rises h l = absurd (omega arith)
ordered_strictly low (tune ∷ tunes) zero (suc j) d rises h l = above tune.number tunes j d rises.1 (omega arith)
ordered_strictly low (tune ∷ tunes) (suc i) zero d rises h l = absurd (omega arith)
ordered_strictly low (tune ∷ tunes) (suc i) (suc j) d rises h l = ordered_strictly tune.number tunes i j d rises.1 (omega arith) (omega arith)

-- behind the tune of a number
pub place_behind : (number : ℕ) (tunes : List Tune) (place : ℕ) → NumbersRiseFrom 0 tunes → place < length tunes
    → ((e : Tune) → (get_or tunes place e).number ≡ number) → IsPlaceAfter number tunes (place + 1)
place_behind number tunes place rises l named = record {
  within = omega arith;
  before = λ k d from below. let le = ordered 0 tunes k place d rises (omega arith) l in let e = named d in omega arith;
  behind = λ k d from to. let less = ordered_strictly 0 tunes place k d rises (omega arith) to in let e = named d in omega arith;
}

-- the first tune whose number is not below another one has a greater number
module _ (number : ℕ) (tunes : List Tune) (place : ℕ) (rises : NumbersRiseFrom 0 tunes) (is : IsPlaceFrom number tunes place)
    (other : place < length tunes → (d : Tune) → (get_or tunes place d).number ≡ number → ⊥) where
  -- and so have those behind it
  greater : (k : ℕ) (d : Tune) → place ≤ k → k < length tunes → number < (get_or tunes k d).number
  greater k d from to =
      let first = is.behind place d (omega arith) (omega arith) in
      let later = ordered 0 tunes place k d rises from to in
      elim (cases_eq (get_or tunes place d).number number) [
        | inl same ↦ absurd (other (omega arith) d same)
        | inr differs ↦ omega arith
      ]

  -- it is between the lesser numbers and the greater ones
  pub place_between : IsPlaceAfter number tunes place
  place_between = record {
    within = is.within;
    before = λ k d from below. let less = is.before k d from below in omega arith;
    behind = λ k d from to. greater k d from to;
  }

  -- and no tune has the number
  pub no_place : (n : ℕ) (d : Tune) → n < length tunes → (get_or tunes n d).number ≡ number → ⊥
  no_place n d l e = elim (cases_lt n place) [
    | inl below ↦ let less = is.before n d (omega arith) below in omega arith
    | inr from ↦ let more = greater n d from l in omega arith
  ]

-- THE MOVE
-- the tune is put in there
inserted-place : (new : Tune) (tunes : List Tune) (n : ℕ) → n ≤ length tunes → AllWithin (λ tune. tune.number ≤ new.number) tunes 0 n
    → AllWithin (λ tune. new.number < tune.number) tunes n (length tunes) → tune_inserted new tunes ≡ insert tunes n new
inserted-place new [] zero l before behind = refl
inserted-place new [] (suc n) l before behind = absurd (omega arith)
inserted-place new (tune ∷ tunes) zero l before behind = rw (lt-ltb new.number tune.number (behind 0 tune (omega arith) (omega arith))) refl
inserted-place new (tune ∷ tunes) (suc n) l before behind =
    rw (le-ltb new.number tune.number (before 0 tune (omega arith) (omega arith)))
    (ap (λ more. tune ∷ more) (inserted-place new tunes n (omega arith) (λ k d from to. before (suc k) d (omega arith) (omega arith))
    (λ k d from to. behind (suc k) d (omega arith) (omega arith))))

-- a tune that is taken out at its place leaves numbers that rise
pub rises-taken : (number : ℕ) (tunes : List Tune) (place : ℕ) (d : Tune) → NumbersRiseFrom 0 tunes → place < length tunes → (get_or tunes place d).number
    ≡ number
    → NumbersRiseFrom 0 (remove tunes place)
rises-taken number tunes place d rises l named =
    let P : List Tune → Type 0 = λ ts. NumbersRiseFrom 0 ts in
    subst P (without-place 0 number tunes place d rises l named) (rises-without number 0 tunes rises)

-- taken out at its place, and put in where its new number belongs, the tune is moved
pub moves_by : (number to : ℕ) (tunes : List Tune) (place at : ℕ) (tune : Tune) → NumbersRiseFrom 0 tunes → place < length tunes
    → ((e : Tune) → (get_or tunes place e).number ≡ number) → tune ≡ get_or tunes place tune → IsPlaceAfter to (remove tunes place) at
    → moved number to tunes ≡ insert (remove tunes place) at record { number = to; revision = tune.revision; text = tune.text }
moves_by number to tunes place at tune rises l named is after =
    let new : Tune = record { number = to; revision = tune.revision; text = tune.text } in
    let its : (get_or tunes place tune).number ≡ tune.number = ap (λ (t : Tune). t.number) (sym is) in
    let has : tune_at number tunes ≡ Some tune = tune_at-place 0 number tunes place tune rises l (named tune) ∙ ap (λ t. Some t) (sym is) in
    let rest : without_tune tune.number tunes ≡ remove tunes place = without-place 0 tune.number tunes place tune rises l its in
    ap (moved_if to tunes) has ∙ ap (tune_inserted new) rest ∙ inserted-place new (remove tunes place) at after.within after.before after.behind
