-- Rows of tunes, found by number.
use Rattle.std.proofs.Common.{◌≡◌, ℕ, zero, suc, ◌+◌, ◌-◌, ◌<◌, ◌≤◌, List, [], ◌∷◌, length, ◌++◌, get_or, refl, ap, sym, ◌∙◌, subst, arith, inl, inr}
use Rattle.std.specs.List.{insert, remove}
use Rattle.std.proofs.lemmas.Bool.{cases_eq, cases_lt}
use Rattle.std.proofs.lemmas.List.{get_or_default}
use Rattle.std.proofs.lemmas.List.Edits.{get_or-remove_above, get_or-remove_below, length-remove}
use Rattle.std.proofs.Math.Seq.{get_or-append_seam}
use Rattle.tune_pages.specs.Stand.{Stand}
use Rattle.tune_parts.specs.Parts.{Part}
use Rattle.tune_store.specs.State.{NumbersRiseFrom}
use Rattle.tune_store.specs.TuneSteps.{moved, moved_if}
use Rattle.tune_store.specs.Inside.Lists.{IsPlaceAfter}
use Rattle.tune_store.specs.declared.tune.Tune.{Tune}
use Rattle.tune_store.proofs.PlaceLemmas.{tune_at-none}
use Rattle.tune_store.proofs.InsertLemmas.{moves_by}
use Rattle.tune_format.specs.Filed.{row_of_tune, rows_of_tunes, HoldTunes, HoldsTuneAt}
use Rattle.tune_format.specs.declared.rows.Row.{Row}
use Rattle.tune_format.proofs.ChangeLemmas.{row_at_place, move_text}
use Rattle.tune_format.proofs.TextLemmas.{tune_without, later_held, text_at, texts_cut, texts_inserted, rows_count, rows_cut, rows_inserted}
use Rattle.tune_contents.specs.Inside.Laying.{HoldsTunes}
use Rattle.tune_contents.specs.Inside.TuneRows.{IsRowAfter, MovesTunes}
use Rattle.tune_contents.specs.Claimed.{RowsRise}

-- ORDER
-- each number is above what the rows rise from
above : (low : ℕ) (rows : List Row) (n : ℕ) (d : Row) → RowsRise low rows → n < length rows → low < (get_or rows n d).number
above low [] n d rises l = absurd (omega arith)
above low (row ∷ rows) zero d rises l = rises.0
above low (row ∷ rows) (suc n) d rises l = let later = above row.number rows n d rises.1 (omega arith) in let first = rises.0 in omega arith

-- numbers rise strictly with the place
strictly : (low : ℕ) (rows : List Row) (i j : ℕ) (d : Row) → RowsRise low rows → i < j → j < length rows → (get_or rows i d).number < (get_or rows j d).number
strictly low [] i j d rises h l = absurd (omega arith)
strictly low (row ∷ rows) zero zero d rises h l = absurd (omega arith)
strictly low (row ∷ rows) zero (suc j) d rises h l = above row.number rows j d rises.1 (omega arith)
strictly low (row ∷ rows) (suc i) zero d rises h l = absurd (omega arith)
strictly low (row ∷ rows) (suc i) (suc j) d rises h l = strictly row.number rows i j d rises.1 (omega arith) (omega arith)

pub ordered : (low : ℕ) (rows : List Row) (i j : ℕ) (d : Row) → RowsRise low rows → i ≤ j → j < length rows
    → (get_or rows i d).number ≤ (get_or rows j d).number
ordered low [] i j d rises h l = absurd (omega arith)
ordered low (row ∷ rows) zero zero d rises h l = omega arith
ordered low (row ∷ rows) zero (suc j) d rises h l = let later = above row.number rows j d rises.1 (omega arith) in omega arith
ordered low (row ∷ rows) (suc i) zero d rises h l = absurd (omega arith)
ordered low (row ∷ rows) (suc i) (suc j) d rises h l = ordered row.number rows i j d rises.1 (omega arith) (omega arith)

-- SEARCH
-- behind the row of a number
pub row_behind : (number : ℕ) (rows : List Row) (place : ℕ) → RowsRise 0 rows → place < length rows → ((e : Row) → (get_or rows place e).number ≡ number)
    → IsRowAfter number rows (place + 1)
row_behind number rows place rises l named = record {
  before = λ k d from below. let le = ordered 0 rows k place d rises (omega arith) l in let e = named d in omega arith;
  behind = λ k d from to. let less = strictly 0 rows place k d rises (omega arith) to in let e = named d in omega arith;
}

-- up to a row of a lesser number all are lesser, and from one that is not lesser on none is
pub lesser : (number : ℕ) (rows : List Row) (place : ℕ) (row : Row) → RowsRise 0 rows → place < length rows → row ≡ get_or rows place row → row.number < number
    → (k : ℕ) (d : Row) → k < place + 1 → (get_or rows k d).number < number
lesser number rows place row rises l is less k d below =
    let le = ordered 0 rows k place d rises (omega arith) l in
    let same : row.number ≡ (get_or rows place d).number = ap (λ (r : Row). r.number) (is ∙ get_or_default rows place row d l) in
    omega arith

pub not_lesser : (number : ℕ) (rows : List Row) (place : ℕ) (row : Row) → RowsRise 0 rows → place < length rows → row ≡ get_or rows place row
    → number ≤ row.number → (k : ℕ) (d : Row) → place ≤ k → k < length rows → number ≤ (get_or rows k d).number
not_lesser number rows place row rises l is le k d from to =
    let later = ordered 0 rows place k d rises from to in
    let same : row.number ≡ (get_or rows place d).number = ap (λ (r : Row). r.number) (is ∙ get_or_default rows place row d l) in
    omega arith

module _ (number : ℕ) (rows : List Row) (place : ℕ) (rises : RowsRise 0 rows) (before : (k : ℕ) (d : Row) → k < place → (get_or rows k d).number < number)
    (after : (k : ℕ) (d : Row) → place ≤ k → k < length rows → number ≤ (get_or rows k d).number)
    (other : place < length rows → (d : Row) → (get_or rows place d).number ≡ number → ⊥) where
  -- where the first row that is not lesser has another number, those from it on are greater
  greater : (k : ℕ) (d : Row) → place ≤ k → k < length rows → number < (get_or rows k d).number
  greater k d from to =
      let first = after place d (omega arith) (omega arith) in
      let later = ordered 0 rows place k d rises from to in
      elim (cases_eq (get_or rows place d).number number) [
        | inl same ↦ absurd (other (omega arith) d same)
        | inr differs ↦ omega arith
      ]

  pub row_between : IsRowAfter number rows place
  row_between = record {
    before = λ k d from below. let less = before k d below in omega arith;
    behind = λ k d from to. greater k d from to;
  }

  -- and no row has the number
  pub no_row : (n : ℕ) (d : Row) → n < length rows → (get_or rows n d).number ≡ number → ⊥
  no_row n d l e = elim (cases_lt n place) [
    | inl below ↦ let less = before n d below in omega arith
    | inr from ↦ let more = greater n d from l in omega arith
  ]

-- behind the row at a place, once that has gone
pub after_gone : (number : ℕ) (rows : List Row) (place at : ℕ) → place < length rows → place < at → at ≤ length rows → IsRowAfter number rows at
    → IsRowAfter number (remove rows place) (at - 1)
after_gone number rows place at l above within after = record {
  before = λ k d from below. elim (cases_lt k place) [
    | inl ahead ↦ subst (λ (row : Row). row.number ≤ number) (sym (get_or-remove_below rows place d k ahead l))
        (after.before k d (omega arith) (omega arith))
    | inr behind ↦ subst (λ (row : Row). row.number ≤ number) (sym (get_or-remove_above rows place d k behind l))
        (after.before (k + 1) d (omega arith) (omega arith))
  ];
  behind = λ k d from to. subst (λ (row : Row). number < row.number) (sym (get_or-remove_above rows place d k (omega arith) l))
      (after.behind (k + 1) d (omega arith) (omega (arith, to, length-remove rows place l)));
}

-- and in front of it
pub before_gone : (number : ℕ) (rows : List Row) (place at : ℕ) → place < length rows → at ≤ place → IsRowAfter number rows at
    → IsRowAfter number (remove rows place) at
before_gone number rows place at l under after = record {
  before = λ k d from below. subst (λ (row : Row). row.number ≤ number) (sym (get_or-remove_below rows place d k (omega arith) l))
      (after.before k d from below);
  behind = λ k d from to. elim (cases_lt k place) [
    | inl ahead ↦ subst (λ (row : Row). number < row.number) (sym (get_or-remove_below rows place d k ahead l))
        (after.behind k d from (omega arith))
    | inr behind ↦ subst (λ (row : Row). number < row.number) (sym (get_or-remove_above rows place d k behind l))
        (after.behind (k + 1) d (omega arith) (omega (arith, to, length-remove rows place l)))
  ];
}

-- ROWS OF TUNES
-- they have the numbers of the tunes
number_there : (tunes : List Tune) (texts : List Part) (n : ℕ) (d : Tune) (e : Row) → HoldTunes texts tunes → n < length tunes
    → (get_or tunes n d).number ≡ (get_or (rows_of_tunes tunes texts) n e).number
number_there [] texts n d e holds l = absurd (omega arith)
number_there (tune ∷ tunes) [] n d e holds l = absurd (tune_without tune tunes holds)
number_there (tune ∷ tunes) (part ∷ texts) zero d e holds l = refl
number_there (tune ∷ tunes) (part ∷ texts) (suc n) d e holds l =
    number_there tunes texts n d e (later_held part texts tune tunes holds) (omega (arith, l))

-- and rise with them
pub rows_rise : (low : ℕ) (tunes : List Tune) (texts : List Part) → HoldTunes texts tunes → NumbersRiseFrom low tunes → RowsRise low (rows_of_tunes tunes texts)
rows_rise low [] texts holds rises = tt
rows_rise low (tune ∷ tunes) [] holds rises = tt
rows_rise low (tune ∷ tunes) (part ∷ texts) holds rises = (rises.0, rows_rise tune.number tunes texts (later_held part texts tune tunes holds) rises.1)

abbrev pub some_row : Row
some_row = record { number = 0; revision = 0; first = 0; length = 0 }

-- a place among the rows is that place among the tunes
place_there : (number : ℕ) (tunes : List Tune) (texts : List Part) (place : ℕ) → HoldTunes texts tunes → place ≤ length tunes
    → IsRowAfter number (rows_of_tunes tunes texts) place → IsPlaceAfter number tunes place
place_there number tunes texts place holds l after =
    let many = rows_count tunes texts holds in
    record {
      within = l;
      before = λ k d from below.
          let is = number_there tunes texts k d some_row holds (omega arith) in
          let le = after.before k some_row from below in
          omega arith;
      behind = λ k d from to.
          let is = number_there tunes texts k d some_row holds to in
          let less = after.behind k some_row from (omega arith) in
          omega arith;
    }

-- THE MOVE
-- no row has the number: no tune does, and the tunes stay
pub moves_none : (rows : List Row) (number to : ℕ)
    → (RowsRise 0 rows → (place : ℕ) (d : Row) → place < length rows → (get_or rows place d).number ≡ number → ⊥) → MovesTunes rows rows number to
moves_none rows number to none = λ s ahead tunes rises holds.
    (let risen : RowsRise 0 rows = subst (RowsRise 0) (sym holds.listed) (rows_rise 0 tunes holds.texts holds.are_tunes rises) in
    let many : length rows ≡ length tunes = ap length holds.listed ∙ rows_count tunes holds.texts holds.are_tunes in
    let absent : (n : ℕ) (d : Tune) → n < length tunes → (get_or tunes n d).number ≡ number → ⊥ = λ n d l e. none risen n some_row (omega arith)
    (ap (λ (r : List Row). (get_or r n some_row).number) holds.listed ∙ sym (number_there tunes holds.texts n d some_row holds.are_tunes l) ∙ e) in
    subst (λ (ts : List Tune). HoldsTunes s ahead ts rows) (sym (ap (moved_if to tunes) (tune_at-none number tunes absent))) holds)

module _ (rows : List Row) (number to place at : ℕ) (row : Row) (l : place < length rows) (named : (d : Row) → (get_or rows place d).number ≡ number)
    (is : row ≡ get_or rows place row) (within : at ≤ length (remove rows place))
    (after : RowsRise 0 rows → IsRowAfter to (remove rows place) at)
    (s : Stand) (ahead : List Part) (tunes : List Tune) (rises : NumbersRiseFrom 0 tunes) (holds : HoldsTunes s ahead tunes rows) where
  abbrev texts : List Part
  texts = holds.texts

  inside : place < length tunes
  inside = omega (arith, l, rows_count tunes texts holds.are_tunes, ap length holds.listed)

  abbrev there : HoldsTuneAt texts tunes place
  there = text_at texts tunes place holds.are_tunes inside

  is_tune : there.tune ≡ get_or tunes place there.tune
  is_tune =
      sym (ap (λ (ts : List Tune). get_or ts place there.tune) there.are_tunes
      ∙ ap (λ (n : ℕ). get_or (there.front ++ there.tune ∷ there.back) n there.tune) (sym there.is_place)
      ∙ get_or-append_seam there.front there.tune there.back there.tune)

  is_row : row ≡ row_of_tune there.tune there.part
  is_row =
      let found = row_at_place texts tunes place there in
      let front = rows_of_tunes there.front there.before in
      let back = rows_of_tunes there.back there.after in
      let mine = row_of_tune there.tune there.part in
      is ∙ ap (λ (r : List Row). get_or r place row) (holds.listed ∙ found.0)
      ∙ ap (λ (n : ℕ). get_or (front ++ mine ∷ back) n row) (sym found.1) ∙ get_or-append_seam front mine back row

  named_tune : (e : Tune) → (get_or tunes place e).number ≡ number
  named_tune e =
      number_there tunes texts place e some_row holds.are_tunes inside
      ∙ ap (λ (r : List Row). (get_or r place some_row).number) (sym holds.listed) ∙ named some_row

  abbrev fewer : HoldTunes (remove texts place) (remove tunes place)
  fewer = texts_cut texts tunes place holds.are_tunes

  left_rows : remove rows place ≡ rows_of_tunes (remove tunes place) (remove texts place)
  left_rows = ap (λ (r : List Row). remove r place) holds.listed ∙ sym (rows_cut texts tunes place holds.are_tunes)

  goes : IsPlaceAfter to (remove tunes place) at
  goes =
      let risen : RowsRise 0 rows = subst (RowsRise 0) (sym holds.listed) (rows_rise 0 tunes texts holds.are_tunes rises) in
      let many = rows_count (remove tunes place) (remove texts place) fewer in
      let same = ap length left_rows in
      place_there to (remove tunes place) (remove texts place) at fewer (omega (arith, within, many, same))
      (subst (λ (r : List Row). IsRowAfter to r at) left_rows (after risen))

  abbrev new : Tune
  new = record { number = to; revision = there.tune.revision; text = there.tune.text }

  abbrev new_row : Row
  new_row = record { number = to; revision = row.revision; first = row.first; length = row.length }

  new_row_is : new_row ≡ row_of_tune new there.part
  new_row_is = ap (λ (r : Row). record { number = to; revision = r.revision; first = r.first; length = r.length }) is_row

  left_is : insert (remove rows place) at new_row ≡ rows_of_tunes (insert (remove tunes place) at new) (insert (remove texts place) at there.part)
  left_is =
      (λ i. insert (left_rows i) at (new_row_is i)) ∙ sym (rows_inserted (remove texts place) (remove tunes place) at there.part new fewer)

  put_there : HoldsTunes s ahead (insert (remove tunes place) at new) (insert (remove rows place) at new_row)
  put_there = record {
    texts = insert (remove texts place) at there.part;
    holds = move_text s ahead texts tunes place at holds.holds there;
    are_tunes = texts_inserted (remove texts place) (remove tunes place) at there.part new fewer there.is_chain there.holds;
    listed = left_is;
  }

  moves_this : HoldsTunes s ahead (moved number to tunes) (insert (remove rows place) at new_row)
  moves_this =
      subst (λ (ts : List Tune). HoldsTunes s ahead ts (insert (remove rows place) at new_row))
      (sym (moves_by number to tunes place at there.tune rises inside named_tune is_tune goes)) put_there

-- the row of a number is taken out, and put in where its new number belongs
pub moves_row : (rows : List Row) (number to place at : ℕ) (row : Row) → place < length rows → ((d : Row) → (get_or rows place d).number ≡ number)
    → row ≡ get_or rows place row → at ≤ length (remove rows place) → (RowsRise 0 rows → IsRowAfter to (remove rows place) at)
    → MovesTunes rows (insert (remove rows place) at (record { number = to; revision = row.revision; first = row.first; length = row.length })) number to
moves_row rows number to place at row l named is within after = λ s ahead tunes rises holds.
    moves_this rows number to place at row l named is within after s ahead tunes rises holds
