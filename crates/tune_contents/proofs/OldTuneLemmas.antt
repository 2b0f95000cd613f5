-- The tune that a change replaces, takes out or moves, as its row says.
use Rattle.std.proofs.Common.{◌≡◌, ℕ, ◌<◌, List, [], ◌∷◌, ◌++◌, length, get_or, Some, None, refl, sym, ◌∙◌, ap, subst, arith}
use Rattle.std.specs.List.{AllByRecursion}
use Rattle.std.proofs.Math.Seq.{get_or-append_seam}
use Rattle.tune_pages.specs.Stand.{HasChain, Stand}
use Rattle.tune_parts.specs.Parts.{Part}
use Rattle.tune_store.specs.State.{IsTune, IsTunes}
use Rattle.tune_store.specs.declared.layout.Layout.{Layout}
use Rattle.tune_store.specs.declared.plans.Change.{Change}
use Rattle.tune_store.specs.declared.plans.Change.TheVariants.{Add, Put, Take, Move, NewSet, AddPlace, CutPlace, DropSet, Upgrade}
use Rattle.tune_store.specs.declared.tune.Tune.{Tune}
use Rattle.tune_format.specs.Filed.{HoldsTuneAt, row_of_tune, rows_of_tunes}
use Rattle.tune_format.specs.declared.rows.Row.{Row}
use Rattle.tune_format.proofs.ChangeLemmas.{has_text, row_at_place}
use Rattle.tune_format.proofs.TextLemmas.{rows_count, text_at}
use Rattle.tune_contents.specs.Claimed.{RowsRise}
use Rattle.tune_contents.specs.Inside.Changes.{HoldsTunesWithin}
use Rattle.tune_contents.specs.Inside.Laying.{HoldsTunes}
use Rattle.tune_contents.specs.Inside.Searching.{IsOldPlace, IsOldTune, IsTuneAt}
use Rattle.tune_contents.specs.Texts.{HoldsSomeText, HoldsText}
use Rattle.tune_contents.proofs.RowLemmas.{rows_rise}

abbrev pub some_row : Row
some_row = record { number = 0; revision = 0; first = 0; length = 0 }

abbrev pub some_tune : Tune
some_tune = record { number = 0; revision = 0; text = [] }

-- A TUNE AND ITS ROW
middle : (P : Tune → Type 0) (front : List Tune) (tune : Tune) (back : List Tune) → AllByRecursion P (front ++ tune ∷ back) → P tune
middle P [] tune back each = each.0
middle P (first ∷ front) tune back each = middle P front tune back each.1

module _ (s : Stand) (ahead : List Part) (tunes : List Tune) (rows : List Row) (holds : HoldsTunes s ahead tunes rows) where
  pub as_many : length rows ≡ length tunes
  as_many = ap length holds.listed ∙ rows_count tunes holds.texts holds.are_tunes

  module _ (place : ℕ) (l : place < length tunes) where
    abbrev there : HoldsTuneAt holds.texts tunes place
    there = text_at holds.texts tunes place holds.are_tunes l

    its_row : (d : Row) → get_or rows place d ≡ row_of_tune there.tune there.part
    its_row d =
        let found = row_at_place holds.texts tunes place there in
        let front = rows_of_tunes there.front there.before in
        let back = rows_of_tunes there.back there.after in
        let mine = row_of_tune there.tune there.part in
        ap (λ (r : List Row). get_or r place d) (holds.listed ∙ found.0)
        ∙ ap (λ (n : ℕ). get_or (front ++ mine ∷ back) n d) (sym found.1) ∙ get_or-append_seam front mine back d

    its_tune : (d : Tune) → get_or tunes place d ≡ there.tune
    its_tune d =
        ap (λ (ts : List Tune). get_or ts place d) there.are_tunes
        ∙ ap (λ (n : ℕ). get_or (there.front ++ there.tune ∷ there.back) n d) (sym there.is_place)
        ∙ get_or-append_seam there.front there.tune there.back d

    pub same_number : (d : Row) (e : Tune) → (get_or rows place d).number ≡ (get_or tunes place e).number
    same_number d e = ap (λ (r : Row). r.number) (its_row d) ∙ ap (λ (t : Tune). t.number) (sym (its_tune e))

    -- its text stands where the row says
    pub text_there : (layout : Layout) (d : Row) (e : Tune) → IsTunes layout tunes
        → HoldsText layout s (get_or rows place d).first (get_or tunes place e).revision (get_or tunes place e).text
    text_there layout d e are =
        let each : AllByRecursion (IsTune layout) (there.front ++ there.tune ∷ there.back) =
        subst (AllByRecursion (IsTune layout)) there.are_tunes are.each in
        let good = middle (IsTune layout) there.front there.tune there.back each in
        let bound = good.revision in
        let first : (get_or rows place d).first ≡ there.part.first = ap (λ (r : Row). r.first) (its_row d) in
        let has : HasChain s there.part.first there.part.trail there.part.bytes = has_text s ahead holds.texts tunes place holds.holds there in
        let held : HoldsText layout s (get_or rows place d).first there.tune.revision there.tune.text = record {
          trail = there.part.trail;
          bytes = there.part.bytes;
          has = subst (λ (n : ℕ). HasChain s n there.part.trail there.part.bytes) (sym first) has;
          is = record {
            written = sym there.holds;
            few = omega (arith, bound);
            good = record { tune_text = good.text; fits = good.fits };
          };
        } in
        subst (λ (t : Tune). HoldsText layout s (get_or rows place d).first t.revision t.text) (sym (its_tune e)) held

pub some_text_there : (layout : Layout) (s : Stand) (rows : List Row) (place : ℕ) (d : Row) → place < length rows → HoldsTunesWithin layout s rows
    → HoldsSomeText layout s (get_or rows place d).first
some_text_there layout s rows place d l (ahead, tunes, are, holds) =
    let inside : place < length tunes = omega (arith, l, as_many s ahead tunes rows holds) in
    (_, _, text_there s ahead tunes rows holds place inside layout d some_tune are)

-- WHICH TUNE
-- the tune of a row was read
pub tune_read : (layout : Layout) (s : Stand) (ahead : List Part) (tunes : List Tune) (rows : List Row) (place : ℕ) (d : Row) (text : List ℕ)
    → place < length rows → IsTunes layout tunes → HoldsTunes s ahead tunes rows
    → ((revision : ℕ) (other : List ℕ) → HoldsText layout s (get_or rows place d).first revision other → text ≡ other)
    → IsTuneAt place tunes (Some ((get_or rows place d).number, text))
tune_read layout s ahead tunes rows place d text l are holds read =
    let inside : place < length tunes = omega (arith, l, as_many s ahead tunes rows holds) in (
      inside,
      λ e.
          let number = same_number s ahead tunes rows holds place inside d e in
          let its = read (get_or tunes place e).revision (get_or tunes place e).text (text_there s ahead tunes rows holds place inside layout d e are) in
          λ i. Some (number i, its i),
    )

-- it is that of the change
pub old_read : (change : Change) (rows : List Row) (tunes : List Tune) (place : ℕ) (old : ℕ × List ℕ) → IsOldPlace change rows (Some place)
    → ((d : Row) → (get_or rows place d).number ≡ old.0) → IsTuneAt place tunes (Some old) → IsOldTune change tunes (Some old)
old_read (Put at tune) rows tunes place old is number its = (let e : place ≡ at = cc in subst (λ (n : ℕ). IsTuneAt n tunes (Some old)) e its)
old_read (Take at) rows tunes place old is number its = (let e : place ≡ at = cc in subst (λ (n : ℕ). IsTuneAt n tunes (Some old)) e its)
old_read (Move from to) rows tunes place old is number its = (sym (number some_row) ∙ is some_row, (place, its))
old_read (Add first texts) rows tunes place old is number its = (let no : ⊥ = cc in absurd no)
old_read (NewSet name) rows tunes place old is number its = (let no : ⊥ = cc in absurd no)
old_read (AddPlace name n) rows tunes place old is number its = (let no : ⊥ = cc in absurd no)
old_read (CutPlace name n) rows tunes place old is number its = (let no : ⊥ = cc in absurd no)
old_read (DropSet name) rows tunes place old is number its = (let no : ⊥ = cc in absurd no)
old_read Upgrade rows tunes place old is number its = (let no : ⊥ = cc in absurd no)

-- the change has none
pub none_read : (layout : Layout) (s : Stand) (ahead : List Part) (tunes : List Tune) (rows : List Row) (change : Change) → IsOldPlace change rows None
    → IsTunes layout tunes → HoldsTunes s ahead tunes rows → IsOldTune change tunes None
none_read layout s ahead tunes rows (Put at tune) is are holds = (let no : ⊥ = cc in absurd no)
none_read layout s ahead tunes rows (Take at) is are holds = (let no : ⊥ = cc in absurd no)
none_read layout s ahead tunes rows (Move from to) is are holds = λ place e l named.
    (let risen : RowsRise 0 rows = subst (RowsRise 0) (sym holds.listed) (rows_rise 0 tunes holds.texts holds.are_tunes are.rises) in
    is risen place some_row (omega (arith, l, as_many s ahead tunes rows holds)) (same_number s ahead tunes rows holds place l some_row e ∙ named))
none_read layout s ahead tunes rows change is are holds = refl
