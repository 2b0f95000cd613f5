-- The parts that hold tunes, and the rows of both.
use Rattle.std.proofs.Common.{◌≡◌, ℕ, zero, suc, ◌<◌, List, [], ◌∷◌, ◌++◌, length, set}
use Rattle.std.proofs.Common.{refl, sym, ◌∙◌, ap, arith}
use Rattle.std.specs.List.{remove, insert}
use Rattle.std.proofs.lemmas.List.{map-append, map-set, length-map}
use Rattle.tune_parts.specs.Parts.{Part}
use Rattle.tune_parts.specs.Parts.PartKind.{chain}
use Rattle.tune_parts.proofs.Lists.{all_join}
use Rattle.tune_store.specs.declared.tune.Tune.{Tune}
use Rattle.tune_format.specs.Filed.{AreChains, row_of_tune, rows_of_tunes, HoldTunes, HoldsTuneAt}
use Rattle.tune_format.specs.Written.{stored_tune}

abbrev bytes_of : Part → List ℕ
bytes_of part = part.bytes

-- ONE MORE
-- the first of some parts holds the first of the tunes, and the later ones the later
pub first_held : (part : Part) (texts : List Part) (tune : Tune) (tunes : List Tune) → HoldTunes (part ∷ texts) (tune ∷ tunes)
    → part.bytes ≡ stored_tune tune
first_held part texts tune tunes holds = let all = holds.hold in cc

pub later_held : (part : Part) (texts : List Part) (tune : Tune) (tunes : List Tune) → HoldTunes (part ∷ texts) (tune ∷ tunes) → HoldTunes texts tunes
later_held part texts tune tunes holds = (let all = holds.hold in record { are_chains = holds.are_chains.1; hold = cc })

pub more_held : (part : Part) (texts : List Part) (tune : Tune) (tunes : List Tune) → part.kind ≡ chain → part.bytes ≡ stored_tune tune
    → HoldTunes texts tunes → HoldTunes (part ∷ texts) (tune ∷ tunes)
more_held part texts tune tunes kind its holds = record { are_chains = (kind, holds.are_chains); hold = (λ i. its i ∷ holds.hold i) }

-- no tunes have no parts, and one has one
pub none_held : HoldTunes [] []
none_held = record { are_chains = tt; hold = refl }

pub one_held : (part : Part) (tune : Tune) → part.kind ≡ chain → part.bytes ≡ stored_tune tune → HoldTunes (part ∷ []) (tune ∷ [])
one_held part tune kind its = more_held part [] tune [] kind its none_held

-- some tunes have parts, and some parts have tunes
pub tune_without : (tune : Tune) (tunes : List Tune) → HoldTunes [] (tune ∷ tunes) → ⊥
tune_without tune tunes holds = let size = ap (λ l. length l) holds.hold in omega arith

pub part_without : (part : Part) (texts : List Part) → HoldTunes (part ∷ texts) [] → ⊥
part_without part texts holds = let size = ap (λ l. length l) holds.hold in omega arith

-- ALL
pub length-texts : (texts : List Part) (tunes : List Tune) → HoldTunes texts tunes → length texts ≡ length tunes
length-texts texts tunes holds =
    let size = ap (λ l. length l) holds.hold in
    omega (arith, size, length-map texts bytes_of, length-map tunes stored_tune)

pub texts_join : (before after : List Part) (front back : List Tune) → HoldTunes before front → HoldTunes after back
    → HoldTunes (before ++ after) (front ++ back)
texts_join before after front back holds also = record {
  are_chains = all_join (λ part. part.kind ≡ chain) before after holds.are_chains also.are_chains;
  hold = map-append bytes_of before after ∙ (λ i. holds.hold i ++ also.hold i) ∙ sym (map-append stored_tune front back);
}

pub rows_join : (before after : List Part) (front back : List Tune) → HoldTunes before front
    → rows_of_tunes (front ++ back) (before ++ after) ≡ rows_of_tunes front before ++ rows_of_tunes back after
rows_join [] after [] back holds = refl
rows_join [] after (tune ∷ front) back holds = absurd (tune_without tune front holds)
rows_join (part ∷ before) after [] back holds = absurd (part_without part before holds)
rows_join (part ∷ before) after (tune ∷ front) back holds =
    let later = later_held part before tune front holds in
    ap (λ l. row_of_tune tune part ∷ l) (rows_join before after front back later)

pub rows_count : (tunes : List Tune) (texts : List Part) → HoldTunes texts tunes → length (rows_of_tunes tunes texts) ≡ length tunes
rows_count [] texts holds = refl
rows_count (tune ∷ tunes) [] holds = absurd (tune_without tune tunes holds)
rows_count (tune ∷ tunes) (part ∷ texts) holds = (let later = later_held part texts tune tunes holds in omega (arith, rows_count tunes texts later))

pub text_at : (texts : List Part) (tunes : List Tune) (place : ℕ) → HoldTunes texts tunes → place < length tunes → HoldsTuneAt texts tunes place
text_at texts [] place holds lt = absurd (omega (arith, lt))
text_at [] (tune ∷ tunes) place holds lt = absurd (tune_without tune tunes holds)
text_at (part ∷ texts) (tune ∷ tunes) zero holds lt = record {
  before = [];
  part = part;
  after = texts;
  front = [];
  tune = tune;
  back = tunes;
  are_texts = refl;
  are_tunes = refl;
  is_place = refl;
  holds_front = none_held;
  is_chain = holds.are_chains.0;
  holds = first_held part texts tune tunes holds;
  holds_back = later_held part texts tune tunes holds;
}
text_at (part ∷ texts) (tune ∷ tunes) (suc place) holds lt =
    let first = first_held part texts tune tunes holds in
    let later = later_held part texts tune tunes holds in
    let rest = text_at texts tunes place later (omega (arith, lt)) in
    record {
      before = part ∷ rest.before;
      part = rest.part;
      after = rest.after;
      front = tune ∷ rest.front;
      tune = rest.tune;
      back = rest.back;
      are_texts = (λ i. part ∷ rest.are_texts i);
      are_tunes = (λ i. tune ∷ rest.are_tunes i);
      is_place = omega (arith, rest.is_place);
      holds_front = more_held part rest.before tune rest.front holds.are_chains.0 first rest.holds_front;
      is_chain = rest.is_chain;
      holds = rest.holds;
      holds_back = rest.holds_back;
    }

chains_put : (texts : List Part) (place : ℕ) (part : Part) → AreChains texts → part.kind ≡ chain → AreChains (set texts place part)
chains_put [] zero part are kind = tt
chains_put [] (suc place) part are kind = tt
chains_put (p ∷ texts) zero part are kind = (kind, are.1)
chains_put (p ∷ texts) (suc place) part are kind = (are.0, chains_put texts place part are.1 kind)

pub texts_put : (texts : List Part) (tunes : List Tune) (place : ℕ) (part : Part) (tune : Tune) → HoldTunes texts tunes → part.kind ≡ chain
    → part.bytes ≡ stored_tune tune → HoldTunes (set texts place part) (set tunes place tune)
texts_put texts tunes place part tune holds kind its = record {
  are_chains = chains_put texts place part holds.are_chains kind;
  hold = map-set bytes_of texts place part ∙ (λ i. set (holds.hold i) place (its i)) ∙ sym (map-set stored_tune tunes place tune);
}

pub rows_put : (texts : List Part) (tunes : List Tune) (place : ℕ) (part : Part) (tune : Tune)
    → rows_of_tunes (set tunes place tune) (set texts place part) ≡ set (rows_of_tunes tunes texts) place (row_of_tune tune part)
rows_put texts [] place part tune = refl
rows_put [] (t ∷ tunes) zero part tune = refl
rows_put [] (t ∷ tunes) (suc place) part tune = refl
rows_put (p ∷ texts) (t ∷ tunes) zero part tune = refl
rows_put (p ∷ texts) (t ∷ tunes) (suc place) part tune = ap (λ l. row_of_tune t p ∷ l) (rows_put texts tunes place part tune)

pub texts_cut : (texts : List Part) (tunes : List Tune) (place : ℕ) → HoldTunes texts tunes → HoldTunes (remove texts place) (remove tunes place)
texts_cut [] [] zero holds = none_held
texts_cut [] [] (suc place) holds = none_held
texts_cut [] (tune ∷ tunes) place holds = absurd (tune_without tune tunes holds)
texts_cut (part ∷ texts) [] place holds = absurd (part_without part texts holds)
texts_cut (part ∷ texts) (tune ∷ tunes) zero holds = later_held part texts tune tunes holds
texts_cut (part ∷ texts) (tune ∷ tunes) (suc place) holds =
    more_held part (remove texts place) tune (remove tunes place) holds.are_chains.0 (first_held part texts tune tunes holds)
    (texts_cut texts tunes place (later_held part texts tune tunes holds))

pub rows_cut : (texts : List Part) (tunes : List Tune) (place : ℕ) → HoldTunes texts tunes
    → rows_of_tunes (remove tunes place) (remove texts place) ≡ remove (rows_of_tunes tunes texts) place
rows_cut [] [] zero holds = refl
rows_cut [] [] (suc place) holds = refl
rows_cut [] (tune ∷ tunes) place holds = absurd (tune_without tune tunes holds)
rows_cut (part ∷ texts) [] place holds = absurd (part_without part texts holds)
rows_cut (part ∷ texts) (tune ∷ tunes) zero holds = refl
rows_cut (part ∷ texts) (tune ∷ tunes) (suc place) holds =
    ap (λ l. row_of_tune tune part ∷ l) (rows_cut texts tunes place (later_held part texts tune tunes holds))

pub texts_inserted : (texts : List Part) (tunes : List Tune) (place : ℕ) (part : Part) (tune : Tune) → HoldTunes texts tunes → part.kind ≡ chain
    → part.bytes ≡ stored_tune tune → HoldTunes (insert texts place part) (insert tunes place tune)
texts_inserted texts tunes zero part tune holds kind its = more_held part texts tune tunes kind its holds
texts_inserted [] [] (suc place) part tune holds kind its = one_held part tune kind its
texts_inserted [] (t ∷ tunes) (suc place) part tune holds kind its = absurd (tune_without t tunes holds)
texts_inserted (p ∷ texts) [] (suc place) part tune holds kind its = absurd (part_without p texts holds)
texts_inserted (p ∷ texts) (t ∷ tunes) (suc place) part tune holds kind its =
    more_held p (insert texts place part) t (insert tunes place tune) holds.are_chains.0 (first_held p texts t tunes holds)
    (texts_inserted texts tunes place part tune (later_held p texts t tunes holds) kind its)

pub rows_inserted : (texts : List Part) (tunes : List Tune) (place : ℕ) (part : Part) (tune : Tune) → HoldTunes texts tunes
    → rows_of_tunes (insert tunes place tune) (insert texts place part) ≡ insert (rows_of_tunes tunes texts) place (row_of_tune tune part)
rows_inserted texts tunes zero part tune holds = refl
rows_inserted [] [] (suc place) part tune holds = refl
rows_inserted [] (t ∷ tunes) (suc place) part tune holds = absurd (tune_without t tunes holds)
rows_inserted (p ∷ texts) [] (suc place) part tune holds = absurd (part_without p texts holds)
rows_inserted (p ∷ texts) (t ∷ tunes) (suc place) part tune holds =
    ap (λ l. row_of_tune t p ∷ l) (rows_inserted texts tunes place part tune (later_held p texts t tunes holds))
