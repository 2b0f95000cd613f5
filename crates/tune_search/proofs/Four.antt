-- Four indexes, one after another, among all other parts.
use Rattle.std.proofs.Common.{◌≡◌, ℕ, List, ◌++◌, sym, ◌∙◌, ap, subst, append_assoc}
use Rattle.index_keys.specs.Entries.{Entry}
use Rattle.tune_index.specs.ListedLeaves.{index_with}
use Rattle.tune_index.specs.Indexes.{Shape}
use Rattle.tune_pages.specs.Stand.{Stand}
use Rattle.tune_parts.specs.Parts.{HoldsParts, Part}
use Rattle.tune_search.specs.IndexParts.{HoldsIndexAmong, HoldsSomeIndex, LaysIndex, parts_of_index}
use Rattle.tune_search.specs.Inside.Four.{HoldsFour, HoldsSomeFour, LaysFour}
use Rattle.tune_search.specs.Searches.{SearchParts, SearchRuns, SearchShape, incipit_bytes, key_bytes}

-- ONE OF FOUR LISTS
module _ (before a b c d after : List Part) where
  first_of : before ++ ((a ++ (b ++ (c ++ d))) ++ after) ≡ before ++ (a ++ ((b ++ (c ++ d)) ++ after))
  first_of = ap (λ (l : List Part). before ++ l) (append_assoc a (b ++ (c ++ d)) after)

  second_of : before ++ ((a ++ (b ++ (c ++ d))) ++ after) ≡ (before ++ a) ++ (b ++ ((c ++ d) ++ after))
  second_of = first_of ∙ sym (append_assoc before a ((b ++ (c ++ d)) ++ after)) ∙ ap (λ (l : List Part). (before ++ a) ++ l) (append_assoc b (c ++ d) after)

  third_of : before ++ ((a ++ (b ++ (c ++ d))) ++ after) ≡ ((before ++ a) ++ b) ++ (c ++ (d ++ after))
  third_of = second_of ∙ sym (append_assoc (before ++ a) b ((c ++ d) ++ after)) ∙ ap (λ (l : List Part). ((before ++ a) ++ b) ++ l) (append_assoc c d after)

  pub fourth_of : before ++ ((a ++ (b ++ (c ++ d))) ++ after) ≡ (((before ++ a) ++ b) ++ c) ++ (d ++ after)
  fourth_of = third_of ∙ sym (append_assoc ((before ++ a) ++ b) c (d ++ after))

-- EACH INDEX AMONG ALL OTHERS
module _ (s : Stand) (shape : SearchShape) (before after : List Part) (parts : SearchParts) (entries : SearchRuns)
    (h : HoldsFour s shape before after parts entries) where
  pub titles_among : HoldsIndexAmong key_bytes s (index_with shape.titles entries.titles) before
      ((parts_of_index parts.rhythms ++ (parts_of_index parts.scales ++ parts_of_index parts.incipits)) ++ after) parts.titles
  titles_among = record {
    holds = subst (λ (l : List Part). HoldsParts s l)
        (first_of before (parts_of_index parts.titles) (parts_of_index parts.rhythms) (parts_of_index parts.scales)
        (parts_of_index parts.incipits) after) h.holds;
    keeps = h.keeps.titles;
  }

  pub rhythms_among : HoldsIndexAmong key_bytes s (index_with shape.rhythms entries.rhythms) (before ++ parts_of_index parts.titles)
      ((parts_of_index parts.scales ++ parts_of_index parts.incipits) ++ after) parts.rhythms
  rhythms_among = record {
    holds = subst (λ (l : List Part). HoldsParts s l) (second_of before (parts_of_index parts.titles) (parts_of_index parts.rhythms)
        (parts_of_index parts.scales) (parts_of_index parts.incipits) after) h.holds;
    keeps = h.keeps.rhythms;
  }

  pub scales_among : HoldsIndexAmong key_bytes s (index_with shape.scales entries.scales)
      ((before ++ parts_of_index parts.titles) ++ parts_of_index parts.rhythms) (parts_of_index parts.incipits ++ after) parts.scales
  scales_among = record {
    holds = subst (λ (l : List Part). HoldsParts s l)
        (third_of before (parts_of_index parts.titles) (parts_of_index parts.rhythms) (parts_of_index parts.scales)
        (parts_of_index parts.incipits) after) h.holds;
    keeps = h.keeps.scales;
  }

  pub incipits_among : HoldsIndexAmong (incipit_bytes shape.notes) s (index_with shape.incipits entries.incipits)
      (((before ++ parts_of_index parts.titles) ++ parts_of_index parts.rhythms) ++ parts_of_index parts.scales) after parts.incipits
  incipits_among = record {
    holds = subst (λ (l : List Part). HoldsParts s l) (fourth_of before (parts_of_index parts.titles) (parts_of_index parts.rhythms)
        (parts_of_index parts.scales) (parts_of_index parts.incipits) after) h.holds;
    keeps = h.keeps.incipits;
  }

-- some index of each kind stands there
pub some_titles : (s : Stand) (shape : SearchShape) → HoldsSomeFour s shape → HoldsSomeIndex key_bytes s shape.titles
some_titles s shape (before, after, parts, entries, h) = (_, _, parts.titles, entries.titles, titles_among s shape before after parts entries h)

pub some_rhythms : (s : Stand) (shape : SearchShape) → HoldsSomeFour s shape → HoldsSomeIndex key_bytes s shape.rhythms
some_rhythms s shape (before, after, parts, entries, h) = (_, _, parts.rhythms, entries.rhythms, rhythms_among s shape before after parts entries h)

pub some_scales : (s : Stand) (shape : SearchShape) → HoldsSomeFour s shape → HoldsSomeIndex key_bytes s shape.scales
some_scales s shape (before, after, parts, entries, h) = (_, _, parts.scales, entries.scales, scales_among s shape before after parts entries h)

pub some_incipits : (s : Stand) (shape : SearchShape) → HoldsSomeFour s shape → HoldsSomeIndex (incipit_bytes shape.notes) s shape.incipits
some_incipits s shape (before, after, parts, entries, h) = (_, _, parts.incipits, entries.incipits, incipits_among s shape before after parts entries h)

-- ONE OF THEM IS LAID
abbrev pub with_titles : Shape → SearchShape → SearchShape
with_titles is shape = record { notes = shape.notes; titles = is; rhythms = shape.rhythms; scales = shape.scales; incipits = shape.incipits }

abbrev pub with_rhythms : Shape → SearchShape → SearchShape
with_rhythms is shape = record { notes = shape.notes; titles = shape.titles; rhythms = is; scales = shape.scales; incipits = shape.incipits }

abbrev pub with_scales : Shape → SearchShape → SearchShape
with_scales is shape = record { notes = shape.notes; titles = shape.titles; rhythms = shape.rhythms; scales = is; incipits = shape.incipits }

abbrev pub with_incipits : Shape → SearchShape → SearchShape
with_incipits is shape = record { notes = shape.notes; titles = shape.titles; rhythms = shape.rhythms; scales = shape.scales; incipits = is }

module _ (old new : Stand) (shape : SearchShape) (is : Shape) (change : List Entry → List Entry) where
  pub titles_laid : LaysIndex key_bytes old new shape.titles is change → LaysFour old new shape (with_titles is shape)
      (λ entries. record {
        notes = entries.notes;
        titles = change entries.titles;
        rhythms = entries.rhythms;
        scales = entries.scales;
        incipits = entries.incipits;
      })
  titles_laid lays before after parts entries h =
      let done = lays _ _ parts.titles entries.titles (titles_among old shape before after parts entries h) in (
        record { titles = done.0; rhythms = parts.rhythms; scales = parts.scales; incipits = parts.incipits },
        record {
          holds = subst (λ (l : List Part). HoldsParts new l) (sym (first_of before (parts_of_index done.0) (parts_of_index parts.rhythms)
              (parts_of_index parts.scales) (parts_of_index parts.incipits) after)) done.1.holds;
          keeps = record { titles = done.1.keeps; rhythms = h.keeps.rhythms; scales = h.keeps.scales; incipits = h.keeps.incipits };
        },
      )

  pub rhythms_laid : LaysIndex key_bytes old new shape.rhythms is change → LaysFour old new shape (with_rhythms is shape)
      (λ entries. record {
        notes = entries.notes;
        titles = entries.titles;
        rhythms = change entries.rhythms;
        scales = entries.scales;
        incipits = entries.incipits;
      })
  rhythms_laid lays before after parts entries h =
      let done = lays _ _ parts.rhythms entries.rhythms (rhythms_among old shape before after parts entries h) in (
        record { titles = parts.titles; rhythms = done.0; scales = parts.scales; incipits = parts.incipits },
        record {
          holds = subst (λ (l : List Part). HoldsParts new l) (sym (second_of before (parts_of_index parts.titles) (parts_of_index done.0)
              (parts_of_index parts.scales) (parts_of_index parts.incipits) after)) done.1.holds;
          keeps = record { titles = h.keeps.titles; rhythms = done.1.keeps; scales = h.keeps.scales; incipits = h.keeps.incipits };
        },
      )

  pub scales_laid : LaysIndex key_bytes old new shape.scales is change → LaysFour old new shape (with_scales is shape)
      (λ entries. record {
        notes = entries.notes;
        titles = entries.titles;
        rhythms = entries.rhythms;
        scales = change entries.scales;
        incipits = entries.incipits;
      })
  scales_laid lays before after parts entries h =
      let done = lays _ _ parts.scales entries.scales (scales_among old shape before after parts entries h) in (
        record { titles = parts.titles; rhythms = parts.rhythms; scales = done.0; incipits = parts.incipits },
        record {
          holds = subst (λ (l : List Part). HoldsParts new l) (sym (third_of before (parts_of_index parts.titles) (parts_of_index parts.rhythms)
              (parts_of_index done.0) (parts_of_index parts.incipits) after)) done.1.holds;
          keeps = record { titles = h.keeps.titles; rhythms = h.keeps.rhythms; scales = done.1.keeps; incipits = h.keeps.incipits };
        },
      )

  pub incipits_laid : LaysIndex (incipit_bytes shape.notes) old new shape.incipits is change → LaysFour old new shape (with_incipits is shape)
      (λ entries. record {
        notes = entries.notes;
        titles = entries.titles;
        rhythms = entries.rhythms;
        scales = entries.scales;
        incipits = change entries.incipits;
      })
  incipits_laid lays before after parts entries h =
      let done = lays _ _ parts.incipits entries.incipits (incipits_among old shape before after parts entries h) in (
        record { titles = parts.titles; rhythms = parts.rhythms; scales = parts.scales; incipits = done.0 },
        record {
          holds = subst (λ (l : List Part). HoldsParts new l) (sym (fourth_of before (parts_of_index parts.titles) (parts_of_index parts.rhythms)
              (parts_of_index parts.scales) (parts_of_index done.0) after)) done.1.holds;
          keeps = record { titles = h.keeps.titles; rhythms = h.keeps.rhythms; scales = h.keeps.scales; incipits = done.1.keeps };
        },
      )

-- one after another
pub four_then : (one two three : Stand) (was mid is : SearchShape) (first second : SearchRuns → SearchRuns) → LaysFour one two was mid first
    → LaysFour two three mid is second → LaysFour one three was is (λ entries. second (first entries))
four_then one two three was mid is first second lays more = λ before after parts entries h.
    let done = lays before after parts entries h in
    more before after done.0 (first entries) done.1

pub some_four : (old new : Stand) (was is : SearchShape) (change : SearchRuns → SearchRuns) → LaysFour old new was is change → HoldsSomeFour old was
    → HoldsSomeFour new is
some_four old new was is change lays (before, after, parts, entries, h) =
    let done = lays before after parts entries h in
    (before, after, done.0, change entries, done.1)

-- THE FOUR, FIRST TO LAST
abbrev pub changed : (List Entry → List Entry) → (List Entry → List Entry) → (List Entry → List Entry) → (List Entry → List Entry) → SearchRuns → SearchRuns
changed t r c i entries = record {
  notes = entries.notes;
  titles = t entries.titles;
  rhythms = r entries.rhythms;
  scales = c entries.scales;
  incipits = i entries.incipits;
}

abbrev pub same_entries : List Entry → List Entry
same_entries entries = entries

module _ (was : SearchShape) (titles rhythms scales incipits : Shape) (t r c i : List Entry → List Entry) where
  pub one_laid : (s0 s1 : Stand) → LaysIndex key_bytes s0 s1 was.titles titles t
      → LaysFour s0 s1 was (with_titles titles was) (changed t same_entries same_entries same_entries)
  one_laid s0 s1 lays = titles_laid s0 s1 was titles t lays

  pub two_laid : (s0 s1 s2 : Stand) → LaysIndex key_bytes s0 s1 was.titles titles t → LaysIndex key_bytes s1 s2 was.rhythms rhythms r
      → LaysFour s0 s2 was (with_rhythms rhythms (with_titles titles was)) (changed t r same_entries same_entries)
  two_laid s0 s1 s2 first second = four_then s0 s1 s2 was (with_titles titles was) (with_rhythms rhythms (with_titles titles was))
      (changed t same_entries same_entries same_entries) (changed same_entries r same_entries same_entries)
      (one_laid s0 s1 first) (rhythms_laid s1 s2 (with_titles titles was) rhythms r second)

  pub three_laid : (s0 s1 s2 s3 : Stand) → LaysIndex key_bytes s0 s1 was.titles titles t → LaysIndex key_bytes s1 s2 was.rhythms rhythms r
      → LaysIndex key_bytes s2 s3 was.scales scales c
      → LaysFour s0 s3 was (with_scales scales (with_rhythms rhythms (with_titles titles was))) (changed t r c same_entries)
  three_laid s0 s1 s2 s3 first second third = four_then s0 s2 s3 was (with_rhythms rhythms (with_titles titles was))
      (with_scales scales (with_rhythms rhythms (with_titles titles was))) (changed t r same_entries same_entries)
      (changed same_entries same_entries c same_entries) (two_laid s0 s1 s2 first second)
      (scales_laid s2 s3 (with_rhythms rhythms (with_titles titles was)) scales c third)

  pub four_laid : (s0 s1 s2 s3 s4 : Stand) (notes : ℕ) → notes ≡ was.notes → LaysIndex key_bytes s0 s1 was.titles titles t
      → LaysIndex key_bytes s1 s2 was.rhythms rhythms r
      → LaysIndex key_bytes s2 s3 was.scales scales c → LaysIndex (incipit_bytes was.notes) s3 s4 was.incipits incipits i
      → LaysFour s0 s4 was (record { notes = notes; titles = titles; rhythms = rhythms; scales = scales; incipits = incipits }) (changed t r c i)
  four_laid s0 s1 s2 s3 s4 notes same first second third fourth =
      subst (λ (n : ℕ). LaysFour s0 s4 was (record { notes = n; titles = titles; rhythms = rhythms; scales = scales; incipits = incipits }) (changed t r c i))
      (sym same) (four_then s0 s3 s4 was (with_scales scales (with_rhythms rhythms (with_titles titles was)))
      (record { notes = was.notes; titles = titles; rhythms = rhythms; scales = scales; incipits = incipits }) (changed t r c same_entries)
      (changed same_entries same_entries same_entries i) (three_laid s0 s1 s2 s3 first second third)
      (incipits_laid s3 s4 (with_scales scales (with_rhythms rhythms (with_titles titles was))) incipits i fourth))

-- and what stands there at each call
module _ (was : SearchShape) (titles rhythms scales : Shape) (t r c : List Entry → List Entry) where
  pub rhythms_next : (s0 s1 : Stand) → LaysIndex key_bytes s0 s1 was.titles titles t → HoldsSomeFour s0 was → HoldsSomeIndex key_bytes s1 was.rhythms
  rhythms_next s0 s1 first holds = some_rhythms s1 (with_titles titles was)
      (some_four s0 s1 was (with_titles titles was) (changed t same_entries same_entries same_entries) (titles_laid s0 s1 was titles t first) holds)

  pub scales_next : (s0 s1 s2 : Stand) → LaysIndex key_bytes s0 s1 was.titles titles t → LaysIndex key_bytes s1 s2 was.rhythms rhythms r → HoldsSomeFour s0 was
      → HoldsSomeIndex key_bytes s2 was.scales
  scales_next s0 s1 s2 first second holds = some_scales s2 (with_rhythms rhythms (with_titles titles was))
      (some_four s0 s2 was (with_rhythms rhythms (with_titles titles was)) (changed t r same_entries same_entries)
      (two_laid was titles rhythms scales scales t r c c s0 s1 s2 first second) holds)

  pub incipits_next : (s0 s1 s2 s3 : Stand) → LaysIndex key_bytes s0 s1 was.titles titles t → LaysIndex key_bytes s1 s2 was.rhythms rhythms r
      → LaysIndex key_bytes s2 s3 was.scales scales c → HoldsSomeFour s0 was → HoldsSomeIndex (incipit_bytes was.notes) s3 was.incipits
  incipits_next s0 s1 s2 s3 first second third holds = some_incipits s3 (with_scales scales (with_rhythms rhythms (with_titles titles was)))
      (some_four s0 s3 was (with_scales scales (with_rhythms rhythms (with_titles titles was))) (changed t r c same_entries)
      (three_laid was titles rhythms scales scales t r c c s0 s1 s2 s3 first second third) holds)
