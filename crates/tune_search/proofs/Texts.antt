-- Texts in four indexes, put in and taken out by their runs.
use Rattle.std.proofs.Common.{◌≡◌, ℕ, ◌<◌, ◌^◌, List, [], ◌∷◌, ◌++◌, sym}
use Rattle.index_keys.specs.Entries.{Entry, inserted_all, removed_all}
use Rattle.index_keys.specs.Holdings.{AreSmall, IsWithout}
use Rattle.index_keys.proofs.Holding.{holds_less, holds_more}
use Rattle.tune_incipit.specs.ScaleAndIncipitKeys.{incipit_keys, scale_keys}
use Rattle.tune_index.specs.Indexes.{Shape}
use Rattle.tune_pages.specs.Stand.{Stand}
use Rattle.tune_parts.specs.Parts.{Part}
use Rattle.tune_search.specs.IndexParts.{IndexParts, KeepsIndex}
use Rattle.tune_search.specs.Inside.Four.{HoldsFour, HoldsSomeFour, LaysFour, runs_put_in, taken_out}
use Rattle.tune_search.specs.Searches.{AreRunsOf, HoldsKeys, HoldsSomeTexts, HoldsTexts, IsRunOf, SearchParts, SearchRuns, SearchShape}
use Rattle.tune_search.specs.Searches.{incipit_bytes, key_bytes}
use Rattle.tune_search.proofs.AsManyNotes.{notes_hold, notes_keeps, notes_run}
use Rattle.tune_titles.specs.TitleAndRhythmKeys.{rhythm_keys, title_keys}

-- their entries
abbrev pub entries_of_texts : (s : Stand) (shape : SearchShape) (before after : List Part) (parts : SearchParts) (tunes : List (ℕ × List ℕ))
    → HoldsTexts s shape before after parts tunes → SearchRuns
entries_of_texts s shape before after parts tunes h =
    record { notes = shape.notes; titles = h.titles.entries; rhythms = h.rhythms.entries; scales = h.scales.entries; incipits = h.incipits.entries }

pub texts_four : (s : Stand) (shape : SearchShape) (before after : List Part) (parts : SearchParts) (tunes : List (ℕ × List ℕ))
    → (h : HoldsTexts s shape before after parts tunes) → HoldsFour s shape before after parts (entries_of_texts s shape before after parts tunes h)
texts_four s shape before after parts tunes h = record {
  holds = h.holds;
  keeps = record { titles = h.titles.keeps; rhythms = h.rhythms.keeps; scales = h.scales.keeps; incipits = h.incipits.keeps };
}

pub some_texts_four : (s : Stand) (shape : SearchShape) → HoldsSomeTexts s shape → HoldsSomeFour s shape
some_texts_four s shape (before, after, parts, tunes, h) =
    (before, after, parts, entries_of_texts s shape before after parts tunes h, texts_four s shape before after parts tunes h)

-- TEXTS PUT IN
keys_more : (width : ℕ) (keys_of : List ℕ → List ℕ) (tunes more : List (ℕ × List ℕ)) (was is : Shape) (parts next : IndexParts) (run : List Entry)
    → AreSmall tunes → AreSmall more → IsRunOf width keys_of more run → (h : HoldsKeys width keys_of tunes was parts)
    → KeepsIndex width is next (inserted_all run h.entries)
    → HoldsKeys width keys_of (tunes ++ more) is next
keys_more width keys_of tunes more was is parts next run small also are h keeps = record {
  entries = inserted_all run h.entries;
  keeps = keeps;
  exact = holds_more keys_of tunes more h.entries run small also h.exact are.exact;
}

pub texts_more : (old new : Stand) (was is : SearchShape) (runs : SearchRuns) → runs.notes ≡ was.notes → is.notes ≡ was.notes
    → LaysFour old new was is (λ entries. runs_put_in runs entries)
    → (before after : List Part) (parts : SearchParts) (tunes more : List (ℕ × List ℕ)) → AreSmall tunes → AreSmall more → AreRunsOf more runs
    → HoldsTexts old was before after parts tunes → (next : SearchParts) × HoldsTexts new is before after next (tunes ++ more)
texts_more old new was is runs same_run same lays before after parts tunes more small also are h =
    let done = lays before after parts (entries_of_texts old was before after parts tunes h) (texts_four old was before after parts tunes h) in (
      done.0,
      record {
        holds = done.1.holds;
        titles = keys_more key_bytes title_keys tunes more was.titles is.titles parts.titles done.0.titles runs.titles small also are.titles h.titles
            done.1.keeps.titles;
        rhythms = keys_more key_bytes rhythm_keys tunes more was.rhythms is.rhythms parts.rhythms done.0.rhythms runs.rhythms small also are.rhythms h.rhythms
            done.1.keeps.rhythms;
        scales = keys_more key_bytes scale_keys tunes more was.scales is.scales parts.scales done.0.scales runs.scales small also are.scales h.scales
            done.1.keeps.scales;
        incipits = notes_hold was.notes is.notes (tunes ++ more) is.incipits done.0.incipits (sym same)
            (keys_more (incipit_bytes was.notes) (incipit_keys was.notes) tunes more was.incipits is.incipits parts.incipits done.0.incipits runs.incipits
            small also (notes_run runs.notes was.notes more runs.incipits same_run are.incipits) h.incipits
            (notes_keeps is.notes was.notes is.incipits done.0.incipits _ same done.1.keeps.incipits));
      },
    )

-- A TEXT TAKEN OUT
keys_less : (width : ℕ) (keys_of : List ℕ → List ℕ) (gone : ℕ × List ℕ) (tunes others : List (ℕ × List ℕ)) (was is : Shape) (parts next : IndexParts)
    (run : List Entry) → gone.0 < 2 ^ 32 → AreSmall tunes → IsWithout gone tunes others → IsRunOf width keys_of (gone ∷ []) run
    → (h : HoldsKeys width keys_of tunes was parts)
    → KeepsIndex width is next (removed_all run h.entries) → HoldsKeys width keys_of others is next
keys_less width keys_of gone tunes others was is parts next run low small without are h keeps = record {
  entries = removed_all run h.entries;
  keeps = keeps;
  exact = holds_less keys_of gone tunes others h.entries run low small h.keeps.rising without h.exact are.exact;
}

pub texts_less : (old new : Stand) (was is : SearchShape) (runs : SearchRuns) → runs.notes ≡ was.notes → is.notes ≡ was.notes
    → LaysFour old new was is (λ entries. taken_out runs entries)
    → (before after : List Part) (parts : SearchParts) (gone : ℕ × List ℕ) (tunes others : List (ℕ × List ℕ)) → gone.0 < 2 ^ 32 → AreSmall tunes
    → IsWithout gone tunes others → AreRunsOf (gone ∷ []) runs → HoldsTexts old was before after parts tunes
    → (next : SearchParts) × HoldsTexts new is before after next others
texts_less old new was is runs same_run same lays before after parts gone tunes others low small without are h =
    let done = lays before after parts (entries_of_texts old was before after parts tunes h) (texts_four old was before after parts tunes h) in (
      done.0,
      record {
        holds = done.1.holds;
        titles = keys_less key_bytes title_keys gone tunes others was.titles is.titles parts.titles done.0.titles runs.titles low small without are.titles
            h.titles done.1.keeps.titles;
        rhythms = keys_less key_bytes rhythm_keys gone tunes others was.rhythms is.rhythms parts.rhythms done.0.rhythms runs.rhythms low small without
            are.rhythms h.rhythms done.1.keeps.rhythms;
        scales = keys_less key_bytes scale_keys gone tunes others was.scales is.scales parts.scales done.0.scales runs.scales low small without are.scales
            h.scales done.1.keeps.scales;
        incipits = notes_hold was.notes is.notes others is.incipits done.0.incipits (sym same)
            (keys_less (incipit_bytes was.notes) (incipit_keys was.notes) gone tunes others was.incipits is.incipits parts.incipits done.0.incipits
            runs.incipits low small without (notes_run runs.notes was.notes (gone ∷ []) runs.incipits same_run are.incipits) h.incipits
            (notes_keeps is.notes was.notes is.incipits done.0.incipits _ same done.1.keeps.incipits));
      },
    )

-- TEXTS THAT STAY
pub texts_same : (old new : Stand) (was is : SearchShape) → is.notes ≡ was.notes → LaysFour old new was is (λ entries. entries)
    → (before after : List Part) (parts : SearchParts) (tunes : List (ℕ × List ℕ)) → HoldsTexts old was before after parts tunes
    → (next : SearchParts) × HoldsTexts new is before after next tunes
texts_same old new was is same lays before after parts tunes h =
    let done = lays before after parts (entries_of_texts old was before after parts tunes h) (texts_four old was before after parts tunes h) in (
      done.0,
      record {
        holds = done.1.holds;
        titles = record { entries = h.titles.entries; keeps = done.1.keeps.titles; exact = h.titles.exact };
        rhythms = record { entries = h.rhythms.entries; keeps = done.1.keeps.rhythms; exact = h.rhythms.exact };
        scales = record { entries = h.scales.entries; keeps = done.1.keeps.scales; exact = h.scales.exact };
        incipits = notes_hold was.notes is.notes tunes is.incipits done.0.incipits (sym same) (record {
          entries = h.incipits.entries;
          keeps = notes_keeps is.notes was.notes is.incipits done.0.incipits _ same done.1.keeps.incipits;
          exact = h.incipits.exact;
        });
      },
    )
