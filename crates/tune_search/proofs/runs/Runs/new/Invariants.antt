use Rattle.std.proofs.Common.{◌≡◌}
use Rattle.tune_incipit.specs.ScaleAndIncipitKeys.{incipit_keys, scale_keys}
use Rattle.tune_search.specs.IncipitForms.{entries_of_incipits, note_count, notes_of_entries}
use Rattle.tune_search.specs.Searches.{incipit_bytes, key_bytes}
use Rattle.tune_titles.specs.TitleAndRhythmKeys.{rhythm_keys, title_keys}
use Rattle.tune_search.proofs.TextRuns.{Gathered}
use Rattle.tune_search.proofs.runs.Runs.new.Given as goal

abbrev pub invariant-loop-place : goal.invariant-loop-place
invariant-loop-place l = record {
  titles : Gathered key_bytes title_keys l.first l.place l.texts l.titles.items;
  rhythms : Gathered key_bytes rhythm_keys l.first l.place l.texts l.rhythms.items;
  scales : Gathered key_bytes scale_keys l.first l.place l.texts l.scales.items;
  notes : notes_of_entries l.incipits ≡ note_count l.fn.notes;
  incipits : Gathered (incipit_bytes (note_count l.fn.notes)) (incipit_keys (note_count l.fn.notes)) l.first l.place l.texts (entries_of_incipits l.incipits);
}
