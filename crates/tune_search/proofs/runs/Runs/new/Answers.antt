use Rattle.std.proofs.Common.{◌≡◌, ℕ, List, ◌∙◌, ap, sym}
use Rattle.tune_incipit.specs.Incipits.{incipit_of, tune_notes}
use Rattle.tune_incipit.proofs.KeyLaws.{incipit_rises, scales_rise}
use Rattle.tune_incipit.specs.Scales.{scale_of_text}
use Rattle.tune_incipit.specs.ScaleAndIncipitKeys.{incipit_keys, scale_keys, scale_keys_of}
use Rattle.tune_search.specs.IncipitForms.{entries_of_incipits, note_count, notes_of_entries}
use Rattle.tune_search.specs.Searches.{incipit_bytes, key_bytes, texts_numbered}
use Rattle.tune_titles.proofs.KindLaws.{rhythm_rises, titles_rise}
use Rattle.tune_titles.specs.TitleAndRhythmKeys.{rhythm_keys, rhythm_keys_of, title_keys, title_keys_of}
use Rattle.tune_search.proofs.TextRuns.{gathered_more, is_run_of, shown_alone}
use Rattle.tune_search.proofs.AsManyNotes.{notes_more, notes_run}
use Rattle.tune_search.proofs.runs.Runs.new.Goals as goal

pub loop-place-preserved : goal.loop-place-preserved
loop-place-preserved c =
    let first = c.args.first in
    let place = c.loop-place.place in
    let texts = c.args.texts.now in
    let text = c.index-texts-place.result in
    let l = c.loop-place-test.true in
    let is = c.index-texts-place.is in
    let header = c.fields-fields.ensures in
    let was = c.loop-place in
    let slice = c.as_slice.result.now in
    let rhythm = c.as_slice-in-loop-place.result.now in
    let scale = c.as_slice-in-loop-place-2.result.now in
    let own_title = c.as_slice.ensures.value ∙ c.row_of_title_keys.ensures ∙ ap title_keys_of header.titles in
    let own_rhythm = shown_alone c.key_of_rhythm.result rhythm c.as_slice-in-loop-place.ensures ∙ c.key_of_rhythm.ensures
    ∙ ap rhythm_keys_of header.rhythm in
    let own_scale = shown_alone c.key_of_scale.result scale c.as_slice-in-loop-place-2.ensures ∙ c.key_of_scale.ensures
    ∙ ap (λ (key : List ℕ). scale_keys_of (scale_of_text key)) header.key in
    let titles = c.add_entries.new.run.items in
    let rhythms = c.add_entries-in-loop-place.new.run.items in
    let scales = c.add_entries-in-loop-place-2.new.run.items in
    let incipits = c.add_text.new.self in
    let put_titles = c.in_ok-add_entries.ensures in
    let put_rhythms = c.in_ok-add_entries-2.ensures in
    let put_scales = c.in_ok-add_entries-3.ensures in
    let put_incipits = c.in_ok-add_text.ensures in
    record {
      titles = gathered_more key_bytes title_keys first place texts text slice was.titles.items titles l is own_title put_titles.added put_titles.fit
          was.invariant.titles;
      rhythms = gathered_more key_bytes rhythm_keys first place texts text rhythm was.rhythms.items rhythms l is own_rhythm put_rhythms.added put_rhythms.fit
          was.invariant.rhythms;
      scales = gathered_more key_bytes scale_keys first place texts text scale was.scales.items scales l is own_scale put_scales.added put_scales.fit
          was.invariant.scales;
      notes = put_incipits.notes ∙ was.invariant.notes;
      incipits = notes_more first place texts text (notes_of_entries was.incipits) (note_count c.args.notes) (entries_of_incipits was.incipits)
          (entries_of_incipits incipits) l is was.invariant.notes put_incipits.added put_incipits.fit was.invariant.incipits;
    }

-- the keys of a text rise, so each entry came once
pub returns : goal.returns
returns c =
    let first = c.args.first in
    let place = c.loop-place.place in
    let texts = c.args.texts.now in
    let end = c.loop-place-test.false in
    let was = c.loop-place in
    let all = was.invariant in
    let few = c.requires in
    let titles = c.in_order.ensures in
    let rhythms = c.in_order-2.ensures in
    let scales = c.in_order-3.ensures in
    let incipits = c.in_order-4.ensures in
    let by = note_count c.args.notes in
    let run = c.in_order-4.result in
    let notes : notes_of_entries run ≡ by = incipits.notes ∙ all.notes in
    record {
      notes = notes;
      runs = record {
        titles = is_run_of key_bytes title_keys first place texts was.titles.items c.in_order.result.items titles_rise few end all.titles titles.same
            titles.sorted;
        rhythms = is_run_of key_bytes rhythm_keys first place texts was.rhythms.items c.in_order-2.result.items rhythm_rises few end all.rhythms rhythms.same
            rhythms.sorted;
        scales = is_run_of key_bytes scale_keys first place texts was.scales.items c.in_order-3.result.items scales_rise few end all.scales scales.same
            scales.sorted;
        incipits = notes_run by (notes_of_entries run) (texts_numbered first texts) (entries_of_incipits run) (sym notes)
            (is_run_of (incipit_bytes by) (incipit_keys by) first place texts (entries_of_incipits was.incipits) (entries_of_incipits run)
            (λ text. incipit_rises (incipit_bytes by) (incipit_of by (tune_notes text))) few end all.incipits incipits.same incipits.sorted);
      };
    }
