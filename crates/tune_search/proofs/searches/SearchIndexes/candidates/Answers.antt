use Rattle.std.proofs.Common.{◌≡◌, true, sym, ap, subst}
use Rattle.std.proofs.lemmas.Result.{IfOk-weaker}
use Rattle.index_keys.specs.Holdings.{HoldsEntries}
use Rattle.tune_index.specs.ListedLeaves.{index_with}
use Rattle.tune_incipit.specs.ScaleAndIncipitKeys.{incipit_keys}
use Rattle.tune_index.specs.Indexes.{Shape}
use Rattle.tune_queries.specs.Queries.{finds}
use Rattle.tune_queries.specs.declared.sought.Sought.{Sought}
use Rattle.tune_search.specs.IndexParts.{HoldsIndexAmong, HoldsSomeIndex}
use Rattle.tune_search.specs.IncipitForms.{notes_of_index}
use Rattle.tune_search.specs.Searches.{SearchShape, incipit_bytes, key_bytes}
use Rattle.tune_search.proofs.AmongLemmas.{titles_among, rhythms_among, scales_among, incipits_among, some_titles, some_rhythms, some_scales, some_incipits}
use Rattle.tune_search.proofs.AmongLemmas.{behind_titles, before_rhythms, behind_rhythms, before_scales, behind_scales, before_incipits}
use Rattle.tune_search.proofs.searches.SearchIndexes.candidates.Goals as goal

pub values_for-requires : goal.values_for-requires
values_for-requires g c = record {
  holds = λ h. subst (HoldsSomeIndex key_bytes c.args.edit.now.next)
      (sym (ap (λ (shape : SearchShape). shape.titles) c.self.view_is))
      (some_titles c.args.edit.now.next c.args.self.now (c.requires.holds h));
}

pub returns-in-Title-clause-finds : goal.returns-in-Title-clause-finds
returns-in-Title-clause-finds g c = IfOk-weaker c.values_for.result _ _ (λ values all h before after parts tunes texts tune there found.
    let s = c.args.edit.now.next in
    let among = subst (λ (shape : Shape). HoldsIndexAmong key_bytes s (index_with shape texts.titles.entries) before (behind_titles parts after) parts.titles)
    (sym (ap (λ (shape : SearchShape). shape.titles) c.self.view_is)) (titles_among s c.args.self.now before after parts tunes texts) in
    all h before (behind_titles parts after) parts.titles texts.titles.entries among tunes texts.titles.exact tune there
    (subst (λ (x : Sought). finds c.args.self.now.notes x tune.1 ≡ true) c.in-Title.is found)) c.values_for.ensures.finds

pub values_for-requires-in-Rhythm : goal.values_for-requires-in-Rhythm
values_for-requires-in-Rhythm g c = record {
  holds = λ h. subst (HoldsSomeIndex key_bytes c.args.edit.now.next)
      (sym (ap (λ (shape : SearchShape). shape.rhythms) c.self.view_is))
      (some_rhythms c.args.edit.now.next c.args.self.now (c.requires.holds h));
}

pub returns-in-Rhythm-clause-finds : goal.returns-in-Rhythm-clause-finds
returns-in-Rhythm-clause-finds g c = IfOk-weaker c.values_for-in-Rhythm.result _ _ (λ values all h before after parts tunes texts tune there found.
    let s = c.args.edit.now.next in
    let among = subst
    (λ (shape : Shape). HoldsIndexAmong key_bytes s (index_with shape texts.rhythms.entries) (before_rhythms before parts) (behind_rhythms parts after)
    parts.rhythms)
    (sym (ap (λ (shape : SearchShape). shape.rhythms) c.self.view_is)) (rhythms_among s c.args.self.now before after parts tunes texts) in
    all h (before_rhythms before parts) (behind_rhythms parts after) parts.rhythms texts.rhythms.entries among tunes texts.rhythms.exact tune there
    (subst (λ (x : Sought). finds c.args.self.now.notes x tune.1 ≡ true) c.in-Rhythm.is found)) c.values_for-in-Rhythm.ensures.finds

pub values_for-requires-in-Key : goal.values_for-requires-in-Key
values_for-requires-in-Key g c = record {
  holds = λ h. subst (HoldsSomeIndex key_bytes c.args.edit.now.next)
      (sym (ap (λ (shape : SearchShape). shape.scales) c.self.view_is))
      (some_scales c.args.edit.now.next c.args.self.now (c.requires.holds h));
}

pub returns-in-Key-clause-finds : goal.returns-in-Key-clause-finds
returns-in-Key-clause-finds g c = IfOk-weaker c.values_for-in-Key.result _ _ (λ values all h before after parts tunes texts tune there found.
    let s = c.args.edit.now.next in
    let among = subst
    (λ (shape : Shape). HoldsIndexAmong key_bytes s (index_with shape texts.scales.entries) (before_scales before parts) (behind_scales parts after)
    parts.scales)
    (sym (ap (λ (shape : SearchShape). shape.scales) c.self.view_is)) (scales_among s c.args.self.now before after parts tunes texts) in
    all h (before_scales before parts) (behind_scales parts after) parts.scales texts.scales.entries among tunes texts.scales.exact tune there
    (subst (λ (x : Sought). finds c.args.self.now.notes x tune.1 ≡ true) c.in-Key.is found)) c.values_for-in-Key.ensures.finds

pub values_for-requires-in-Notes : goal.values_for-requires-in-Notes
values_for-requires-in-Notes g c = record {
  holds = λ h.
      let s = c.args.edit.now.next in
      subst (λ (shape : SearchShape). HoldsSomeIndex (incipit_bytes shape.notes) s shape.incipits) (sym c.self.view_is)
      (some_incipits s c.args.self.now (c.requires.holds h));
}

pub returns-in-Notes-clause-finds : goal.returns-in-Notes-clause-finds
returns-in-Notes-clause-finds g c = IfOk-weaker c.values_for-in-Notes.result _ _ (λ values all h before after parts tunes texts tune there found.
    let s = c.args.edit.now.next in
    let entries = texts.incipits.entries in
    let among = subst
    (λ (shape : SearchShape). HoldsIndexAmong (incipit_bytes shape.notes) s (index_with shape.incipits entries) (before_incipits before parts) after
    parts.incipits)
    (sym c.self.view_is) (incipits_among s c.args.self.now before after parts tunes texts) in
    let exact = subst (λ (shape : SearchShape). HoldsEntries (incipit_keys shape.notes) tunes entries) (sym c.self.view_is) texts.incipits.exact in
    let its = subst (λ (shape : SearchShape). finds shape.notes c.args.sought.now tune.1 ≡ true) (sym c.self.view_is) found in
    all h (before_incipits before parts) after parts.incipits entries among tunes exact tune there
    (subst (λ (x : Sought). finds (notes_of_index c.self.inside.incipits) x tune.1 ≡ true) c.in-Notes.is its)) c.values_for-in-Notes.ensures.finds
