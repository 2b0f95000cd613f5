use Rattle.std.proofs.Common.{Err, ◌≡◌, ap, sym, subst, ◌∙◌}
use Rattle.tune_pages.proofs.Edits.{edits_failed, edits_fuller}
use Rattle.tune_search.specs.IncipitForms.{notes_of_index, shape_of}
use Rattle.tune_search.specs.IncipitRuns.{HoldsIncipits}
use Rattle.tune_search.specs.Searches.{HoldsTexts, SearchShape}
use Rattle.tune_search.specs.declared.incipit_index.IncipitIndex.{IncipitIndex}
use Rattle.tune_search.proofs.Lengthened.{full_for_tunes, has_index, texts_lengthened, with_notes}
use Rattle.tune_search.proofs.searches.SearchIndexes.lengthen_incipits.Goals as goal

pub lengthen-requires-clause-index : goal.lengthen-requires-clause-index
lengthen-requires-clause-index g c = λ h0.
    let s0 = c.args.edit.now.next in
    let titles = c.self.inside.titles in
    let rhythms = c.self.inside.rhythms in
    let scales = c.self.inside.scales in
    let was = c.in-Eight.index in
    let whole : with_notes 8 titles rhythms scales was ≡ c.args.self.now =
    ap (λ (it : IncipitIndex). with_notes (notes_of_index it) titles rhythms scales (shape_of it)) (sym c.in-Eight.is) ∙ c.self.view_is in
    has_index s0 s0 titles rhythms scales was was c.args.run.now
    (subst (λ (shape : SearchShape). HoldsIncipits s0 shape c.args.run.now) (sym whole) (c.requires.holds h0))

pub returns-in-Err-clause-edits : goal.returns-in-Err-clause-edits
returns-in-Err-clause-edits g c =
    let s0 = c.args.edit.now.next in
    let was = c.in-Eight.index in
    edits_failed g.D.Disk c.in-Err.fault _ _ _ (edits_fuller g.D.Disk (Err c.in-Err.fault) _ _ _ _
    (λ full h1 before after parts tunes are h.
    full_for_tunes s0 s0 c.self.inside.titles c.self.inside.rhythms c.self.inside.scales was was c.args.run.now (full h1) tunes are)
    c.in-Err.ensures.edits)

pub returns-clause-holds : goal.returns-clause-holds
returns-clause-holds g c = λ h1 before after parts tunes are h.
    let s0 = c.args.edit.now.next in
    let s1 = c.lengthen.new.edit.next in
    let titles = c.self.inside.titles in
    let rhythms = c.self.inside.rhythms in
    let scales = c.self.inside.scales in
    let was = c.in-Eight.index in
    let whole : with_notes 8 titles rhythms scales was ≡ c.args.self.now =
    ap (λ (it : IncipitIndex). with_notes (notes_of_index it) titles rhythms scales (shape_of it)) (sym c.in-Eight.is) ∙ c.self.view_is in
    texts_lengthened s0 s1 titles rhythms scales was c.in-Ok.longer c.args.run.now (c.in-Ok.ensures.lays h1) before after parts tunes are
    (subst (λ (shape : SearchShape). HoldsTexts s0 shape before after parts tunes) (sym whole) h)
