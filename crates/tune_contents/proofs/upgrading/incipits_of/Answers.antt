use Rattle.std.proofs.Common.{Ok, ◌≡◌, ℕ, ◌<◌, List, arith, length, ◌++◌, ◌∷◌, [], get_or, sym, subst, ◌∙◌}
use Rattle.std.proofs.lemmas.List.{get_or_default}
use Rattle.tune_pages.specs.Kept.{HonestAt}
use Rattle.tune_pages.specs.Stand.{Stand}
use Rattle.tune_pages.proofs.Edits.{consulted, consults_next}
use Rattle.tune_search.specs.IncipitRuns.{GathersIncipits}
use Rattle.tune_format.specs.declared.rows.Row.{Row}
use Rattle.tune_contents.specs.Texts.{HoldsSomeText, HoldsText}
use Rattle.tune_contents.proofs.OldTuneLemmas.{some_row, some_text_there}
use Rattle.tune_contents.proofs.UpgradeLemmas.{gathers_more, not_refused, texts_ordered, tunes_ordered}
use Rattle.tune_contents.proofs.upgrading.incipits_of.Goals as goal

pub read_tune_where-requires : goal.read_tune_where-requires
read_tune_where-requires g c = record {
  there = λ h.
      (let so = c.loop-place.invariant.consults in
      let rows = c.args.rows.now.items in
      let at = c.loop-place.place in
      let same = so.stand in
      let within : at < length rows = omega (arith, c.loop-place-test.true) in
      let there = some_text_there c.args.layout c.args.edit.now.next rows at c.at-row.result within
      (c.requires.holds (so.looks.was_honest h)) in
      subst (λ (s : Stand). HoldsSomeText c.args.layout s c.at-row.result.first) (sym (same.same h))
      (subst (λ (r : Row). HoldsSomeText c.args.layout c.args.edit.now.next r.first) (sym c.at-row.ensures) there));
}

pub loop-place-preserved : goal.loop-place-preserved
loop-place-preserved g c =
    let inv = c.loop-place.invariant in
    let call = c.in-Ok-read_tune_where.ensures in
    let rows = c.args.rows.now.items in
    let at = c.loop-place.place in
    let text : List ℕ = c.in-Ok-read_tune_where.text in
    let same = inv.consults.stand in
    let within : at < length rows = omega (arith, c.loop-place-test.true) in
    let is : c.at-row.result ≡ get_or rows at some_row = c.at-row.ensures ∙ get_or_default rows at _ some_row within in
    let read = subst (λ (r : Row). HonestAt g.D.Disk.honest c.read_tune_where.new.edit.base.disk → (revision : ℕ) (other : List ℕ)
    → HoldsText c.args.layout c.loop-place.edit.next r.first revision other → text ≡ other) is call.text in
    let added = subst (λ (r : Row). (tunes : List (ℕ × List ℕ)) → GathersIncipits tunes c.loop-place.run
    → GathersIncipits (tunes ++ (r.number, text) ∷ []) c.add.new.self) is (
    not_refused c.add.result _ (sym c.is_err.ensures.value ∙ c.if-is_err.false) c.add.ensures) in
    record {
      consults = consults_next g.D.Disk tt (Ok tt) c.args.edit.now c.loop-place.edit c.read_tune_where.new.edit inv.consults
          (consulted g.D.Disk text tt _ _ call.consults);
      gathers = gathers_more (HonestAt g.D.Disk.honest c.loop-place.edit.base.disk) (HonestAt g.D.Disk.honest c.read_tune_where.new.edit.base.disk)
          c.args.layout
          c.args.edit.now.next c.loop-place.edit.next rows at c.loop-place.run c.add.new.self text
          call.consults.looks.was_honest same.same within inv.gathers read added;
    }

pub returns-clause-some : goal.returns-clause-some
returns-clause-some g c =
    let so = c.loop-place.invariant.gathers in (
      so.texts,
      texts_ordered (HonestAt g.D.Disk.honest c.loop-place.edit.base.disk) c.args.layout c.args.edit.now.next c.args.rows.now.items
          c.loop-place.place c.loop-place.run c.in_order.result (omega (arith, c.loop-place-test.false))
          c.requires.rows so c.in_order.ensures,
    )

pub returns-clause-run : goal.returns-clause-run
returns-clause-run g c =
    tunes_ordered (HonestAt g.D.Disk.honest c.loop-place.edit.base.disk) c.args.layout c.args.edit.now.next c.args.rows.now.items
    c.loop-place.place c.loop-place.run c.in_order.result (omega (arith, c.loop-place-test.false))
    c.requires.rows c.loop-place.invariant.gathers c.in_order.ensures

pub returns-clause-consults : goal.returns-clause-consults
returns-clause-consults g c = consulted g.D.Disk tt _ _ _ c.loop-place.invariant.consults
