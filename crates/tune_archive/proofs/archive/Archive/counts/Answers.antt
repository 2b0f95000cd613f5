use Rattle.std.proofs.Common.{ap, sym, subst, ◌∙◌, length, ◌≡◌, false}
use Rattle.tune_pages.specs.Kept.{HonestAt}
use Rattle.tune_store.specs.Limits.{layout_number}
use Rattle.tune_contents.specs.declared.contents.Contents.{Contents}
use Rattle.tune_archive.specs.Shelf.{Shelf}
use Rattle.tune_archive.specs.Inside.Holding.{HoldsState}
use Rattle.tune_archive.proofs.FetchLemmas.{rows_held}
use Rattle.tune_archive.proofs.archive.Archive.counts.Goals as goal

pub returns-clause-counts : goal.returns-clause-counts
returns-clause-counts g c =
    λ honest.
    (let P : Shelf g.row.D.Denot → Type 0 =
    λ s. HonestAt g.D.Disk.honest s.pages.disk → s.closed ≡ false → HoldsState g.D.Disk.state s.pages s.contents in
    let is_open : c.args.self.now.closed ≡ false = ap (λ (s : Shelf g.row.D.Denot). s.closed) (sym c.self.view_is) ∙ c.if-self.false in
    let held = subst P c.self.view_is c.self.invariant.holds honest is_open in
    let same : c.self.inside.contents ≡ c.args.self.now.contents = ap (λ (s : Shelf g.row.D.Denot). s.contents) c.self.view_is in (
      c.number.ensures ∙ ap layout_number (ap (λ (x : Contents). x.layout) same ∙ held.holds.layout),
      c.len.ensures ∙ ap (λ (x : Contents). length x.rows.items) same
          ∙ rows_held _ c.args.self.now.contents _ held.holds,
      ap length (c.as_slice.ensures.value ∙ ap (λ (x : Contents). x.sets) same ∙ held.holds.sets),
    ))
