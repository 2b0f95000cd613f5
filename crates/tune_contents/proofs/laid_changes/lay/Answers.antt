use Rattle.std.proofs.Common.{◌≡◌, IfOk, subst, sym}
use Rattle.tune_pages.specs.FreePages.{TakesAtMost}
use Rattle.tune_pages.specs.Kept.{HonestAt}
use Rattle.tune_store.specs.Plans.{CanChange}
use Rattle.tune_store.specs.declared.layout.Layout.{Layout}
use Rattle.tune_store.specs.declared.layout.Layout.TheVariants.{One}
use Rattle.tune_store.specs.declared.plans.Change.{Change}
use Rattle.tune_contents.specs.Holds.{labels_in, LaysMemory}
use Rattle.tune_contents.specs.Most.{most_part_pages}
use Rattle.tune_contents.specs.Next.{memory_after}
use Rattle.tune_contents.proofs.ChangePages.{finds_pages}
use Rattle.tune_contents.proofs.RowTests.{some_rows}
use Rattle.tune_contents.proofs.laid_changes.lay.Goals as goal

-- an honest disk has rows by rising number
pub close-requires : goal.close-requires
close-requires g c = λ h.
    (let contents = c.args.contents.now in
    let are = some_rows c.args.edit.now.next contents (c.requires.holds h) in
    let yes = c.are_rows.ensures.1 are in
    let no = c.if-not-are_rows.true in cc)

-- the state after it is the one in layout 2
pub returns-in-Upgrade-clause-lays : goal.returns-in-Upgrade-clause-lays
returns-in-Upgrade-clause-lays g c =
    let old = c.args.edit.now.next in
    let new = c.upgrade.new.edit.next in
    subst (λ (change : Change). IfOk c.upgrade.result (λ next. HonestAt g.D.Disk.honest c.upgrade.new.edit.base.disk
    → LaysMemory old new c.args.contents.now (memory_after next c.args.contents.now) change)) (sym c.in-Upgrade.is) c.upgrade.ensures.lays

pub returns-in-Upgrade-clause-enough : goal.returns-in-Upgrade-clause-enough
returns-in-Upgrade-clause-enough g c = λ h state holds is after sized many.
    (let contents = c.args.contents.now in
    let old = c.args.edit.now.next in
    let new = c.upgrade.new.edit.next in
    let one : contents.layout ≡ One =
    subst (λ (change : Change). CanChange change contents.layout (labels_in contents.rows.items) contents.sets) c.in-Upgrade.is c.requires.possible in
    let takes = subst (λ (layout : Layout). TakesAtMost (most_part_pages layout) c.upgrade.result old new) (sym one)
    (c.upgrade.ensures.takes h state holds is) in
    finds_pages c.upgrade.result old new contents state takes holds is sized many)

pub returns-clause-enough : goal.returns-clause-enough
returns-clause-enough g c = λ h state holds is after sized many.
    finds_pages c.lay_change.result c.args.edit.now.next c.lay_change.new.edit.next c.args.contents.now state
    (c.lay_change.ensures.takes h state holds is after) holds is sized many
