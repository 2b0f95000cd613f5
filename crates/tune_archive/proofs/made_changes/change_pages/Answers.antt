use Rattle.std.proofs.Common.{◌∙◌, Ok, subst, sym}
use Rattle.std.proofs.lemmas.Result.{err_from_is_err_and}
use Rattle.tune_pages.specs.Kept.{HonestAt, Kept, state_at}
use Rattle.tune_pages.specs.PageLooks.{LooksAt}
use Rattle.tune_contents.specs.Claimed.{AreRows}
use Rattle.tune_contents.specs.Holds.{Memory}
use Rattle.tune_contents.specs.Next.{memory_after}
use Rattle.tune_archive.specs.Inside.Changing.{PassesChange}
use Rattle.tune_pages.specs.Edited.{stand_of}
use Rattle.tune_archive.proofs.LaidChanges.{passes_laid, has_laid, has_more, same_marks}
use Rattle.tune_archive.proofs.MorePages.{marks_within}
use Rattle.tune_archive.proofs.NeverFull.{never_full}
use Rattle.tune_archive.proofs.made_changes.change_pages.Goals as goal

pub returns-in_err-next-clause-never_full : goal.returns-in_err-next-clause-never_full
returns-in_err-next-clause-never_full g c =
    let p = err_from_is_err_and c.from_residual-in_err-next.result c.from_residual-in_err-next.ensures.1 in
    let old = c.args.edit.now.base in
    let contents = c.args.contents.now in
    rw (p.1, p.2) (λ h.
    let was = subst (λ (k : Kept _). HonestAt g.D.Disk.honest k.disk) c.in_ok-begin.ensures.base (c.in_err-next.ensures.edits.looks.was_honest h) in
    never_full c.begin.new.self.next (stand_of old) contents c.args.change c.in_err-next.field-0.0 c.law_of_state_pages.ensures
    c.in_ok-begin.ensures.next (c.requires.within was) c.requires.many (c.limit-limit.ensures.sized c.requires.open was)
    (c.in_err-next.ensures.takes h))

pub returns-in_err-finish-clause-moments : goal.returns-in_err-finish-clause-moments
returns-in_err-finish-clause-moments g c = λ h.
    (let looks = subst (λ (k : Kept _). LooksAt g.D.Disk.honest g.D.Disk.failures g.D.Disk.state
    (Ok c.in_ok-next.next) k c.lay.new.edit.base) c.in_ok-begin.ensures.base
    c.in_ok-next.ensures.edits.looks in
    let mid = c.in_err-finish.ensures.calls.was_honest h in
    passes_laid g.D.Disk.honest g.D.Disk.state c.args.edit.now.base c.lay.new.edit c.args.contents.now
    (memory_after c.in_ok-next.next c.args.contents.now) c.args.change
    c.begin.new.self.next c.in_ok-begin.ensures.next (c.in_ok-next.ensures.lays mid) (c.law_of_pages.ensures c.in_ok-next.ensures.edits.answer.1) looks.same
    (c.requires.few (looks.was_honest mid)) c.finish.new.self.base mid (looks.same_state mid)
    (c.in_err-finish.ensures.moments h c.in_ok-next.ensures.edits.answer.1))

pub give_pages-requires-clause-marks : goal.give_pages-requires-clause-marks
give_pages-requires-clause-marks g c =
    let count = same_marks g.D.Disk.honest c.args.edit.now.base c.lay.new.edit c.finish.new.self.base
    (c.law_of_pages.ensures c.in_ok-next.ensures.edits.answer.1)
    (subst (λ (k : Kept _). LooksAt g.D.Disk.honest g.D.Disk.failures g.D.Disk.state (Ok c.in_ok-next.next) k c.lay.new.edit.base) c.in_ok-begin.ensures.base
    c.in_ok-next.ensures.edits.looks).same c.in_ok-finish.ensures.used in
    marks_within c.args.change c.args.contents.now c.in_ok-next.next.layout c.finish.new.self.base.used (count ∙ c.requires.many) c.in_ok-next.ensures.layout

pub returns-clause-moments : goal.returns-clause-moments
returns-clause-moments g c = λ h.
    (let state = g.D.Disk.state in
    let old = c.args.edit.now.base in
    let same = c.give_pages.ensures.same.0 in
    let here = subst (HonestAt g.D.Disk.honest) same h in
    let looks = subst (λ (k : Kept _). LooksAt g.D.Disk.honest g.D.Disk.failures g.D.Disk.state
    (Ok c.in_ok-next.next) k c.lay.new.edit.base) c.in_ok-begin.ensures.base
    c.in_ok-next.ensures.edits.looks in
    let mid = c.in_ok-finish.ensures.calls.was_honest here in
    subst (λ at. PassesChange (state_at state old.disk) (state_at state at) (stand_of old) c.args.contents.now c.args.change) (sym same)
    (passes_laid g.D.Disk.honest state old c.lay.new.edit c.args.contents.now (memory_after c.in_ok-next.next c.args.contents.now) c.args.change
    c.begin.new.self.next c.in_ok-begin.ensures.next (c.in_ok-next.ensures.lays mid) (c.law_of_pages.ensures c.in_ok-next.ensures.edits.answer.1) looks.same
    (c.requires.few (looks.was_honest mid)) c.finish.new.self.base mid (looks.same_state mid)
    (c.in_ok-finish.ensures.moments here c.in_ok-next.ensures.edits.answer.1)))

pub returns-clause-laid : goal.returns-clause-laid
returns-clause-laid g c = λ h.
    (let state = g.D.Disk.state in
    let old = c.args.edit.now.base in
    let same = c.give_pages.ensures.same in
    let here = subst (HonestAt g.D.Disk.honest) same.0 h in
    let looks = subst (λ (k : Kept _). LooksAt g.D.Disk.honest g.D.Disk.failures g.D.Disk.state
    (Ok c.in_ok-next.next) k c.lay.new.edit.base) c.in_ok-begin.ensures.base
    c.in_ok-next.ensures.edits.looks in
    let mid = c.in_ok-finish.ensures.calls.was_honest here in
    let count = same_marks g.D.Disk.honest old c.lay.new.edit c.finish.new.self.base (c.law_of_pages.ensures c.in_ok-next.ensures.edits.answer.1) looks.same
    c.in_ok-finish.ensures.used in
    has_more state old c.finish.new.self.base c.give_pages.new.edit.base c.args.contents.now c.accept.new.self c.args.change _ same.0 same.1
    c.give_pages.ensures.more count
    (has_laid g.D.Disk.honest state old c.lay.new.edit c.args.contents.now (memory_after c.in_ok-next.next c.args.contents.now) c.args.change
    c.begin.new.self.next c.in_ok-begin.ensures.next (c.in_ok-next.ensures.lays mid) (c.law_of_pages.ensures c.in_ok-next.ensures.edits.answer.1) looks.same
    (c.requires.few (looks.was_honest mid)) c.accept.new.self c.accept.ensures c.finish.new.self.base
    (c.in_ok-finish.ensures.pages here) c.in_ok-finish.ensures.used
    (c.in_ok-finish.ensures.rest here)))

pub returns-clause-rows : goal.returns-clause-rows
returns-clause-rows g c =
    subst (λ (m : Memory). AreRows m.layout m.rows) (sym c.accept.ensures) (c.in_ok-next.ensures.rows c.requires.rows)
