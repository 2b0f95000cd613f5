use Rattle.std.proofs.Common.{◌≡◌, ◌≤◌, ℕ, List, Bool, false, length, sym, ◌∙◌, ap, subst}
use Rattle.tune_journal.specs.FileOffsets.{most_pages}
use Rattle.tune_pages.specs.Stand.{AllUsed, marked}
use Rattle.tune_pages.proofs.Chains.{length-marked}
use Rattle.tune_pages.proofs.Written.{laid, written_below, marked_laid}
use Rattle.tune_pages.proofs.page_marks.PageMarks.give_back.Goals as goal

pub unmark_all-requires : goal.unmark_all-requires
unmark_all-requires c = written_below c.args.freed.now.items c.self.inside.written.items c.self.inside.count
    (subst (λ (l : List Bool). AllUsed c.args.freed.now.items l) (sym c.self.view_is) c.requires)

pub invariant_of-self : goal.invariant_of-self
invariant_of-self c =
    let size : length c.unmark_all.new.written.items ≡ length c.self.inside.written.items =
    ap (λ (l : List Bool). length l) c.unmark_all.ensures.marks ∙ length-marked false c.args.freed.now.items c.self.inside.written.items in (
      subst (λ (i : ℕ). i ≤ c.self.inside.count) (sym size) c.self.invariant.0,
      c.self.invariant.1,
      subst (λ (i : ℕ). most_pages ≤ i) (sym c.unmark_all.ensures.room) c.self.invariant.2,
    )

pub returns : goal.returns
returns c =
    let m = c.self.inside.written.items in
    let n = c.self.inside.count in
    let freed = c.args.freed.now.items in
    ap (λ (l : List Bool). laid l n) c.unmark_all.ensures.marks
    ∙ marked_laid false freed m n (written_below freed m n (subst (λ (l : List Bool). AllUsed freed l) (sym c.self.view_is) c.requires))
    ∙ ap (λ (l : List Bool). marked false freed l) c.self.view_is
