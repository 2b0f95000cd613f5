use Rattle.std.proofs.Common.{◌≡◌, ℕ, List, length, Some, sym, ◌∙◌, ap, subst, arith}
use Rattle.tune_journal.specs.ChangeList.{image_of, change_at, changed_page}
use Rattle.tune_journal.specs.Inside.ChangeOrder.{PagesRise}
use Rattle.tune_journal.specs.Inside.ListedChanges.{listed_changes}
use Rattle.tune_journal.proofs.ChangeLists.{image_named, change_there}
use Rattle.tune_journal.proofs.changes.Changes.page_at.Goals as goal

pub returns-clause-found : goal.returns-clause-found
returns-clause-found c =
    let changes = c.args.self.now in
    let at = c.args.place in
    let starts = c.self.inside.starts.items in
    let whole = c.self.inside.whole.items in
    let items = c.self.inside.changed.items in
    let same : length (listed_changes starts whole items) ≡ length changes = ap length c.self.view_is in
    let there = change_there starts whole items at c.index.result.now (omega (arith, same, c.requires)) c.index.ensures in
    let page : changed_page changes at ≡ c.index.result.now.page = ap (λ (l : List (ℕ × List ℕ)). changed_page l at) (sym c.self.view_is)
    ∙ ap (λ (d : ℕ × List ℕ). d.0) there in
    subst (λ (p : ℕ). image_of p changes ≡ Some (change_at changes at).1) page
    (image_named at changes (subst PagesRise c.self.view_is c.self.invariant.order.rising) c.requires)
