use Rattle.std.proofs.Common.{◌≡◌, ℕ, ◌*◌, subst, ◌+◌, ◌<◌, ◌≤◌, ◌∙◌, [], ap, sym, length, arith, rules}
use Rattle.std.proofs.lemmas.Result.{on_ok_weaker}
use Rattle.tune_disk.specs.Disk.{DiskState, Shows}
use Rattle.tune_journal.specs.Image.{window, page_offset}
use Rattle.tune_journal.specs.Inside.ReadAhead.{HoldsPage}
use Rattle.tune_journal.specs.FileOffsets.{block_bytes}
use Rattle.tune_journal.proofs.Agreeing.{length-pages_of, pages_of_at}
use Rattle.tune_journal.proofs.AheadPages.{ahead_page}
use Rattle.tune_journal.proofs.Windows.{shows_window}
use Rattle.tune_journal.proofs.journal.Journal.read_in_runs.Goals as goal

-- What was read ahead.
pub returns-in-Some-clause-page : goal.returns-in-Some-clause-page
returns-in-Some-clause-page g c =
    let size : length c.args.self.now.pages ≡ c.self.inside.count =
    ap (λ s. length s.pages) (sym c.self.view_is) ∙ length-pages_of c.self.inside.count (g.D.Disk.state c.self.inside.disk).seen in
    let lt : c.args.page < c.self.inside.count = omega (arith, c.requires, size) in
    let copied : c.copy_from_slice.new.self ≡ c.in-Some.held.now = search rules in
    rw (← c.self.view_is) (λ h. copied
    ∙ ahead_page c.self.inside.count (g.D.Disk.state c.self.inside.disk).seen c.self.inside.ahead c.args.page _ lt c.in-Some.ensures
    (c.self.invariant.ahead.shows h))

pub next_run-count-requires : goal.next_run-count-requires
next_run-count-requires g c =
    let size : length c.args.self.now.pages ≡ c.self.inside.count =
    ap (λ s. length s.pages) (sym c.self.view_is) ∙ length-pages_of c.self.inside.count (g.D.Disk.state c.self.inside.disk).seen in
    omega (arith, c.requires, size)

-- A run.
pub returns-in_err-fill-clause-count : goal.returns-in_err-fill-clause-count
returns-in_err-fill-clause-count g c = rw (← c.self.view_is)
    (length-pages_of c.self.inside.count (g.D.Disk.state c.fill.new.disk).seen
    ∙ sym (length-pages_of c.self.inside.count (g.D.Disk.state c.self.inside.disk).seen))

pub returns-then-branch-clause-page : goal.returns-then-branch-clause-page
returns-then-branch-clause-page g c =
    let size : length c.args.self.now.pages ≡ c.self.inside.count =
    ap (λ s. length s.pages) (sym c.self.view_is) ∙ length-pages_of c.self.inside.count (g.D.Disk.state c.self.inside.disk).seen in
    let lt : c.args.page < c.self.inside.count = omega (arith, c.requires, size) in
    let copied : c.copy_from_slice-then-branch.new.self ≡ c.front.result.now = search rules in
    let run = c.in_ok-fill.ensures.run c.if-branch.true in
    rw (← c.self.view_is) (λ h.
    (let s : DiskState = g.D.Disk.state c.self.inside.disk in
    let rest = c.self.invariant.rest (c.fill.ensures.looks.calls.was_honest h) in
    let long : page_offset c.args.page + block_bytes * c.next_run-count.result ≤ length s.seen = omega (arith, c.next_run-count.ensures.run, rest.pages.long) in
    let holds = subst (λ (p : ℕ). HoldsPage c.fill.new.self p c.front.result.now) run.0 c.front.ensures in
    copied ∙ ahead_page c.self.inside.count s.seen c.fill.new.self c.args.page _ lt holds
    (c.in_ok-fill.ensures.shows c.if-branch.true h long
    ∙ (λ t. window (page_offset (sym run.0 t)) (block_bytes * sym run.1 t) s.seen))))

pub returns-then-branch-clause-count : goal.returns-then-branch-clause-count
returns-then-branch-clause-count g c = rw (← c.self.view_is)
    (length-pages_of c.self.inside.count (g.D.Disk.state c.fill.new.disk).seen
    ∙ sym (length-pages_of c.self.inside.count (g.D.Disk.state c.self.inside.disk).seen))

-- Where there is no memory.
pub returns-clause-page : goal.returns-clause-page
returns-clause-page g c =
    let size : length c.args.self.now.pages ≡ c.self.inside.count =
    ap (λ s. length s.pages) (sym c.self.view_is) ∙ length-pages_of c.self.inside.count (g.D.Disk.state c.self.inside.disk).seen in
    let lt : c.args.page < c.self.inside.count = omega (arith, c.requires, size) in
    let bytes : length c.read-2.new.into ≡ block_bytes = search rules in
    rw (← c.self.view_is) (on_ok_weaker c.read-2.result (λ read h.
    (let mid = c.read-2.ensures.looks.calls.was_honest h in
    let s : DiskState = g.D.Disk.state c.self.inside.disk in
    let rest = c.self.invariant.rest (c.fill.ensures.looks.calls.was_honest mid) in
    let long : c.page_offset.result + length c.read-2.new.into ≤ length s.seen = omega (arith, c.page_offset.ensures, lt, bytes, rest.pages.long) in
    let shows = subst (λ (t : DiskState). Shows t.seen c.page_offset.result c.read-2.new.into) (c.fill.ensures.looks.same mid) (read h) in
    shows_window c.page_offset.result c.read-2.new.into s.seen shows long
    ∙ (λ t. window (c.page_offset.ensures t) (bytes t) s.seen)
    ∙ sym (pages_of_at c.self.inside.count c.args.page s.seen [] lt))) c.read-2.ensures.read)

pub returns-clause-count : goal.returns-clause-count
returns-clause-count g c = rw (← c.self.view_is)
    (length-pages_of c.self.inside.count (g.D.Disk.state c.read-2.new.self).seen
    ∙ sym (length-pages_of c.self.inside.count (g.D.Disk.state c.self.inside.disk).seen))
