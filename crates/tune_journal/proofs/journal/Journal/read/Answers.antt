use Rattle.std.proofs.Common.{◌≡◌, ◌+◌, ◌<◌, ◌≤◌, ◌∙◌, [], ap, sym, length, arith, rules}
use Rattle.std.proofs.lemmas.Result.{on_ok_weaker}
use Rattle.tune_disk.specs.Disk.{DiskState}
use Rattle.tune_journal.specs.Image.{window}
use Rattle.tune_journal.specs.FileOffsets.{block_bytes}
use Rattle.tune_journal.proofs.Agreeing.{length-pages_of, pages_of_at}
use Rattle.tune_journal.proofs.Windows.{shows_window}
use Rattle.tune_journal.proofs.journal.Journal.read.Goals as goal

pub read-requires : goal.read-requires
read-requires g c =
    let size : length c.args.self.now.pages ≡ c.self.inside.count =
    ap (λ s. length s.pages) (sym c.self.view_is) ∙ length-pages_of c.self.inside.count (g.D.Disk.state c.self.inside.disk).seen in
    let bytes : length c.args.into.now.bytes ≡ block_bytes = search rules in
    omega (arith, c.requires, size, bytes, c.page_offset.ensures, c.self.invariant.most)

pub returns-clause-page : goal.returns-clause-page
returns-clause-page g c =
    let size : length c.args.self.now.pages ≡ c.self.inside.count =
    ap (λ s. length s.pages) (sym c.self.view_is) ∙ length-pages_of c.self.inside.count (g.D.Disk.state c.self.inside.disk).seen in
    let lt : c.args.page < c.self.inside.count = omega (arith, c.requires, size) in
    let bytes : length c.read.new.into ≡ block_bytes = search rules in
    rw (← c.self.view_is) (on_ok_weaker c.read.result (λ read h.
    (let s : DiskState = g.D.Disk.state c.self.inside.disk in
    let rest = c.self.invariant.rest (c.read.ensures.looks.calls.was_honest h) in
    let long : c.page_offset.result + length c.read.new.into ≤ length s.seen = omega (arith, c.page_offset.ensures, lt, bytes, rest.pages.long) in
    shows_window c.page_offset.result c.read.new.into s.seen (read h) long
    ∙ (λ t. window (c.page_offset.ensures t) (bytes t) s.seen)
    ∙ sym (pages_of_at c.self.inside.count c.args.page s.seen [] lt))) c.read.ensures.read)

pub returns-clause-count : goal.returns-clause-count
returns-clause-count g c = rw (← c.self.view_is)
    (length-pages_of c.self.inside.count (g.D.Disk.state c.read.new.self).seen
    ∙ sym (length-pages_of c.self.inside.count (g.D.Disk.state c.self.inside.disk).seen))
