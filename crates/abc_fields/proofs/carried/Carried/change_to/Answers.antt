use Rattle.std.proofs.Common.{◌≡◌, ap, sym, subst, ◌∙◌}
use Rattle.std.proofs.lemmas.Slice.Eq.{slice_eq-Decides}
use Rattle.std.specs.Cmp.{booleans_Decides}
use Rattle.abc_fields.specs.Tunes.{joined, tune_run}
use Rattle.abc_fields.specs.Fields.{header_of}
use Rattle.abc_fields.specs.Inside.LinesLeft.{contents_of}
use Rattle.abc_fields.specs.Inside.HeaderRows.{taken_lines, in_table}
use Rattle.abc_fields.specs.Inside.CarriedBytes.{IsKeptOfRows}
use Rattle.abc_fields.proofs.RowLemmas.{taken_by_table}
use Rattle.abc_fields.proofs.carried.Carried.change_to.Goals as goal

pub returns-then-eq-clause-bytes : goal.returns-then-eq-clause-bytes
returns-then-eq-clause-bytes c =
    let same : c.args.self.now.last.letters.table ≡ c.of_tune-letters.result.table =
    (slice_eq-Decides booleans_Decides c.args.self.now.last.letters.table c.of_tune-letters.result.table c.eq.result c.eq.ensures).0 c.if-eq.true in
    c.requires.last ∙ ap (λ table. joined (taken_lines (in_table table) c.args.header.now)) same
    ∙ ap joined (taken_by_table c.of_tune-letters.result.table (header_of (tune_run (contents_of c.args.lines))) c.args.header.now c.of_tune-letters.ensures
    c.is_empty.ensures.bytes)

pub returns-then-eq-2-clause-bytes : goal.returns-then-eq-2-clause-bytes
returns-then-eq-2-clause-bytes c =
    let same : c.swap.new.x.letters.table ≡ c.of_tune-letters.result.table =
    (slice_eq-Decides booleans_Decides c.swap.new.x.letters.table c.of_tune-letters.result.table c.eq-2.result c.eq-2.ensures).0 c.if-eq-2.true in
    let kept : IsKeptOfRows c.args.header.now c.swap.new.x = subst (IsKeptOfRows c.args.header.now) (sym c.swap.ensures.x_after) c.requires.before in
    kept ∙ ap (λ table. joined (taken_lines (in_table table) c.args.header.now)) same
    ∙ ap joined (taken_by_table c.of_tune-letters.result.table (header_of (tune_run (contents_of c.args.lines))) c.args.header.now c.of_tune-letters.ensures
    c.is_empty.ensures.bytes)

pub returns-clause-bytes : goal.returns-clause-bytes
returns-clause-bytes c =
    let written = rw (c.clear.ensures.items, c.requires.shares) at c.in_ok-write_for.ensures in
    written
    ∙ ap joined (taken_by_table c.of_tune-letters.result.table (header_of (tune_run (contents_of c.args.lines))) c.args.header.now c.of_tune-letters.ensures
    c.is_empty.ensures.bytes)
