use Rattle.std.proofs.Common.{ap, ◌∙◌, length}
use Rattle.abc_fields.specs.Tunes.{joined, tune_run}
use Rattle.abc_fields.specs.Fields.{header_of}
use Rattle.abc_fields.specs.Inside.LinesLeft.{contents_of}
use Rattle.abc_fields.proofs.RowLemmas.{taken_by_table}
use Rattle.abc_fields.proofs.tune_lines.length_carried.Goals as goal

pub returns-clause-value : goal.returns-clause-value
returns-clause-value c =
    c.length_for.ensures.value
    ∙ ap (λ lines. length (joined lines)) (taken_by_table c.of_tune.result.table (header_of (tune_run (contents_of c.args.lines))) c.args.header.now
    c.of_tune.ensures c.is_empty.ensures.bytes)
