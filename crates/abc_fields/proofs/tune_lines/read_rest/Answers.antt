use Rattle.std.proofs.Common.{[], ◌∷◌, ◌++◌}
use Rattle.abc_fields.proofs.TuneParts.{read_more}
use Rattle.abc_fields.proofs.tune_lines.read_rest.Goals as goal

pub loop-line-preserved : goal.loop-line-preserved
loop-line-preserved c = (
  c.loop-line.invariant.0 ++ c.in-Some._line.text.now ∷ [],
  read_more _ _ _ _ _ c.loop-line.invariant.1 c.in-Some.ensures.1 c.in-Some.ensures.0,
)
