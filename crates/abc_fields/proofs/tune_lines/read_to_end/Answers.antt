use Rattle.abc_fields.proofs.TuneParts.{key_more}
use Rattle.abc_fields.proofs.tune_lines.read_to_end.Goals as goal

pub returns : goal.returns
returns c =
    let found = rw c.again-left.ensures at c.in_ok-found.ensures in
    (key_more _ _ _ _ found.0 c.read_rest.ensures.read, c.read_rest.ensures.all, found.1)
