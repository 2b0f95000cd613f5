use Rattle.std.proofs.Common.{arith}
use Rattle.std.proofs.lemmas.List.{length-drop, take_rest}
use Rattle.abc_fields.proofs.LineLemmas.{no_return_left}
use Rattle.abc_fields.proofs.lines.Lines.from_index.Goals as goal

pub invariant_of-result : goal.invariant_of-result
invariant_of-result c =
    let text = c.args.text.now in
    rw (take_rest text c.args.from) (
      omega (arith, c.requires.within, length-drop c.args.from text),
      λ feeds. no_return_left c.args.from text c.requires.feeds,
    )
