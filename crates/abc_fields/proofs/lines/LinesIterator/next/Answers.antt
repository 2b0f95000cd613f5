use Rattle.std.proofs.Common.{◌+◌, arith}
use Rattle.std.proofs.lemmas.List.{length-drop, take_rest}
use Rattle.abc_fields.proofs.LineLemmas.{no_return_left}
use Rattle.abc_fields.proofs.lines.LinesIterator.next.Goals as goal

pub invariant_of-self : goal.invariant_of-self
invariant_of-self c =
    let rest = c.self.inside.rest.now in
    let taken = c.first_line-len.result.0 + c.first_line-len.result.1 in
    rw (take_rest rest taken) (
      omega (arith, c.self.invariant.0, c.first_line-len.ensures.within, length-drop taken rest),
      λ feeds. no_return_left taken rest (c.self.invariant.1 feeds),
    )
