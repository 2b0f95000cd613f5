use Rattle.std.proofs.Common.{◌≡◌, ◌+◌, ◌-◌, ◌++◌, length, ap, sym, ◌∙◌, arith}
use Rattle.abc_fields.specs.Lines.{pieces_of, lines_of}
use Rattle.abc_fields.specs.Inside.LinesLeft.{contents_of}
use Rattle.abc_fields.proofs.LineOffsets.{spans_contents}
use Rattle.abc_fields.proofs.TuneParts.{part_lines}
use Rattle.abc_fields.proofs.lines.Lines.part_before.Goals as goal

pub returns : goal.returns
returns c =
    let text = c.self.inside.rest.now in
    let later = c.later.inside.rest.now in
    let here : contents_of c.args.self.now ≡ lines_of text = ap contents_of (sym c.self.view_is) ∙ spans_contents c.self.inside.at (pieces_of text) in
    let there : contents_of c.args.later.now ≡ lines_of later = ap contents_of (sym c.later.view_is) ∙ spans_contents c.later.inside.at (pieces_of later) in
    let size : length text - length later + length later ≡ length text = omega (arith, c.if-self-later.false) in
    λ gone whole.
    part_lines text later gone (c.ends_with_feeds.ensures c.if-not-ends_with_feeds.false) (c.ends_with_feeds-2.ensures c.if-not-ends_with_feeds-2.false)
    (ap (λ ls. gone ++ ls) (sym there) ∙ whole ∙ here) (length text - length later) size
