use Rattle.abc_fields.proofs.LineLaw.{pieces_divide, pieces_unique, spans_rise}
use Rattle.abc_fields.proofs.LineOffsets.{spans_have_lines, span_offsets}
use Rattle.abc_fields.proofs.lines.Lines.new.Goals as goal

pub returns-clause-pieces : goal.returns-clause-pieces
returns-clause-pieces c = pieces_divide c.args.text.now

pub returns-clause-no_other_pieces : goal.returns-clause-no_other_pieces
returns-clause-no_other_pieces c = pieces_unique c.args.text.now

pub returns-clause-contents : goal.returns-clause-contents
returns-clause-contents c = spans_have_lines c.args.text.now

pub returns-clause-rising : goal.returns-clause-rising
returns-clause-rising c = spans_rise c.args.text.now

pub returns-clause-after_pieces : goal.returns-clause-after_pieces
returns-clause-after_pieces c = span_offsets c.args.text.now
