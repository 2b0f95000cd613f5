use Rattle.abc_fields.proofs.LineLaw.{spans_rise}
use Rattle.abc_fields.proofs.LineOffsets.{spans_have_lines}
use Rattle.abc_fields.proofs.StoredLaw.{text_by_lines}
use Rattle.abc_fields.proofs.lines.Lines.of_tune.Goals as goal

pub returns-clause-contents : goal.returns-clause-contents
returns-clause-contents c = spans_have_lines c.args.text.now

pub returns-clause-rising : goal.returns-clause-rising
returns-clause-rising c = spans_rise c.args.text.now

pub without_return-requires : goal.without_return-requires
without_return-requires c = rw c.bytes.ensures.value (text_by_lines c.args.text.now c.bytes.ensures.tune_text).none
