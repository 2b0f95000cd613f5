use Rattle.abc_fields.proofs.LineLaw.{spans_rise}
use Rattle.abc_fields.proofs.LineOffsets.{spans_have_lines}
use Rattle.abc_fields.proofs.StoredLaw.{text_by_lines}
use Rattle.abc_fields.proofs.texts.TuneText.body.Goals as goal

pub from_key-requires-clause-feeds : goal.from_key-requires-clause-feeds
from_key-requires-clause-feeds c = rw c.bytes.ensures.value (text_by_lines c.args.self.now c.bytes.ensures.tune_text).none

pub returns-clause-rising : goal.returns-clause-rising
returns-clause-rising c = spans_rise c.args.self.now

pub returns-clause-contents : goal.returns-clause-contents
returns-clause-contents c = spans_have_lines c.args.self.now
