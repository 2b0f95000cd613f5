use Rattle.abc_fields.specs.Bytes.{carriage_return, line_feed}
use Rattle.abc_fields.proofs.FirstPlaces.{first_yielded}
use Rattle.abc_fields.proofs.lines.first_ending.Goals as goal
use Rattle.memchr.specs.Find.{is_byte2}

pub returns : goal.returns
returns c =
    first_yielded (is_byte2 line_feed carriage_return) c.args.text.now c.memchr2_iter.result c.next.new.self c.next.result c.memchr2_iter.ensures.value
    c.next.ensures.steps
