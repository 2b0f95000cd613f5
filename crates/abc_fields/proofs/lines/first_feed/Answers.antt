use Rattle.abc_fields.specs.Bytes.{line_feed}
use Rattle.abc_fields.proofs.FirstPlaces.{first_yielded}
use Rattle.abc_fields.proofs.lines.first_feed.Goals as goal
use Rattle.memchr.specs.Find.{is_byte}

pub returns : goal.returns
returns c =
    first_yielded (is_byte line_feed) c.args.text.now c.memchr_iter.result c.next.new.self c.next.result c.memchr_iter.ensures.value c.next.ensures.steps
