use Rattle.std.proofs.Common.{ap, sym, ◌∙◌}
use Rattle.abc_fields.specs.Inside.LinesLeft.{contents_of}
use Rattle.chosen_books.proofs.HeaderLaw.{taken_more}
use Rattle.chosen_books.proofs.found_tunes.header_bytes.Goals as goal

pub loop-line-preserved : goal.loop-line-preserved
loop-line-preserved c = taken_more c.loop-line.begun c.loop-line.bytes.items c.push_line.new.out.items (contents_of c.loop-line.line-iterator)
    (contents_of c.next.new.self) (contents_of c.args.lines) c.in-Some.line.text.now c.loop-line.invariant (ap contents_of c.in-Some.ensures.steps)
    (sym c.is_all_blank.ensures ∙ c.if-is_all_blank.false) (sym c.is_header_line.ensures ∙ c.if-not-is_header_line.false) c.in_ok-push_line.ensures
