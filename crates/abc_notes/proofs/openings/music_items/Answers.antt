use Rattle.std.proofs.Common.{sym, ap, subst, List, arith, length}
use Rattle.std.proofs.lemmas.List.{length-append}
use Rattle.abc_fields.specs.Values.{uncommented}
use Rattle.abc_items.specs.ItemSpans.{ItemSpan}
use Rattle.abc_notes.specs.Inside.Bounds.{AreShort}
use Rattle.abc_fields.proofs.CommentLaw.{is_uncommented}
use Rattle.abc_notes.proofs.ShortLemmas.{are_short}
use Rattle.abc_notes.proofs.openings.music_items.Goals as goal

pub returns-clause-short : goal.returns-clause-short
returns-clause-short c =
    let line = c.args.line.text.now in
    let law = is_uncommented line in
    subst (λ (spans : List ItemSpan). AreShort c.args.line.from spans) (sym c.new.ensures.items)
    (are_short c.up_to_comment.result.now c.args.line.from 0 _ c.new.ensures.fill
    (omega (arith, ap length c.up_to_comment.ensures, ap length law.whole, length-append (uncommented line) law.rest, c.requires.within)))
