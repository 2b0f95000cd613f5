use Rattle.std.proofs.Common.{length, add-zero, arith}
use Rattle.std.proofs.lemmas.List.{drop_all, take_all}
use Rattle.abc_fields.proofs.LineLemmas.{one_piece, no_end_below, first_piece_by_feed}
use Rattle.abc_fields.proofs.lines.first_line.Goals as goal

pub returns-in-None-clause-first : goal.returns-in-None-clause-first
returns-in-None-clause-first c =
    let text = c.args.text.now in
    rw (add-zero, drop_all (length text) text (omega arith), take_all (length text) text (omega arith))
    (one_piece text (no_end_below text (length text) (c.requires.feeds c.if-not-only_feeds.false) (omega arith)
    (λ j l. c.in-None.ensures j (omega arith) l)) c.requires.some)

pub returns-in-Some-clause-first : goal.returns-in-Some-clause-first
returns-in-Some-clause-first c =
    first_piece_by_feed c.args.text.now c.in-Some.len (c.requires.feeds c.if-not-only_feeds.false)
    (λ j l. c.in-Some.ensures.0.before j (omega arith) l) c.in-Some.ensures.0.high c.in-Some.ensures.1
