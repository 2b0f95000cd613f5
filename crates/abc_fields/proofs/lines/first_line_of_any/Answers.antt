use Rattle.std.proofs.Common.{length, add-zero, arith}
use Rattle.std.proofs.lemmas.List.{drop_all, take_all, take_rest}
use Rattle.abc_fields.proofs.LineLemmas.{one_piece, first_piece}
use Rattle.abc_fields.proofs.lines.first_line_of_any.Goals as goal

pub returns-in-None-clause-first : goal.returns-in-None-clause-first
returns-in-None-clause-first c =
    let text = c.args.text.now in
    rw (add-zero, drop_all (length text) text (omega arith), take_all (length text) text (omega arith))
    (one_piece text (λ j l. c.in-None.ensures j (omega arith) l) c.requires)

pub returns-in-Some-clause-first : goal.returns-in-Some-clause-first
returns-in-Some-clause-first c =
    rw (c.ending_len.ensures.value, take_rest c.args.text.now c.in-Some.len)
    (first_piece c.args.text.now c.in-Some.len (λ j l. c.in-Some.ensures.0.before j (omega arith) l)
    c.in-Some.ensures.0.high c.in-Some.ensures.1)
