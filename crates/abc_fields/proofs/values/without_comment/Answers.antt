use Rattle.std.proofs.Common.{◌≡◌, ◌∙◌, ◌+◌, sym, arith, take, true, false}
use Rattle.abc_fields.specs.Values.{uncommented}
use Rattle.abc_fields.proofs.CommentLaw.{is_uncommented, rest_whole, read_on_to, read_comment, read_escaped, read_whole, escapes, escaped_at}
use Rattle.abc_fields.proofs.values.without_comment.Goals as goal

pub returns-then-not-is_escaped : goal.returns-then-not-is_escaped
returns-then-not-is_escaped c =
    let line = c.args.line.now in
    let from = c.loop-offset.from in
    let rest = rest_whole line from in
    let here =
    read_on_to line _ from c.in-Some.offset rest c.loop-offset.invariant.read
    (λ j lt. c.in-Some.ensures.0.before j (omega arith) lt) c.in-Some.ensures.0.high c.in-Some.ensures.1 in
    let plain : escapes false (take (from + c.in-Some.offset) line) ≡ false =
    sym (escaped_at line (from + c.in-Some.offset) here.within) ∙ sym c.is_escaped.ensures ∙ c.if-not-is_escaped.true in
    let value : take (from + c.in-Some.offset) line ≡ uncommented line = sym (read_comment line (from + c.in-Some.offset) here plain) in
    record { value = value; law = rw value (is_uncommented line) }

pub loop-offset-preserved : goal.loop-offset-preserved
loop-offset-preserved c =
    let line = c.args.line.now in
    let from = c.loop-offset.from in
    let rest = rest_whole line from in
    let here =
    read_on_to line _ from c.in-Some.offset rest c.loop-offset.invariant.read
    (λ j lt. c.in-Some.ensures.0.before j (omega arith) lt) c.in-Some.ensures.0.high c.in-Some.ensures.1 in
    let escaped : escapes false (take (from + c.in-Some.offset) line) ≡ true =
    sym (escaped_at line (from + c.in-Some.offset) here.within) ∙ sym c.is_escaped.ensures ∙ c.if-not-is_escaped.false in
    record { within = omega (arith, here.within); read = read_escaped line (from + c.in-Some.offset) here escaped }

pub returns : goal.returns
returns c =
    let line = c.args.line.now in
    let from = c.loop-offset.from in
    let rest = rest_whole line from in
    let value : uncommented line ≡ line =
    read_whole line _ from rest c.loop-offset.invariant.read c.loop-offset.invariant.within (λ j lt. c.in_default.ensures j (omega arith) lt) in
    record { value = sym value; law = rw value at (is_uncommented line) }
