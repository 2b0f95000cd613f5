use Rattle.std.proofs.Common.{sym, subst, ◌∙◌, arith}
use Rattle.std.proofs.lemmas.Bool.{true≢false}
use Rattle.std.proofs.lemmas.Option.{none-some}
use Rattle.abc_fields.specs.Limits.{longest_tune}
use Rattle.abc_fields.specs.Tunes.{IsTextWithin}
use Rattle.tune_undo.proofs.PartLaws.{book_tune_again, text_front, text_whole}
use Rattle.tune_undo.proofs.parts.text_at.Goals as goal

pub returns-in_default-clause-none : goal.returns-in_default-clause-none
returns-in_default-clause-none c = λ text later is size e.
    none-some _ (sym c.in_default.ensures ∙ book_tune_again c.args.number text later c.args.bytes.now (omega (arith, c.ranges.number)) e)

pub returns-then-other-number-clause-none : goal.returns-then-other-number-clause-none
returns-then-other-number-clause-none c = λ text later is size e.
    let front = text_front c.args.number c.in-Some.other text later c.in-Some.rest.now c.args.bytes.now c.args.len (omega (arith, c.ranges.number))
    c.in-Some.ensures size e in
    c.if-other-number.true front.0

pub returns-then-rest-len-clause-none : goal.returns-then-rest-len-clause-none
returns-then-rest-len-clause-none c = λ text later is size e.
    let front = text_front c.args.number c.in-Some.other text later c.in-Some.rest.now c.args.bytes.now c.args.len (omega (arith, c.ranges.number))
    c.in-Some.ensures size e in
    let long = front.1 in
    omega arith

pub returns-then-not-branch-clause-none : goal.returns-then-not-branch-clause-none
returns-then-not-branch-clause-none c = λ text later is size e.
    let front = text_front c.args.number c.in-Some.other text later c.in-Some.rest.now c.args.bytes.now c.args.len (omega (arith, c.ranges.number))
    c.in-Some.ensures size e in
    let good = subst (IsTextWithin longest_tune) (sym (c.split_at.ensures.front ∙ front.2)) is in
    true≢false (sym (c.in_ok-read_stored.ensures.good.1 good) ∙ c.if-not-branch.true)

pub returns-clause-found : goal.returns-clause-found
returns-clause-found c =
    text_whole c.args.number c.in-Some.other c.read_stored.new.self c.split_at.result.0.now c.split_at.result.1.now c.in-Some.rest.now c.args.bytes.now
    c.in-Some.ensures c.if-other-number.false c.split_at.ensures.by_index.0 (c.in_ok-read_stored.ensures.text c.if-not-branch.false)
