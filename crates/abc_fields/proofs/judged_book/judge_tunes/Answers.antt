use Rattle.std.proofs.Common.{◌≡◌, ◌∷◌, ap, true, arith, rules, length}
use Rattle.abc_fields.specs.Tunes.{is_tune_start, joined}
use Rattle.abc_fields.specs.Inside.LinesLeft.{contents_of}
use Rattle.abc_fields.proofs.BookLemmas.{judged_more, judged_end}
use Rattle.abc_fields.proofs.RuleSums.{joined-length}
use Rattle.abc_fields.proofs.judged_book.judge_tunes.Goals as goal

pub loop-line-preserved-in-Continue-1 : goal.loop-line-preserved-in-Continue-1
loop-line-preserved-in-Continue-1 c =
    let step : contents_of c.loop-line.lines ≡ c.in-Some.line.text.now ∷ contents_of c.next.new.self = ap contents_of c.in-Some.ensures.steps in
    let starts : is_tune_start c.in-Some.line.text.now ≡ true = search rules in
    let good = c.in_ok-judge_tune.ensures.answer in
    record {
      judged = judged_more _ _ _ _ _ c.in-Some.line.text.now _ _ c.loop-line.invariant.judged step starts c.judge_tune.ensures.rest good.0 good.1;
      room = omega (
        arith,
        c.loop-line.invariant.room,
        ap (λ lines. length (joined lines)) step,
        joined-length c.in-Some.line.text.now (contents_of c.next.new.self),
        c.judge_tune.ensures.rest.shorter,
      );
    }

pub returns : goal.returns
returns c = judged_end _ _ _ _ _ c.loop-line.invariant.judged (ap contents_of c.in_default.ensures.steps.0)
