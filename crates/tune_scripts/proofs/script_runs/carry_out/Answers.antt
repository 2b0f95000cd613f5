use Rattle.std.proofs.Common.{inl, inr, refl}
use Rattle.tune_scripts.proofs.script_runs.carry_out.Goals as goal

pub returns-in-Ok-clause-carries : goal.returns-in-Ok-clause-carries
returns-in-Ok-clause-carries g c = λ honest. record {
  answer = c.apply-answer.result;
  carried = record {
    answers = c.apply-answer.ensures.answer honest;
    passes = c.apply-answer.ensures.stops;
  };
  written = inr (c.next_after.ensures, c.in-Ok.ensures.bytes);
}

pub returns-clause-carries : goal.returns-clause-carries
returns-clause-carries g c = λ honest. record {
  answer = c.apply-answer.result;
  carried = record {
    answers = c.apply-answer.ensures.answer honest;
    passes = c.apply-answer.ensures.stops;
  };
  written = inl refl;
}
