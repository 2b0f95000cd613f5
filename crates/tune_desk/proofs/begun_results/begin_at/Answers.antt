use Rattle.std.proofs.Common.{◌≡◌, rules, inl, inr, Err, string_bytes}
use Rattle.tune_desk.specs.Inside.Asks.{MayBeWritten}
use Rattle.tune_desk.specs.Refusals.{HasCause}
use Rattle.tune_desk.specs.Results.{result_places}
use Rattle.tune_desk.specs.declared.refusals.ResultRefusal.TheVariants.{OutOfMemory}
use Rattle.tune_desk.proofs.AskLemmas.{asks_map}
use Rattle.tune_desk.proofs.BeginLemmas.{created_at}
use Rattle.tune_desk.proofs.begun_results.begin_at.Goals as goal

pub returns-in_err-over-clause-begins : goal.returns-in_err-over-clause-begins
returns-in_err-over-clause-begins g c =
    let answer : c.from_residual.result ≡ Err c.in_err-over.field-0.0 = search rules in
    rw answer (λ out. inl (c.in_err-over.ensures out))

pub returns-in_default-clause-begins : goal.returns-in_default-clause-begins
returns-in_default-clause-begins g c = λ out.
    let places = result_places (string_bytes c.args.file.now) out c.args.force in
    let target = string_bytes c.args.target.now in
    inl (asks_map (MayBeWritten places target c.in_ok-over.over) (HasCause places target OutOfMemory) _ _ (λ since _. tt) (c.in_ok-over.ensures out))

pub returns-in-Ok-create-clause-begins : goal.returns-in-Ok-create-clause-begins
returns-in-Ok-create-clause-begins g c = λ out. record {
  mid = g.K.Desk.deeds c.may_be_written.new.desk;
  asks = c.in_ok-over.ensures out;
  history = created_at _ _ _ _ _ c.in-Ok.ensures.ok c.in-Ok-create.ensures.deed;
  new = c.in-Ok.ensures.ok;
}

pub returns-in-Err-clause-begins : goal.returns-in-Err-clause-begins
returns-in-Err-clause-begins g c = λ out. inr (record {
  over = c.in_ok-over.over;
  fault = c.in-Err.fault;
  mid = g.K.Desk.deeds c.may_be_written.new.desk;
  asks = c.in_ok-over.ensures out;
  history = created_at _ _ _ _ _ c.in-Ok.ensures.ok c.in-Err.ensures.deed;
  told = c.refusal_of.ensures;
})
