use Rattle.std.proofs.Common.{◌≡◌, rules, refl, inl, inr, Err, Some, string_bytes}
use Rattle.tune_desk.specs.Inside.Asks.{MayBeWritten}
use Rattle.tune_desk.specs.Refusals.{HasCause}
use Rattle.tune_desk.specs.Results.{places_for}
use Rattle.tune_desk.specs.declared.refusals.ResultRefusal.TheVariants.{OutOfMemory}
use Rattle.tune_desk.proofs.AskLemmas.{asks_map}
use Rattle.tune_desk.proofs.results.write_to.Goals as goal

pub returns-in_err-over : goal.returns-in_err-over
returns-in_err-over g c =
    let answer : c.from_residual.result ≡ Err c.in_err-over.field-0.0 = search rules in
    rw answer (inl (c.in_err-over.field-0.0, refl, c.in_err-over.ensures (Some (string_bytes c.args.to.now.out.now))))

pub returns-in_default : goal.returns-in_default
returns-in_default g c =
    let places = places_for c.args.to.now in
    let target = string_bytes c.args.target.now in
    inl (
      OutOfMemory,
      refl,
      asks_map (MayBeWritten places target c.in_ok-over.over) (HasCause places target OutOfMemory) _ _ (λ since _. tt)
          (c.in_ok-over.ensures (Some (string_bytes c.args.to.now.out.now))),
    )

pub returns : goal.returns
returns g c = inr (record {
  over = c.in_ok-over.over;
  mid = _;
  asks = c.in_ok-over.ensures (Some (string_bytes c.args.to.now.out.now));
  puts = c.put.ensures;
})
