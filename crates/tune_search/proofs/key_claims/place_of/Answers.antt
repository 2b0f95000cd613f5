use Rattle.tune_search.proofs.ClaimLinks.{found_in, missing_in}
use Rattle.tune_search.proofs.key_claims.place_of.Goals as goal

pub returns-in-Ok : goal.returns-in-Ok
returns-in-Ok c =
    let found = found_in c.args.numbers.now c.args.number c.in-Ok.place c.requires c.in-Ok.ensures.position in
    record { within = found.0; number = found.1; none = λ none. absurd (cc) }

pub returns-in-Err : goal.returns-in-Err
returns-in-Err c = record {
  within = tt;
  number = tt;
  none = λ none has. missing_in c.args.numbers.now c.args.number c.in-Err.field-0 c.requires c.in-Err.ensures.position has;
}
