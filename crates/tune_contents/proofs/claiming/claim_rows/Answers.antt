use Rattle.std.proofs.Common.{sym, subst}
use Rattle.tune_pages.proofs.Claiming.{fault_as}
use Rattle.tune_contents.specs.Inside.ClaimedParts.{AreTunesThere, TunesClaimed, tune_site}
use Rattle.tune_contents.proofs.ClaimLemmas.{err_as, on_ok_as}
use Rattle.tune_contents.proofs.claiming.claim_rows.Goals as goal

pub returns-clause-damaged : goal.returns-clause-damaged
returns-clause-damaged g c = err_as c.claim_tunes.result _ _
    (λ fault none h front has. fault_as fault _ _
    (λ there. subst (λ runs. AreTunesThere (tune_site c.args.layout c.args.opening.now.pages front runs) c.args.rows.now) (sym c.in_ok-claims.ensures.runs)
    there.tunes)
    (none h front has)) c.claim_tunes.ensures.damaged

pub returns-clause-claimed : goal.returns-clause-claimed
returns-clause-claimed g c = on_ok_as c.claim_tunes.result _ _
    (λ got h front has. subst (λ runs. TunesClaimed (tune_site c.args.layout c.args.opening.now.pages front runs) c.claim_tunes.new.opening.claimed
    c.claim_tunes.new.rows)
    c.in_ok-claims.ensures.runs (got h front has)) c.claim_tunes.ensures.claimed
