use Rattle.std.proofs.Common.{ℕ, List, sym, subst}
use Rattle.std.proofs.lemmas.Result.{err_from_is_err_and}
use Rattle.tune_pages.specs.Claim.{IsChainFault}
use Rattle.tune_pages.specs.declared.fault.ClaimFault.{ClaimFault}
use Rattle.tune_pages.proofs.Claiming.{fault_as}
use Rattle.tune_contents.specs.Inside.ClaimedParts.{HoldsTune, IsTuneChain}
use Rattle.tune_contents.proofs.ClaimLemmas.{held_refused}
use Rattle.tune_contents.proofs.claiming.compare_tune.Goals as goal

pub returns-in_err-revision-clause-damaged : goal.returns-in_err-revision-clause-damaged
returns-in_err-revision-clause-damaged c =
    let p = err_from_is_err_and c.from_residual.result c.from_residual.ensures.1 in
    rw p.1 (subst (λ (f : ClaimFault). IsChainFault f (HoldsTune c.args.layout c.args.claims.now.runs c.args.row.now.number c.args.chain.now)) (sym p.2)
    (fault_as c.in_err-revision.field-0.0 _ _
    (λ is. (is.revision, is.text, subst (λ (b : List ℕ). IsTuneChain c.args.layout b is.revision is.text) (sym c.as_slice.ensures) is.tune))
    c.in_err-revision.ensures.damaged))

pub returns-then-not-claim_tune-clause-damaged : goal.returns-then-not-claim_tune-clause-damaged
returns-then-not-claim_tune-clause-damaged c = held_refused {layout = c.args.layout} c.args.claims.now.runs c.args.row.now.number _ _ _
    (λ revision text its. c.in_ok-revision.ensures.only revision text
    (subst (λ (b : List ℕ). IsTuneChain c.args.layout b revision text) (sym c.as_slice.ensures) its))
    c.requires.number (λ stands. (let yes = c.claim_tune.ensures.1 stands in let no = c.if-not-claim_tune.true in cc))
