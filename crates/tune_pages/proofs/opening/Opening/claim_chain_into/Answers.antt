use Rattle.std.proofs.Common.{◌≢◌, sym, ◌∙◌, subst, arith}
use Rattle.std.proofs.lemmas.Result.{err_from_is_err_and}
use Rattle.tune_pages.specs.Claim.{IsChainFault, IsClaimableWithin}
use Rattle.tune_pages.specs.declared.fault.ClaimFault.{ClaimFault}
use Rattle.tune_pages.proofs.Claiming.{walked_as, walked_next, walked_over, walked_fault, fault_as}
use Rattle.tune_pages.proofs.opening.Opening.claim_chain_into.Goals as goal

pub loop-page-preserved : goal.loop-page-preserved
loop-page-preserved g c =
    let inv = c.loop-page.invariant in
    let call = c.in_ok-page.ensures in
    record {
      honest = λ h. inv.honest (call.looks.was_honest h);
      same = λ h. call.looks.same_state h ∙ inv.same (call.looks.was_honest h);
      pages = λ h. call.looks.same_pages h ∙ inv.pages (call.looks.was_honest h);
      count = call.looks.count ∙ inv.count;
      failures = call.looks.counted ∙ inv.failures;
      walk = λ h. walked_as _ _ _ _ _ _ _ _ (omega (arith, inv.few))
          (walked_next _ _ _ _ _ _ _ _ _ _ _ (inv.pages (call.looks.was_honest h)) (omega arith) (inv.walk (call.looks.was_honest h))
          call.free (call.link h) (call.bytes h));
      few = omega (arith, inv.few);
    }

pub returns-in_err-page-clause-damaged : goal.returns-in_err-page-clause-damaged
returns-in_err-page-clause-damaged g c =
    let inv = c.loop-page.invariant in
    let ne : c.loop-page.page ≢ 0 = omega arith in
    let call = c.in_err-page.ensures in
    let p = err_from_is_err_and c.from_residual.result c.from_residual.ensures.1 in
    rw p.1 (λ h. subst (λ (f : ClaimFault). IsChainFault f (IsClaimableWithin c.args.most c.args.self.now.pages c.args.self.now.claimed c.args.first)) (sym p.2)
    (fault_as _ _ _ (λ some. (some.0, some.1, some.2))
    (walked_fault _ _ _ _ _ _ _ _ _ (inv.pages (call.looks.was_honest h)) ne (inv.walk (call.looks.was_honest h)) (call.damaged h))))

-- A walk of as many pages as there may be goes on where the chain has more of them.
pub returns-then-left-eq0-clause-damaged : goal.returns-then-left-eq0-clause-damaged
returns-then-left-eq0-clause-damaged g c = λ h some.
    walked_over _ _ _ c.loop-page.page c.args.most _ _ (omega arith)
    (walked_as _ _ _ _ _ _ _ _ (omega (arith, c.if-left-eq0.true)) (c.loop-page.invariant.walk h)) some
