use Rattle.std.proofs.Common.{◌≡◌, ℕ, ◌+◌, ◌<◌, List, ◌++◌, take, length, get_or, refl, sym, ◌∙◌, ap, subst, arith}
use Rattle.std.proofs.lemmas.List.{drop_more, length-set, take_all, take_more, take_more_set}
use Rattle.std.proofs.lemmas.Result.{err_from_is_err_and}
use Rattle.tune_pages.specs.Claim.{IsChainFault}
use Rattle.tune_pages.specs.declared.fault.ClaimFault.{ClaimFault}
use Rattle.tune_pages.specs.Faults.{pages_for}
use Rattle.tune_format.specs.RootOffsets.{revision_bytes}
use Rattle.tune_format.specs.declared.rows.Row.{Row}
use Rattle.tune_contents.specs.Most.{most_tune_pages}
use Rattle.tune_contents.specs.Inside.ClaimedParts.{AreTunesThere, ChainsClaimed, tune_site}
use Rattle.tune_contents.proofs.ClaimStepLemmas.{chains_turn, chains_turn_fault}
use Rattle.tune_contents.proofs.claiming.claim_chains.Goals as goal

pub loop-place-init : goal.loop-place-init
loop-place-init g c = record {
  honest = λ h. h;
  same = λ h. refl;
  pages = λ h. refl;
  count = refl;
  failures = refl;
  within = omega arith;
  room = refl;
  claims = λ h front has. has;
}

pub returns-in_err-claim_part-clause-damaged : goal.returns-in_err-claim_part-clause-damaged
returns-in_err-claim_part-clause-damaged g c =
    let inv = c.loop-place.invariant in
    let call = c.in_err-claim_part.ensures in
    let p = err_from_is_err_and c.from_residual.result c.from_residual.ensures.1 in
    let most : c.pages_for-most.result ≡ most_tune_pages c.args.layout =
    c.pages_for-most.ensures ∙ ap (λ (n : ℕ). pages_for (n + revision_bytes)) c.longest_text.ensures.longest in
    let rows : List Row = c.args.rows.now in
    let place : ℕ = c.loop-place.place in
    let d : Row = record { number = 0; revision = 0; first = 0; length = 0 } in
    rw p.1 (λ h front has runs later.
    let one = call.looks.was_honest h in
    subst (λ (f : ClaimFault). IsChainFault f (AreTunesThere (tune_site c.args.layout c.args.opening.now.pages front runs) (rows ++ later))) (sym p.2)
    (chains_turn_fault c.args.layout c.in_err-claim_part.field-0.0 _ _ front runs _ rows _ place (get_or rows place d) later (inv.pages one)
    (inv.claims one front has) (drop_more rows place d c.loop-place-test.true) (λ before had. (rw most at call.damaged h before had))))

pub loop-place-preserved : goal.loop-place-preserved
loop-place-preserved g c =
    let inv = c.loop-place.invariant in
    let call = c.in_ok-claim_part.ensures in
    let rows : List Row = c.args.rows.now in
    let chains : List (List ℕ) = c.loop-place.chains in
    let place : ℕ = c.loop-place.place in
    let d : Row = record { number = 0; revision = 0; first = 0; length = 0 } in
    let here : place < length chains = omega (arith, c.loop-place-test.true, inv.room, c.requires) in
    record {
      honest = λ h. inv.honest (call.looks.was_honest h);
      same = λ h. call.looks.same_state h ∙ inv.same (call.looks.was_honest h);
      pages = λ h. call.looks.same_pages h ∙ inv.pages (call.looks.was_honest h);
      count = call.looks.count ∙ inv.count;
      failures = call.looks.counted ∙ inv.failures;
      within = omega (arith, c.loop-place-test.true);
      room = length-set chains place _ ∙ inv.room;
      claims = λ h front has. chains_turn _ _ front _ _ rows chains _ place (get_or rows place d) _ (inv.pages (call.looks.was_honest h))
          (inv.claims (call.looks.was_honest h) front has) (call.claims h) (take_more rows place d c.loop-place-test.true) (take_more_set chains place _ here);
    }

pub returns-clause-claims : goal.returns-clause-claims
returns-clause-claims g c = λ h front has.
    let rows : List Row = c.args.rows.now in
    let chains : List (List ℕ) = c.loop-place.chains in
    let pages = c.args.opening.now.pages in
    let claimed = c.loop-place.opening.claimed in
    let end : c.loop-place.place ≡ length rows = omega (arith, c.loop-place-test.false, c.loop-place.invariant.within) in
    let all = subst (λ (n : ℕ). ChainsClaimed pages front claimed (take n rows) (take n chains)) end (c.loop-place.invariant.claims h front has) in
    subst (λ (r : List Row). ChainsClaimed pages front claimed r (take (length rows) chains)) (take_all (length rows) rows (omega arith)) all
