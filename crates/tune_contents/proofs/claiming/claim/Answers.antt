use Rattle.std.proofs.Common.{refl, sym, subst}
use Rattle.std.proofs.lemmas.Result.{err_from_is_err_and}
use Rattle.tune_pages.specs.Claim.{IsChainFault}
use Rattle.tune_pages.specs.declared.fault.ClaimFault.{ClaimFault}
use Rattle.tune_contents.specs.Claimed.{IsClaimed}
use Rattle.tune_contents.specs.declared.contents.Contents.{Contents}
use Rattle.tune_contents.specs.Inside.ClaimedParts.{IsStateThere}
use Rattle.tune_contents.proofs.ClaimStateLemmas.{lists_as, lists_at}
use Rattle.tune_contents.proofs.claiming.claim.Goals as goal

pub returns-in_err-rows-clause-damaged : goal.returns-in_err-rows-clause-damaged
returns-in_err-rows-clause-damaged g c =
    let p = err_from_is_err_and c.from_residual-in_err-rows.result c.from_residual-in_err-rows.ensures.1 in
    let call = c.in_err-rows.ensures in
    let lists = c.in_ok-layout.ensures in
    rw p.1 (λ h.
    let one = call.looks.was_honest h in
    let on = lists.looks.same_pages one in
    subst (λ (f : ClaimFault). IsChainFault f (IsStateThere c.args.opening.now.pages)) (sym p.2)
    (subst (λ l. IsChainFault c.in_err-rows.field-0.0 (IsStateThere l)) on
    (call.damaged h _ _ _ (lists_at _ _ _ _ _ _ _ _ _ _ _ on refl c.deref.ensures.value (lists.claims one)))))

pub returns-clause-claimed : goal.returns-clause-claimed
returns-clause-claimed g c = λ h some.
    let rows = c.in_ok-rows.ensures in
    let lists = c.in_ok-layout.ensures in
    let one = rows.looks.was_honest h in
    let on = lists.looks.same_pages one in
    let named = c.in_ok-layout.field-0 in
    let contents : Contents = record {
      layout = named.layout;
      rows = c.from.result;
      numbers = named.numbers;
      searches = named.searches;
      sets = c.in_ok-rows.sets;
      firsts = named.firsts;
    } in
    subst (λ l. IsClaimed l contents c.claim_texts.new.opening.claimed) on
    (rows.claimed h contents refl c.from.ensures.items refl
    (lists_as _ c.args.opening.now.pages _ _ _ _ _ _ _ _ _ on refl c.deref.ensures.value (lists.claims one some)))
