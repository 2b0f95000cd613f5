use Rattle.std.proofs.Common.{◌≡◌, ℕ, ◌*◌, sym, ◌∙◌, subst, arith}
use Rattle.std.proofs.lemmas.Result.{err_from_is_err_and}
use Rattle.tune_pages.specs.Claim.{CountsClaimFault, IsChainFault}
use Rattle.tune_pages.specs.declared.fault.ClaimFault.{ClaimFault}
use Rattle.tune_store.specs.Limits.{most_tunes}
use Rattle.tune_contents.specs.Inside.ClaimedParts.{IsStateThere}
use Rattle.tune_contents.proofs.ClaimLemmas.{claims_as}
use Rattle.tune_contents.proofs.ClaimListLemmas.{root_at, root_none, numbers_fault, searches_fault, sets_fault, numbers_claimed, both_claimed, lists_claimed}
use Rattle.tune_contents.proofs.claiming.claim_lists.Goals as goal

pub returns-in_default-clause-damaged : goal.returns-in_default-clause-damaged
returns-in_default-clause-damaged g c = λ h. root_none _ _ (c.in_ok-root.ensures.image h) c.in_default.ensures.none

pub returns-in_err-numbers-clause-damaged : goal.returns-in_err-numbers-clause-damaged
returns-in_err-numbers-clause-damaged g c =
    let p = err_from_is_err_and c.from_residual-in_err-numbers.result c.from_residual-in_err-numbers.ensures.1 in
    let call = c.in_err-numbers.ensures in
    let read = c.in_ok-root.ensures in
    let same : c.most_tunes-most.result ≡ most_tunes c.in-Some.layout = c.most_tunes-most.ensures.most in
    rw p.1 (λ h.
    let one = call.looks.was_honest h in
    subst (λ (f : ClaimFault). IsChainFault f (IsStateThere c.args.opening.now.pages)) (sym p.2)
    (numbers_fault c.in_err-numbers.field-0.0 _ _ _ c.in-Some.firsts _ (read.looks.same_pages one) (read.claimed ∙ c.requires.root)
    (root_at _ c.args.opening.now.pages _ (read.image one) c.in-Some.ensures.some) (omega (arith, same)) (call.damaged h)))

pub returns-in_err-searches-clause-damaged : goal.returns-in_err-searches-clause-damaged
returns-in_err-searches-clause-damaged g c =
    let p = err_from_is_err_and c.from_residual-in_err-searches.result c.from_residual-in_err-searches.ensures.1 in
    let call = c.in_err-searches.ensures in
    let numbers = c.in_ok-numbers.ensures in
    let read = c.in_ok-root.ensures in
    let same : c.most_tunes-most.result ≡ most_tunes c.in-Some.layout = c.most_tunes-most.ensures.most in
    rw p.1 (λ h.
    let one = call.looks.was_honest h in
    let two = numbers.looks.was_honest one in
    subst (λ (f : ClaimFault). IsChainFault f (IsStateThere c.args.opening.now.pages)) (sym p.2)
    (searches_fault c.in_err-searches.field-0.0 _ _ _ c.in-Some.firsts c.most_tunes-most.result _ _ _ _ c.incipit_notes-notes.ensures
    (numbers.looks.same_pages one ∙ read.looks.same_pages two)
    (root_at _ c.args.opening.now.pages _ (read.image two) c.in-Some.ensures.some) (omega (arith, same)) (omega (arith, same))
    (λ some. numbers_claimed _ _ _ _ _ _ _ _ (read.looks.same_pages two) (read.claimed ∙ c.requires.root) some (numbers.claims one)) (call.damaged h)))

pub returns-in_err-claim_part-clause-damaged : goal.returns-in_err-claim_part-clause-damaged
returns-in_err-claim_part-clause-damaged g c =
    let p = err_from_is_err_and c.from_residual-in_err-claim_part.result c.from_residual-in_err-claim_part.ensures.1 in
    let call = c.in_err-claim_part.ensures in
    let searches = c.in_ok-searches.ensures in
    let numbers = c.in_ok-numbers.ensures in
    let read = c.in_ok-root.ensures in
    let same : c.most_tunes-most.result ≡ most_tunes c.in-Some.layout = c.most_tunes-most.ensures.most in
    rw p.1 (λ h.
    let zero = call.looks.was_honest h in
    let one = searches.looks.was_honest zero in
    let two = numbers.looks.was_honest one in
    let on = numbers.looks.same_pages one ∙ read.looks.same_pages two in
    subst (λ (f : ClaimFault). IsChainFault f (IsStateThere c.args.opening.now.pages)) (sym p.2)
    (sets_fault c.in_err-claim_part.field-0.0 _ _ _ _ c.in-Some.firsts c.most_tunes-most.result (8 * c.most_tunes-most.result) _ _ _ _
    (searches.looks.same_pages zero ∙ on) (root_at _ c.args.opening.now.pages _ (read.image two) c.in-Some.ensures.some)
    (omega (arith, same)) (omega (arith, same)) (c.requires.sized (read.looks.was_honest two)) (searches.notes ∙ c.incipit_notes-notes.ensures)
    (λ some. both_claimed _ _ _ _ _ _ c.in-Some.firsts c.most_tunes-most.result (8 * c.most_tunes-most.result) _ _ _ _ (read.looks.same_pages two) on
    (read.claimed ∙ c.requires.root) some (numbers.claims one) (searches.claims zero)) (call.damaged h)))

pub returns-in_err-claim_part-clause-looks : goal.returns-in_err-claim_part-clause-looks
returns-in_err-claim_part-clause-looks g c =
    let p = err_from_is_err_and c.from_residual-in_err-claim_part.result c.from_residual-in_err-claim_part.ensures.1 in
    let call = c.in_err-claim_part.ensures.looks in
    let searches = c.in_ok-searches.ensures.looks in
    let numbers = c.in_ok-numbers.ensures.looks in
    let read = c.in_ok-root.ensures.looks in
    rw (p.1, p.2) (record {
      was_honest = λ h. read.was_honest (numbers.was_honest (searches.was_honest (call.was_honest h)));
      same_state = λ h.
          let zero = call.was_honest h in
          let one = searches.was_honest zero in
          call.same_state h ∙ searches.same_state zero ∙ numbers.same_state one ∙ read.same_state (numbers.was_honest one);
      same_pages = λ h.
          let zero = call.was_honest h in
          let one = searches.was_honest zero in
          call.same_pages h ∙ searches.same_pages zero ∙ numbers.same_pages one ∙ read.same_pages (numbers.was_honest one);
      count = call.count ∙ searches.count ∙ numbers.count ∙ read.count;
      counted = subst (λ (n : ℕ). CountsClaimFault c.in_err-claim_part.field-0.0 n (g.D.Disk.failures c.claim_part.new.opening.disk))
          (searches.counted ∙ numbers.counted ∙ read.counted) call.counted;
    })

pub returns-clause-claims : goal.returns-clause-claims
returns-clause-claims g c = λ h some.
    let sets = c.in_ok-claim_part.ensures in
    let searches = c.in_ok-searches.ensures in
    let numbers = c.in_ok-numbers.ensures in
    let read = c.in_ok-root.ensures in
    let same : c.most_tunes-most.result ≡ most_tunes c.in-Some.layout = c.most_tunes-most.ensures.most in
    let zero = sets.looks.was_honest h in
    let one = searches.looks.was_honest zero in
    let two = numbers.looks.was_honest one in
    let on = numbers.looks.same_pages one ∙ read.looks.same_pages two in
    lists_claimed _ _ _ _ _ c.in-Some.firsts c.most_tunes-most.result (8 * c.most_tunes-most.result) _ _ _ _ _
    (searches.looks.same_pages zero ∙ on) (root_at _ c.args.opening.now.pages _ (read.image two) c.in-Some.ensures.some)
    (omega (arith, same)) (omega (arith, same)) (searches.notes ∙ c.incipit_notes-notes.ensures)
    (both_claimed _ _ _ _ _ _ c.in-Some.firsts c.most_tunes-most.result (8 * c.most_tunes-most.result) _ _ _ _ (read.looks.same_pages two) on
    (read.claimed ∙ c.requires.root) some (numbers.claims one) (searches.claims zero))
    (claims_as _ _ _ _ _ _ c.into_vec.ensures (sets.claims h))
