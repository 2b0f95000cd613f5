use Rattle.std.proofs.Common.{◌≡◌, List, refl, ap, sym, ◌∙◌, subst}
use Rattle.std.proofs.lemmas.Result.{err_from_is_err_and}
use Rattle.tune_pages.specs.Claim.{IsChainFault}
use Rattle.tune_pages.specs.declared.fault.ClaimFault.{ClaimFault}
use Rattle.tune_format.specs.Written.{number_entries}
use Rattle.tune_format.specs.declared.rows.Row.{Row}
use Rattle.tune_contents.specs.Claimed.{AreRows, RowsRise}
use Rattle.tune_contents.specs.Inside.ClaimedParts.{IsStateThere}
use Rattle.tune_contents.specs.Inside.ClaimedRows.{NameRows}
use Rattle.tune_contents.proofs.ClaimedRowLemmas.{rows_as}
use Rattle.tune_contents.proofs.ClaimStateLemmas.{listed_fault, rows_fault, sets_fault, texts_claimed}
use Rattle.tune_contents.proofs.ClaimStepLemmas.{seen_back}
use Rattle.tune_contents.proofs.claiming.claim_texts.Goals as goal

pub returns-in_err-rows-clause-damaged : goal.returns-in_err-rows-clause-damaged
returns-in_err-rows-clause-damaged g c =
    let p = err_from_is_err_and c.from_residual.result c.from_residual.ensures.1 in
    rw p.1 (λ h firsts shape shapes lists. subst (λ (f : ClaimFault). IsChainFault f (IsStateThere c.args.opening.now.pages)) (sym p.2)
    (listed_fault c.in_err-rows.field-0.0 _ _ _ _ _ _ _ _ _ lists c.deref.result.now c.deref.ensures.value c.in_err-rows.ensures.damaged))

pub returns-in_err-claim_rows-clause-damaged : goal.returns-in_err-claim_rows-clause-damaged
returns-in_err-claim_rows-clause-damaged g c =
    let p = err_from_is_err_and c.from_residual-in_err-claim_rows.result c.from_residual-in_err-claim_rows.ensures.1 in
    let call = c.in_err-claim_rows.ensures in
    let fault = c.in_err-claim_rows.field-0.0 in
    rw p.1 (λ h firsts shape shapes lists. subst (λ (f : ClaimFault). IsChainFault f (IsStateThere c.args.opening.now.pages)) (sym p.2)
    (rows_fault fault _ _ _ _ _ _ _ _ _ lists _ c.deref_mut.result.now refl
    (ap number_entries c.deref_mut.ensures.value ∙ c.in_ok-rows.ensures.same ∙ c.deref.ensures.value) (c.requires.sized (call.looks.was_honest h))
    (λ front has. call.damaged h front has)))

pub read_named_sets-requires : goal.read_named_sets-requires
read_named_sets-requires g c =
    let call = c.in_ok-claim_rows.ensures in
    let own : List Row = c.in_ok-rows.rows.items in
    let rows : List Row = c.claim_rows.new.rows in
    let listed = c.in_ok-rows.ensures in
    let same = call.same ∙ ap number_entries c.deref_mut.ensures.value in
    let now : c.deref-2.result.now ≡ rows = seen_back _ _ _ rows own c.deref-2.ensures.value c.deref_mut.ensures.value c.deref_mut.ensures.len call.same in
    let are = rows_as {layout = c.args.layout} rows own same listed.rows in
    subst (RowsRise 0) (sym now) are.rise

pub returns-in_err-sets-clause-damaged : goal.returns-in_err-sets-clause-damaged
returns-in_err-sets-clause-damaged g c =
    let p = err_from_is_err_and c.from_residual-in_err-sets.result c.from_residual-in_err-sets.ensures.1 in
    let call = c.in_ok-claim_rows.ensures in
    let own : List Row = c.in_ok-rows.rows.items in
    let rows : List Row = c.claim_rows.new.rows in
    let listed = c.in_ok-rows.ensures in
    let same = call.same ∙ ap number_entries c.deref_mut.ensures.value in
    let now : c.deref-2.result.now ≡ rows = seen_back _ _ _ rows own c.deref-2.ensures.value c.deref_mut.ensures.value c.deref_mut.ensures.len call.same in
    let entries = ap number_entries now ∙ same ∙ listed.same ∙ c.deref.ensures.value in
    rw p.1 (λ h firsts shape shapes lists. subst (λ (f : ClaimFault). IsChainFault f (IsStateThere c.args.opening.now.pages)) (sym p.2)
    (sets_fault c.in_err-sets.field-0.0 _ _ _ _ _ _ _ _ _ lists c.deref-2.result.now entries c.in_err-sets.ensures.damaged))

pub returns-clause-claimed : goal.returns-clause-claimed
returns-clause-claimed g c = λ h contents its its_rows its_sets lists.
    let sets = c.in_ok-sets.ensures in
    let call = c.in_ok-claim_rows.ensures in
    let own : List Row = c.in_ok-rows.rows.items in
    let rows : List Row = c.claim_rows.new.rows in
    let listed = c.in_ok-rows.ensures in
    let now : c.deref-2.result.now ≡ rows = seen_back _ _ _ rows own c.deref-2.ensures.value c.deref_mut.ensures.value c.deref_mut.ensures.len call.same in
    let back = sym c.deref-2.ensures.value ∙ now in
    texts_claimed {layout = c.args.layout} _ _ _ _ contents _ _ _ c.deref_mut.result.now rows _ refl its (its_rows ∙ back) its_sets lists
    (subst (AreRows c.args.layout) (sym c.deref_mut.ensures.value) listed.rows)
    (ap number_entries c.deref_mut.ensures.value ∙ listed.same ∙ c.deref.ensures.value) call.same call.known sets.same.0 sets.same.1
    (subst (λ r. NameRows r c.in_ok-sets.sets) now sets.named) (call.claimed h)

pub returns-clause-rows : goal.returns-clause-rows
returns-clause-rows g c =
    let call = c.in_ok-claim_rows.ensures in
    let own : List Row = c.in_ok-rows.rows.items in
    let rows : List Row = c.claim_rows.new.rows in
    let listed = c.in_ok-rows.ensures in
    let same = call.same ∙ ap number_entries c.deref_mut.ensures.value in
    let now : c.deref-2.result.now ≡ rows = seen_back _ _ _ rows own c.deref-2.ensures.value c.deref_mut.ensures.value c.deref_mut.ensures.len call.same in
    let back = sym c.deref-2.ensures.value ∙ now in
    subst (AreRows c.args.layout) (sym back) (rows_as {layout = c.args.layout} rows own same listed.rows)
