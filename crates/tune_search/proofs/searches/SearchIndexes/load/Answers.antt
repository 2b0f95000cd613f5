use Rattle.std.proofs.Common.{◌≡◌, ℕ, ◌^◌, ◌<◌, length, rules, refl, sym, ◌∙◌, subst, arith}
use Rattle.std.proofs.lemmas.Result.{err_from_is_err_and}
use Rattle.tune_pages.specs.Claim.{IsChainFault}
use Rattle.tune_pages.specs.declared.fault.ClaimFault.{ClaimFault}
use Rattle.tune_search.specs.IncipitForms.{note_count}
use Rattle.tune_search.specs.Loaded.{AreStored}
use Rattle.tune_search.proofs.LoadLemmas.{no_titles, no_rhythms, no_scales, no_incipits}
use Rattle.tune_search.proofs.searches.SearchIndexes.load.Goals as goal

-- there are marks of four bytes' numbers
few_marks : (n m : ℕ) → n < 4294967296 → n ≡ m → m < 256 ^ 4
few_marks n m l e = omega (arith, l, e)

pub returns-in_err-titles-clause-damaged : goal.returns-in_err-titles-clause-damaged
returns-in_err-titles-clause-damaged g c =
    let p = err_from_is_err_and c.from_residual.result c.from_residual.ensures.1 in
    let most = c.args.most in
    let start = c.args.opening.now in
    let few = few_marks c.count-count.result (length start.claimed) (search rules) c.count-count.ensures.marks in
    let fault = c.in_err-titles.field-0.0 in
    let call = c.in_err-titles.ensures in
    rw p.1 (λ h.
    subst (λ (f : ClaimFault). IsChainFault f (AreStored (note_count c.args.notes) most start.pages start.claimed c.args.firsts)) (sym p.2)
    (no_titles fault (note_count c.args.notes) most start.pages start.pages start.claimed c.args.firsts refl few (call.damaged h)))

pub returns-in_err-rhythms-clause-damaged : goal.returns-in_err-rhythms-clause-damaged
returns-in_err-rhythms-clause-damaged g c =
    let p = err_from_is_err_and c.from_residual-in_err-rhythms.result c.from_residual-in_err-rhythms.ensures.1 in
    let most = c.args.most in
    let start = c.args.opening.now in
    let few = few_marks c.count-count.result (length start.claimed) (search rules) c.count-count.ensures.marks in
    let fault = c.in_err-rhythms.field-0.0 in
    let call = c.in_err-rhythms.ensures in
    let titles = c.in_ok-titles.ensures in
    rw p.1 (λ h.
    let after_titles = call.looks.was_honest h in
    let titles_same = titles.looks.same_pages after_titles in
    subst (λ (f : ClaimFault). IsChainFault f (AreStored (note_count c.args.notes) most start.pages start.claimed c.args.firsts)) (sym p.2)
    (no_rhythms fault (note_count c.args.notes) most c.load.new.opening.pages start.pages start.claimed c.args.firsts titles_same few c.load.new.opening.claimed
    (record { now = start.pages; same = refl; shape = _; entries = _; loads = titles.loads after_titles }) (call.damaged h)))

pub returns-in_err-scales-clause-damaged : goal.returns-in_err-scales-clause-damaged
returns-in_err-scales-clause-damaged g c =
    let p = err_from_is_err_and c.from_residual-in_err-scales.result c.from_residual-in_err-scales.ensures.1 in
    let most = c.args.most in
    let start = c.args.opening.now in
    let few = few_marks c.count-count.result (length start.claimed) (search rules) c.count-count.ensures.marks in
    let fault = c.in_err-scales.field-0.0 in
    let call = c.in_err-scales.ensures in
    let titles = c.in_ok-titles.ensures in
    let rhythms = c.in_ok-rhythms.ensures in
    rw p.1 (λ h.
    let after_rhythms = call.looks.was_honest h in
    let after_titles = rhythms.looks.was_honest after_rhythms in
    let titles_same = titles.looks.same_pages after_titles in
    let rhythms_same = rhythms.looks.same_pages after_rhythms ∙ titles_same in
    subst (λ (f : ClaimFault). IsChainFault f (AreStored (note_count c.args.notes) most start.pages start.claimed c.args.firsts)) (sym p.2)
    (no_scales fault
    (note_count c.args.notes) most c.load-2.new.opening.pages start.pages start.claimed c.args.firsts rhythms_same few c.load.new.opening.claimed
    c.load-2.new.opening.claimed
    (record { now = start.pages; same = refl; shape = _; entries = _; loads = titles.loads after_titles })
    (record { now = c.load.new.opening.pages; same = titles_same; shape = _; entries = _; loads = rhythms.loads after_rhythms }) (call.damaged h)))

pub returns-in_err-incipits-clause-damaged : goal.returns-in_err-incipits-clause-damaged
returns-in_err-incipits-clause-damaged g c =
    let p = err_from_is_err_and c.from_residual-in_err-incipits.result c.from_residual-in_err-incipits.ensures.1 in
    let most = c.args.most in
    let start = c.args.opening.now in
    let few = few_marks c.count-count.result (length start.claimed) (search rules) c.count-count.ensures.marks in
    let fault = c.in_err-incipits.field-0.0 in
    let call = c.in_err-incipits.ensures in
    let titles = c.in_ok-titles.ensures in
    let rhythms = c.in_ok-rhythms.ensures in
    let scales = c.in_ok-scales.ensures in
    rw p.1 (λ h.
    let after_scales = call.looks.was_honest h in
    let after_rhythms = scales.looks.was_honest after_scales in
    let after_titles = rhythms.looks.was_honest after_rhythms in
    let titles_same = titles.looks.same_pages after_titles in
    let rhythms_same = rhythms.looks.same_pages after_rhythms ∙ titles_same in
    let scales_same = scales.looks.same_pages after_scales ∙ rhythms_same in
    subst (λ (f : ClaimFault). IsChainFault f (AreStored (note_count c.args.notes) most start.pages start.claimed c.args.firsts)) (sym p.2)
    (no_incipits fault (note_count c.args.notes) most c.load-3.new.opening.pages start.pages start.claimed c.args.firsts scales_same few
    c.load.new.opening.claimed c.load-2.new.opening.claimed c.load-3.new.opening.claimed
    (record { now = start.pages; same = refl; shape = _; entries = _; loads = titles.loads after_titles })
    (record { now = c.load.new.opening.pages; same = titles_same; shape = _; entries = _; loads = rhythms.loads after_rhythms })
    (record { now = c.load-2.new.opening.pages; same = rhythms_same; shape = _; entries = _; loads = scales.loads after_scales }) (call.damaged h)))
