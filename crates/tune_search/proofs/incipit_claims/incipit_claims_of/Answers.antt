use Rattle.tune_search.proofs.incipit_claims.incipit_claims_of.Goals as goal

pub returns-in-Some-2-clause-held : goal.returns-in-Some-2-clause-held
returns-in-Some-2-clause-held c =
    let held = rw c.in-Some-2.is at c.in_ok-claims-in-Twelve.ensures.held in
    let same = rw c.in-Some-2.is at c.in_ok-claims-in-Twelve.ensures.same in
    rw (same, c.in-Twelve.is) held

pub returns-in-Some-clause-held : goal.returns-in-Some-clause-held
returns-in-Some-clause-held c =
    let held = rw c.in-Some.is at c.in_ok-claims-in-Eight.ensures.held in
    let same = rw c.in-Some.is at c.in_ok-claims-in-Eight.ensures.same in
    rw (same, c.in-Eight.is) held
