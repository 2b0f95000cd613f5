use Rattle.std.proofs.Common.{◌≡◌, ◌+◌, ◌-◌, ◌<◌, length, get_or, ap, arith}
use Rattle.std.proofs.lemmas.List.{get_or_default}
use Rattle.index_keys.specs.Entries.{Entry}
use Rattle.tune_search.proofs.ClaimLinks.{linked_more}
use Rattle.tune_search.proofs.key_claims.link.Goals as goal

pub loop-at-preserved : goal.loop-at-preserved
loop-at-preserved g c =
    let es = c.args.entries.now in
    let at = c.loop-at.at - 1 in
    let number = (get_or es at c.index-entries-at.result).1 in
    let in_entries : at < length es = omega (arith, c.loop-at.invariant.within, c.loop-at-test.true) in
    let step : c.loop-at.at ≡ at + 1 = omega (arith, c.loop-at-test.true) in
    let own = ap (λ (e : Entry). e.1) (get_or_default es at (0, 0) c.index-entries-at.result in_entries) in
    let found = c.in-Some.ensures in
    linked_more c.args.numbers.now es c.loop-at.firsts c.loop-at.nexts at c.loop-at.at c.in-Some.place number c.requires.rising c.loop-at.invariant step own
    found.within found.number
