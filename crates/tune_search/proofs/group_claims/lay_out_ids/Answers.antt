use Rattle.std.proofs.Common.{◌≡◌, ◌+◌, ◌-◌, sym, arith}
use Rattle.tune_search.proofs.LaidKeys.{ids_more}
use Rattle.tune_search.proofs.group_claims.lay_out_ids.Goals as goal

pub loop-at-preserved : goal.loop-at-preserved
loop-at-preserved g c =
    let at = c.loop-at.at - 1 in
    let step : c.loop-at.at ≡ at + 1 = omega (arith, c.loop-at-test.true) in
    let found = c.in-Some.ensures in
    ids_more c.args.numbers.now c.args.entries.now c.loop-at.counts c.loop-at.ids at c.loop-at.at c.in-Some.place c.value_at.result c.one_more.result
    c.id_at.result c.requires.rising c.loop-at.invariant step (sym c.value_at.ensures.entry) found.within found.number c.one_more.ensures.none
    c.one_more.ensures.some c.id_at.ensures.within c.id_at.ensures.key
