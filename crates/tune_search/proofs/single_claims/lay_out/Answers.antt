use Rattle.std.proofs.Common.{◌≡◌, ◌+◌, ◌-◌, ◌<◌, length, get_or, refl, sym, arith}
use Rattle.std.proofs.lemmas.Bool.{true≢false}
use Rattle.tune_search.proofs.LaidHeld.{held_more, held_none, known_held}
use Rattle.tune_search.proofs.single_claims.lay_out.Goals as goal

pub loop-at-init : goal.loop-at-init
loop-at-init c = record {
  within = omega arith;
  laid = held_none c.args.numbers.now c.args.entries.now c.args.counts.now c.args.keys.now c.requires.none c.requires.one_each;
}

pub loop-at-preserved : goal.loop-at-preserved
loop-at-preserved c =
    let es = c.args.entries.now in
    let at = c.loop-at.at - 1 in
    let in_entries : at < length es = omega (arith, c.loop-at.invariant.within, c.loop-at-test.true) in
    let step : c.loop-at.at ≡ at + 1 = omega (arith, c.loop-at-test.true) in
    let found = c.in-Some.ensures in
    record {
      within = omega (arith, in_entries);
      laid = held_more c.args.numbers.now es c.loop-at.counts c.loop-at.keys at c.loop-at.at c.in-Some.place (get_or es at c.index-entries-at.result).1
          c.one_more.result (get_or es at c.index-entries-at-in-loop-at.result).0 c.index-entries-at.result c.index-entries-at-in-loop-at.result
          c.requires.rising c.loop-at.invariant.laid step in_entries refl refl found.within found.number c.one_more.ensures.none c.one_more.ensures.some;
    }

pub returns-in_default-clause-known : goal.returns-in_default-clause-known
returns-in_default-clause-known c = λ width others.
    let es = c.args.entries.now in
    let at = c.loop-at.at - 1 in
    let in_entries : at < length es = omega (arith, c.loop-at.invariant.within, c.loop-at-test.true) in (
      λ no. absurd (true≢false (sym no)),
      λ known.
          let there = known_held c.args.numbers.now width others es at c.index-entries-at.result in_entries known in
          absurd (c.place_of.ensures.none c.in_default.is there),
    )
