use Rattle.std.proofs.Common.{◌≡◌, refl, sym, ap, ◌∙◌, arith, rules}
use Rattle.std.proofs.lemmas.List.{drop_all}
use Rattle.tune_sets.specs.Sets.{set_at}
use Rattle.tune_changes.proofs.PlanLemmas.{set_here, set_further}
use Rattle.tune_changes.proofs.set_turns.set_of.Goals as goal

pub loop-set-preserved : goal.loop-set-preserved
loop-set-preserved c =
    c.loop-set.invariant ∙ set_further c.args.name.now c.args.sets.now c.loop-set.set-index c.set-item.result (omega arith) c.set-item.is
    (sym c.is_named.ensures ∙ c.if-is_named.false)

pub returns-then-is_named : goal.returns-then-is_named
returns-then-is_named c =
    c.loop-set.invariant ∙ set_here c.args.name.now c.args.sets.now c.loop-set.set-index c.set-item.result (omega arith) c.set-item.is
    (sym c.is_named.ensures ∙ c.if-is_named.true)

pub returns : goal.returns
returns c = c.loop-set.invariant ∙ ap (set_at c.args.name.now) (drop_all c.loop-set.set-index c.args.sets.now (omega arith))
