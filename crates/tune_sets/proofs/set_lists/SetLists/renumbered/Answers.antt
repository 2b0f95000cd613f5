use Rattle.std.proofs.Common.{◌∙◌, arith}
use Rattle.tune_sets.proofs.ChangeLemmas.{are_renumbered}
use Rattle.tune_sets.proofs.PlaceLemmas.{unheld_renumbered}
use Rattle.tune_sets.proofs.set_lists.SetLists.renumbered.Goals as goal

pub invariant_of-self : goal.invariant_of-self
invariant_of-self c = rw c.renumber_sets.ensures (are_renumbered c.args.from c.args.to c.self.inside.sets.items (omega (arith, c.ranges.to)) c.self.invariant)

pub returns-clause-unheld : goal.returns-clause-unheld
returns-clause-unheld c = λ none. c.renumber_sets.ensures ∙ rw c.self.view_is (unheld_renumbered c.args.from c.args.to c.args.self.now none)
