use Rattle.std.proofs.Common.{sym, ◌∙◌, rules, arith, subst, List, ℕ}
use Rattle.abc_items.specs.Inside.Misses.{AreMissing}
use Rattle.abc_items.proofs.ClosingMarks.{missing_later}
use Rattle.abc_items.proofs.ItemSpans.{spans_step}
use Rattle.abc_items.proofs.items.ItemsIterator.next.Goals as goal

pub invariant_of-self : goal.invariant_of-self
invariant_of-self c =
    let rest = c.self.inside.rest.now in
    let n = c.first_item-front.result.length in
    let P : List ℕ → Type 0 = λ text. AreMissing c.first_item-front.new.misses text in (
      omega (arith, c.split_at.ensures.back_len),
      subst P (sym c.split_at.ensures.back) (missing_later c.first_item-front.new.misses n rest c.first_item-front.ensures.misses),
    )

pub returns-clause-steps : goal.returns-clause-steps
returns-clause-steps c =
    sym c.self.view_is ∙ spans_step c.self.inside.at c.self.inside.rest.now c.first_item-front.result c.split_at.result.0.now c.split_at.result.1.now
    c.first_item-front.ensures.value c.first_item-front.ensures.within (omega arith) c.split_at.ensures.front c.split_at.ensures.back

pub returns-clause-goes : goal.returns-clause-goes
returns-clause-goes c = rw (returns-clause-steps c) (search rules)
