use Rattle.std.proofs.Common.{◌≡◌, List, ℕ, Option, ◌++◌, [], ◌∷◌, map, take, refl, sym, ap, ◌∙◌, arith, rules}
use Rattle.std.proofs.lemmas.List.{take_all}
use Rattle.tune_sets.specs.Sets.{holder}
use Rattle.tune_changes.proofs.PlanLemmas.{mapped_more}
use Rattle.tune_changes.proofs.set_turns.holders.Goals as goal

pub loop-number-preserved : goal.loop-number-preserved
loop-number-preserved c =
    let sets = c.args.sets.now in
    let pushed : c.push.new.self.items ≡ c.loop-number.names.items ++ c.holds.result ∷ [] = search rules in
    pushed ∙ ap (λ (names : List (Option (List ℕ))). names ++ c.holds.result ∷ []) c.loop-number.invariant
    ∙ ap (λ (name : Option (List ℕ)). map (λ number. holder number sets) (take c.loop-number.number-index c.args.numbers.now) ++ name ∷ []) c.holds.ensures
    ∙ sym (mapped_more (λ number. holder number sets) c.args.numbers.now c.loop-number.number-index 0 (omega arith))

pub returns : goal.returns
returns c =
    c.loop-number.invariant
    ∙ ap (map (λ number. holder number c.args.sets.now)) (take_all c.loop-number.number-index c.args.numbers.now (omega arith))
