use Rattle.std.proofs.Common.{◌≡◌, ◌<◌, ◌++◌, [], ◌∷◌, length, ap, ◌∙◌, sym, rules, arith}
use Rattle.tune_asking.proofs.LookLemmas.{numbers_next}
use Rattle.tune_asking.proofs.shelf.all_numbers.Goals as goal

pub loop-place-preserved : goal.loop-place-preserved
loop-place-preserved g c =
    let labels = g.C.Catalog.labels c.args.catalog.now in
    let number = c.label.result.number in
    let pushed : c.push.new.self.items ≡ c.loop-place.numbers.items ++ number ∷ [] = search rules in
    let within : c.loop-place.place < length labels = omega (arith, c.len-count.ensures.count) in
    pushed ∙ ap (λ list. list ++ number ∷ []) c.loop-place.invariant
    ∙ numbers_next labels c.loop-place.place c.label.result within c.label.ensures
