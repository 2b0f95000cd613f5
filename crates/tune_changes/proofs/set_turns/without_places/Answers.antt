use Rattle.std.proofs.Common.{◌≡◌, ◌+◌, ◌++◌, List, ℕ, drop, refl, sym, ap, ◌∙◌, arith, rules, append-nil, append_assoc}
use Rattle.std.proofs.lemmas.List.{drop_all}
use Rattle.tune_changes.specs.Planning.{without_places}
use Rattle.tune_changes.proofs.PlanLemmas.{places_next}
use Rattle.tune_changes.proofs.set_turns.without_places.Goals as goal

pub loop-index-preserved : goal.loop-index-preserved
loop-index-preserved c =
    let places = c.args.places.now in
    let numbers = c.args.numbers.now in
    let i = c.loop-index.index in
    let left = c.loop-index.left.items in
    let rest = without_places places (i + 1 + 1) (drop (i + 1) numbers) in
    c.loop-index.invariant ∙ ap (λ (more : List ℕ). left ++ more) (places_next places numbers i (omega arith))
    ∙ sym (append_assoc left _ rest) ∙ ap (λ (more : List ℕ). more ++ rest) (sym c.in_ok-push_unless_cut.ensures)

pub returns : goal.returns
returns c =
    let left = c.loop-index.left.items in
    c.from_vec.ensures ∙ sym (append-nil left)
    ∙ ap (λ (more : List ℕ). left ++ more)
    (sym (ap (without_places c.args.places.now (c.loop-index.index + 1)) (drop_all c.loop-index.index c.args.numbers.now (omega arith))))
    ∙ sym c.loop-index.invariant
