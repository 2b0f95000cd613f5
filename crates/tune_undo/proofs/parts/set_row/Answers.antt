use Rattle.std.proofs.Common.{◌≡◌, ap, sym, ◌∙◌, true}
use Rattle.std.proofs.lemmas.Option.{none-some, same_Some}
use Rattle.tune_sets.specs.Names.{is_good_name}
use Rattle.tune_undo.proofs.PartLaws.{set_again, set_whole}
use Rattle.tune_undo.proofs.parts.set_row.Goals as goal

pub returns-in_default-clause-none : goal.returns-in_default-clause-none
returns-in_default-clause-none c = λ name list later good are e.
    none-some _ (sym c.in_default.ensures ∙ set_again name c.args.word.now list later c.args.bytes.now good are e)

pub returns-in_default-new-clause-none : goal.returns-in_default-new-clause-none
returns-in_default-new-clause-none c = λ name list later good are e.
    let both = same_Some _ _ (sym (set_again name c.args.word.now list later c.args.bytes.now good are e) ∙ c.in-Some.ensures) in
    let fine : is_good_name c.in-Some.name.now ≡ true = ap is_good_name (sym (ap (λ p. p.0) both)) ∙ good in
    let some = c.in_default-new.ensures.good.1 fine in
    cc

pub returns-in_default-2-clause-none : goal.returns-in_default-2-clause-none
returns-in_default-2-clause-none c = λ name list later good are e.
    let both = same_Some _ _ (sym (set_again name c.args.word.now list later c.args.bytes.now good are e) ∙ c.in-Some.ensures) in
    let none = rw c.in_default-2.is at c.in_ok-numbers.ensures.none in
    none list are (ap (λ p. p.1) both)

pub returns-clause-found : goal.returns-clause-found
returns-clause-found c =
    let list = rw c.in-Some-2.is at c.in_ok-numbers.ensures.found in
    set_whole c.in-Some-new.name c.in-Some.name.now c.args.word.now c.in-Some.numbers.now c.in-Some-2.numbers c.in-Some.rest.now c.args.bytes.now
    c.in-Some.ensures c.in-Some-new.ensures.value list
