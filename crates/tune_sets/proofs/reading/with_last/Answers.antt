use Rattle.std.proofs.Common.{◌≡◌, ◌∙◌, sym, ap, inr, refl, arith, length-append, true, []}
use Rattle.std.proofs.lemmas.Bool.{true≢false}
use Rattle.tune_sets.specs.Names.{is_before}
use Rattle.tune_sets.specs.Inside.Search.{last_name}
use Rattle.tune_sets.specs.declared.set_lists.TuneSet.{TuneSet}
use Rattle.tune_sets.proofs.ByteLemmas.{rises-push, each-push, rises-last}
use Rattle.tune_sets.proofs.reading.with_last.Goals as goal

pub returns-then-not-comes_last-clause-damaged : goal.returns-then-not-comes_last-clause-damaged
returns-then-not-comes_last-clause-damaged c =
    let last = c.comes_last.ensures ∙ ap (λ sets. is_before (last_name [] sets) c.args.set.name) (c.deref.ensures.value ∙ c.lists.view_is) in
    inr (refl, λ more are. true≢false (sym (rises-last [] c.args.lists more c.args.set are.rises) ∙ sym last ∙ c.if-not-comes_last.true))

pub invariant_of-result : goal.invariant_of-result
invariant_of-result c =
    let sets = c.lists.inside.sets.items in
    let last : is_before (last_name [] sets) c.args.set.name ≡ true = sym (c.comes_last.ensures
    ∙ ap (λ sets. is_before (last_name [] sets) c.args.set.name) c.deref.ensures.value) ∙ c.if-not-comes_last.false in
    rw c.in_ok-push.ensures.items record {
      rises = rises-push [] sets c.args.set c.lists.invariant.rises last;
      each = each-push sets c.args.set c.lists.invariant.each c.requires;
      count = omega (arith, length-append {A = TuneSet}, c.len.ensures, c.if-len-ge-MOST_SETS.false, c.lists.inside.sets.ok.0);
    }
