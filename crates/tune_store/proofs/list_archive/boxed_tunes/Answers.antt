use Rattle.std.proofs.Common.{◌≡◌, [], ◌∷◌, ◌++◌, ap, sym, ◌∙◌, arith, append_assoc}
use Rattle.std.specs.Vec.Iter.{into_iter_items}
use Rattle.std.proofs.lemmas.List.{length_push}
use Rattle.tune_store.specs.declared.tune.Tune.{Tune}
use Rattle.tune_store.proofs.StateLemmas.{numbered_next}
use Rattle.tune_store.proofs.list_archive.boxed_tunes.Goals as goal

pub loop-text-preserved : goal.loop-text-preserved
loop-text-preserved c =
    let kept = c.loop-text.invariant in
    let taken : into_iter_items c.loop-text.text-iterator ≡ c.in-Some.text ∷ into_iter_items c.next.new.self = c.in-Some.ensures.steps.0 in
    let tune : Tune = record { number = c.loop-text.number; revision = 1; text = c.in-Some.text } in
    record {
      items = c.in_ok-push.ensures.items ∙ ap (λ new. c.loop-text.tunes.items ++ new ∷ []) c.in_ok-new.ensures
          ∙ ap (λ tunes. tunes ++ tune ∷ []) kept.items
          ∙ numbered_next c.args.first c.loop-text.number c.loop-text.yielded c.in-Some.text kept.number;
      number = omega (arith, length_push c.loop-text.yielded c.in-Some.text, kept.number);
      left =
          append_assoc c.loop-text.yielded (c.in-Some.text ∷ []) (into_iter_items c.next.new.self) ∙ ap (λ rest. c.loop-text.yielded ++ rest) (sym taken)
          ∙ kept.left;
    }
