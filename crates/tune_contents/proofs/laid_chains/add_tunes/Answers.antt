use Rattle.std.proofs.Common.{◌≡◌, ◌+◌, ◌++◌, ℕ, List, [], ◌∷◌, length, take, drop, suc, subst, ap, sym, ◌∙◌, arith}
use Rattle.std.proofs.Math.Seq.{drop-cons}
use Rattle.std.proofs.lemmas.List.{length-take-le, take-append-drop, take_more}
use Rattle.std.proofs.lemmas.Result.{err_from_is_err_and}
use Rattle.tune_store.specs.TuneSteps.{numbered}
use Rattle.tune_contents.specs.Inside.Laying.{LaysTunes}
use Rattle.tune_contents.specs.Inside.Takes.{text_pages}
use Rattle.tune_contents.proofs.LayLemmas.{lays_more}
use Rattle.tune_contents.proofs.RisingLemmas.{adds_next}
use Rattle.tune_contents.proofs.TakesLemmas.{text_pages_more, text_pages_next}
use Rattle.tune_contents.proofs.laid_chains.add_tunes.Goals as goal

pub loop-text-preserved : goal.loop-text-preserved
loop-text-preserved g c =
    let kept = c.loop-text.invariant in
    let call = c.in_ok-add_tune.ensures in
    let texts = c.args.texts.now in
    let text = c.text-item.result in
    let at = c.loop-text.text-index in
    let more : take (at + 1) texts ≡ take at texts ++ text ∷ [] =
    take_more texts at text c.loop-text-test.true ∙ ap (λ (x : List ℕ). take at texts ++ x ∷ []) (sym c.text-item.is) in
    let count : length (take at texts) ≡ at = length-take-le at texts (omega arith) in
    let old = c.args.edit.now.next in
    let new = c.add_tune.new.edit.next in
    record {
      base = call.alters.base ∙ kept.base;
      live = (kept.live.0, call.alters.answer.1);
      number = omega (arith, kept.number);
      lays = λ rows. subst (λ (l : List (List ℕ)). LaysTunes old new rows (rows ++ c.add_tune.new.more.items) (λ tunes. tunes ++ numbered c.args.first l))
          (sym more)
          (lays_more old c.loop-text.edit.next new rows (rows ++ c.loop-text.more.items) (rows ++ c.add_tune.new.more.items)
          c.args.first c.loop-text.number (take at texts) text (omega (arith, kept.number, count)) (kept.lays rows) (call.lays rows));
      takes = (let all = ap text_pages more in let sum = text_pages_more (take at texts) (text ∷ []) in omega (arith, kept.takes, call.takes, all, sum));
      rows = adds_next c.loop-text.more.items c.add_tune.new.more.items c.args.first c.loop-text.number at (at + 1) kept.number (omega arith) kept.rows
          call.row;
    }

pub returns-in_err-add_tune-clause-takes : goal.returns-in_err-add_tune-clause-takes
returns-in_err-add_tune-clause-takes g c =
    let p = err_from_is_err_and c.from_residual-in_err-add_tune.result c.from_residual-in_err-add_tune.ensures.1 in
    let kept = c.loop-text.invariant in
    let texts = c.args.texts.now in
    let text = c.text-item.result in
    let at = c.loop-text.text-index in
    let here : drop at texts ≡ text ∷ drop (suc at) texts =
    drop-cons texts at text c.loop-text-test.true ∙ ap (λ (x : List ℕ). x ∷ drop (suc at) texts) (sym c.text-item.is) in
    let whole : take at texts ++ text ∷ drop (suc at) texts ≡ texts = ap (λ (l : List (List ℕ)). take at texts ++ l) (sym here) ∙ take-append-drop at texts in
    let next = text_pages_next texts (take at texts) text (drop (suc at) texts) whole in
    rw (p.1, p.2) (λ e. (let lt = c.in_err-add_tune.ensures.takes e in omega (arith, lt, kept.takes, next)))
