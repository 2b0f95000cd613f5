use Rattle.std.proofs.Common.{◌≡◌, Bool, ℕ, Option, Ok, take, refl, sym, ap, ◌∙◌, arith, rules}
use Rattle.std.specs.Prelude.{◌&&◌}
use Rattle.tune_asking.proofs.CallLemmas.{goes_none, goes_on, good_of, call_ok, call_err}
use Rattle.tune_changes.specs.Judging.{all_before, part_verdict, says_before, says_changed, verdict_unless}
use Rattle.tune_changes.specs.declared.judging.PartVerdict.{PartVerdict}
use Rattle.tune_changes.proofs.JudgingLemmas.{before_next, changed_here, changed_next}
use Rattle.tune_changes.proofs.LookLemmas.{never_refused, same_told}
use Rattle.tune_changes.proofs.judging.judged_parts.Goals as goal

pub returns-in_err-its : goal.returns-in_err-its
returns-in_err-its g c =
    let k = g.S.TuneStore in
    call_err k _ _ _ _ _ _ _ c.loop-place.invariant.goes c.in_err-its.ensures
    (λ is_open h refused. absurd (never_refused _ _ refused)) (search rules)

pub returns-then-says_changed : goal.returns-then-says_changed
returns-then-says_changed g c =
    let k = g.S.TuneStore in
    let was = c.loop-place.invariant in
    let state = k.state c.args.store.now in
    let parts = c.args.parts.now in
    let part = c.index-parts-place.result in
    call_ok k _ _ _ _ (goes_on k _ _ _ _ _ was.goes c.in_ok-its.ensures)
    (λ is_open h.
    let its : part_verdict part state ≡ c.in_ok-its.its = same_told _ _ (good_of k _ _ _ _ _ was.goes c.in_ok-its.ensures is_open h) in
    ap (λ (place : Option ℕ). Ok (verdict_unless place (all_before parts state)))
    (was.changed is_open (c.in_ok-its.ensures.asked.was_honest h)
    ∙ changed_here parts c.loop-place.place part state (omega arith) c.index-parts-place.is
    (ap says_changed its ∙ sym c.says_changed.ensures ∙ c.if-says_changed.true)))

pub loop-place-preserved : goal.loop-place-preserved
loop-place-preserved g c =
    let k = g.S.TuneStore in
    let was = c.loop-place.invariant in
    let state = k.state c.args.store.now in
    let parts = c.args.parts.now in
    let part = c.index-parts-place.result in
    let i = c.loop-place.place in
    record {
      goes = goes_on k _ _ _ _ _ was.goes c.in_ok-its.ensures;
      changed = λ is_open h.
          let its : part_verdict part state ≡ c.in_ok-its.its = same_told _ _ (good_of k _ _ _ _ _ was.goes c.in_ok-its.ensures is_open h) in
          was.changed is_open (c.in_ok-its.ensures.asked.was_honest h)
          ∙ changed_next parts i part state (omega arith) c.index-parts-place.is
          (ap says_changed its ∙ sym c.says_changed.ensures ∙ c.if-says_changed.false);
      so_far = λ is_open h.
          let its : part_verdict part state ≡ c.in_ok-its.its = same_told _ _ (good_of k _ _ _ _ _ was.goes c.in_ok-its.ensures is_open h) in
          c.is_still_before-before.ensures
          ∙ ap (λ (b : Bool). b && says_before c.in_ok-its.its) (was.so_far is_open (c.in_ok-its.ensures.asked.was_honest h))
          ∙ ap (λ (v : PartVerdict). all_before (take i parts) state && says_before v) (sym its)
          ∙ sym (before_next parts i part state (omega arith) c.index-parts-place.is);
    }
