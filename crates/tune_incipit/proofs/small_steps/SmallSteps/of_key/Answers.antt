use borrow.Author.Tests.{tests}
use Rattle.std.proofs.Common.{length-append, List}
use Rattle.std.proofs.Common.{◌-◌, ◌≡◌, ◌≢◌, ℕ, ◌++◌, ◌∷◌, [], length, take, drop, sym, ap, ◌∙◌, arith, rules, ℤ, to_z, of_z, w8, FitsSigned}
use Rattle.std.proofs.Math.Facts.{to_z-of_z}
use Rattle.std.proofs.lemmas.Iterator.{cases_from_all, YieldsList-from_slice}
use Rattle.tune_incipit.specs.ScaleAndIncipitKeys.{bytes_of_steps, step_bytes}
use Rattle.tune_incipit.proofs.SmallKeys.{key_of_front, one_more}
use Rattle.tune_incipit.proofs.small_steps.SmallSteps.of_key.Goals as goal

pub loop-place-init : goal.loop-place-init
loop-place-init g c = record {
  few = omega (arith, ap length c.new-steps.ensures);
  bytes = sym c.bytes-rest.ensures.bytes ∙ ap (λ (steps : List ℤ). bytes_of_steps steps ++ c.bytes-rest.result.now) (sym c.new-steps.ensures);
}

pub loop-place-preserved : goal.loop-place-preserved
loop-place-preserved g c =
    let steps : List ℤ = c.loop-place.steps in
    let rest : List ℕ = c.loop-place.rest.now in
    let put : ℤ = to_z w8 (of_z w8 c.in-Some.step) in
    let fits : FitsSigned w8 c.in-Some.step = search rules in
    let front : take 4 rest ≡ step_bytes put = c.in-Some.ensures.front ∙ ap step_bytes (sym (to_z-of_z fits)) in
    let more = one_more steps put rest front in
    record {
      few = omega (arith, ap length c.push.ensures, length-append steps (put ∷ []), c.loop-place.invariant.few);
      bytes = c.loop-place.invariant.bytes ∙ more
          ∙ ap (λ (made : List ℤ). bytes_of_steps made ++ take (length rest - 4) (drop 4 rest)) (sym c.push.ensures);
    }

pub returns-then-all : goal.returns-then-all
returns-then-all g c =
    let rest : List ℕ = c.loop-place.rest.now in
    let zeros = cases_from_all _ _ _ (λ (x : ℕ). x ≡ 0) (λ (x : ℕ). x ≢ 0) c.all.ensures.ran (YieldsList-from_slice rest c.iter.ensures.rest)
    (λ x q k. search (rules, tests)) (λ x q k. search (rules, tests)) in
    let are = rw c.if-all.true at zeros in
    key_of_front g.row.W c.args.key.now (bytes_of_steps c.loop-place.steps) rest c.bytes-rest.ensures.bound c.loop-place.invariant.bytes
    (λ k b. are k 0 (omega arith) b)
