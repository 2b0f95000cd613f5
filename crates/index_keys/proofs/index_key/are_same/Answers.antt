use Rattle.std.proofs.Common.{◌≡◌, ◌+◌, ◌-◌, ◌≤◌, length, take, drop, ℕ, Bool, IsTrue, ◌&&◌, nat_eq, true, false, List, rules, ap, sym, ◌∙◌, arith}
use Rattle.std.proofs.lemmas.Bool.Decides.{nat_tests}
use Rattle.std.proofs.lemmas.List.{drop-drop, length-drop, take_all}
use Rattle.std.specs.Cmp.Lexicographic.{pointwise, told_text}
use Rattle.byteorder.specs.Endian.{big_from}
use Rattle.index_keys.proofs.ByteOrder.{same_by_number, small_on}
use Rattle.index_keys.proofs.index_key.are_same.Goals as goal

both : (same : Bool) (m n : ℕ) → IsTrue (same && nat_eq m n) → IsTrue same × (m ≡ n)
both same m n h = grind (arith, nat_tests)

as_both : (same : Bool) (m n : ℕ) → IsTrue same → m ≡ n → IsTrue (same && nat_eq m n)
as_both same m n h e = grind (arith, nat_tests)

pub loop-at-preserved : goal.loop-at-preserved
loop-at-preserved c =
    let one : List ℕ = c.args.one.now in
    let other : List ℕ = c.args.other.now in
    let at = c.loop-at.at in
    let here : at + 8 ≤ length one = omega (arith, c.loop-at-test.true) in
    let there : at + 8 ≤ length other = omega (arith, here, c.requires) in
    let first = c.number_at.ensures in
    let second = c.number_at-in-loop-at.ensures in
    record {
      within = here;
      passed = λ both_are rest.
          let are = both c.loop-at.same c.number_at.result c.number_at-in-loop-at.result both_are in
          c.loop-at.invariant.passed are.0 (same_by_number 8 (drop at one) (drop at other) (small_on one at (λ k. omega (arith, c.type_inv.one k)))
          (small_on other at (λ k. omega (arith, c.type_inv.other k))) (omega (arith, here, length-drop at one)) (omega (arith, there, length-drop at other))
          (sym first ∙ are.1 ∙ second)
          (drop-drop 8 at one ∙ rest ∙ sym (drop-drop 8 at other)));
      failed = λ is. as_both c.loop-at.same c.number_at.result c.number_at-in-loop-at.result (c.loop-at.invariant.failed is)
          (first ∙ ap (λ (text : List ℕ). big_from 0 8 (drop at text)) is ∙ sym second);
    }

-- what the test of the bytes behind the last eight has told
told : (r : Bool) (xs ys : List ℕ) → r ≡ pointwise nat_eq xs ys → (IsTrue r → xs ≡ ys) × (xs ≡ ys → IsTrue r)
told true xs ys is = ((λ _. told_text xs ys true is), (λ _. search rules))
told false xs ys is = ((λ yes. absurd (search rules)), (λ same. absurd (told_text xs ys false is same)))

pub returns-then-same : goal.returns-then-same
returns-then-same c =
    let one : List ℕ = c.args.one.now in
    let other : List ℕ = c.args.other.now in
    let at = c.loop-at.at in
    let rest : take (length one - at) (drop at one) ≡ drop at one = take_all (length one - at) (drop at one) (omega (arith, length-drop at one)) in
    let others : take (length other - at) (drop at other) ≡ drop at other =
    take_all (length other - at) (drop at other) (omega (arith, length-drop at other)) in
    let tells = told c.eq.result (take (length one - at) (drop at one)) (take (length other - at) (drop at other)) c.eq.ensures in (
      (λ yes. c.loop-at.invariant.passed (search rules) (sym rest ∙ tells.0 yes ∙ others)),
      (λ is. tells.1 (rest ∙ ap (drop at) is ∙ sym others)),
    )
