use Rattle.std.proofs.Common.{◌≡◌, ◌≢◌, ℕ, ◌+◌, ◌≤◌, ◌<◌, List, length, drop, slice_index, sym, ap, ◌∙◌, arith, Ordering}
use Rattle.std.proofs.lemmas.List.{drop-drop, length-drop}
use Rattle.std.specs.Ordering.{nat_cmp, ordering_then}
use Rattle.std.specs.Cmp.Lexicographic.{slice_cmp}
use Rattle.byteorder.specs.Endian.{big_from}
use Rattle.index_keys.proofs.ByteOrder.{front_order, settled, equal_then, small_on}
use Rattle.index_keys.proofs.index_key.byte_order.Goals as goal

-- the order from here on, by the numbers that the next eight bytes spell
eight_more : (one other : List ℕ) (at : ℕ) → ((k : ℕ) → slice_index one k < 256) → ((k : ℕ) → slice_index other k < 256) → at + 8 ≤ length one
    → at + 8 ≤ length other
    → slice_cmp nat_cmp (drop at one) (drop at other) ≡ ordering_then (nat_cmp (big_from 0 8 (drop at one)) (big_from 0 8 (drop at other)))
    (slice_cmp nat_cmp (drop (at + 8) one) (drop (at + 8) other))
eight_more one other at s t a b =
    let l = length-drop at one in
    let m = length-drop at other in
    front_order 8 (drop at one) (drop at other) (small_on one at s) (small_on other at t) (omega (arith, l)) (omega (arith, m))
    ∙ ap (λ (x : List ℕ). ordering_then (nat_cmp (big_from 0 8 (drop at one)) (big_from 0 8 (drop at other))) (slice_cmp nat_cmp x (drop 8 (drop at other))))
    (drop-drop 8 at one)
    ∙ ap (λ (x : List ℕ). ordering_then (nat_cmp (big_from 0 8 (drop at one)) (big_from 0 8 (drop at other))) (slice_cmp nat_cmp (drop (at + 8) one) x))
    (drop-drop 8 at other)

-- the numbers decide, or what stands behind them does
decided : (m n f g : ℕ) (q o p : Ordering) → m ≡ f → n ≡ g → m ≢ n → q ≡ nat_cmp m n → p ≡ ordering_then (nat_cmp f g) o → q ≡ p
decided m n f g q o p e h d is rest = is ∙ sym (settled m n o d) ∙ ap (λ (x : ℕ). ordering_then (nat_cmp x n) o) e
    ∙ ap (λ (x : ℕ). ordering_then (nat_cmp f x) o) h ∙ sym rest

passed : (m n f g : ℕ) (o p : Ordering) → m ≡ f → n ≡ g → m ≡ n → p ≡ ordering_then (nat_cmp f g) o → o ≡ p
passed m n f g o p e h d rest = sym (equal_then f g o (sym e ∙ d ∙ h)) ∙ sym rest

pub returns-then-first-second : goal.returns-then-first-second
returns-then-first-second c =
    let at = c.loop-at.at in
    let here : at + 8 ≤ length c.args.one.now = omega (arith, c.loop-at-test.true) in
    let same : length c.args.one.now ≡ length c.args.other.now = c.requires in
    let rest = eight_more c.args.one.now c.args.other.now at (λ k. omega (arith, c.type_inv.one k)) (λ k. omega (arith, c.type_inv.other k)) here
    (omega (arith, here, same)) in
    decided c.number_at-first.result c.number_at-second.result (big_from 0 8 (drop at c.args.one.now)) (big_from 0 8 (drop at c.args.other.now)) c.cmp.result
    (slice_cmp nat_cmp (drop (at + 8) c.args.one.now) (drop (at + 8) c.args.other.now)) (slice_cmp nat_cmp (drop at c.args.one.now) (drop at c.args.other.now))
    c.number_at-first.ensures c.number_at-second.ensures c.if-first-second.true c.cmp.ensures rest ∙ c.loop-at.invariant.so_far

pub loop-at-preserved : goal.loop-at-preserved
loop-at-preserved c =
    let at = c.loop-at.at in
    let here : at + 8 ≤ length c.args.one.now = omega (arith, c.loop-at-test.true) in
    let same : length c.args.one.now ≡ length c.args.other.now = c.requires in
    let rest = eight_more c.args.one.now c.args.other.now at (λ k. omega (arith, c.type_inv.one k)) (λ k. omega (arith, c.type_inv.other k)) here
    (omega (arith, here, same)) in
    record {
      within = here;
      so_far = passed c.number_at-first.result c.number_at-second.result (big_from 0 8 (drop at c.args.one.now)) (big_from 0 8 (drop at c.args.other.now))
          (slice_cmp nat_cmp (drop (at + 8) c.args.one.now) (drop (at + 8) c.args.other.now))
          (slice_cmp nat_cmp (drop at c.args.one.now) (drop at c.args.other.now))
          c.number_at-first.ensures c.number_at-second.ensures c.if-first-second.false rest ∙ c.loop-at.invariant.so_far;
    }
