use Rattle.std.proofs.Common.{◌≡◌, ℕ, ◌+◌, ◌-◌, ◌/◌, ◌<◌, ◌≤◌, length, get_or, arith, inl, inr, refl, sym, ap, ◌∙◌, List}
use Rattle.std.proofs.lemmas.Bool.{cases_lt, cases_eq}
use Rattle.std.proofs.lemmas.List.{get_or_default}
use Rattle.index_keys.specs.KeyLists.{KeysRise}
use Rattle.index_keys.proofs.KeyPlaces.{rises_pair}
use Rattle.index_keys.proofs.rising.place_of.Goals as goal

-- an element whatever default it is read with
same : (keys : List ℕ) (m k e d : ℕ) → m < length keys → e ≡ get_or keys m e → k ≡ m → get_or keys k d ≡ e
same keys m k e d l is h = ap (λ (x : ℕ). get_or keys x d) h ∙ get_or_default keys m d e l ∙ sym is

-- what stands before the middle, and from it on
lower : (keys : List ℕ) (m key e : ℕ) → KeysRise 0 keys → m < length keys → e ≡ get_or keys m e → e < key → (k d : ℕ) → k < m + 1 → get_or keys k d < key
lower keys m key e up l is h k d b =
    let at : get_or keys m d ≡ e = same keys m m e d l is refl in
    elim (cases_eq k m) [
      | inl here ↦ let s = same keys m k e d l is here in omega (arith, s)
      | inr other ↦ let p = rises_pair 0 keys k m d up (omega arith) l in omega (arith, p, at)
    ]

upper : (keys : List ℕ) (m key e : ℕ) → KeysRise 0 keys → m < length keys → e ≡ get_or keys m e → key ≤ e → (k d : ℕ) → m ≤ k → k < length keys
    → key ≤ get_or keys k d
upper keys m key e up l is h k d b n =
    let at : get_or keys m d ≡ e = same keys m m e d l is refl in
    elim (cases_eq k m) [
      | inl here ↦ let s = same keys m k e d l is here in omega (arith, s)
      | inr other ↦ let p = rises_pair 0 keys m k d up (omega arith) n in omega (arith, p, at)
    ]

pub loop-low-preserved-then-is_before : goal.loop-low-preserved-then-is_before
loop-low-preserved-then-is_before g c =
    let m = c.loop-low.low + (c.loop-low.high - c.loop-low.low) / 2 in
    let t = c.is_before.ensures.0 c.if-is_before.true in
    let below : c.index-keys-middle.result < c.args.key.now = omega (arith, t) in
    record {
      ordered = omega arith;
      within = c.loop-low.invariant.within;
      before = λ up. lower c.args.keys.now m c.args.key.now c.index-keys-middle.result up (omega arith) c.index-keys-middle.is below;
      after = c.loop-low.invariant.after;
    }

pub loop-low-preserved : goal.loop-low-preserved
loop-low-preserved g c =
    let m = c.loop-low.low + (c.loop-low.high - c.loop-low.low) / 2 in
    let above : c.args.key.now ≤ c.index-keys-middle.result = elim (cases_lt c.index-keys-middle.result c.args.key.now) [
      | inl below ↦ absurd (let t = c.is_before.ensures.1 (omega (arith, below)) in let f = c.if-is_before.false in cc)
      | inr over ↦ over
    ] in
    record {
      ordered = omega arith;
      within = omega (arith, c.loop-low.invariant.within);
      before = c.loop-low.invariant.before;
      after = λ up. upper c.args.keys.now m c.args.key.now c.index-keys-middle.result up (omega arith) c.index-keys-middle.is above;
    }
