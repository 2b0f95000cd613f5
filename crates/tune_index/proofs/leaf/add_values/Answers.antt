use Rattle.std.proofs.Common.{rules, ◌≡◌, ◌+◌, ◌*◌, ◌<◌, ◌≤◌, ◌++◌, ◌∷◌, [], ℕ, List, length, take, get_or, append-nil, append_assoc}
use Rattle.std.proofs.Common.{arith, inl, inr, sym, ap, ◌∙◌}
use Rattle.std.proofs.lemmas.Bool.{cases_lt}
use Rattle.std.proofs.lemmas.List.{take_all, take_more}
use Rattle.index_keys.specs.Entries.{Entry, rank, values_within}
use Rattle.tune_index.specs.Leaves.{entries_in}
use Rattle.tune_index.proofs.Codec.{length-entries_in}
use Rattle.tune_index.proofs.Slots.{all_until, none_until, one_within, slot_entry, slot_room}
use Rattle.tune_index.proofs.leaf.add_values.Goals as goal

pub entry_of-entry-requires : goal.entry_of-entry-requires
entry_of-entry-requires g c =
    let r : (c.loop-place.place + 1) * (g.row.W + 4) ≤ length c.args.bytes.now =
    slot_room g.row.W c.args.count c.loop-place.place (length c.args.bytes.now) c.loop-place-test.true c.requires.room in
    (search rules, (c.requires.width, r))

pub loop-place-init : goal.loop-place-init
loop-place-init g c = λ up _.
    let es : List Entry = entries_in g.row.W c.args.count c.args.bytes.now in
    let none = none_until c.args.low.now c.args.high.now c.first_from-from.result es (c.first_from-from.ensures.place up) in
    sym (ap (λ (x : List ℕ). c.args.values.now.items ++ x) none ∙ append-nil c.args.values.now.items)

pub returns-then-is_before : goal.returns-then-is_before
returns-then-is_before g c = λ up fit.
    let low = c.args.low.now in
    let high = c.args.high.now in
    let es : List Entry = entries_in g.row.W c.args.count c.args.bytes.now in
    let e = c.entry_of-entry.result in
    let i = c.loop-place.place in
    let n = length-entries_in g.row.W c.args.count c.args.bytes.now in
    let is : e ≡ get_or es i e = c.entry_of-entry.ensures.entry ∙ sym (slot_entry g.row.W c.args.count i e c.args.bytes.now c.loop-place-test.true) in
    let past = c.is_before.ensures.0 c.if-is_before.true in
    c.loop-place.invariant up fit
    ∙ ap (λ (x : List ℕ). c.args.values.now.items ++ x)
    (all_until g.row.W low high i es e up fit (omega (arith, n, c.loop-place-test.true)) is (omega (arith, past)))

pub loop-place-preserved : goal.loop-place-preserved
loop-place-preserved g c = λ up fit.
    let low = c.args.low.now in
    let high = c.args.high.now in
    let es : List Entry = entries_in g.row.W c.args.count c.args.bytes.now in
    let e = c.entry_of-entry.result in
    let i = c.loop-place.place in
    let n = length-entries_in g.row.W c.args.count c.args.bytes.now in
    let l : i < length es = omega (arith, n, c.loop-place-test.true) in
    let is : e ≡ get_or es i e = c.entry_of-entry.ensures.entry ∙ sym (slot_entry g.row.W c.args.count i e c.args.bytes.now c.loop-place-test.true) in
    let t : take (i + 1) es ≡ take i es ++ e ∷ [] = take_more es i e l ∙ ap (λ (x : Entry). take i es ++ x ∷ []) (sym is) in
    let place = c.first_from-from.ensures.place up in
    let at : rank (low, 0) ≤ rank (get_or es i e) = place.others_after i e (search rules) l in
    let same : rank e ≡ rank (get_or es i e) = ap rank is in
    let value = c.entry_of-entry.ensures.fits.value in
    let over : low ≤ e.0 = omega (arith, at, same, value) in
    let within : e.0 ≤ high = elim (cases_lt (rank (high, 0)) (rank (e.0, 0))) [
      | inl past ↦ absurd (let t = c.is_before.ensures.1 past in let f = c.if-is_before.false in cc)
      | inr below ↦ omega (arith, below)
    ] in
    let more = one_within low high i es e t over within in
    let vs = values_within low high (take i es) in
    c.in_ok-push.ensures.items ∙ ap (λ (x : List ℕ). x ++ e.1 ∷ []) (c.loop-place.invariant up fit)
    ∙ append_assoc c.args.values.now.items vs (e.1 ∷ []) ∙ ap (λ (x : List ℕ). c.args.values.now.items ++ x) (sym more)

pub returns : goal.returns
returns g c = λ up fit.
    let es : List Entry = entries_in g.row.W c.args.count c.args.bytes.now in
    let n = length-entries_in g.row.W c.args.count c.args.bytes.now in
    let all : take c.loop-place.place es ≡ es = take_all c.loop-place.place es (omega (arith, n, c.loop-place-test.false)) in
    c.loop-place.invariant up fit
    ∙ ap (λ (x : List Entry). c.args.values.now.items ++ values_within c.args.low.now c.args.high.now x) all
