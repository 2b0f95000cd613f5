use Rattle.std.proofs.Common.{◌≡◌, ◌+◌, ◌≤◌, rules, arith, inl, inr, refl}
use Rattle.index_keys.specs.Entries.{rank}
use Rattle.index_keys.proofs.RisingEntries.{rises_pair}
use Rattle.tune_index.specs.Leaves.{slice_entry}
use Rattle.tune_index.proofs.index.leaf_before.Goals as goal

pub returns-then-is_at-clause-belongs : goal.returns-then-is_at-clause-belongs
returns-then-is_at-clause-belongs g c = λ up.
    let p = c.place_of-place.ensures.place up in
    let same : rank (slice_entry c.args.heads.now c.place_of-place.result) ≡ rank (c.args.key.now, c.args.value) =
    c.is_at.ensures.equal p c.if-is_at.true (0, 0) in
    record {
      from = inr (omega (arith, same));
      to = λ l. let r = rises_pair 0 c.args.heads.now c.place_of-place.result (c.place_of-place.result + 1) (0, 0) up (omega arith) l in omega (arith, same, r);
    }

pub returns-then-place-eq0-clause-belongs : goal.returns-then-place-eq0-clause-belongs
returns-then-place-eq0-clause-belongs g c = λ up.
    let p = c.place_of-place.ensures.place up in
    let zero_here : c.place_of-place.result ≡ 0 = search rules in
    let over : rank (c.args.key.now, c.args.value) ≤ rank (slice_entry c.args.heads.now 0) = p.others_after 0 (0, 0) (omega (arith, zero_here)) c.requires in
    record {
      from = inl refl;
      to = λ l. let r = rises_pair 0 c.args.heads.now 0 (0 + 1) (0, 0) up (omega arith) l in omega (arith, over, r);
    }
