use Rattle.std.proofs.Common.{◌≡◌, ◌+◌, ◌-◌, ◌<◌, length, get_or, arith, subst}
use Rattle.index_keys.specs.Entries.{Entry, rank}
use Rattle.tune_index.proofs.Ends.{last_below}
use Rattle.tune_index.proofs.search.follows_all.Goals as goal

pub returns : goal.returns
returns g c = λ up t.
    let e : Entry = c.index-entries-count.result in
    let below : rank e < rank (c.args.key.now, c.args.value) = c.is_before.ensures.0 t in
    let some : length c.args.entries.now ≡ (length c.args.entries.now - 1) + 1 = omega (arith, c.if-count-eq0.false) in
    let last : rank (get_or c.args.entries.now (length c.args.entries.now - 1) e) < rank (c.args.key.now, c.args.value) =
    subst (λ (x : Entry). rank x < rank (c.args.key.now, c.args.value)) c.index-entries-count.is below in
    last_below 0 (rank (c.args.key.now, c.args.value)) c.args.entries.now (length c.args.entries.now - 1) e up some last
