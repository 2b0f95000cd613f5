use Rattle.std.proofs.Common.{◌-◌, length, rules}
use Rattle.index_keys.proofs.RisingEntries.{rises_push}
use Rattle.benches.proofs.entries.follows.Goals as goal

pub returns : goal.returns
returns g c = λ up.
    let b = rises_push c.args.entries.now (length c.args.entries.now - 1) c.args.entry.now c.index-entries-count.result (search rules)
    c.index-entries-count.is up in
    (λ t. b.0 (c.is_before.ensures.0 t), λ r. c.is_before.ensures.1 (b.1 r))
