use Rattle.std.proofs.Common.{◌≡◌, rules}
use Rattle.tune_disk.proofs.memory.write_and_record.Goals as goal

pub returns-clause-records : goal.returns-clause-records
returns-clause-records c =
    let same : c.in_ok-to_vec.field-0.items ≡ c.args.bytes.now = search rules in
    (c.in_ok-to_vec.field-0, same, c.in_ok-keep_record.ensures.ok)
