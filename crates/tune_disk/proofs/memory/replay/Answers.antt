use Rattle.std.proofs.Common.{◌≡◌, rules, ◌∙◌, sym, ap, take, ◌+◌}
use Rattle.tune_disk.specs.ByteWrites.{put}
use Rattle.tune_disk.specs.Disk.{DiskState, Written, fresh}
use Rattle.tune_disk.proofs.Overwrites.{put_written}
use Rattle.tune_disk.specs.Records.{record_to, replayed}
use Rattle.tune_disk.specs.declared.memory.Record.{Record}
use Rattle.tune_disk.specs.declared.memory.Record.TheVariants.{Write, Sync}
use Rattle.tune_disk.proofs.Kept.{one_more}
use Rattle.tune_disk.proofs.Writes.{written_once}
use Rattle.tune_disk.proofs.memory.replay.Goals as goal
use Rattle.tune_disk.proofs.memory.replay.Goals.{in-Write+in_ok-overwrite-in-Write, in-Sync}

pub loop-one-preserved : goal.loop-one-preserved
loop-one-preserved c =
    let records = c.args.records.now in
    let i = c.loop-one.one-index in
    let s : DiskState = replayed (take i records) (fresh c.args.first.now) in
    let after : DiskState = replayed (take (i + 1) records) (fresh c.args.first.now) in
    let one : Record = c.one-item.result in
    let more : after ≡ record_to one s = one_more records i one (fresh c.args.first.now) c.loop-one-test.true c.one-item.is in
    let inv = c.loop-one.invariant in
    elim c.match-one.branch [
      | in-Write+in_ok-overwrite-in-Write w ↦
          (let at = w.in-Write.at in
          let v = w.in-Write.bytes in
          let it : one ≡ Write at v = search rules in
          let to : after ≡ record_to (Write at v) s = more ∙ ap (λ (x : Record). record_to x s) it in
          let written : Written at v.items s.seen c.match-one.content.items = rw (← inv) (search rules) in
          let same : c.match-one.content.items ≡ put at v.items s.seen = written_once _ _ _ _ _ written (put_written at v.items s.seen) in
          same ∙ sym (ap (λ (t : DiskState). t.seen) to))
      | in-Sync w ↦
          (let it : one ≡ Sync = search rules in
          let to : after ≡ record_to Sync s = more ∙ ap (λ (x : Record). record_to x s) it in
          let same : c.match-one.content.items ≡ s.seen = search rules in
          same ∙ sym (ap (λ (t : DiskState). t.seen) to))
    ]
