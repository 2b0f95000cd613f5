use Rattle.std.proofs.Common.{◌≡◌, ℕ, List, ◌+◌, take, sym, ap, ◌∙◌, arith, rules}
use Rattle.tune_disk.specs.Disk.{DiskState, fresh}
use Rattle.tune_disk.specs.Records.{record_to, state_of_records}
use Rattle.tune_disk.specs.declared.memory.Record.{Record}
use Rattle.tune_disk.specs.declared.memory.Record.TheVariants.{Write, Sync}
use Rattle.tune_disk.proofs.Filled.{no_later_sync}
use Rattle.tune_disk.proofs.Kept.{one_more}
use Rattle.tune_disk.proofs.memory.up_to_last_sync.Goals as goal
use Rattle.tune_disk.proofs.memory.up_to_last_sync.Goals.{in-Write, in-Sync}

pub loop-i-preserved : goal.loop-i-preserved
loop-i-preserved c =
    let records = c.args.records.now in
    let i = c.loop-i.i in
    let one : Record = c.index-records-i.result in
    let inv = c.loop-i.invariant in
    let more : (first : List ℕ) → state_of_records first (take (i + 1) records) ≡ record_to one (state_of_records first (take i records)) =
    λ first. one_more records i one (fresh first) c.loop-i-test.true c.index-records-i.is in
    let seen : (first : List ℕ) (n : ℕ) → List ℕ = λ first n. (state_of_records first (take n records)).seen in
    let written : (first : List ℕ) (n : ℕ) → List (ℕ × ℕ) = λ first n. (state_of_records first (take n records)).now.written in
    elim c.match-records-i.branch [
      | in-Write w ↦
          (let it : one ≡ Write w.in-Write.field-0 w.in-Write.field-1 = search rules in
          let same : c.match-records-i.synced ≡ c.loop-i.synced = search rules in
          record {
            bound = omega (arith, same, inv.bound);
            left = λ first.
                (let s = state_of_records first (take i records) in
                let to = more first ∙ ap (λ (x : Record). record_to x s) it in
                ap (seen first) same ∙ inv.left first ∙ sym (ap (λ (t : DiskState). t.now.stable) to));
            settled = λ first. ap (written first) same ∙ inv.settled first;
            later = λ k le lt.
                no_later_sync records i w.in-Write.field-0 w.in-Write.field-1 one c.index-records-i.is it c.loop-i-test.true c.loop-i.synced inv.later k
                (omega (arith, same, le)) lt;
          })
      | in-Sync w ↦
          (let it : one ≡ Sync = search rules in
          let same : c.match-records-i.synced ≡ i + 1 = search rules in
          record {
            bound = omega (arith, same);
            left = λ first.
                (let s = state_of_records first (take i records) in
                let to = more first ∙ ap (λ (x : Record). record_to x s) it in
                ap (seen first) same ∙ ap (λ (t : DiskState). t.seen) to ∙ sym (ap (λ (t : DiskState). t.now.stable) to));
            settled = λ first.
                (let s = state_of_records first (take i records) in
                let to = more first ∙ ap (λ (x : Record). record_to x s) it in
                ap (written first) same ∙ ap (λ (t : DiskState). t.now.written) to);
            later = λ k le lt sync. absurd (omega (arith, same, le, lt));
          })
    ]
