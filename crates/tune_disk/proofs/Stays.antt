-- What a read of a disk in memory gives is one of the files that a stop may leave.
use Rattle.std.specs.Prelude.{ℕ, List, [], ◌∷◌, length, refl}
use Rattle.std.proofs.Common.{◌∙◌, arith}
use Rattle.tune_disk.specs.Disk.{Medium, DiskState, MayLeave, Written, touched, settled}
use Rattle.tune_disk.proofs.Overwrites.{longer_after, length_after_rises, put_written}
use Rattle.tune_disk.specs.Records.{record_to, replayed, state_of_records}
use Rattle.tune_disk.specs.declared.memory.Record.{Record}
use Rattle.tune_disk.specs.declared.memory.Record.TheVariants.{Write, Sync}

pub settled_stays : (file : List ℕ) → MayLeave (settled file) file
settled_stays file = record {
  no_shorter = omega arith;
  no_longer = omega arith;
  same = λ i lt _. refl;
}

pub written_stays : (m : Medium) (at : ℕ) (bytes old new : List ℕ) → MayLeave m old
    → Written at bytes old new → MayLeave (touched at (length bytes) m) new
written_stays m at bytes old new stays w =
    let n = length bytes in
    record {
      no_shorter = omega (arith, stays.no_shorter, w.long, longer_after at n (length old));
      no_longer =
          omega (arith, w.long, length_after_rises at n (length old) m.reach stays.no_longer);
      same = λ i lt out. w.outside i out.0 ∙ stays.same i lt out.1;
    }

record_stays : (one : Record) (s : DiskState) → MayLeave s.now s.seen
    → MayLeave (record_to one s).now (record_to one s).seen
record_stays (Write at bytes) s stays =
    written_stays s.now at bytes.items s.seen _ stays (put_written at bytes.items s.seen)
record_stays Sync s stays = settled_stays s.seen

replayed_stays : (records : List Record) (s : DiskState) → MayLeave s.now s.seen
    → MayLeave (replayed records s).now (replayed records s).seen
replayed_stays [] s stays = stays
replayed_stays (one ∷ more) s stays =
    replayed_stays more (record_to one s) (record_stays one s stays)

-- a state of a disk in memory
pub state_stays : (first : List ℕ) (records : List Record) → MayLeave (state_of_records first records).now (state_of_records first records).seen
state_stays first records = replayed_stays records _ (settled_stays first)
