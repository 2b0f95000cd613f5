use Rattle.std.proofs.Common.{◌≡◌, ℕ, ◌<◌, ◌∙◌, ◌++◌, ap, length, subst, arith}
use Rattle.byteorder.specs.Endian.{big_bytes}
use Rattle.std.proofs.lemmas.Result.{on_ok_weaker, err_from_is_err_and}
use Rattle.tune_disk.proofs.Moments.{spares_fewer}
use Rattle.tune_disk.proofs.Writes.{written_long}
use Rattle.tune_journal.specs.Image.{window, entry_offset}
use Rattle.tune_journal.specs.Inside.Phases.{IsNoLog, IsOutside, HoldsLogEntries}
use Rattle.tune_journal.specs.FileOffsets.{descriptor_offset}
use Rattle.tune_journal.proofs.CallRuns.{writes_fewer, writes_after}
use Rattle.tune_journal.proofs.Loops.{entries_kept, below_log, off_descriptor, rising_few}
use Rattle.tune_journal.proofs.Windows.{written_window}
use Rattle.tune_journal.proofs.commit.write_log.Goals as goal

pub overflow_cast-entries : goal.overflow_cast-entries
overflow_cast-entries g c =
    omega (
      arith,
      c.requires.count,
      c.len-entries.ensures.len,
      rising_few c.args.new_count c.args.changes.now c.len-entries.ensures.rising c.requires.some c.requires.below,
    )

pub write_entries-requires : goal.write_entries-requires
write_entries-requires g c =
    omega (
      arith,
      c.requires.count,
      c.page_offset.ensures,
      rising_few c.args.new_count c.args.changes.now c.len-entries.ensures.rising c.requires.some c.requires.below,
    )

pub returns-clause-writes : goal.returns-clause-writes
returns-clause-writes g c = λ h.
    (let size : length c.descriptor_of.result ≡ 8 = ap length c.descriptor_of.ensures in
    writes_after (IsNoLog c.args.new_count) c.write_synced.result _ _ _
    (spares_fewer (λ i. i < c.page_offset.result) (IsNoLog c.args.new_count) _ _ (λ i out. below_log c.args.new_count _ i c.page_offset.ensures out)
    (c.write_entries.ensures.spares (c.write_synced.ensures.calls.was_honest h)))
    (writes_fewer (IsOutside descriptor_offset (length c.descriptor_of.result)) (IsNoLog c.args.new_count) c.write_synced.result _ _
    (λ i out. off_descriptor c.args.new_count _ i size out) (c.write_synced.ensures.writes h)))

pub returns-clause-entries : goal.returns-clause-entries
returns-clause-entries g c =
    let size : length c.descriptor_of.result ≡ 8 = ap length c.descriptor_of.ensures in
    on_ok_weaker c.write_synced.result (λ w h.
    (let held : HoldsLogEntries (entry_offset c.args.new_count 0) c.args.changes.now (length c.args.changes.now)
    (g.D.Disk.state c.write_entries.new.disk).seen =
    subst (λ (b : ℕ). HoldsLogEntries b c.args.changes.now (length c.args.changes.now) (g.D.Disk.state c.write_entries.new.disk).seen)
    (omega (arith, c.page_offset.ensures)) (c.in_ok-write_entries.ensures.entries (c.write_synced.ensures.calls.was_honest h)) in
    entries_kept (entry_offset c.args.new_count 0) c.args.changes.now (length c.args.changes.now) descriptor_offset c.descriptor_of.result _ _ (omega arith)
    (omega arith) held (w h))) c.write_synced.ensures.written

pub returns-clause-descriptor : goal.returns-clause-descriptor
returns-clause-descriptor g c =
    let size : length c.descriptor_of.result ≡ 8 = ap length c.descriptor_of.ensures in
    on_ok_weaker c.write_synced.result (λ w h.
    (let written = w h in (
      subst (λ (n : ℕ). window descriptor_offset n (g.D.Disk.state c.write_synced.new.disk).seen ≡ c.descriptor_of.result) size
          (written_window descriptor_offset c.descriptor_of.result _ _ (omega arith) written) ∙ c.descriptor_of.ensures
          ∙ ap (λ (k : ℕ). big_bytes 4 c.args.new_count ++ big_bytes 4 k) c.len-entries.ensures.len,
      omega (arith, size, written_long descriptor_offset c.descriptor_of.result _ _ written (omega arith)),
    ))) c.write_synced.ensures.written

pub returns-in_err-write_entries-clause-writes : goal.returns-in_err-write_entries-clause-writes
returns-in_err-write_entries-clause-writes g c =
    let p = err_from_is_err_and c.from_residual.result c.from_residual.ensures.1 in
    rw p.1 (λ h. spares_fewer (λ i. i < c.page_offset.result) (IsNoLog c.args.new_count) _ _ (λ i out. below_log c.args.new_count _ i c.page_offset.ensures out)
    (c.write_entries.ensures.spares h))

pub returns-clause-log : goal.returns-clause-log
returns-clause-log g c =
    on_ok_weaker c.write_synced.result (λ w. record {
      some = c.requires.some;
      few = rising_few c.args.new_count c.args.changes.now c.len-entries.ensures.rising c.requires.some c.requires.below;
      rising = c.len-entries.ensures.rising;
      below = c.requires.below;
    }) c.write_synced.ensures.written
