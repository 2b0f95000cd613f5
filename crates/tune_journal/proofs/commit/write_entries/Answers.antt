use Rattle.std.proofs.Common.{ℕ, ◌<◌, inl, refl, ◌∙◌, List, arith, subst}
use Rattle.std.proofs.lemmas.List.{drop-replicate}
use Rattle.tune_disk.specs.Disk.{Written}
use Rattle.tune_disk.proofs.Moments.{spares_none, spares_then, spares_write}
use Rattle.tune_journal.proofs.Loops.{entries_more}
use Rattle.tune_journal.proofs.CallRuns.{writes_ok}
use Rattle.tune_journal.proofs.commit.write_entries.Goals as goal

pub write_entry-requires : goal.write_entry-requires
write_entry-requires g c = omega (arith, c.requires, c.loop-place.invariant.at, c.loop-place-test.true, c.len-place-end.ensures.len)

pub overflow_add-at : goal.overflow_add-at
overflow_add-at g c = omega (arith, c.requires, c.loop-place.invariant.at, c.loop-place-test.true, c.len-place-end.ensures.len)

pub returns-in_err-write_entry-clause-spares : goal.returns-in_err-write_entry-clause-spares
returns-in_err-write_entry-clause-spares g c = λ h.
    spares_then _ _ _ _ (c.loop-place.invariant.spares (c.write_entry.ensures.calls.was_honest h))
    (spares_write (λ i. i < c.args.base) _ _ c.write_entry.result _ _ (c.write_entry.ensures.write h) (λ i lt. inl (omega (arith, c.loop-place.invariant.at))))

pub fill_entry-used-requires-clause-used : goal.fill_entry-used-requires-clause-used
fill_entry-used-requires-clause-used g c = c.loop-place.invariant.used

pub loop-place-init : goal.loop-place-init
loop-place-init g c = record {
  at = omega arith;
  used = record { within = omega arith; zeros = drop-replicate 4 4100 0 };
  honest = λ h. h;
  spares = λ h. spares_none _ _;
  entries = λ h k lt. absurd (omega (arith, lt));
  failures = refl;
}

pub loop-place-preserved : goal.loop-place-preserved
loop-place-preserved g c =
    let entry : List ℕ = c.fill_entry-used.new.entry in
    record {
      at = omega (arith, c.loop-place.invariant.at);
      used = c.fill_entry-used.ensures.used;
      honest = λ h. c.loop-place.invariant.honest (c.write_entry.ensures.calls.was_honest h);
      spares = λ h. spares_then _ _ _ _ (c.loop-place.invariant.spares (c.write_entry.ensures.calls.was_honest h))
          (spares_write (λ i. i < c.args.base) _ _ c.write_entry.result _ _ (c.write_entry.ensures.write h)
          (λ i lt. inl (omega (arith, c.loop-place.invariant.at))));
      entries = λ h.
          (let written : Written c.loop-place.at entry (g.D.Disk.state c.loop-place.disk).seen
          (g.D.Disk.state c.write_entry.new.disk).seen =
          writes_ok _ _ c.write_entry.result _ _ _ (c.in_ok-write_entry.was) (c.write_entry.ensures.write h) in
          entries_more c.args.base c.loop-place.place c.args.changes.now _ _ _ (c.loop-place.invariant.entries (c.write_entry.ensures.calls.was_honest h))
          c.write_entry.ensures.size c.fill_entry-used.ensures.entry
          (subst (λ (n : ℕ). Written n entry (g.D.Disk.state c.loop-place.disk).seen
          (g.D.Disk.state c.write_entry.new.disk).seen) c.loop-place.invariant.at written));
      failures = c.in_ok-write_entry.ensures.calls.counted ∙ c.loop-place.invariant.failures;
    }
