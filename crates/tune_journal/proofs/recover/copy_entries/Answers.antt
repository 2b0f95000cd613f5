use Rattle.std.proofs.lemmas.Result.{err_from_is_err_and}
use Rattle.std.proofs.Common.{ℕ, subst, ap, sym, ◌∙◌, refl}
use Rattle.tune_disk.proofs.Moments.{spares_none}
use Rattle.tune_disk.specs.Disk.{CountsUp}
use Rattle.tune_journal.specs.Image.{pages_of}
use Rattle.tune_journal.specs.Pages.{changed_pages}
use Rattle.tune_journal.proofs.Recovery.{entries_none, copy_spares, copy_image, has_entry, next_least}
use Rattle.tune_journal.proofs.CallRuns.{writes_ok}
use Rattle.tune_journal.proofs.recover.copy_entries.Goals as goal

pub loop-entry-init : goal.loop-entry-init
loop-entry-init g c = record {
  honest = λ h. h;
  spares = λ h has. spares_none _ _;
  images =
      λ h has. ap (changed_pages (pages_of c.args.count (g.D.Disk.state c.args.disk.now).seen))
      (sym (entries_none c.args.count (g.D.Disk.state c.args.disk.now).seen));
  least = λ h has. refl;
  failures = refl;
}

pub returns-in_err-copy_entry-clause-spares : goal.returns-in_err-copy_entry-clause-spares
returns-in_err-copy_entry-clause-spares g c = λ h has.
    (let old = c.copy_entry.ensures.calls.was_honest h in
    let so_far = c.loop-entry.invariant.spares old has in
    copy_spares c.args.count c.args.entries c.loop-entry.entry _ _ has c.loop-entry-test.true so_far c.copy_entry.result _
    (c.copy_entry.ensures.copies h (has_entry c.args.count c.args.entries c.loop-entry.entry _ _ has c.loop-entry-test.true so_far _
    (c.loop-entry.invariant.least old has))))

pub returns-in_err-copy_entry-clause-calls : goal.returns-in_err-copy_entry-clause-calls
returns-in_err-copy_entry-clause-calls g c =
    let p = err_from_is_err_and c.from_residual.result c.from_residual.ensures.1 in
    rw p.1 (record {
      was_honest = λ h. c.loop-entry.invariant.honest (c.copy_entry.ensures.calls.was_honest h);
      ok = tt;
      counted = λ h has.
          (let old = c.copy_entry.ensures.calls.was_honest h in
          let so_far = c.loop-entry.invariant.spares old has in
          subst (λ (n : ℕ). CountsUp n (g.D.Disk.failures c.copy_entry.new.disk)) c.loop-entry.invariant.failures
          (c.in_err-copy_entry.ensures.calls.counted h
          (has_entry c.args.count c.args.entries c.loop-entry.entry _ _ has c.loop-entry-test.true so_far _
          (c.loop-entry.invariant.least old has))));
    })

pub loop-entry-preserved : goal.loop-entry-preserved
loop-entry-preserved g c = record {
  honest = λ h. c.loop-entry.invariant.honest (c.copy_entry.ensures.calls.was_honest h);
  spares = λ h has.
      (let old = c.copy_entry.ensures.calls.was_honest h in
      let so_far = c.loop-entry.invariant.spares old has in
      copy_spares c.args.count c.args.entries c.loop-entry.entry _ _ has c.loop-entry-test.true so_far c.copy_entry.result _
      (c.copy_entry.ensures.copies h (has_entry c.args.count c.args.entries c.loop-entry.entry _ _ has c.loop-entry-test.true so_far _
      (c.loop-entry.invariant.least old has))));
  images = λ h has.
      (let old = c.copy_entry.ensures.calls.was_honest h in
      let so_far = c.loop-entry.invariant.spares old has in
      copy_image c.args.count c.args.entries c.loop-entry.entry _ _ has c.loop-entry-test.true so_far (g.D.Disk.state c.copy_entry.new.disk)
      (writes_ok _ _ c.copy_entry.result _ (g.D.Disk.state c.loop-entry.disk) (g.D.Disk.state c.copy_entry.new.disk) c.in_ok-copy_entry.was
      (c.copy_entry.ensures.copies h (has_entry c.args.count c.args.entries c.loop-entry.entry _ _ has c.loop-entry-test.true so_far _
      (c.loop-entry.invariant.least old has))))
      (c.loop-entry.invariant.images old has));
  least = λ h has.
      (let old = c.copy_entry.ensures.calls.was_honest h in
      let so_far = c.loop-entry.invariant.spares old has in
      next_least c.args.count c.args.entries c.loop-entry.entry _ _ has c.loop-entry-test.true so_far _
      (c.in_ok-copy_entry.ensures.least h
      (has_entry c.args.count c.args.entries c.loop-entry.entry _ _ has c.loop-entry-test.true so_far _
      (c.loop-entry.invariant.least old has))));
  failures = c.in_ok-copy_entry.ensures.calls.ok ∙ c.loop-entry.invariant.failures;
}
