use Rattle.std.proofs.Common.{◌≡◌, inl, sym, subst}
use Rattle.tune_disk.specs.Stops.{LeavesOnly, SinceThen}
use Rattle.tune_pages.specs.Kept.{HonestAt, state_at, failures_at}
use Rattle.tune_store.specs.State.{State}
use Rattle.tune_format.specs.States.{Holds}
use Rattle.tune_archive.specs.OpenedArchive.{StandsForNoneOrEmpty}
use Rattle.tune_cli.proofs.file_actions.make_on.Goals as goal

pub returns-in-Ok-clause-makes : goal.returns-in-Ok-clause-makes
returns-in-Ok-clause-makes g c =
    let honest = g.D.Disk.honest in
    let state = g.D.Disk.state in
    let disk = c.into_disk-disk.result in
    let held = c.into_disk-disk.ensures.disk in
    let met : honest disk → HonestAt honest c.in-Ok.archive.pages.disk = λ h. subst (HonestAt honest) (sym held) h in
    record {
      moments = λ h none.
          subst (λ at. SinceThen (state c.args.disk) (state_at state at) StandsForNoneOrEmpty) held (c.in-Ok.ensures.moments (met h) none);
      made = inl (record {
        line = c.say_made-status.ensures;
        empty = λ h. c.in-Ok.ensures.empty (met h);
        rest = λ h.
            subst (λ (s : State). LeavesOnly (state disk).now (λ file. Holds file s)) (c.in-Ok.ensures.state (met h))
            (c.into_disk-disk.ensures.rest (met h) c.in-Ok.ensures.is_open);
        counted = subst (λ at. failures_at g.D.Disk.failures at ≡ g.D.Disk.failures c.args.disk) held c.in-Ok.ensures.failures;
      });
    }
