use Rattle.std.proofs.Common.{◌≡◌, inl, sym, subst}
use Rattle.tune_disk.specs.Stops.{SinceThen}
use Rattle.tune_journal.specs.Moments.{LeftOrSame}
use Rattle.tune_journal.specs.Refusal.{IsUnwritten}
use Rattle.tune_pages.specs.Kept.{HonestAt, state_at, failures_at}
use Rattle.tune_archive.specs.OpenedArchive.{KeepsStates}
use Rattle.tune_archive.specs.Shelf.{state_of}
use Rattle.tune_cli.proofs.file_actions.check_on.Goals as goal

pub returns-in-Ok-clause-checks : goal.returns-in-Ok-clause-checks
returns-in-Ok-clause-checks g c =
    let honest = g.D.Disk.honest in
    let state = g.D.Disk.state in
    let failures = g.D.Disk.failures in
    let disk = c.into_disk-disk.result in
    let held = c.into_disk-disk.ensures.disk in
    let met : honest disk → HonestAt honest c.in-Ok.archive.pages.disk = λ h. subst (HonestAt honest) (sym held) h in
    inl (record {
      said = c.say_held-status.ensures.said c.in-Ok.ensures.is_open;
      tells = λ h. record {
        held = state_of state c.in-Ok.archive;
        stands = c.in-Ok.ensures.state (met h);
        line = c.say_held-status.ensures.held c.in-Ok.ensures.is_open (met h);
        rest = c.into_disk-disk.ensures.rest (met h) c.in-Ok.ensures.is_open;
      };
      counted = subst (λ at. failures_at failures at ≡ failures c.args.disk) held c.in-Ok.ensures.failures;
      leaves = λ h. subst (λ at. SinceThen (state c.args.disk) (state_at state at) (LeftOrSame (state c.args.disk))) held (c.in-Ok.ensures.leaves (met h));
      moments = λ h. subst (λ at. KeepsStates (state c.args.disk) (state_at state at)) held (c.in-Ok.ensures.moments (met h));
      untouched = λ h closed. subst (λ at. IsUnwritten (state c.args.disk) (state_at state at)) held (c.in-Ok.ensures.untouched (met h) closed);
    })
