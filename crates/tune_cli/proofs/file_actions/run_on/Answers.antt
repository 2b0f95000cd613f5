use Rattle.std.proofs.Common.{inl, sym, subst, []}
use Rattle.tune_pages.specs.Kept.{HonestAt, state_at}
use Rattle.tune_store.specs.State.{State}
use Rattle.tune_format.specs.States.{Holds}
use Rattle.tune_format.proofs.StateLemmas.{state_once}
use Rattle.tune_archive.specs.Media.{moment_of, LeftFrom}
use Rattle.tune_archive.specs.Shelf.{StandsForOneOf}
use Rattle.tune_archive.proofs.DiskMoments.{left_of_kind, moment_rises}
use Rattle.tune_scripts.specs.Carried.{run_of}
use Rattle.tune_scripts.specs.Prefixes.{StandsForPrefix}
use Rattle.tune_scripts.proofs.CarriedLemmas.{honest_before, left_since_earlier}
use Rattle.tune_cli.proofs.FileStates.{one_of_same}
use Rattle.tune_cli.proofs.file_actions.run_on.Goals as goal

pub returns-in-Ok-clause-honest : goal.returns-in-Ok-clause-honest
returns-in-Ok-clause-honest g c = λ h.
    let honest = g.D.Disk.honest in
    let at_end = subst (HonestAt honest) (sym c.into_disk.ensures.disk) h in
    let runs = c.run-end.ensures.runs at_end in
    c.in-Ok.ensures.honest (honest_before _ runs.carried _ _ runs.carries_out at_end)

pub returns-in-Ok-clause-runs : goal.returns-in-Ok-clause-runs
returns-in-Ok-clause-runs g c = inl (record {
  end = c.run-end.result;
  ends = c.status.ensures;
  faults = c.run-end.ensures.faults;
  looks = c.run-end.ensures.looks;
  ran = λ h.
      let honest = g.D.Disk.honest in
      let state = g.D.Disk.state in
      let before = c.in-Ok.archive in
      let after = c.run-end.new.store in
      let old = state c.args.disk in
      let opened = state_at state before.pages.disk in
      let at_end = subst (HonestAt honest) (sym c.into_disk.ensures.disk) h in
      let runs = c.run-end.ensures.runs at_end in
      let at_start = honest_before _ runs.carried _ _ runs.carries_out at_end in
      let shown = c.in-Ok.ensures.state at_start in
      let moments = c.in-Ok.ensures.moments at_start in
      record {
        before = before;
        after = after;
        opened = shown;
        opening = c.in-Ok.ensures.leaves at_start;
        is_open = c.in-Ok.ensures.is_open;
        runs = runs;
        prompt = c.run-end.ensures.prompt at_end;
        stops = runs.stops c.in-Ok.ensures.sound c.in-Ok.ensures.is_open;
        since_start = λ start leaves file left.
            let seen = leaves old.seen (g.met.D.Disk.seen_may_stay c.args.disk (c.in-Ok.ensures.honest at_start)) in
            let same = state_once old.seen _ start shown seen in
            let then = moments start start (λ one may. inl (leaves one may)) in
            let early = moment_rises old opened (StandsForOneOf start start) then in
            let here = subst (λ at. LeftFrom (state_at state at) (moment_of old) file) (sym c.into_disk.ensures.disk) left in
            subst (λ (s : State). StandsForPrefix Holds s [] (run_of runs.carried) file) same
            (left_since_earlier _ runs.carried before after (moment_of old) file runs.carries_out c.in-Ok.ensures.sound at_end c.in-Ok.ensures.is_open
            early
            (λ was. subst (Holds file) (sym same)
            (one_of_same start file (left_of_kind old opened (StandsForOneOf start start) then file was))) here);
        held = c.into_disk.ensures.disk;
      };
})
