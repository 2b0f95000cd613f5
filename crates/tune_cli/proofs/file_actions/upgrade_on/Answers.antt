use Rattle.std.proofs.Common.{[], ◌∷◌, inl, inr, refl, sym, subst}
use Rattle.tune_pages.specs.Kept.{HonestAt, state_at}
use Rattle.tune_store.specs.State.{State}
use Rattle.tune_store.specs.declared.command.Command.TheVariants.{Upgrade}
use Rattle.tune_format.specs.States.{Holds}
use Rattle.tune_format.proofs.StateLemmas.{state_once}
use Rattle.tune_archive.specs.Media.{moment_of, LeftFrom}
use Rattle.tune_archive.specs.Shelf.{Shelf, StandsForOneOf}
use Rattle.tune_archive.proofs.DiskMoments.{left_of_kind, moment_rises}
use Rattle.tune_scripts.specs.Carried.{Carried, IsCarried, run_of}
use Rattle.tune_scripts.specs.Prefixes.{StandsForPrefix}
use Rattle.tune_scripts.proofs.CarriedLemmas.{left_since_earlier}
use Rattle.tune_scripts.proofs.TimelineLemmas.{one_fails_last}
use Rattle.tune_cli.proofs.FileStates.{one_of_same}
use Rattle.tune_cli.proofs.HeadlineLemmas.{left_on}
use Rattle.tune_cli.proofs.file_actions.upgrade_on.Goals as goal

pub returns-in-Ok-clause-honest : goal.returns-in-Ok-clause-honest
returns-in-Ok-clause-honest g c = λ h.
    let at_end = subst (HonestAt g.D.Disk.honest) (sym c.into_disk-disk.ensures.disk) h in
    c.in-Ok.ensures.honest (c.apply-answer.ensures.stops.was_honest at_end)

pub returns-in-Ok-clause-upgrades : goal.returns-in-Ok-clause-upgrades
returns-in-Ok-clause-upgrades g c = inl (record {
  said = (c.apply-answer.result, c.say_answer-status.ensures);
  upgraded = λ h.
      let honest = g.D.Disk.honest in
      let state = g.D.Disk.state in
      let before = c.in-Ok.opened in
      let after = c.apply-answer.new.self in
      let next : Carried (Shelf g.row.D.Denot) = record { command = Upgrade; answer = c.apply-answer.result; after = after } in
      let old = state c.args.disk in
      let opened = state_at state before.pages.disk in
      let at_end = subst (HonestAt honest) (sym c.into_disk-disk.ensures.disk) h in
      let carried : IsCarried _ before next = record { answers = c.apply-answer.ensures.answer at_end; passes = c.apply-answer.ensures.stops } in
      let at_start = c.apply-answer.ensures.stops.was_honest at_end in
      let shown = c.in-Ok.ensures.state at_start in
      let moments = c.in-Ok.ensures.moments at_start in
      record {
        before = before;
        carried = next;
        asked = refl;
        opened = shown;
        opening = c.in-Ok.ensures.leaves at_start;
        is_open = c.in-Ok.ensures.is_open;
        carries_out = carried;
        line = c.say_answer-status.ensures;
        stops = left_on g.D.Disk (next ∷ []) before after (carried, refl) (one_fails_last _) at_end c.in-Ok.ensures.sound c.in-Ok.ensures.is_open;
        since_start = λ start leaves file left.
            let seen = leaves old.seen (g.met.D.Disk.seen_may_stay c.args.disk (c.in-Ok.ensures.honest at_start)) in
            let same = state_once old.seen _ start shown seen in
            let then = moments start start (λ one may. inl (leaves one may)) in
            let early = moment_rises old opened (StandsForOneOf start start) then in
            let here = subst (λ at. LeftFrom (state_at state at) (moment_of old) file) (sym c.into_disk-disk.ensures.disk) left in
            subst (λ (s : State). StandsForPrefix Holds s [] (run_of (next ∷ [])) file) same
            (left_since_earlier _ (next ∷ []) before after (moment_of old) file (carried, refl) c.in-Ok.ensures.sound at_end c.in-Ok.ensures.is_open early
            (λ was. subst (Holds file) (sym same)
            (one_of_same start file (left_of_kind old opened (StandsForOneOf start start) then file was))) here);
        held = c.into_disk-disk.ensures.disk;
      };
})

pub returns-in-Err-clause-upgrades : goal.returns-in-Err-clause-upgrades
returns-in-Err-clause-upgrades g c = inr (record {
  why = c.in-Err.refused.why;
  line = c.say_reason.ensures;
  refused = c.in-Err.ensures.refused;
  counted = c.in-Err.ensures.failures;
  leaves = c.in-Err.ensures.leaves;
  moments = c.in-Err.ensures.moments;
  untouched = c.in-Err.ensures.untouched;
})
