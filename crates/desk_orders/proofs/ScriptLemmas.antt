-- FILE is spared by a script whose commands change nothing.
use Rattle.std.proofs.Common.{◌≡◌, ◌⊎◌, inl, inr, ℕ, zero, suc, Bool, true, false, not, List, [], ◌∷◌, Ok, Err, refl, sym, ◌∙◌, ap, subst}
use Rattle.std.specs.Prelude.{Result, map, take}
use Rattle.std.specs.List.{AllByRecursion}
use Rattle.tune_disk.specs.declared.disk.Disk as disk
use Rattle.tune_store.specs.Answers.{may_write}
use Rattle.tune_store.specs.State.{State}
use Rattle.tune_store.specs.declared.command.Command.{Command}
use Rattle.tune_store.specs.declared.command.Refusal.{Refusal}
use Rattle.tune_store.specs.declared.command.Refusal.TheVariants.{Device}
use Rattle.tune_store.specs.declared.command.Reply.{Reply}
use Rattle.tune_format.specs.States.{Holds}
use Rattle.tune_format.proofs.StateLemmas.{state_once}
use Rattle.tune_scripts.specs.Prefixes.{state_by, state_after}
use Rattle.tune_scripts.specs.Streams.{Streams}
use Rattle.tune_scripts.specs.Timelines.{Timed, Timeline, answered_of}
use Rattle.tune_cli.specs.FileActs.{RunsOn}
use Rattle.tune_cli.specs.Headline.{File, HoldsThroughout, IsDone, IsRefused, DoesOn}
use Rattle.tune_cli.specs.declared.command_line.Action.TheVariants as action
use Rattle.tune_cli.specs.declared.file_actions.Done.{Done}
use Rattle.tune_asking.proofs.AskLemmas.{question_stays}
use Rattle.desk_orders.specs.ScriptVisits.{LeaveAll, RunsOrRefuses, AsksScript}
use Rattle.desk_scenes.specs.Visits.{IsSpared}

-- ONE COMMAND
is_true : (b : Bool) → not b ≡ false → b ≡ true
is_true true h = refl
is_true false h = sym h

stays : (state : State) (command : Command) (answer : Result Reply Refusal) → may_write command answer ≡ false → state_by state command answer ≡ state
stays state command (Ok reply) h = question_stays state command (is_true _ h)
stays state command (Err Device) h = question_stays state command (is_true _ h)
stays state command (Err refusal) h = refl

-- THE FIRST SO MANY
all_stay : (count : ℕ) (run : List Timed) (state : State) → AllByRecursion (λ next. may_write next.command next.answer ≡ false) run
    → state_after state (map answered_of (take count run)) ≡ state
all_stay zero run state h = refl
all_stay (suc count) [] state h = refl
all_stay (suc count) (next ∷ run) state h =
    all_stay count run (state_by state next.command next.answer) h.1 ∙ stays state next.command next.answer h.0

spared_by : (file : File) (timeline : Timeline) → HoldsThroughout file timeline → LeaveAll timeline → IsSpared file
spared_by file timeline holds all moment left late at = elim (holds.stops moment left late at) [
  | inl first ↦ inr (λ state held.
      (let same = all_stay first.count timeline.run timeline.start all ∙ state_once file.was.seen timeline.start state holds.held held in
      subst (λ s. Holds left s) same first.stands))
  | inr before ↦ inl before.1
]

pub asks_script : {D : Type 0} (disks : disk.Ghosts D) (path : _) (streams : Streams) (old : D) (done : Done D)
    → DoesOn disks (action.Run path) streams old done → AsksScript disks streams old done
asks_script disks path streams old done does honest = by (does honest)
  where
    file : File
    file = record { was = disks.state old; now = disks.state done.disk }

    by : IsDone (action.Run path) streams file done.status ⊎ IsRefused streams file done.status → RunsOrRefuses streams file done.status
    by (inl ran) = inl (record {
      timeline = ran.timeline;
      holds = ran.holds;
      says = ran.says;
      spares = spared_by file ran.timeline ran.holds;
    })
    by (inr refused) = inr (refused, refused.stops)
