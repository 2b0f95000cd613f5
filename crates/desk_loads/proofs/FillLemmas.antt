-- What a disk holds whose archive was filled by a script.
use Rattle.std.proofs.Common.{◌≡◌, ℕ, List, [], length, false, sym, subst, Option, Some, Result, Ok, Err}
use Rattle.std.specs.Global.{Vec}
use Rattle.std.specs.Prelude.{IfOk, MatchResult}
use Rattle.tune_disk.specs.Stops.{LeavesOnly}
use Rattle.tune_disk.specs.declared.disk.Disk as disk
use Rattle.tune_pages.specs.Kept.{HonestAt}
use Rattle.tune_contents.specs.Holds.{labels_in}
use Rattle.tune_store.specs.Labels.{labels_of}
use Rattle.tune_store.specs.Limits.{layout_number}
use Rattle.tune_store.specs.State.{State, empty_of}
use Rattle.tune_store.specs.Stores.{standing_of}
use Rattle.tune_store.specs.declared.command.Refusal.{Refusal}
use Rattle.tune_store.specs.declared.layout.Layout.TheVariants.{Two}
use Rattle.tune_format.specs.States.{Holds}
use Rattle.tune_archive.specs.AsStore.{store_on}
use Rattle.tune_archive.specs.Shelf.{Shelf, state_of}
use Rattle.tune_archive.specs.declared.archive.Counts.{Counts}
use Rattle.tune_asking.specs.AskingCalls.{Call}
use Rattle.tune_changes.specs.BroughtParts.{parts_where}
use Rattle.tune_undo.specs.declared.old_entries.Part.{Part}
use Rattle.tune_scripts.specs.Carried.{run_of}
use Rattle.tune_scripts.specs.Limits.{most_lines}
use Rattle.tune_scripts.specs.ScriptRuns.{RunsScript, TellsScript, work_by}
use Rattle.tune_scripts.specs.Streams.{Streams}
use Rattle.tune_scripts.specs.declared.script_runs.RunEnd.{RunEnd}
use Rattle.tune_scripts.specs.declared.script_runs.RunEnd.TheVariants.{Ended}
use Rattle.tune_scripts.proofs.CarriedLemmas.{runs_carried}
use Rattle.desk_scenes.specs.OpenedFile.{CountsOf}
use Rattle.desk_loads.specs.Inside.Fillings.{ShowsArchive}
use Rattle.desk_loads.specs.Inside.ScriptConsoles.{HasNoRefusal}
use Rattle.desk_loads.specs.LoadedScripts.{HoldsScript, LeadTo}
use Rattle.desk_loads.specs.declared.filling.Filled.{Filled}
use Rattle.desk_loads.proofs.ScriptLemmas.{commands_of, told_means, runs_lead}

-- what holds of an answer, by what holds of another
pub ok_by : {T E : Type 0} {P Q : T → Type 0} → ((value : T) → P value → Q value) → (answer : Result T E) → IfOk answer P → IfOk answer Q
ok_by f (Ok value) h = f value h
ok_by f (Err why) h = tt

pub holds_script : {D : Type 0} (disks : disk.Ghosts D) (start finish : Shelf D) (streams : Streams) (script replies : List ℕ) (end : RunEnd)
    (disk : D) (filled : Filled) → streams.input.was.left ≡ Some script → streams.output.was.bytes ≡ Some []
    → streams.output.now.bytes ≡ Some replies → RunsScript (store_on disks) most_lines streams start finish end → start.closed ≡ false
    → state_of disks.state start ≡ empty_of Two → end ≡ Ended → HasNoRefusal replies → ShowsArchive disks finish disk filled → disks.honest disk
    → HoldsScript script (disks.state disk).now filled.counts filled.parts.items
holds_script disks start finish streams script replies end disk filled input was now runs is_open empty ends none shows met =
    let run = run_of runs.carried in
    let left = streams.input.now.left in
    let told : TellsScript most_lines (Some script) left (work_by (Some []) (Some replies) run) end =
    subst (λ x. TellsScript most_lines x left (work_by (Some []) (Some replies) run) end) input
    (subst (λ x. TellsScript most_lines streams.input.was.left left (work_by x (Some replies) run) end) was
    (subst (λ x. TellsScript most_lines streams.input.was.left left (work_by streams.output.was.bytes x run) end) now runs.script)) in
    let means = told_means script replies left run end told ends none in
    let led = runs_lead (standing_of (store_on disks) start) (standing_of (store_on disks) finish) run
    (runs_carried (store_on disks) runs.carried start finish runs.carries_out) means.1 is_open in
    let holds = shows.shows met led.1 in
    record {
      commands = commands_of run;
      state = state_of disks.state finish;
      means = means.0;
      leads = subst (λ s. LeadTo s (commands_of run) (state_of disks.state finish)) empty led.0;
      holds = holds.holds;
      counted = holds.counted;
      come = holds.parts;
    }

-- the numbers that an archive told
abbrev Told : State → Counts → Type 0
Told state counts = (counts.layout ≡ layout_number state.layout) × (counts.tunes ≡ length state.tunes) × (counts.sets ≡ length state.sets)

pub counts_of : {E : Type 0} (met : Type 0) (state : State) (answer : Result Counts E) (counts : Counts) → answer ≡ Ok counts → met
    → MatchResult answer (λ counts. met → Told state counts) (λ _. Unit {0}) → CountsOf counts state
counts_of met state answer counts e honest h =
    let told = subst (λ a. MatchResult a (λ counts. met → Told state counts) (λ _. Unit {0})) e h honest in
    record { layout = told.0; tunes = told.1; sets = told.2 }

-- WHAT AN ARCHIVE HOLDS
module _ {D E : Type 0} (disks : disk.Ghosts D) (start finish : Shelf D) (disk : D) (filled : Filled) (counts : Result Counts E)
    (parts : Result (Vec Part) Refusal) where
  abbrev state : Shelf D → State
  state shelf = state_of disks.state shelf

  -- it was only asked, and then its disk was given back
  pub shows_archive : counts ≡ Ok filled.counts → parts ≡ Ok filled.parts
      → Call (store_on disks) start finish (parts_where (labels_in start.contents.rows.items) start.contents.sets) parts
      → (start.closed ≡ false → HonestAt disks.honest start.pages.disk → labels_in start.contents.rows.items ≡ labels_of (state start).tunes)
      → (start.closed ≡ false → HonestAt disks.honest start.pages.disk → start.contents.sets ≡ (state start).sets)
      → finish.pages.disk ≡ Some disk
      → (HonestAt disks.honest finish.pages.disk → finish.closed ≡ false → LeavesOnly (disks.state disk).now (λ left. Holds left (state finish)))
      → MatchResult counts (λ counts. HonestAt disks.honest finish.pages.disk → Told (state finish) counts) (λ _. Unit {0})
      → ShowsArchive disks start disk filled
  shows_archive counts_are parts_are asked labels sets held rest told =
      let met : disks.honest disk → HonestAt disks.honest finish.pages.disk = λ h. subst (HonestAt disks.honest) (sym held) h in
      let call = subst (Call (store_on disks) start finish (parts_where (labels_in start.contents.rows.items) start.contents.sets)) parts_are asked in
      record {
        was_honest = λ h. call.asked.was_honest (met h);
        shows = λ h is_open.
            let at_start = call.asked.was_honest (met h) in
            let same : state finish ≡ state start = call.asked.same_state (met h) in
            record {
              holds = subst (λ (s : State). LeavesOnly (disks.state disk).now (λ left. Holds left s)) same (rest (met h) (call.stays is_open));
              counted = subst (CountsOf filled.counts) same
                  (counts_of (HonestAt disks.honest finish.pages.disk) (state finish) counts filled.counts counts_are (met h) told);
              parts = call.answer is_open (met h) (labels is_open at_start) (sets is_open at_start);
            };
      }
