use Rattle.std.proofs.Common.{refl, subst}
use Rattle.tune_store.specs.State.{State}
use Rattle.tune_store.specs.Answers.{open_at}
use Rattle.tune_store.specs.Runs.{Runs}
use Rattle.tune_scripts.specs.Carried.{run_of}
use Rattle.tune_scripts.specs.Looks.{LooksPromptly}
use Rattle.tune_scripts.specs.Streams.{streams_in}
use Rattle.tune_scripts.proofs.CarriedLemmas.{runs_carried, acknowledged_open, ends_otherwise}
use Rattle.tune_cli.proofs.HeadlineLemmas.{runs_in_memory}
use Rattle.tune_cli.proofs.actions.list.Goals as goal

pub returns-clause-headline : goal.returns-clause-headline
returns-clause-headline g c =
    let streams = streams_in g.C.Console c.args.console.now c.run-end.new.console in
    let ran = c.run-end.ensures in
    let runs = ran.runs tt in
    runs_in_memory _ streams runs.carried _ _ c.run-end.result _ runs.carries_out runs.ends refl c.new-archive.ensures.empty c.status.ensures ran.faults
    runs.script

pub returns-clause-lists : goal.returns-clause-lists
returns-clause-lists g c =
    let streams = streams_in g.C.Console c.args.console.now c.run-end.new.console in
    let end = c.run-end.result in
    let archive = c.run-end.new.store in
    let ran = c.run-end.ensures in
    let runs = ran.runs tt in
    let run = run_of runs.carried in
    let From : State → Type 0 = λ start. Runs (open_at start) run (open_at archive) in
    let Prompt : State → Type 0 = λ start. LooksPromptly (open_at start) streams in
    let empty = c.new-archive.ensures.empty in
    record {
      end = end;
      run = run;
      state = archive;
      ends = c.status.ensures;
      carries_out = subst From empty (runs_carried _ runs.carried _ _ runs.carries_out);
      no_fault = ends_otherwise end run runs.ends (acknowledged_open _ (λ store. refl) runs.carried _ _ runs.carries_out);
      output = runs.script;
      faults = ran.faults;
      prompt = λ flushed. subst Prompt empty (ran.prompt tt flushed);
      looks = ran.looks;
    }
