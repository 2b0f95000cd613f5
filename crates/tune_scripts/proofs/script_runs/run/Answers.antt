use Rattle.std.proofs.Common.{◌≡◌, ◌+◌, ◌-◌, ◌∙◌, suc, ap, refl, arith, Some, None}
use Rattle.tune_scripts.specs.Limits.{most_lines}
use Rattle.tune_scripts.proofs.CarriedLemmas.{ends_by_last}
use Rattle.tune_scripts.proofs.TimelineLemmas.{left_by_run}
use Rattle.tune_scripts.proofs.LookLemmas.{faults_none, faults_then, flushed_more, flushed_none}
use Rattle.tune_scripts.proofs.RunLemmas.{so_far_start, so_far_more, so_far_end, so_far_all, prompt_none, prompt_more}
use Rattle.tune_scripts.proofs.script_runs.run.Goals as goal

pub loop-lines-init : goal.loop-lines-init
loop-lines-init g c =
    let input = g.C.Console.input c.args.console.now in
    let output = g.C.Console.output c.args.console.now in
    record {
      idle = λ closed. refl;
      so_far = λ honest n. so_far_start g.S.TuneStore n input.left output.bytes c.args.store.now;
      faults = faults_none input output;
      looks = λ flushed. flushed_none input output output;
      prompt = λ honest flushed. prompt_none g.S.TuneStore input output c.args.store.now;
    }

pub loop-lines-preserved : goal.loop-lines-preserved
loop-lines-preserved g c =
    let turned = c.in_default.ensures in
    let v = c.loop-lines.invariant in
    let lines = c.loop-lines.lines in
    let input = g.C.Console.input in
    let output = g.C.Console.output in
    let was = c.args.console.now in
    let mid = c.loop-lines.console in
    let new = c.turn.new.console in
    record {
      idle = λ closed. let same = v.idle closed in turned.idle (ap g.S.TuneStore.closed same ∙ closed) ∙ same;
      so_far = λ honest n.
          let one : lines + suc n ≡ (lines + 1) + n = omega arith in
          so_far_more g.S.TuneStore ((lines + 1) + n) n (input new).left (output was).bytes (output mid).bytes (output new).bytes
          c.args.store.now c.loop-lines.store c.turn.new.store (input was).left (input mid).left
          (rw one at (v.so_far (turned.was_honest honest) (suc n))) (turned.turns honest);
      faults = faults_then (input was) (input mid) (input new) (output was) (output mid) (output new) None v.faults turned.faults;
      looks = λ flushed.
          flushed_more (input was) (input mid) (input new) (output was) (output mid) (output new) v.faults turned.looks flushed (v.looks flushed);
      prompt = λ honest flushed.
          let was_honest = turned.was_honest honest in
          prompt_more g.S.TuneStore lines (input was) (input mid) (input new) (output was) (output mid) (output new) c.args.store.now c.loop-lines.store
          (v.so_far was_honest 0) v.faults turned.looks flushed (v.prompt was_honest flushed);
    }

pub returns-in-Some-clause-prompt : goal.returns-in-Some-clause-prompt
returns-in-Some-clause-prompt g c = λ honest flushed.
    let turned = c.in-Some.ensures in
    let v = c.loop-lines.invariant in
    let input = g.C.Console.input in
    let output = g.C.Console.output in
    let was = c.args.console.now in
    let mid = c.loop-lines.console in
    let new = c.turn.new.console in
    let was_honest = turned.was_honest honest in
    prompt_more g.S.TuneStore c.loop-lines.lines (input was) (input mid) (input new) (output was) (output mid) (output new)
    c.args.store.now c.loop-lines.store (v.so_far was_honest 0) v.faults turned.looks flushed (v.prompt was_honest flushed)

pub returns-in-Some-clause-looks : goal.returns-in-Some-clause-looks
returns-in-Some-clause-looks g c = λ flushed.
    let input = g.C.Console.input in
    let output = g.C.Console.output in
    let was = c.args.console.now in
    let mid = c.loop-lines.console in
    let new = c.turn.new.console in
    flushed_more (input was) (input mid) (input new) (output was) (output mid) (output new) c.loop-lines.invariant.faults c.in-Some.ensures.looks flushed
    (c.loop-lines.invariant.looks flushed)

pub returns-in-Some-clause-faults : goal.returns-in-Some-clause-faults
returns-in-Some-clause-faults g c =
    let input = g.C.Console.input in
    let output = g.C.Console.output in
    let was = c.args.console.now in
    let mid = c.loop-lines.console in
    let new = c.turn.new.console in
    faults_then (input was) (input mid) (input new) (output was) (output mid) (output new) (Some c.in-Some.end) c.loop-lines.invariant.faults
    c.in-Some.ensures.faults

pub returns-in-Some-clause-idle : goal.returns-in-Some-clause-idle
returns-in-Some-clause-idle g c = λ closed.
    let same = c.loop-lines.invariant.idle closed in c.in-Some.ensures.idle (ap g.S.TuneStore.closed same ∙ closed) ∙ same

pub returns-in-Some-clause-runs : goal.returns-in-Some-clause-runs
returns-in-Some-clause-runs g c = λ honest.
    let lines = c.loop-lines.lines in
    let more = most_lines - (lines + 1) in
    let all : lines + suc more ≡ most_lines = omega arith in
    let turned = c.in-Some.ensures in
    let ran = so_far_end g.S.TuneStore most_lines more (g.C.Console.input c.turn.new.console).left
    (g.C.Console.output c.args.console.now).bytes (g.C.Console.output c.loop-lines.console).bytes (g.C.Console.output c.turn.new.console).bytes
    c.args.store.now c.loop-lines.store c.turn.new.store c.in-Some.end
    (g.C.Console.input c.args.console.now).left (g.C.Console.input c.loop-lines.console).left
    (rw all at (c.loop-lines.invariant.so_far (turned.was_honest honest) (suc more))) (turned.turns honest)
    (λ carried carries_out ends. left_by_run g.S.TuneStore g.met.S.TuneStore.settled g.met.S.TuneStore.since_at carried c.args.store.now c.turn.new.store
    carries_out (ends_by_last c.in-Some.end _ ends) honest (g.met.S.TuneStore.since_earlier c.turn.new.store)) in
    record { carried = ran.carried; carries_out = ran.carries_out; ends = ran.ends; script = ran.script; stops = ran.stops }

pub returns-clause-runs : goal.returns-clause-runs
returns-clause-runs g c = λ honest.
    let lines = c.loop-lines.lines in
    let all : lines + 0 ≡ most_lines = omega arith in
    let ran = so_far_all g.S.TuneStore most_lines (g.C.Console.input c.args.console.now).left (g.C.Console.input c.loop-lines.console).left
    (g.C.Console.output c.args.console.now).bytes (g.C.Console.output c.loop-lines.console).bytes c.args.store.now c.loop-lines.store
    (rw all at (c.loop-lines.invariant.so_far honest 0))
    (λ carried carries_out ends. left_by_run g.S.TuneStore g.met.S.TuneStore.settled g.met.S.TuneStore.since_at carried c.args.store.now c.loop-lines.store
    carries_out (ends_by_last _ _ ends) honest (g.met.S.TuneStore.since_earlier c.loop-lines.store)) in
    record { carried = ran.carried; carries_out = ran.carries_out; ends = ran.ends; script = ran.script; stops = ran.stops }
