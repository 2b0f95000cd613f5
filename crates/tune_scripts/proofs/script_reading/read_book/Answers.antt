use Rattle.std.proofs.Common.{◌++◌, arith, ◌∙◌, ap}
use Rattle.std.proofs.lemmas.List.{length-append}
use Rattle.tune_scripts.proofs.LookLemmas.{look_more}
use Rattle.tune_scripts.proofs.ReadLemmas.{consumes_more}
use Rattle.tune_scripts.proofs.script_reading.read_book.Goals as goal

pub loop-left-preserved : goal.loop-left-preserved
loop-left-preserved g c =
    let v = c.loop-left.invariant in
    let t = v.taken in
    let read = c.in-Taken.ensures.bytes in
    let piece = read.2 in
    let all = length-append t.got piece in
    let input = g.C.Console.input in
    let output = g.C.Console.output in
    let was = c.args.console.now in
    let mid = c.loop-left.console in
    let new = c.read_part.new.self in
    record {
      taken = record {
        got = t.got ++ piece;
        took = consumes_more _ (input mid).left _ t.got piece t.took read.4;
        size = omega (arith, all, t.size, read.3, read.1);
        wants = λ kept. t.wants (read.5 kept).0;
        keeps = λ kept. (read.5 kept).1 ∙ ap (λ l. l ++ piece) (t.keeps (read.5 kept).0);
      };
      output = c.in-Taken.ensures.output ∙ v.output;
      faults = omega (arith, c.in-Taken.ensures.faults, v.faults);
      looks = look_more (input was) (input mid) (input new) (output was) (output mid) (output new) t.got _ v.looks v.output c.in-Taken.ensures.looks t.took
          (omega (arith, t.size));
    }
