use Rattle.std.proofs.Common.{◌-◌, take, length, subst, sym, ap, ◌∙◌, arith, true, false}
use Rattle.std.specs.List.{list_all}
use Rattle.std.specs.Io.KnownBytes.{Consumes}
use Rattle.std.proofs.lemmas.List.{length-take-le}
use Rattle.std.proofs.lemmas.Slice.{take-put_mid_below}
use Rattle.tune_scripts.specs.Consoles.{is_inside}
use Rattle.tune_scripts.specs.Inside.Reads.{TakesLine}
use Rattle.tune_scripts.proofs.LookLemmas.{look_more}
use Rattle.tune_scripts.proofs.ReadLemmas.{inside_append, consumes_more, line_fed, line_last, line_long, part_put}
use Rattle.tune_scripts.proofs.script_reading.read_line.Goals as goal

pub returns-in-End-2-clause-bytes : goal.returns-in-End-2-clause-bytes
returns-in-End-2-clause-bytes g c =
    let old = (g.C.Console.input c.args.console.now).left in
    let new = (g.C.Console.input c.read_piece.new.self).left in
    let len = c.loop-len.len in
    let line = c.loop-len.line in
    let v = c.loop-len.invariant in
    let size = length-take-le len line (omega arith) in
    let same = take-put_mid_below len (length line - len) line c.read_piece.new.room len (omega arith) (omega arith) in (
      omega (arith, c.loop-len-test.true),
      subst (λ l. TakesLine old new l false) (sym same)
          (line_last old (g.C.Console.input c.loop-len.console).left new (take len line) (omega (arith, c.if-len-eq0.false))
          v.inside v.taken c.in-End-2.ensures.bytes.0 c.in-End-2.ensures.bytes.1),
    )

pub returns-in-Fed-clause-bytes : goal.returns-in-Fed-clause-bytes
returns-in-Fed-clause-bytes g c =
    let old = (g.C.Console.input c.args.console.now).left in
    let new = (g.C.Console.input c.read_piece.new.self).left in
    let len = c.loop-len.len in
    let line = c.loop-len.line in
    let n = c.in-Fed.n in
    let v = c.loop-len.invariant in
    let read = c.in-Fed.ensures.bytes in
    let same = part_put line c.read_piece.new.room len (length line - len) n (omega arith) (omega (arith, read.0)) in (
      omega (arith, read.0),
      subst (λ l. TakesLine old new l true) (sym same)
          (line_fed old (g.C.Console.input c.loop-len.console).left new (take len line) (take n c.read_piece.new.room) v.inside read.1 v.taken read.2),
    )

pub loop-len-preserved : goal.loop-len-preserved
loop-len-preserved g c =
    let len = c.loop-len.len in
    let line = c.loop-len.line in
    let n = c.in-Open.n in
    let room = c.read_piece.new.room in
    let v = c.loop-len.invariant in
    let read = c.in-Open.ensures.bytes in
    let same = part_put line room len (length line - len) n (omega arith) (omega (arith, read.1)) in
    record {
      within = omega (arith, read.1);
      taken = subst (Consumes _ _) (sym same) (consumes_more _ _ _ (take len line) (take n room) v.taken read.3);
      inside = ap (list_all is_inside) same ∙ inside_append (take len line) (take n room) v.inside read.2;
      output = c.in-Open.ensures.output ∙ v.output;
      faults = omega (arith, c.in-Open.ensures.faults, v.faults);
      looks = look_more (g.C.Console.input c.args.console.now) (g.C.Console.input c.loop-len.console) (g.C.Console.input c.read_piece.new.self)
          (g.C.Console.output c.args.console.now) (g.C.Console.output c.loop-len.console) (g.C.Console.output c.read_piece.new.self) (take len line) _
          v.looks v.output c.in-Open.ensures.looks v.taken v.inside;
    }

pub returns-clause-bytes : goal.returns-clause-bytes
returns-clause-bytes g c =
    let len = c.loop-len.len in
    let line = c.loop-len.line in
    let v = c.loop-len.invariant in
    let size = length-take-le len line (omega arith) in
    line_long _ _ (take len line) (omega (arith, v.within, c.loop-len-test.false)) v.inside v.taken
