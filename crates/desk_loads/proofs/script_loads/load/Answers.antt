use Rattle.std.proofs.Common.{string_bytes, subst}
use Rattle.desk_loads.specs.LoadedScripts.{PutsScript}
use Rattle.desk_loads.proofs.LoadLemmas.{loads_then, loads_none}
use Rattle.desk_loads.proofs.script_loads.load.Goals as goal

pub returns-in-Ok-load_bytes : goal.returns-in-Ok-load_bytes
returns-in-Ok-load_bytes g c = loads_then g.D.Disk (string_bytes c.args.file.now) (string_bytes c.args.script.now) c.in-Ok.bytes _ _ _
    (g.C.Console.input c.args.standard.now.console) (g.C.Console.input c.read_script.new.console) (g.C.Console.input c.print_counts.new.standard.console)
    (g.C.Console.output c.args.standard.now.console) (g.C.Console.output c.read_script.new.console) (g.C.Console.output c.print_counts.new.standard.console)
    c.in-Ok-load_bytes.counts c.print_counts.result c.in-Ok.ensures.output c.in-Ok.ensures.reads
    (subst (λ s. PutsScript g.D.Disk (string_bytes c.args.file.now) s c.in-Ok-load_bytes.counts (g.K.Desk.deeds c.read_script.new.desk)
    (g.K.Desk.deeds c.load_bytes.new.desk)) c.as_slice.ensures c.in-Ok-load_bytes.ensures) c.print_counts.ensures

pub returns-in-Ok : goal.returns-in-Ok
returns-in-Ok g c = loads_none g.D.Disk (string_bytes c.args.file.now) (string_bytes c.args.script.now) c.in-Ok.bytes _ _ _
    (g.C.Console.input c.args.standard.now.console) (g.C.Console.input c.read_script.new.console) (g.C.Console.output c.args.standard.now.console)
    (g.C.Console.output c.read_script.new.console) c.say_unloaded.result c.in-Ok.ensures.output c.in-Ok.ensures.reads c.in-Err-load_bytes.ensures
    c.say_unloaded.ensures
