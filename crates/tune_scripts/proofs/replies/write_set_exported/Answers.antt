use Rattle.std.proofs.lemmas.Result.{on_ok_weaker}
use Rattle.tune_scripts.proofs.AppendLemmas.{appends_more}
use Rattle.tune_scripts.proofs.replies.write_set_exported.Goals as goal

pub returns-clause-bytes : goal.returns-clause-bytes
returns-clause-bytes g c =
    let header = appends_more (g.C.Console.output c.args.console.now).bytes (g.C.Console.output c.write_name_number.new.console).bytes
    (g.C.Console.output c.write.new.self).bytes _ _
    c.in_ok-write_name_number.ensures.bytes in
    rw c.as_slice-book.ensures at (on_ok_weaker c.write.result header c.write.ensures.bytes)
