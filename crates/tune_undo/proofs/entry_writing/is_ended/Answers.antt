use Rattle.std.proofs.Common.{◌≡◌, ◌<◌, length, sym, ◌∙◌, arith}
use Rattle.tune_undo.proofs.ReadyLaws.{ended_nil, ended_last}
use Rattle.tune_undo.proofs.entry_writing.is_ended.Goals as goal

pub returns-in-None : goal.returns-in-None
returns-in-None c = sym (ended_nil c.args.book.now (omega (arith, c.in-None.ensures.item.3)))

pub returns-in-Some : goal.returns-in-Some
returns-in-Some c =
    let some : 0 < length c.args.book.now = c.in-Some.ensures.item.3.0 in
    ended_last c.args.book.now c.in-Some.byte.now some c.in-Some.ensures.item.1
