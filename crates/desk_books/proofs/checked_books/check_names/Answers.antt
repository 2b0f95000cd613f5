use Rattle.std.proofs.Common.{string_bytes, subst, sym, take, ◌+◌}
use Rattle.desk_books.specs.CheckedBooks.{TellsBookName}
use Rattle.desk_books.specs.Stages.{EachInTurn, stage_of}
use Rattle.desk_books.proofs.TurnLemmas.{next_in_turn}
use Rattle.desk_scenes.proofs.QuietLemmas.{quiet_both}
use Rattle.desk_books.proofs.checked_books.check_names.Goals as goal

pub loop-name-preserved : goal.loop-name-preserved
loop-name-preserved g c =
    let folder = string_bytes c.args.folder.now in
    let was = g.K.Desk.deeds c.args.desk.now in
    let mid = g.K.Desk.deeds c.loop-name.desk in
    let now = g.K.Desk.deeds c.check_name-status.new.desk in
    let start = stage_of g.C.Console c.args.standard.now.console was in
    let end = stage_of g.C.Console c.check_name-status.new.standard.console now in
    let told = next_in_turn (λ name. TellsBookName folder (string_bytes name)) c.args.names.now c.loop-name.name-index c.name-item.result start
    (stage_of g.C.Console c.loop-name.standard.console mid) end c.loop-name.worst c.check_name-status.result c.loop-name-test.true c.name-item.is
    c.loop-name.invariant.told c.check_name-status.ensures.told in
    record {
      quiet = quiet_both was mid now c.loop-name.invariant.quiet c.check_name-status.ensures.quiet;
      told = subst (λ worst. EachInTurn (λ name. TellsBookName folder (string_bytes name)) (take (c.loop-name.name-index + 1) c.args.names.now) start end worst)
          (sym c.max-worst.ensures) told;
    }
