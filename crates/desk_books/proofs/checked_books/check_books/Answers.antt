use Rattle.std.proofs.Common.{string_bytes, subst, sym, take, ◌+◌}
use Rattle.desk_books.specs.CheckedBooks.{TellsPath}
use Rattle.desk_books.specs.Stages.{EachInTurn, stage_of}
use Rattle.desk_books.proofs.TurnLemmas.{next_in_turn}
use Rattle.desk_scenes.proofs.QuietLemmas.{quiet_both}
use Rattle.desk_books.proofs.checked_books.check_books.Goals as goal

pub loop-path-preserved : goal.loop-path-preserved
loop-path-preserved g c =
    let was = g.K.Desk.deeds c.args.desk.now in
    let mid = g.K.Desk.deeds c.loop-path.desk in
    let now = g.K.Desk.deeds c.check_path-status.new.desk in
    let start = stage_of g.C.Console c.args.standard.now.console was in
    let end = stage_of g.C.Console c.check_path-status.new.standard.console now in
    let told = next_in_turn (λ path. TellsPath (string_bytes path)) c.args.paths.now c.loop-path.path-index c.path-item.result start
    (stage_of g.C.Console c.loop-path.standard.console mid) end c.loop-path.worst c.check_path-status.result c.loop-path-test.true c.path-item.is
    c.loop-path.invariant.told c.check_path-status.ensures.told in
    record {
      quiet = quiet_both was mid now c.loop-path.invariant.quiet c.check_path-status.ensures.quiet;
      told = subst (λ worst. EachInTurn (λ path. TellsPath (string_bytes path)) (take (c.loop-path.path-index + 1) c.args.paths.now) start end worst)
          (sym c.max-worst.ensures) told;
    }
