use Rattle.std.proofs.Common.{None, false, string_bytes, subst, sym, take, ◌+◌}
use Rattle.tune_desk.specs.Results.{result_places}
use Rattle.tune_desk.proofs.SpareLemmas.{spares_both}
use Rattle.desk_books.specs.AddedBooks.{TakesPath, reached_by}
use Rattle.desk_books.specs.Givens.{given_by}
use Rattle.desk_books.specs.Stages.{EachInTurn}
use Rattle.desk_books.proofs.TurnLemmas.{next_in_turn}
use Rattle.desk_books.proofs.taken_books.take_books.Goals as goal

pub loop-path-preserved : goal.loop-path-preserved
loop-path-preserved g c =
    let given = given_by c.args.request.now in
    let start = reached_by (g.K.Desk.deeds c.args.desk.now) c.args.intake.now in
    let mid = reached_by (g.K.Desk.deeds c.loop-path.desk) c.loop-path.intake in
    let end = reached_by (g.K.Desk.deeds c.take_path-status.new.desk) c.take_path-status.new.intake in
    let taken = next_in_turn (λ path. TakesPath g.S.TuneStore given (string_bytes path)) c.args.paths.now c.loop-path.path-index c.path-item.result
    start mid end c.loop-path.worst c.take_path-status.result c.loop-path-test.true c.path-item.is c.loop-path.invariant.takes
    c.take_path-status.ensures.takes in
    record {
      files = spares_both (result_places (string_bytes c.args.request.now.file.now) None false) (g.K.Desk.deeds c.args.desk.now)
          (g.K.Desk.deeds c.loop-path.desk) (g.K.Desk.deeds c.take_path-status.new.desk) c.loop-path.invariant.files c.take_path-status.ensures.files;
      takes = subst (λ worst. EachInTurn (λ path. TakesPath g.S.TuneStore given (string_bytes path)) (take (c.loop-path.path-index + 1) c.args.paths.now)
          start end worst) (sym c.max-worst.ensures) taken;
    }
