use Rattle.std.proofs.Common.{string_bytes, subst, sym, take, ◌+◌, ◌∙◌}
use Rattle.desk_scenes.proofs.QuietLemmas.{quiet_both}
use Rattle.desk_books.specs.Givens.{given_by}
use Rattle.desk_books.specs.Stages.{EachInTurn}
use Rattle.desk_books.specs.TriedBooks.{TriesPath}
use Rattle.desk_books.proofs.TurnLemmas.{next_in_turn}
use Rattle.desk_books.proofs.tried_books.try_each.Goals as goal

pub loop-path-preserved : goal.loop-path-preserved
loop-path-preserved g c =
    let given = given_by c.args.request.now in
    let layout = c.args.holding.now.stock.layout in
    let was = g.K.Desk.deeds c.args.desk.now in
    let mid = g.K.Desk.deeds c.loop-path.desk in
    let now = g.K.Desk.deeds c.try_path-status.new.desk in
    let one = subst (λ at. TriesPath given at (string_bytes c.path-item.result) mid now c.try_path-status.result) c.loop-path.invariant.layout
    c.try_path-status.ensures.tries in
    let tried = next_in_turn (λ path. TriesPath given layout (string_bytes path)) c.args.paths.now c.loop-path.path-index c.path-item.result
    was mid now c.loop-path.worst c.try_path-status.result c.loop-path-test.true c.path-item.is c.loop-path.invariant.tries one in
    let paths = take (c.loop-path.path-index + 1) c.args.paths.now in
    record {
      layout = c.try_path-status.ensures.layout ∙ c.loop-path.invariant.layout;
      quiet = quiet_both was mid now c.loop-path.invariant.quiet c.try_path-status.ensures.quiet;
      tries = subst (λ worst. EachInTurn (λ path. TriesPath given layout (string_bytes path)) paths was now worst) (sym c.max-worst.ensures) tried;
    }
