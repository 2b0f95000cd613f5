use Rattle.std.proofs.Common.{◌≡◌, inl, inr, None, false, string_bytes}
use Rattle.tune_store.specs.State.{State}
use Rattle.tune_desk.specs.Results.{result_places}
use Rattle.tune_desk.proofs.SpareLemmas.{spares_both}
use Rattle.desk_scenes.proofs.FileLemmas.{asked_spares, unasked_spares, quiet_spares}
use Rattle.desk_books.specs.Givens.{given_by}
use Rattle.desk_books.specs.TriedBooks.{TriesPath}
use Rattle.desk_books.proofs.TurnLemmas.{each_map}
use Rattle.desk_books.proofs.tried_books.try_books.Goals as goal

pub returns-in-Ok-clause-files : goal.returns-in-Ok-clause-files
returns-in-Ok-clause-files g c =
    let places = result_places (string_bytes c.args.request.now.file.now) None false in
    let was = g.K.Desk.deeds c.args.desk.now in
    let mid = g.K.Desk.deeds c.ask_holding.new.desk in
    let now = g.K.Desk.deeds c.try_each.new.desk in
    spares_both places was mid now (asked_spares g.D.Disk places (λ (state : State). c.in-Ok.holding.stock.layout ≡ state.layout) was mid c.in-Ok.ensures)
    (quiet_spares g.D.Disk places mid now c.try_each.ensures.quiet)

pub returns-in-Err-clause-files : goal.returns-in-Err-clause-files
returns-in-Err-clause-files g c =
    unasked_spares g.D.Disk (result_places (string_bytes c.args.request.now.file.now) None false) (g.K.Desk.deeds c.args.desk.now)
    (g.K.Desk.deeds c.ask_holding.new.desk) c.in-Err.ensures

pub returns-in-Ok-clause-tries : goal.returns-in-Ok-clause-tries
returns-in-Ok-clause-tries g c =
    let mid = g.K.Desk.deeds c.ask_holding.new.desk in
    let layout = c.in-Ok.holding.stock.layout in
    inl (record {
      layout = layout;
      mid = mid;
      asks = c.in-Ok.ensures;
      tries = each_map (TriesPath (given_by c.args.request.now) layout) string_bytes c.args.paths.now mid (g.K.Desk.deeds c.try_each.new.desk)
          c.try_each.result c.try_each.ensures.tries;
    })

pub returns-in-Err-clause-tries : goal.returns-in-Err-clause-tries
returns-in-Err-clause-tries g c = inr (c.in-Err.ensures, c.say_unanswered.ensures)
