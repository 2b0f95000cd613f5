use Rattle.std.proofs.Common.{subst, sym}
use Rattle.tune_asking.specs.AskingCalls.{Call}
use Rattle.tune_asking.proofs.CallLemmas.{goes_none, call_ok}
use Rattle.desk_books.specs.KnownSums.{texts_told, KnowsTexts}
use Rattle.desk_books.proofs.asked_texts.known_texts.Goals as goal

pub returns-then-only_new : goal.returns-then-only_new
returns-then-only_new g c =
    subst (λ only. Call g.S.TuneStore c.args.store.now c.all_texts.new.store (texts_told only (g.S.Catalog.labels c.args.store.now)) c.all_texts.result)
    (sym c.if-only_new.true) c.all_texts.ensures

pub returns-else-only_new : goal.returns-else-only_new
returns-else-only_new g c =
    let k = g.S.TuneStore in
    call_ok k _ _ _ _ (goes_none k c.args.store.now)
    (λ is_open honest same. subst (λ only. KnowsTexts only (k.state c.args.store.now) c.new.result) (sym c.if-only_new.false) c.new.ensures)
