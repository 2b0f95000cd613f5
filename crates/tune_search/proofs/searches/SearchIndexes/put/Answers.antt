use Rattle.std.proofs.Common.{Err}
use Rattle.tune_pages.proofs.Edits.{edits_fuller}
use Rattle.tune_search.proofs.Balances.{full_for_texts}
use Rattle.tune_search.proofs.Texts.{some_texts_four, texts_more}
use Rattle.tune_search.proofs.searches.SearchIndexes.put.Goals as goal

pub put_runs-requires-clause-holds : goal.put_runs-requires-clause-holds
put_runs-requires-clause-holds g c = λ h. some_texts_four c.args.edit.now.next c.args.self.now (c.requires.holds h)

pub returns-in-Ok-clause-holds : goal.returns-in-Ok-clause-holds
returns-in-Ok-clause-holds g c = λ honest before after parts tunes more small also are h.
    texts_more c.args.edit.now.next c.put_runs.new.edit.next c.args.self.now c.put_runs.new.indexes c.args.runs.now
    c.requires.notes c.in-Ok.ensures.notes (c.in-Ok.ensures.lays honest) before after parts tunes more small also are h

pub returns-in-Err-clause-edits : goal.returns-in-Err-clause-edits
returns-in-Err-clause-edits g c =
    edits_fuller g.D.Disk (Err c.in-Err.fault) _ _ _ _
    (λ full honest before after parts tunes more small also are h.
    full_for_texts c.args.edit.now.next c.args.self.now c.args.runs.now c.requires.notes (full honest) before after parts tunes more
    small also are h)
    c.in-Err.ensures.edits
