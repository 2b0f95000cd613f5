use Rattle.tune_search.proofs.Texts.{some_texts_four, texts_less}
use Rattle.tune_search.proofs.searches.SearchIndexes.take.Goals as goal

pub take_runs-requires-clause-holds : goal.take_runs-requires-clause-holds
take_runs-requires-clause-holds g c = λ h. some_texts_four c.args.edit.now.next c.args.self.now (c.requires.holds h)

pub returns-in-Ok-clause-holds : goal.returns-in-Ok-clause-holds
returns-in-Ok-clause-holds g c = λ honest before after parts gone tunes others low small without are h.
    texts_less c.args.edit.now.next c.take_runs.new.edit.next c.args.self.now c.take_runs.new.indexes
    c.args.runs.now c.requires.notes c.in-Ok.ensures.notes (c.in-Ok.ensures.lays honest) before after parts gone tunes others low small without are h
