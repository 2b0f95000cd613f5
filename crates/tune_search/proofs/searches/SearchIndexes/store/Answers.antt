use Rattle.tune_search.proofs.Texts.{some_texts_four, texts_same}
use Rattle.tune_search.proofs.searches.SearchIndexes.store.Goals as goal

pub store_lists-requires : goal.store_lists-requires
store_lists-requires g c = record { holds = λ h. some_texts_four c.args.edit.now.next c.args.self.now (c.requires.holds h) }

pub returns-in-Ok-clause-holds : goal.returns-in-Ok-clause-holds
returns-in-Ok-clause-holds g c = λ honest before after parts tunes h.
    texts_same c.args.edit.now.next c.store_lists.new.edit.next c.args.self.now c.store_lists.new.indexes
    c.in-Ok.ensures.notes (c.in-Ok.ensures.lays honest) before after parts tunes h
