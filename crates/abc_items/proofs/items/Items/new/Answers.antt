use Rattle.abc_items.proofs.ItemLaw.{items_are, items_unique}
use Rattle.abc_items.proofs.ItemSpans.{spans_fill, spans_have_items, spans_fit}
use Rattle.abc_items.specs.ItemSpans.{items_of}
use Rattle.abc_items.proofs.items.Items.new.Goals as goal

pub returns-clause-are_items : goal.returns-clause-are_items
returns-clause-are_items c = items_are c.args.text.now

pub returns-clause-no_other_items : goal.returns-clause-no_other_items
returns-clause-no_other_items c = items_unique c.args.text.now

pub returns-clause-texts : goal.returns-clause-texts
returns-clause-texts c = spans_have_items 0 (items_of c.args.text.now)

pub returns-clause-fill : goal.returns-clause-fill
returns-clause-fill c = spans_fill c.args.text.now

pub returns-clause-rows : goal.returns-clause-rows
returns-clause-rows c = spans_fit c.args.text.now
