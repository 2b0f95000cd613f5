use Rattle.abc_notes.proofs.ShortLemmas.{is_taken}
use Rattle.abc_notes.proofs.item_events.next_telling.Goals as goal

pub returns-clause-one : goal.returns-clause-one
returns-clause-one c =
    (is_taken c.args.base c.args.items.now c.next_past_asides.new.self c.next_past_asides.result c.requires c.next_past_asides.ensures).one

pub returns-clause-short : goal.returns-clause-short
returns-clause-short c =
    (is_taken c.args.base c.args.items.now c.next_past_asides.new.self c.next_past_asides.result c.requires c.next_past_asides.ensures).short

pub returns-clause-fewer : goal.returns-clause-fewer
returns-clause-fewer c =
    (is_taken c.args.base c.args.items.now c.next_past_asides.new.self c.next_past_asides.result c.requires c.next_past_asides.ensures).fewer
