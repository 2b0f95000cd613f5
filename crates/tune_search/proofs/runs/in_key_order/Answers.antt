use Rattle.tune_search.proofs.RunOrders.{by_ranks}
use Rattle.tune_search.proofs.runs.in_key_order.Goals as goal

pub returns-in-Ok-clause-sorted : goal.returns-in-Ok-clause-sorted
returns-in-Ok-clause-sorted g c =
    by_ranks c.args.run.items _ c.requires.by_number c.requires.small c.sort_by_keys.ensures.same c.in-Ok.ensures.sorted c.sort_by_keys.ensures.stable
