use Rattle.std.proofs.Common.{◌∙◌}
use Rattle.tune_titles.proofs.FrontOrder.{read_back}
use Rattle.tune_titles.proofs.fronts.front_of.Goals as goal

pub returns : goal.returns
returns c =
    read_back 16 c.read_u128.result c.cut_small.result c.bytes.result.now c.read_u128.ensures c.bytes.ensures.bytes c.bytes.ensures.bound ∙ c.cut_small.ensures
