use Rattle.tune_parts.proofs.TradedParts.{parts_traded}
use Rattle.tune_parts.proofs.laws.law_of_trades.Goals as goal

pub returns : goal.returns
returns c = record { traded = parts_traded }
