use Rattle.tune_pages.proofs.Frames.{taken_allocates, without_frees, with_puts, allocates_trades, frees_trades, puts_trades}
use Rattle.tune_pages.proofs.Frames.{root_trades, put_chain_trades, free_chain_trades}
use Rattle.tune_pages.proofs.Frames.{trades_none, trades_then, trades_beside, chain_traded}
use Rattle.tune_pages.proofs.Frames.{free_used, used_past, mark_past}
use Rattle.tune_pages.proofs.laws.law_of_frames.Goals as goal

pub returns-clause-allocates : goal.returns-clause-allocates
returns-clause-allocates c = taken_allocates

pub returns-clause-frees : goal.returns-clause-frees
returns-clause-frees c = without_frees

pub returns-clause-puts : goal.returns-clause-puts
returns-clause-puts c = with_puts

pub returns-clause-allocated : goal.returns-clause-allocated
returns-clause-allocated c = allocates_trades

pub returns-clause-freed : goal.returns-clause-freed
returns-clause-freed c = frees_trades

pub returns-clause-put : goal.returns-clause-put
returns-clause-put c = puts_trades

pub returns-clause-root : goal.returns-clause-root
returns-clause-root c = root_trades

pub returns-clause-chain : goal.returns-clause-chain
returns-clause-chain c = put_chain_trades

pub returns-clause-chain_freed : goal.returns-clause-chain_freed
returns-clause-chain_freed c = free_chain_trades

pub returns-clause-nothing : goal.returns-clause-nothing
returns-clause-nothing c = trades_none

pub returns-clause-next : goal.returns-clause-next
returns-clause-next c = trades_then

pub returns-clause-beside : goal.returns-clause-beside
returns-clause-beside c = trades_beside

pub returns-clause-chains : goal.returns-clause-chains
returns-clause-chains c = chain_traded

pub returns-clause-claimed : goal.returns-clause-claimed
returns-clause-claimed c = free_used

pub returns-clause-beside_claimed : goal.returns-clause-beside_claimed
returns-clause-beside_claimed c = used_past

pub returns-clause-beside_marked : goal.returns-clause-beside_marked
returns-clause-beside_marked c = mark_past
