use Rattle.tune_pages.proofs.Chains.{chain_once}
use Rattle.tune_pages.proofs.Frames.{put_has, chain_past_put, chain_past_free, chain_past_freed, chain_past_page, chain_past_root, chain_past_taken}
use Rattle.tune_pages.proofs.laws.law_of_chains.Goals as goal

pub returns-clause-once : goal.returns-clause-once
returns-clause-once c = chain_once

pub returns-clause-put : goal.returns-clause-put
returns-clause-put c = put_has

pub returns-clause-beside_put : goal.returns-clause-beside_put
returns-clause-beside_put c = chain_past_put

pub returns-clause-beside_freed : goal.returns-clause-beside_freed
returns-clause-beside_freed c = chain_past_free

pub returns-clause-beside_free : goal.returns-clause-beside_free
returns-clause-beside_free c = chain_past_freed

pub returns-clause-beside_page : goal.returns-clause-beside_page
returns-clause-beside_page c = chain_past_page

pub returns-clause-beside_root : goal.returns-clause-beside_root
returns-clause-beside_root c = chain_past_root

pub returns-clause-beside_taken : goal.returns-clause-beside_taken
returns-clause-beside_taken c = chain_past_taken
