use Rattle.tune_pages.proofs.Counting.{marked_less, full_none}
use Rattle.tune_pages.proofs.FreePages.{freed_more, chain_count, allocated_takes, put_takes, takes_next}
use Rattle.tune_pages.proofs.laws.law_of_free_pages.Goals as goal

pub returns-clause-freed : goal.returns-clause-freed
returns-clause-freed g c = freed_more

pub returns-clause-taken : goal.returns-clause-taken
returns-clause-taken g c = marked_less

pub returns-clause-full : goal.returns-clause-full
returns-clause-full g c = full_none

pub returns-clause-count : goal.returns-clause-count
returns-clause-count g c = chain_count

pub returns-clause-allocated : goal.returns-clause-allocated
returns-clause-allocated g c = allocated_takes

pub returns-clause-put : goal.returns-clause-put
returns-clause-put g c = put_takes

pub returns-clause-next : goal.returns-clause-next
returns-clause-next g c = takes_next
