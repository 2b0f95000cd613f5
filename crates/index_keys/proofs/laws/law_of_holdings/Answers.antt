use Rattle.index_keys.proofs.ByNumber.{held_by_number, by_number_held}
use Rattle.index_keys.proofs.Holding.{holds_none, holds_more, holds_less, holds_same, holds_within}
use Rattle.index_keys.proofs.laws.law_of_holdings.Goals as goal

pub returns-clause-none : goal.returns-clause-none
returns-clause-none g c = λ keys_of. holds_none keys_of

pub returns-clause-more : goal.returns-clause-more
returns-clause-more g c = λ keys_of tunes more entries run. holds_more keys_of tunes more entries run

pub returns-clause-less : goal.returns-clause-less
returns-clause-less g c = λ keys_of gone tunes others entries run. holds_less keys_of gone tunes others entries run

pub returns-clause-same : goal.returns-clause-same
returns-clause-same g c = λ keys_of tunes others entries. holds_same keys_of tunes others entries

pub returns-clause-candidates : goal.returns-clause-candidates
returns-clause-candidates g c = λ keys_of tunes entries low high. holds_within keys_of tunes entries low high

pub returns-clause-by_number : goal.returns-clause-by_number
returns-clause-by_number g c = λ keys_of tunes entries. held_by_number keys_of tunes entries

pub returns-clause-each : goal.returns-clause-each
returns-clause-each g c = λ keys_of tunes entries. by_number_held keys_of tunes entries
