use Rattle.std.proofs.Common.{◌≡◌, ℕ}
use Rattle.tune_search.specs.Inside.EntryLinks.{place_from}
use Rattle.tune_search.proofs.ClaimKeys.{ComparesFrom}
use Rattle.tune_search.proofs.key_claims.stands_at.Given as goal

abbrev pub invariant-loop-key : goal.invariant-loop-key
invariant-loop-key g l = (number : ℕ) → l.first ≡ place_from number 0 l.entries
    → ComparesFrom number l.entries l.keys l.at l.key-index
