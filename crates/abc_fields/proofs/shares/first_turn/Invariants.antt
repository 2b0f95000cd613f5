use Rattle.abc_fields.specs.Inside.Shares.{IsFirst}
use Rattle.abc_fields.proofs.shares.first_turn.Given as goal

abbrev pub invariant-loop-index : goal.invariant-loop-index
invariant-loop-index l = IsFirst l.index l.except l.rests l.found
