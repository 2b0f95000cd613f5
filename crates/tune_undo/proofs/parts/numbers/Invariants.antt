use Rattle.std.proofs.Common.{◌≡◌, ◌++◌, ℕ, List, [], length}
use Rattle.tune_undo.specs.OldEntries.{AreNumbers}
use Rattle.tune_undo.specs.EntryBytes.{numbers_bytes}
use Rattle.tune_undo.specs.Inside.EntryLines.{word_before_space}
use Rattle.tune_undo.proofs.parts.numbers.Given as goal

abbrev pub invariant-loop-rest : goal.invariant-loop-rest
invariant-loop-rest l = record {
  same : numbers_bytes l.numbers.items ++ l.rest ≡ l.bytes;
  narrow : AreNumbers l.numbers.items;
  ends : (numbers : List ℕ) → numbers_bytes numbers ≡ l.bytes → word_before_space l.rest ≡ [];
}

abbrev pub decreases-loop-rest : goal.decreases-loop-rest
decreases-loop-rest l = length l.rest
