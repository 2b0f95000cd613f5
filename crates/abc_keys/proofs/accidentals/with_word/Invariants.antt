use Rattle.std.proofs.Common.{◌≡◌, drop}
use Rattle.std.specs.Prelude.{unwrap_or}
use Rattle.abc_keys.specs.Accidentals.{with_word}
use Rattle.abc_keys.specs.Inside.PairSteps.{changed_by_pairs}
use Rattle.abc_keys.proofs.accidentals.with_word.Given as goal

-- what is left of the word leads to what the whole word leads to
abbrev pub invariant-loop-byte : goal.invariant-loop-byte
invariant-loop-byte l = unwrap_or (changed_by_pairs l.changed l.before (drop l.byte-index l.word)) l.signature ≡ with_word l.signature l.word
