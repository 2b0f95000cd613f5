use Rattle.std.proofs.Common.{◌≡◌, length}
use Rattle.abc_fields.specs.Bytes.{is_blank}
use Rattle.abc_fields.specs.Words.{trimmed_front}
use Rattle.abc_fields.proofs.values.trim_front.Given as goal

-- what is left of the text is kept as the whole text is
abbrev pub invariant-loop-kept : goal.invariant-loop-kept
invariant-loop-kept l = trimmed_front is_blank l.kept ≡ trimmed_front is_blank l.text

abbrev pub decreases-loop-kept : goal.decreases-loop-kept
decreases-loop-kept l = length l.kept
