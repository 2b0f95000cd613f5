use Rattle.std.proofs.Common.{◌≡◌, ◌≤◌, ◌-◌, ◌++◌, length, drop, string_bytes}
use Rattle.desk_lists.specs.ShownTexts.{text_bytes}
use Rattle.desk_lists.proofs.shown_texts.text_of.Given as goal

abbrev pub invariant-loop-at : goal.invariant-loop-at
invariant-loop-at l = record {
  within : l.at ≤ length l.bytes;
  text : string_bytes l.text ++ text_bytes (drop l.at l.bytes) ≡ text_bytes l.bytes;
}

abbrev pub decreases-loop-at : goal.decreases-loop-at
decreases-loop-at l = length l.bytes - l.at
