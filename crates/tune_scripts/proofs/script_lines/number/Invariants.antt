use Rattle.std.proofs.Common.{◌≡◌, ◌<◌, ◌^◌, take, drop, true}
use Rattle.std.specs.List.{list_all}
use Rattle.std.specs.Char.{is_ascii_digit}
use Rattle.tune_scripts.specs.ScriptLines.{value_from}
use Rattle.tune_scripts.proofs.script_lines.number.Given as goal

abbrev pub invariant-loop-digit : goal.invariant-loop-digit
invariant-loop-digit l = record {
  value : value_from l.value (drop l.digit-index l.word) ≡ value_from 0 l.word;
  digits : list_all is_ascii_digit (take l.digit-index l.word) ≡ true;
  bound : l.value < 10 ^ l.digit-index;
}
