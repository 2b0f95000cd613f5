use Rattle.std.proofs.Common.{◌≡◌, take, true}
use Rattle.std.specs.List.{list_all}
use Rattle.desk_words.specs.Given.{is_list_name_byte}
use Rattle.desk_words.proofs.found.all_name_bytes.Given as goal

abbrev pub invariant-loop-byte : goal.invariant-loop-byte
invariant-loop-byte l = list_all is_list_name_byte (take l.byte-index l.word) ≡ true
