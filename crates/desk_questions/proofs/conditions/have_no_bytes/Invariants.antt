use Rattle.std.proofs.Common.{◌≡◌, true, not, take}
use Rattle.std.specs.Prelude.{string_bytes}
use Rattle.std.specs.List.{list_all}
use Rattle.abc_fields.specs.Fields.{has_bytes}
use Rattle.desk_questions.proofs.conditions.have_no_bytes.Given as goal

abbrev pub invariant-loop-word : goal.invariant-loop-word
invariant-loop-word l = list_all (λ word. not (has_bytes (string_bytes word))) (take l.word-index l.words) ≡ true
