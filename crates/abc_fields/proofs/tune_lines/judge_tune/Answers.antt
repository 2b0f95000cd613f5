use Rattle.std.proofs.Common.{◌≡◌, ◌<◌, true, false, arith, rules, length, refl}
use Rattle.std.proofs.lemmas.Bool.{lt-ltb}
use Rattle.abc_fields.specs.Tunes.{joined, tune_run, has_key}
use Rattle.abc_fields.specs.Fields.{header_of}
use Rattle.abc_fields.specs.FileHeaders.{before_key, has_letter}
use Rattle.abc_fields.specs.Inside.LinesLeft.{contents_of}
use Rattle.abc_fields.specs.Inside.HeaderRows.{taken_lines}
use Rattle.abc_fields.proofs.TuneLemmas.{key_before, none_before, before_length}
use Rattle.abc_fields.proofs.tune_lines.judge_tune.Goals as goal

pub returns-then-not-measured-clause-answer : goal.returns-then-not-measured-clause-answer
returns-then-not-measured-clause-answer c =
    let run = tune_run (contents_of c.args.lines.now) in
    let none : has_key run ≡ false = search rules in
    λ later. rw (none_before (taken_lines (has_letter (header_of run)) c.args.header.now) run none, none) refl

pub overflow_add-length : goal.overflow_add-length
overflow_add-length c = omega (arith, c.measure-measured.ensures.few, c.length_carried.ensures.few)

pub returns-then-length-longest-clause-answer : goal.returns-then-length-longest-clause-answer
returns-then-length-longest-clause-answer c =
    let run = tune_run (contents_of c.args.lines.now) in
    let put = taken_lines (has_letter (header_of run)) c.args.header.now in
    let keyed : has_key run ≡ true = search rules in
    let carried : c.length_carried.result ≡ length (joined put) = rw c.again-start.ensures at c.length_carried.ensures.value in
    let long : c.args.longest < length (joined (before_key put run)) = omega (arith, before_length put run keyed, carried, c.measure-measured.ensures.length) in
    λ later. rw (key_before put run keyed, lt-ltb c.args.longest (length (joined (before_key put run))) long) refl

pub returns-clause-answer : goal.returns-clause-answer
returns-clause-answer c =
    let run = tune_run (contents_of c.args.lines.now) in
    let put = taken_lines (has_letter (header_of run)) c.args.header.now in
    let keyed : has_key run ≡ true = search rules in
    let carried : c.length_carried.result ≡ length (joined put) = rw c.again-start.ensures at c.length_carried.ensures.value in
    (key_before put run keyed, omega (arith, before_length put run keyed, carried, c.measure-measured.ensures.length))
