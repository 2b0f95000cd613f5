use Rattle.std.proofs.Common.{◌≡◌, true, ◌≤◌, length, arith}
use Rattle.desk_words.specs.Given.{is_digits}
use Rattle.desk_words.proofs.NumberLemmas.{always_reads}
use Rattle.desk_words.proofs.found.number_written.Goals as goal

pub returns-in-Err : goal.returns-in-Err
returns-in-Err c =
    let word = c.args.word.now in
    let digits : is_digits word ≡ true = grind arith in
    let short : length word ≤ 9 = omega arith in
    absurd (always_reads word c.parse.result c.in-Err.field-0 c.parse.ensures.value.0 digits short c.in-Err.is)
