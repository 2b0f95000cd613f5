-- A number has at most 20 digits.
use Rattle.std.proofs.Common.{rules, ◌≤◌, length, drop, ap, arith, length-drop}
use Rattle.std.specs.Fmt.{decimal}
use Rattle.std.proofs.lemmas.Fmt.{length-decimal-le}
use Rattle.std.proofs.lemmas.List.{length-append}
use Rattle.tune_scripts.proofs.numbered_words.NumberedWords.put_number.Goals as goal

pub write_digits-self-inside-requires : goal.write_digits-self-inside-requires
write_digits-self-inside-requires c =
    let short : length (decimal c.args.number) ≤ 20 = search (rules, length-decimal-le 20) in
    (omega (arith, short, c.requires, ap length c.self.view_is, length-drop c.self.inside.start c.self.inside.room), search rules)

pub returns-clause-size : goal.returns-clause-size
returns-clause-size c =
    let short : length (decimal c.args.number) ≤ 20 = search (rules, length-decimal-le 20) in
    omega (
      arith,
      short,
      ap length c.self.view_is,
      ap length c.write_digits-self-inside.ensures.written,
      length-append (decimal c.args.number) (drop c.self.inside.start c.self.inside.room),
    )
