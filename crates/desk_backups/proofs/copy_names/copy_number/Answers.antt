use Rattle.std.proofs.Common.{◌∙◌, ap, arith, lit<}
use Rattle.std.specs.Result.{result_ok}
use Rattle.std.proofs.lemmas.Str.Pattern.{starts_char}
use Rattle.desk_backups.proofs.ListedLemmas.{copy_digits_each, copy_digits_first, copy_digits_short, copy_number_read, copy_number_told}
use Rattle.desk_backups.proofs.copy_names.copy_number.Goals as goal
use Rattle.desk_backups.proofs.copy_names.copy_number.Goals.{then-digits-gt-DIGITS-via-then-digits-gt-DIGITS}
use Rattle.desk_backups.proofs.copy_names.copy_number.Goals.{then-digits-gt-DIGITS-via-else-digits-gt-DIGITS+then-starts_with}
use Rattle.desk_backups.proofs.copy_names.copy_number.Goals.{then-digits-gt-DIGITS-via-else-digits-gt-DIGITS+else-starts_with+then-not-are_digits}

pub returns-then-digits-gt-DIGITS-clause-each : goal.returns-then-digits-gt-DIGITS-clause-each
returns-then-digits-gt-DIGITS-clause-each c = λ number h.
    let short = copy_digits_short c.args.digits.now number h in
    elim c.then-digits-gt-DIGITS.branch [
      | then-digits-gt-DIGITS-via-then-digits-gt-DIGITS w ↦ absurd (omega (arith, short))
      | then-digits-gt-DIGITS-via-else-digits-gt-DIGITS+then-starts_with w ↦
          absurd (copy_digits_first c.args.digits.now number h
          ((starts_char 48 c.args.digits.now w.starts_with.result w.starts_with.ensures.cases (lit< tt) (lit< tt)).0 w.if-starts_with.true))
      | then-digits-gt-DIGITS-via-else-digits-gt-DIGITS+else-starts_with+then-not-are_digits w ↦
          let each = w.are_digits.ensures.1 (copy_digits_each c.args.digits.now number h) in absurd (cc (w.if-not-are_digits.true))
    ]

pub returns-clause-is : goal.returns-clause-is
returns-clause-is c =
    copy_number_told c.args.digits.now c.parse.result c.parse.ensures.value.0 c.ok.result c.ok.ensures.value (omega arith)
    (λ e. absurd (let k = (starts_char 48 c.args.digits.now c.starts_with.result c.starts_with.ensures.cases (lit< tt) (lit< tt)).1 e in
    cc (c.if-starts_with.false)))
    (c.are_digits.ensures.0 c.if-not-are_digits.false)

pub returns-clause-each : goal.returns-clause-each
returns-clause-each c = λ number h.
    c.ok.ensures.value ∙ ap result_ok (copy_number_read c.args.digits.now c.parse.result c.parse.ensures.value.0 number h)
