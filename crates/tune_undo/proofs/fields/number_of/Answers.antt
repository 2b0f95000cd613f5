use Rattle.std.proofs.Common.{ap, sym, ◌∙◌}
use Rattle.std.specs.Prelude.{decimal}
use Rattle.std.proofs.lemmas.Slice.Eq.{bytes_eq-Decides}
use Rattle.tune_undo.specs.Inside.ItemReading.{number_read}
use Rattle.tune_undo.proofs.FieldLaws.{number_again}
use Rattle.tune_undo.proofs.fields.number_of.Goals as goal

pub returns-then-is_decimal : goal.returns-then-is_decimal
returns-then-is_decimal c =
    let n = c.in_ok-number.number in
    let same = (bytes_eq-Decides (decimal n) c.args.word.now).0 (sym c.is_decimal.ensures ∙ c.if-is_decimal.true) in
    sym (ap number_read (sym same) ∙ number_again n c.in_ok-number.ensures.fits)
