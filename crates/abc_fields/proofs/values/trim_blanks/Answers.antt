use Rattle.std.proofs.Common.{◌≡◌, ◌∙◌, ap}
use Rattle.abc_fields.specs.Bytes.{is_blank}
use Rattle.abc_fields.specs.Words.{trimmed, trimmed_back}
use Rattle.abc_fields.proofs.TrimLaw.{is_trimmed, trimmed-blanks}
use Rattle.abc_fields.proofs.values.trim_blanks.Goals as goal

pub returns : goal.returns
returns c =
    let value : c.trim_back.result.now ≡ trimmed c.args.text.now = c.trim_back.ensures ∙ ap (trimmed_back is_blank) c.trim_front.ensures in
    record { value = value; law = rw value (is_trimmed c.args.text.now); blanks_at_ends = trimmed-blanks c.args.text.now }
