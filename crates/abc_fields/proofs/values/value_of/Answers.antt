use Rattle.std.proofs.Common.{ap, sym, ◌∙◌, drop}
use Rattle.std.proofs.lemmas.List.{take_rest}
use Rattle.abc_fields.specs.Words.{trimmed}
use Rattle.abc_fields.proofs.PercentLemmas.{no_comment, percents_left}
use Rattle.abc_fields.proofs.values.value_of.Goals as goal

pub returns : goal.returns
returns c =
    let line = c.args.line.now in
    c.trim_blanks.ensures.value ∙ ap trimmed (take_rest line 2 ∙ sym (no_comment (drop 2 line) (percents_left 2 line (c.requires c.if-not-plain.false))))
