use Rattle.std.proofs.Common.{◌∙◌, sym}
use Rattle.abc_fields.specs.Bytes.{is_blank}
use Rattle.abc_fields.proofs.TrimLaw.{back-shorter, back-whole}
use Rattle.abc_fields.proofs.values.trim_back.Goals as goal

pub returns-then-not-is_blank : goal.returns-then-not-is_blank
returns-then-not-is_blank c =
    sym (back-whole is_blank c.loop-kept.kept.now c.from.result c.in-len1-up.len_at_least c.from.ensures (sym c.is_blank.ensures ∙ c.if-not-is_blank.true))
    ∙ c.loop-kept.invariant

pub loop-kept-preserved : goal.loop-kept-preserved
loop-kept-preserved c =
    back-shorter is_blank c.loop-kept.kept.now c.from.result c.in-len1-up.len_at_least c.from.ensures (sym c.is_blank.ensures ∙ c.if-not-is_blank.false)
    ∙ c.loop-kept.invariant
