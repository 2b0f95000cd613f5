use Rattle.std.proofs.Common.{◌≡◌, ◌∙◌, [], ◌∷◌, ap, sym, subst}
use Rattle.abc_fields.specs.Lines.{Span}
use Rattle.abc_fields.specs.LineView.{line_span}
use Rattle.abc_fields.specs.Fields.{body_spans}
use Rattle.abc_fields.specs.Values.{field_value}
use Rattle.abc_fields.proofs.KeyLemmas.{key_lines, first_same, rest_same}
use Rattle.abc_fields.proofs.PercentLemmas.{NoneInSpans, later_percents}
use Rattle.abc_fields.proofs.tune_body.TuneBody.from_key.Goals as goal

pub from_index-lines-requires-clause-within : goal.from_index-lines-requires-clause-within
from_index-lines-requires-clause-within c = (key_lines c.args.text.now c.args.place c.requires.place).within

pub unreachable-requires : goal.unreachable-requires
unreachable-requires c =
    let at = key_lines c.args.text.now c.args.place c.requires.place in
    let none : [] ≡ at.line ∷ body_spans c.args.text.now = sym c.in-None.ensures.steps.0 ∙ c.from_index-lines.ensures ∙ at.stands in
    cc

pub value_of-key-requires : goal.value_of-key-requires
value_of-key-requires c = λ is.
    (subst NoneInSpans (sym c.from_index-lines.ensures ∙ c.in-Some.ensures.steps) (later_percents c.args.text.now c.args.place.from (c.requires.plain is))).0

pub returns-clause-plain : goal.returns-clause-plain
returns-clause-plain c = λ is.
    (subst NoneInSpans (sym c.from_index-lines.ensures ∙ c.in-Some.ensures.steps) (later_percents c.args.text.now c.args.place.from (c.requires.plain is))).1

pub returns-clause-key : goal.returns-clause-key
returns-clause-key c =
    let at = key_lines c.args.text.now c.args.place c.requires.place in
    let lines = sym c.in-Some.ensures.steps ∙ c.from_index-lines.ensures ∙ at.stands in
    c.value_of-key.ensures ∙ ap (λ (s : Span). field_value s.bytes) (first_same (line_span c.in-Some.line) at.line _ _ lines) ∙ at.value

pub returns-clause-lines : goal.returns-clause-lines
returns-clause-lines c =
    let at = key_lines c.args.text.now c.args.place c.requires.place in
    rest_same (line_span c.in-Some.line) at.line _ _ (sym c.in-Some.ensures.steps ∙ c.from_index-lines.ensures ∙ at.stands)

pub returns-clause-in_part : goal.returns-clause-in_part
returns-clause-in_part c = (key_lines c.args.text.now c.args.place c.requires.place).part
