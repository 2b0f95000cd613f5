use Rattle.std.proofs.Common.{◌≡◌, ◌∙◌, ap, sym, subst, true, false, ⊎_elim, Some}
use Rattle.abc_fields.specs.Lines.{lines_of, spans_of}
use Rattle.abc_fields.specs.Tunes.{has_key}
use Rattle.abc_fields.specs.Inside.LinesLeft.{contents_of}
use Rattle.abc_fields.specs.Inside.HeaderEnds.{key_place, has_end}
use Rattle.abc_fields.specs.Inside.ToldLines.{IsTold, AreTold, IsShortSpan}
use Rattle.std.specs.List.{AllByRecursion}
use Rattle.abc_fields.proofs.ToldLemmas.{lines_near}
use Rattle.abc_fields.proofs.LineOffsets.{spans_have_lines}
use Rattle.abc_fields.proofs.KeyLemmas.{place_keyed}
use Rattle.abc_fields.proofs.StoredLaw.{tune_text_if, returned, unfed, ended, unkeyed}
use Rattle.abc_fields.proofs.stored.key_of_stored.Goals as goal
use Rattle.abc_fields.proofs.stored.key_of_stored.Goals.{then-holds_return-via-then-holds_return, then-holds_return-via-else-holds_return+then-not-ends_with}

pub returns-then-holds_return : goal.returns-then-holds_return
returns-then-holds_return c = elim c.then-holds_return.branch [
  | then-holds_return-via-then-holds_return w ↦ returned c.args.text.now (sym c.holds_return.ensures ∙ w.if-holds_return.true)
  | then-holds_return-via-else-holds_return+then-not-ends_with w ↦ unfed c.args.text.now (sym w.ends_with.ensures.value ∙ w.if-not-ends_with.true)
]

pub find_told-requires : goal.find_told-requires
find_told-requires c = subst (AllByRecursion IsShortSpan) (sym c.without_return-lines.ensures) (lines_near c.args.text.now c.requires.short)

pub returns-in_default : goal.returns-in_default
returns-in_default c =
    let spans = c.without_return-lines.ensures in
    let same = spans_have_lines c.args.text.now in
    ⊎_elim
    (λ ends. ended c.args.text.now (ap has_end (sym same) ∙ sym (ap (λ s. has_end (contents_of s)) spans) ∙ ends))
    (λ none. unkeyed c.args.text.now (ap has_key (sym same) ∙ sym (ap (λ s. has_key (contents_of s)) spans) ∙ none))
    c.in_default.ensures

pub returns-then-has_end : goal.returns-then-has_end
returns-then-has_end c =
    let text = c.args.text.now in
    let spans = c.without_return-lines.ensures in
    let here = sym (ap (λ s. has_end (contents_of s)) spans ∙ ap has_end (spans_have_lines text)) in
    ended text (here ∙ sym c.in-Some.ensures.2 ∙ sym c.has_end.ensures ∙ c.if-has_end.true)

pub returns-else-has_end : goal.returns-else-has_end
returns-else-has_end c =
    let text = c.args.text.now in
    let spans = c.without_return-lines.ensures in
    let found : key_place false (spans_of text) ≡ Some c.in-Some.found.0 = sym (ap (key_place false) spans) ∙ c.in-Some.ensures.0 in
    let here = sym (ap (λ s. has_end (contents_of s)) spans ∙ ap has_end (spans_have_lines text)) in
    let no_end : has_end (lines_of text) ≡ false = here ∙ sym c.in-Some.ensures.2 ∙ sym c.has_end.ensures ∙ c.if-has_end.false in
    let keyed : has_key (lines_of text) ≡ true = ap has_key (sym (spans_have_lines text)) ∙ place_keyed false (spans_of text) c.in-Some.found.0 found in
    let fed = sym c.ends_with.ensures.value ∙ c.if-not-ends_with.false in
    let told : IsTold text c.in-Some.found.1 = λ few. subst (λ lines. AreTold lines c.in-Some.found.1) spans (c.in-Some.ensures.1 few) in
    (tune_text_if text (sym c.holds_return.ensures ∙ c.if-holds_return.false) fed no_end keyed, found, told)
