use Rattle.std.proofs.Common.{true, rules, ◌≡◌, ◌∙◌, ◌++◌, take, ap, sym, subst, false}
use Rattle.std.specs.Prelude.{codes, slice_get, option_copied}
use Rattle.std.specs.Option.{option_or}
use Rattle.abc_fields.specs.Tunes.{is_key_line}
use Rattle.abc_fields.specs.Fields.{header_of, non_empty_values, first_key, key_text_of}
use Rattle.abc_fields.specs.Limits.{most_titles}
use Rattle.abc_fields.specs.Inside.LinesLeft.{contents_of}
use Rattle.abc_fields.proofs.FieldLemmas.{few_taken, titles_step, first_step, header_more, key_here, key_later, tune_key}
use Rattle.abc_fields.proofs.PercentLemmas.{NonePercent, lines_percents}
use Rattle.abc_fields.proofs.header.walked_fields.Goals as goal

pub loop-line-init : goal.loop-line-init
loop-line-init c = record {
  within = search rules;
  titles = search rules;
  rhythm = search rules;
  plain = λ is. rw (c.into_iter-line-iterator.ensures.into_iter_gives, c.of_tune-line-items.ensures.lines, c.of_tune-line-items.ensures.contents)
      (lines_percents c.args.text.now (c.is_plain-plain.ensures is));
  no_key = search rules;
  key = search rules;
}

pub loop-line-preserved : goal.loop-line-preserved
loop-line-preserved c =
    let line = c.in-Some.line.text.now in
    let old = c.loop-line.found in
    let rest = contents_of c.next.new.self in
    let other : is_key_line line ≡ false = sym c.is_key_line.ensures ∙ c.if-is_key_line.false in
    let header = ap (λ spans. header_of (contents_of spans)) c.in-Some.ensures.steps ∙ header_more line rest other in
    record {
      within = rw c.take_line.ensures.titles (few_taken most_titles _);
      titles = rw c.take_line.ensures.titles (titles_step most_titles old.titles (codes "T:") line (header_of rest))
          ∙ ap (λ lines. take most_titles (old.titles ++ non_empty_values (codes "T:") lines)) (sym header) ∙ c.loop-line.invariant.titles;
      rhythm = rw c.take_line.ensures.rhythm (first_step (option_copied old.rhythm) (codes "R:") line (header_of rest))
          ∙ ap (λ lines. option_or (option_copied old.rhythm) (slice_get (non_empty_values (codes "R:") lines) 0)) (sym header) ∙ c.loop-line.invariant.rhythm;
      plain = λ is. (subst NonePercent (ap contents_of c.in-Some.ensures.steps) (c.loop-line.invariant.plain is)).1;
      no_key = rw c.take_line.ensures.key c.loop-line.invariant.no_key;
      key = sym (ap (λ spans. first_key (contents_of spans)) c.in-Some.ensures.steps ∙ key_later line rest other) ∙ c.loop-line.invariant.key;
    }

pub returns-then-is_key_line-clause-key_line : goal.returns-then-is_key_line-clause-key_line
returns-then-is_key_line-clause-key_line c =
    let line = c.in-Some.line.text.now in
    let is : is_key_line line ≡ true = sym c.is_key_line.ensures ∙ c.if-is_key_line.true in
    let first = ap (λ spans. first_key (contents_of spans)) c.in-Some.ensures.steps ∙ key_here line (contents_of c.next.new.self) is in
    let value : c.value_of-found.result.now ≡ key_text_of c.args.text.now = c.value_of-found.ensures ∙ sym first ∙ c.loop-line.invariant.key in
    rw value (tune_key c.args.text.now c.of_tune-line-items.ensures.tune_text)

pub returns-clause-key_line : goal.returns-clause-key_line
returns-clause-key_line c =
    let none = ap (λ spans. first_key (contents_of spans)) c.in-None.ensures.steps.0 in
    let value : c.loop-line.found.key.now ≡ key_text_of c.args.text.now = c.loop-line.invariant.no_key ∙ sym none ∙ c.loop-line.invariant.key in
    rw value (tune_key c.args.text.now c.of_tune-line-items.ensures.tune_text)

pub value_of-found-requires : goal.value_of-found-requires
value_of-found-requires c = λ is. (subst NonePercent (ap contents_of c.in-Some.ensures.steps) (c.loop-line.invariant.plain is)).0

pub take_line-requires-clause-plain : goal.take_line-requires-clause-plain
take_line-requires-clause-plain c = λ is. (subst NonePercent (ap contents_of c.in-Some.ensures.steps) (c.loop-line.invariant.plain is)).0
