use Rattle.std.proofs.Common.{rules, ◌≡◌, ◌∙◌, ◌+◌, ◌++◌, ◌∷◌, [], ap, sym, subst, take, drop, get_or}
use Rattle.std.specs.Prelude.{codes, slice_get, slice_range, option_copied}
use Rattle.std.specs.List.{AllByRecursion}
use Rattle.std.specs.Option.{option_or}
use Rattle.std.proofs.lemmas.List.{drop_more}
use Rattle.std.proofs.Math.ListN.{drop_of_length-le}
use Rattle.abc_fields.specs.Fields.{key_text_of, non_empty_values}
use Rattle.abc_fields.specs.Lines.{spans_of}
use Rattle.abc_fields.specs.Limits.{most_titles}
use Rattle.abc_fields.specs.Inside.ToldLines.{told_places, lines_at, IsToldAt}
use Rattle.abc_fields.specs.declared.told_lines.LinePlace.{LinePlace}
use Rattle.abc_fields.proofs.FieldLemmas.{few_taken, few_titles, titles_step, first_step, tune_key}
use Rattle.abc_fields.proofs.ToldLemmas.{told_titles, told_rhythms, told_in, key_at, part_percents}
use Rattle.abc_fields.proofs.header.read_fields.Goals as goal

pub loop-place-init : goal.loop-place-init
loop-place-init c =
    let text = c.args.text.now in
    let same : c.places-place-items.result.now ≡ told_places (spans_of text) = c.places-place-items.ensures ∙ c.in-Some.ensures.places in
    record {
      few = search rules;
      titles = rw (c.clear.ensures.titles, same) (ap (take most_titles) (told_titles text));
      rhythm = rw (c.clear.ensures.rhythm, same) (ap (λ values. slice_get values 0) (told_rhythms text));
      places = rw same (told_in text);
    }

pub line_in-requires-2-clause-ordered : goal.line_in-requires-2-clause-ordered
line_in-requires-2-clause-ordered c = (key_at c.args.text.now c.in-Some.told.now.key c.in-Some.ensures.key).ordered

pub line_in-requires-2-clause-within : goal.line_in-requires-2-clause-within
line_in-requires-2-clause-within c = rw c.bytes-bytes.ensures.value (key_at c.args.text.now c.in-Some.told.now.key c.in-Some.ensures.key).within

pub take_told-requires-clause-plain : goal.take_told-requires-clause-plain
take_told-requires-clause-plain c = λ is. rw (c.line_in.ensures, c.bytes-bytes.ensures.value)
    (part_percents c.args.text.now _ _ (c.is_plain-plain.ensures is))

pub value_of-found-requires : goal.value_of-found-requires
value_of-found-requires c = λ is. rw (c.line_in-2.ensures, c.bytes-bytes.ensures.value)
    (part_percents c.args.text.now c.in-Some.told.now.key.from c.in-Some.told.now.key.to (c.is_plain-plain.ensures is))

pub returns-clause-key : goal.returns-clause-key
returns-clause-key c = c.value_of-found.ensures
    ∙ rw (c.line_in-2.ensures, c.bytes-bytes.ensures.value) (key_at c.args.text.now c.in-Some.told.now.key c.in-Some.ensures.key).value

pub returns-clause-key_line : goal.returns-clause-key_line
returns-clause-key_line c =
    let value : c.value_of-found.result.now ≡ key_text_of c.args.text.now = c.value_of-found.ensures
    ∙ rw (c.line_in-2.ensures, c.bytes-bytes.ensures.value) (key_at c.args.text.now c.in-Some.told.now.key c.in-Some.ensures.key).value in
    rw value (tune_key c.args.text.now c.bytes-bytes.ensures.tune_text)

pub loop-place-preserved : goal.loop-place-preserved
loop-place-preserved c =
    let text = c.args.text.now in
    let items = c.places-place-items.result.now in
    let at = c.loop-place.place-index in
    let line = c.line_in.result.now in
    let old = c.loop-place.found in
    let later = drop (at + 1) items in
    let none : LinePlace = record { from = 0; to = 0 } in
    let more : drop at items ≡ get_or items at none ∷ later = drop_more items at none c.loop-place-test.true in
    let here : line ≡ slice_range text (get_or items at none).from (get_or items at none).to =
    c.line_in.ensures ∙ ap (λ t. slice_range t (get_or items at none).from (get_or items at none).to) c.bytes-bytes.ensures.value in
    let lines : lines_at text (drop at items) ≡ line ∷ lines_at text later =
    ap (lines_at text) more ∙ ap (λ l. l ∷ lines_at text later) (sym here) in
    record {
      few = rw c.take_told.ensures.titles (few_taken most_titles _);
      titles = rw c.take_told.ensures.titles (titles_step most_titles old.titles (codes "T:") line (lines_at text later))
          ∙ ap (λ ls. take most_titles (old.titles ++ non_empty_values (codes "T:") ls)) (sym lines) ∙ c.loop-place.invariant.titles;
      rhythm = rw c.take_told.ensures.rhythm (first_step (option_copied old.rhythm) (codes "R:") line (lines_at text later))
          ∙ ap (λ ls. option_or (option_copied old.rhythm) (slice_get (non_empty_values (codes "R:") ls) 0)) (sym lines) ∙ c.loop-place.invariant.rhythm;
      places = (subst (AllByRecursion (IsToldAt text)) more c.loop-place.invariant.places).1;
    }

pub returns-clause-titles : goal.returns-clause-titles
returns-clause-titles c =
    let none : drop c.loop-place.place-index c.places-place-items.result.now ≡ [] =
    drop_of_length-le c.places-place-items.result.now c.loop-place-test.false in
    let rest : c.loop-place.found.titles ≡ take most_titles (c.loop-place.found.titles ++ []) =
    few_titles most_titles c.loop-place.found.titles c.loop-place.invariant.few in
    rest ∙ ap (λ ls. take most_titles (c.loop-place.found.titles ++ non_empty_values (codes "T:") (lines_at c.args.text.now ls))) (sym none)
    ∙ c.loop-place.invariant.titles
