use Rattle.std.proofs.Common.{[], ◌∙◌, ap, refl, sym, arith}
use Rattle.abc_fields.specs.Words.{trimmed}
use Rattle.tune_titles.specs.Articles.{first_word, from_blank}
use Rattle.tune_titles.proofs.CutLemmas.{word_at, no_blank}
use Rattle.tune_scripts.specs.ScriptLines.{word_of}
use Rattle.tune_scripts.proofs.WordLemmas.{one_word, no_word, next_word, later_word}
use Rattle.tune_scripts.proofs.script_lines.split_word.Goals as goal

pub returns-in-Some-clause-word : goal.returns-in-Some-clause-word
returns-in-Some-clause-word c =
    let text = c.trim_blanks-text.result.now in
    let parts = word_at text c.in-Some.end (λ j lt. c.in-Some.ensures.0.before j (omega arith) lt) c.in-Some.ensures.0.high c.in-Some.ensures.1 in
    c.split_at.ensures.front ∙ sym parts.0 ∙ ap first_word c.trim_blanks-text.ensures.value

pub returns-in-Some-clause-rest : goal.returns-in-Some-clause-rest
returns-in-Some-clause-rest c =
    let text = c.trim_blanks-text.result.now in
    let parts = word_at text c.in-Some.end (λ j lt. c.in-Some.ensures.0.before j (omega arith) lt) c.in-Some.ensures.0.high c.in-Some.ensures.1 in
    c.trim_blanks.ensures.value ∙ ap trimmed (c.split_at.ensures.back ∙ sym parts.1 ∙ ap from_blank c.trim_blanks-text.ensures.value)

pub returns-in-None-clause-word : goal.returns-in-None-clause-word
returns-in-None-clause-word c =
    sym (one_word c.trim_blanks-text.result.now (λ j lt. c.in-None.ensures j (omega arith) lt)) ∙ ap first_word c.trim_blanks-text.ensures.value

pub returns-in-None-clause-rest : goal.returns-in-None-clause-rest
returns-in-None-clause-rest c =
    let none = no_blank c.trim_blanks-text.result.now (λ j lt. c.in-None.ensures j (omega arith) lt) in
    sym (ap trimmed none) ∙ ap (λ text. trimmed (from_blank text)) c.trim_blanks-text.ensures.value

pub returns-in-Some-clause-none : goal.returns-in-Some-clause-none
returns-in-Some-clause-none c = no_word c.args.line.now c.split_at.result.0.now (returns-in-Some-clause-word c)

pub returns-in-Some-clause-some : goal.returns-in-Some-clause-some
returns-in-Some-clause-some c =
    next_word c.args.line.now c.split_at.result.0.now c.trim_blanks.result.now (returns-in-Some-clause-word c) (returns-in-Some-clause-rest c)

pub returns-in-Some-clause-more : goal.returns-in-Some-clause-more
returns-in-Some-clause-more c = later_word c.args.line.now c.trim_blanks.result.now (word_of c.trim_blanks.result.now) (returns-in-Some-clause-rest c) refl

pub returns-in-None-clause-none : goal.returns-in-None-clause-none
returns-in-None-clause-none c = no_word c.args.line.now c.trim_blanks-text.result.now (returns-in-None-clause-word c)

pub returns-in-None-clause-some : goal.returns-in-None-clause-some
returns-in-None-clause-some c = next_word c.args.line.now c.trim_blanks-text.result.now [] (returns-in-None-clause-word c) (returns-in-None-clause-rest c)
