-- A line of five words or more is no command.
use Rattle.std.proofs.Common.{rules, ◌≡◌, ◌<◌, ◌∷◌, ◌∙◌, ap, length, List, ℕ}
use Rattle.abc_fields.specs.Words.{words_of}
use Rattle.tune_scripts.specs.ScriptLines.{meaning_of, word_of}
use Rattle.tune_scripts.specs.declared.script_lines.ScriptLine.TheVariants.{Bad}
use Rattle.tune_scripts.proofs.WordLemmas.{many_words}
use Rattle.tune_scripts.proofs.script_lines.meaning.Goals as goal

pub returns-clause-ok : goal.returns-clause-ok
returns-clause-ok c =
    let some : 0 < length c.split_word.result.0.now = search rules in
    let some_2 : 0 < length c.split_word-2.result.0.now = search rules in
    let some_3 : 0 < length c.split_word-3.result.0.now = search rules in
    let some_4 : 0 < length c.split_word-4.result.0.now = search rules in
    let later : 0 < length (word_of c.split_word-4.result.1.now) = search rules in
    let words_3 = c.split_word-3.ensures.some some_3 ∙ ap (λ (ws : List (List ℕ)). c.split_word-3.result.0.now ∷ ws) (c.split_word-4.ensures.some some_4) in
    let words_2 = c.split_word-2.ensures.some some_2 ∙ ap (λ (ws : List (List ℕ)). c.split_word-2.result.0.now ∷ ws) words_3 in
    let words = c.split_word.ensures.some some ∙ ap (λ (ws : List (List ℕ)). c.split_word.result.0.now ∷ ws) words_2 in
    let many = many_words c.split_word.result.0.now c.split_word-2.result.0.now c.split_word-3.result.0.now c.split_word-4.result.0.now
    c.split_word-4.result.1.now later in
    let bad : meaning_of (words_of c.args.line.now) ≡ Bad = ap meaning_of words ∙ many in
    search (rules, bad)
