use Rattle.std.proofs.Common.{◌≡◌, ◌∙◌, ap, sym, subst, ◌++◌, List, Option, Result, codes, map, option_map, Bor}
use Rattle.clap.specs.Words.{Text, found_of, rows_of}
use Rattle.desk_words.specs.WordAnswers.{GivesWanted, WordRefusal, and_then}
use Rattle.desk_words.specs.SoughtConditions.{ConditionMeaning, by_options, by_words, key_used, sought_by, sought_in}
use Rattle.desk_words.specs.Given.{given, is_set}
use Rattle.desk_words.proofs.sought_conditions.conditions.Goals as goal

pub returns : goal.returns
returns c =
    let rows = rows_of (found_of c.args.found.now) in
    let key : Option Text = option_map (λ (w : Bor Text). w.now) c.value-key.result in
    let by = λ (k : Option Text). by_words (is_set (codes "within") rows) k (given (codes "WORDS") rows) in
    let last = λ (k : Option Text) (sought : List ConditionMeaning). key_used k (sought ++ by_options k rows) in
    let all = map sought_by c.put_options.new.all.items in
    let same : sought_in rows ≡ key_used key all =
    ap (λ k. and_then (by k) (last k)) (sym c.value-key.ensures)
    ∙ ap (λ r. and_then r (last key)) c.in_ok-all.ensures
    ∙ ap (key_used key) (sym c.in_ok-put_options.ensures) in
    let Says : Result (List ConditionMeaning) WordRefusal → Type 0 = λ wanted. GivesWanted (λ all. map sought_by all.items) wanted c.key_used.result in
    subst Says (sym same) c.key_used.ensures
