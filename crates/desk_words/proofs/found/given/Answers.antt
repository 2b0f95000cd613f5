use Rattle.std.proofs.Common.{◌≡◌, ◌∙◌, ap, sym, [], ◌++◌, Option, Some, None, map, option_map, Bor, List}
use Rattle.std.specs.Prelude.{unwrap_or}
use Rattle.clap.specs.Words.{Text, all_of, found_of, rows_of}
use Rattle.clap.proofs.WalkLemmas.{raw_values-rows}
use Rattle.desk_words.specs.Inside.Sorting.{texts_behind}
use Rattle.desk_words.proofs.found.given.Goals as goal

abbrev texts_in : Option (Bor (List (Bor Text))) → Option (List Text)
texts_in = option_map (λ s. map (λ v. v.now) s.now)

pub returns-in_ok-put_all-in-Some : goal.returns-in_ok-put_all-in-Some
returns-in_ok-put_all-in-Some c =
    let f = found_of c.args.found.now in
    let id = c.args.id.now in
    let words = c.in-Some.words.now in
    let all : texts_in c.get_strs.result ≡ all_of id (rows_of f) = c.get_strs.ensures ∙ raw_values-rows f id in
    let some : Some (texts_behind words) ≡ all_of id (rows_of f) = ap texts_in (sym c.in-Some.is) ∙ all in
    c.in_ok-put_all-in-Some.ensures ∙ ap (λ xs. texts_behind xs ++ texts_behind words) c.new-all.ensures.items ∙ ap (λ o. unwrap_or o []) some

pub returns-in-None : goal.returns-in-None
returns-in-None c =
    let f = found_of c.args.found.now in
    let id = c.args.id.now in
    let all : texts_in c.get_strs.result ≡ all_of id (rows_of f) = c.get_strs.ensures ∙ raw_values-rows f id in
    let none : None ≡ all_of id (rows_of f) = ap texts_in (sym c.in-None.is) ∙ all in
    ap texts_behind c.new-all.ensures.items ∙ ap (λ o. unwrap_or o []) none
