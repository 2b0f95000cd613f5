use Rattle.std.proofs.Common.{subst, sym, Result}
use Rattle.clap.specs.Words.{found_of, rows_of}
use Rattle.desk_words.specs.WordAnswers.{GivesWanted, WordRefusal}
use Rattle.desk_words.specs.OrderMeanings.{OrderMeaning, meaning_by}
use Rattle.desk_words.proofs.ParseLemmas.{order_named}
use Rattle.desk_words.proofs.asked.order_in.Goals as goal

pub returns-in-Some : goal.returns-in-Some
returns-in-Some c =
    let rows = rows_of (found_of c.in-Some.found.now) in
    let same = order_named c.args.chance c.args.matches.now c.in-Some.name.now rows c.in-Some.ensures.name c.in-Some.ensures.rows in
    let Says : Result OrderMeaning WordRefusal → Type 0 = λ wanted. GivesWanted meaning_by wanted c.order_named.result in
    subst Says (sym same) c.order_named.ensures
