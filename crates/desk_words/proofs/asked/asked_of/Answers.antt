use Rattle.clap.specs.Words.{found_of, rows_of, subcommand_rows_of}
use Rattle.desk_words.specs.Inside.Sorting.{texts_behind}
use Rattle.desk_words.specs.AskedWords.{asked_in, asked_of}
use Rattle.desk_words.proofs.ParseLemmas.{always, asks, fails, fits, parses, same_asked}
use Rattle.desk_words.proofs.asked.asked_of.Goals as goal

pub returns-in-Ok-clause-asked : goal.returns-in-Ok-clause-asked
returns-in-Ok-clause-asked c =
    let words = texts_behind c.args.words.now in
    let m = c.in-Ok.matches in
    let p = parses _ words m c.in_ok-command_line.ensures c.in-Ok.ensures.matches c.in-Ok.ensures.kinds in
    let wanted = asked_in c.args.chance (rows_of (found_of m)) (subcommand_rows_of m) in
    asks wanted (asked_of c.args.chance words) c.asked_in.result (same_asked c.args.chance words m p) c.asked_in.ensures

pub returns-in-Ok-clause-parsed : goal.returns-in-Ok-clause-parsed
returns-in-Ok-clause-parsed c =
    let words = texts_behind c.args.words.now in
    let m = c.in-Ok.matches in
    let p = parses _ words m c.in_ok-command_line.ensures c.in-Ok.ensures.matches c.in-Ok.ensures.kinds in
    always c.asked_in.result _ p.parsed

pub returns-in-Ok-clause-fault : goal.returns-in-Ok-clause-fault
returns-in-Ok-clause-fault c =
    let words = texts_behind c.args.words.now in
    let m = c.in-Ok.matches in
    let p = parses _ words m c.in_ok-command_line.ensures c.in-Ok.ensures.matches c.in-Ok.ensures.kinds in
    let wanted = asked_in c.args.chance (rows_of (found_of m)) (subcommand_rows_of m) in
    fits c.args.chance words wanted c.asked_in.result p.parsed (same_asked c.args.chance words m p) c.asked_in.ensures

pub returns-in-Err-clause-fault : goal.returns-in-Err-clause-fault
returns-in-Err-clause-fault c =
    fails _ (texts_behind c.args.words.now) c.in-Err.error c.in_ok-command_line.ensures c.in-Err.ensures.kinds
