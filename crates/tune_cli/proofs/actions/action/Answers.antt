use Rattle.std.proofs.Common.{ap, map, option_map}
use Rattle.std.specs.Prelude.{string_bytes}
use Rattle.std.proofs.lemmas.Result.{IfOk-weaker, IfErr-weaker}
use Rattle.tune_cli.specs.CommandLine.{file_of}
use Rattle.tune_cli.proofs.ParseLemmas.{parses, subcommand_is_known, subcommand_named, file_given, file_is, fault_fits, no_subcommand}
use Rattle.tune_cli.proofs.actions.action.Goals as goal

pub asked-requires : goal.asked-requires
asked-requires c =
    let words = map string_bytes c.args.words.now in
    let p = parses _ words c.in-Ok.matches c.in_ok-command_line.ensures c.in-Ok.ensures.matches c.in-Ok.ensures.kinds in
    subcommand_is_known words c.in-Ok.matches c.in-Some.name.now p c.in-Some.ensures.name

pub returns-in-None-clause-fault : goal.returns-in-None-clause-fault
returns-in-None-clause-fault c =
    let words = map string_bytes c.args.words.now in
    let p = parses _ words c.in-Ok.matches c.in_ok-command_line.ensures c.in-Ok.ensures.matches c.in-Ok.ensures.kinds in
    let none = no_subcommand words c.in-Ok.matches p c.in-None.ensures.variant in
    (ap (option_map (λ q. q.0)) none, p.parsed)

pub returns-clause-parsed : goal.returns-clause-parsed
returns-clause-parsed c =
    let words = map string_bytes c.args.words.now in
    let p = parses _ words c.in-Ok.matches c.in_ok-command_line.ensures c.in-Ok.ensures.matches c.in-Ok.ensures.kinds in
    IfOk-weaker c.asked.result _ _ (λ action h. p.parsed) c.asked.ensures.name

pub returns-clause-file : goal.returns-clause-file
returns-clause-file c =
    let words = map string_bytes c.args.words.now in
    let p = parses _ words c.in-Ok.matches c.in_ok-command_line.ensures c.in-Ok.ensures.matches c.in-Ok.ensures.kinds in
    let given = file_given words c.in-Ok.matches c.in-Some.found.now c.get_str.result p c.in-Some.ensures.rows c.get_str.ensures in
    IfOk-weaker c.asked.result _ _ (λ action is. file_is words _ given (file_of action) is) c.asked.ensures.file

pub returns-clause-fault : goal.returns-clause-fault
returns-clause-fault c =
    let words = map string_bytes c.args.words.now in
    let p = parses _ words c.in-Ok.matches c.in_ok-command_line.ensures c.in-Ok.ensures.matches c.in-Ok.ensures.kinds in
    let given = file_given words c.in-Ok.matches c.in-Some.found.now c.get_str.result p c.in-Some.ensures.rows c.get_str.ensures in
    let name = subcommand_named words c.in-Ok.matches c.in-Some.name.now p c.in-Some.ensures.name in
    IfErr-weaker c.asked.result _ _ (fault_fits words c.in-Ok.matches c.in-Some.name.now c.get_str.result p name given) c.asked.ensures.fault
