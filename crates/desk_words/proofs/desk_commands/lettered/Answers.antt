use Rattle.std.specs.Prelude.{Some}
use Rattle.clap.specs.Words.{new_rule}
use Rattle.desk_words.specs.Inside.CommandTable.{lettered_rule}
use Rattle.desk_words.specs.Inside.Commands.{HasRule}
use Rattle.desk_words.proofs.CommandLemmas.{rule_help, rule_short, rule_value}
use Rattle.desk_words.proofs.desk_commands.lettered.Goals as goal

pub returns : goal.returns
returns c =
    let plain = new_rule c.args.name.now in
    let short = record plain { short = Some c.args.letter } in
    let made : HasRule c.new.result plain = record { rule_is = c.new.ensures.rule; own = c.new.ensures.optional.1 } in
    let with_letter : HasRule c.short.result short = rule_short _ _ plain _ made c.short.ensures in
    let with_name : HasRule c.value_name.result (lettered_rule c.args.name.now c.args.letter) = rule_value _ _ short _ with_letter c.value_name.ensures in
    rule_help _ _ _ _ with_name c.help.ensures
