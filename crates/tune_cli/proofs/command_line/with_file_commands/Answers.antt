use Rattle.std.proofs.Common.{◌≡◌, ◌∙◌, ◌+◌, ap, arith, fold, length, map, suc, take}
use Rattle.std.proofs.Math.Seq.{take-length}
use Rattle.clap.specs.Words.{app_of}
use Rattle.tune_cli.specs.CommandLine.{file_app, with_more}
use Rattle.tune_cli.proofs.CommandLineLemmas.{app_of_more, next_in_turn}
use Rattle.tune_cli.proofs.command_line.with_file_commands.Goals as goal

pub loop-row-preserved : goal.loop-row-preserved
loop-row-preserved c =
    let index = c.loop-row.row-index in
    let next : suc index ≡ index + 1 = omega arith in
    app_of_more _ _ _ _ _ c.loop-row.invariant c.in_ok-file_command.ensures.app c.in_ok-file_command.ensures.local c.in_ok-all.ensures
    ∙ next_in_turn with_more (λ row. file_app row.0.now) (app_of c.args.command) c.args.rows.now index _ c.loop-row-test.true
    ∙ ap (λ count. fold with_more (app_of c.args.command) (map (λ row. file_app row.0.now) (take count c.args.rows.now))) next

pub returns : goal.returns
returns c =
    let rows = c.args.rows.now in
    let all : c.loop-row.row-index ≡ length rows = omega (arith, c.loop-row.auto.row-index-end, c.loop-row-test.false) in
    c.loop-row.invariant
    ∙ ap (λ index. fold with_more (app_of c.args.command) (map (λ row. file_app row.0.now) (take index rows))) all
    ∙ ap (λ taken. fold with_more (app_of c.args.command) (map (λ row. file_app row.0.now) taken)) (take-length rows)
