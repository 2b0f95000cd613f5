use Rattle.std.proofs.Common.{refl, ◌≡◌, Ok, false, Result}
use Rattle.std.specs.Prelude.{IfOk}
use Rattle.tune_pages.specs.Kept.{HonestAt}
use Rattle.tune_archive.specs.AsStore.{store_on}
use Rattle.tune_archive.specs.Shelf.{state_of}
use Rattle.tune_store.specs.Step.{step}
use Rattle.tune_store.specs.declared.command.Command.TheVariants as command
use Rattle.desk_scenes.proofs.VisitLemmas.{only_asked, answered_if}
use Rattle.desk_orders.proofs.file_questions.shown.Goals as goal

pub returns-clause-asked : goal.returns-clause-asked
returns-clause-asked g c =
    only_asked (store_on g.D.Disk) c.args.archive.now c.apply.new.self (command.Show c.args.number) c.apply.result refl c.apply.ensures.answer
    c.apply.ensures.stops c.apply.ensures.quiet

pub returns-clause-told : goal.returns-clause-told
returns-clause-told g c =
    answered_if c.args.archive.now c.apply.new.self (store_on g.D.Disk) (command.Show c.args.number) c.apply.result c.apply.ensures.answer
