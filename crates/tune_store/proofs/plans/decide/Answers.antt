-- Each change changes something.
use Rattle.std.proofs.Common.{◌≡◌, sym, rules, subst, Ok}
use Rattle.tune_store.specs.declared.command.Command.{Command}
use Rattle.tune_store.specs.declared.command.Command.TheVariants.{Upgrade}
use Rattle.tune_store.specs.Step.{step}
use Rattle.tune_store.specs.Plans.{Decides}
use Rattle.tune_store.specs.State.{State}
use Rattle.tune_store.proofs.ChangeLemmas.{AreOf, no_change}
use Rattle.tune_store.proofs.plans.decide.Goals as goal

pub returns-in-Import-clause-changes : goal.returns-in-Import-clause-changes
returns-in-Import-clause-changes g c = λ honest is stays.
    let state : State = g.C.Catalog.state c.args.catalog.now in
    let are : AreOf (g.C.Catalog.layout c.args.catalog.now) (g.C.Catalog.labels c.args.catalog.now) (g.C.Catalog.sets c.args.catalog.now) state = record {
      laid = g.met.C.Catalog.layout_is c.args.catalog.now honest;
      rises = is.tunes.rises;
      labelled = sym (g.met.C.Catalog.labels_are c.args.catalog.now honest);
      listed = g.met.C.Catalog.sets_are c.args.catalog.now honest;
    } in
    let planned = c.import.ensures.planned state is.tunes (g.met.C.Catalog.layout_is c.args.catalog.now honest) are.labelled in
    let decided : Decides state c.args.command.now c.import.result = search rules in
    no_change c.import.result state (step state c.args.command.now) _ _ _ are decided c.import.ensures.possible c.import.ensures.alters stays

pub returns-in-Replace-clause-changes : goal.returns-in-Replace-clause-changes
returns-in-Replace-clause-changes g c = λ honest is stays.
    let state : State = g.C.Catalog.state c.args.catalog.now in
    let are : AreOf (g.C.Catalog.layout c.args.catalog.now) (g.C.Catalog.labels c.args.catalog.now) (g.C.Catalog.sets c.args.catalog.now) state = record {
      laid = g.met.C.Catalog.layout_is c.args.catalog.now honest;
      rises = is.tunes.rises;
      labelled = sym (g.met.C.Catalog.labels_are c.args.catalog.now honest);
      listed = g.met.C.Catalog.sets_are c.args.catalog.now honest;
    } in
    let planned = c.replace.ensures.planned state is.tunes (g.met.C.Catalog.layout_is c.args.catalog.now honest) are.labelled in
    let decided : Decides state c.args.command.now c.replace.result = search rules in
    no_change c.replace.result state (step state c.args.command.now) _ _ _ are decided c.replace.ensures.possible c.replace.ensures.alters stays

pub returns-in-Delete-clause-changes : goal.returns-in-Delete-clause-changes
returns-in-Delete-clause-changes g c = λ honest is stays.
    let state : State = g.C.Catalog.state c.args.catalog.now in
    let are : AreOf (g.C.Catalog.layout c.args.catalog.now) (g.C.Catalog.labels c.args.catalog.now) (g.C.Catalog.sets c.args.catalog.now) state = record {
      laid = g.met.C.Catalog.layout_is c.args.catalog.now honest;
      rises = is.tunes.rises;
      labelled = sym (g.met.C.Catalog.labels_are c.args.catalog.now honest);
      listed = g.met.C.Catalog.sets_are c.args.catalog.now honest;
    } in
    let decided : Decides state c.args.command.now c.delete.result = search rules in
    no_change c.delete.result state (step state c.args.command.now) _ _ _ are decided c.delete.ensures.possible c.delete.ensures.alters stays

pub returns-in-Renumber-clause-changes : goal.returns-in-Renumber-clause-changes
returns-in-Renumber-clause-changes g c = λ honest is stays.
    let state : State = g.C.Catalog.state c.args.catalog.now in
    let are : AreOf (g.C.Catalog.layout c.args.catalog.now) (g.C.Catalog.labels c.args.catalog.now) (g.C.Catalog.sets c.args.catalog.now) state = record {
      laid = g.met.C.Catalog.layout_is c.args.catalog.now honest;
      rises = is.tunes.rises;
      labelled = sym (g.met.C.Catalog.labels_are c.args.catalog.now honest);
      listed = g.met.C.Catalog.sets_are c.args.catalog.now honest;
    } in
    let decided : Decides state c.args.command.now c.renumber.result = search rules in
    no_change c.renumber.result state (step state c.args.command.now) _ _ _ are decided c.renumber.ensures.possible c.renumber.ensures.alters stays

pub returns-in-SetNew-clause-changes : goal.returns-in-SetNew-clause-changes
returns-in-SetNew-clause-changes g c = λ honest is stays.
    let state : State = g.C.Catalog.state c.args.catalog.now in
    let are : AreOf (g.C.Catalog.layout c.args.catalog.now) (g.C.Catalog.labels c.args.catalog.now) (g.C.Catalog.sets c.args.catalog.now) state = record {
      laid = g.met.C.Catalog.layout_is c.args.catalog.now honest;
      rises = is.tunes.rises;
      labelled = sym (g.met.C.Catalog.labels_are c.args.catalog.now honest);
      listed = g.met.C.Catalog.sets_are c.args.catalog.now honest;
    } in
    let decided : Decides state c.args.command.now c.set_new.result = search rules in
    no_change c.set_new.result state (step state c.args.command.now) _ _ _ are decided c.set_new.ensures.possible c.set_new.ensures.alters stays

pub returns-in-SetAdd-clause-changes : goal.returns-in-SetAdd-clause-changes
returns-in-SetAdd-clause-changes g c = λ honest is stays.
    let state : State = g.C.Catalog.state c.args.catalog.now in
    let are : AreOf (g.C.Catalog.layout c.args.catalog.now) (g.C.Catalog.labels c.args.catalog.now) (g.C.Catalog.sets c.args.catalog.now) state = record {
      laid = g.met.C.Catalog.layout_is c.args.catalog.now honest;
      rises = is.tunes.rises;
      labelled = sym (g.met.C.Catalog.labels_are c.args.catalog.now honest);
      listed = g.met.C.Catalog.sets_are c.args.catalog.now honest;
    } in
    let decided : Decides state c.args.command.now c.set_add.result = search rules in
    no_change c.set_add.result state (step state c.args.command.now) _ _ _ are decided c.set_add.ensures.possible c.set_add.ensures.alters stays

pub returns-in-SetCut-clause-changes : goal.returns-in-SetCut-clause-changes
returns-in-SetCut-clause-changes g c = λ honest is stays.
    let state : State = g.C.Catalog.state c.args.catalog.now in
    let are : AreOf (g.C.Catalog.layout c.args.catalog.now) (g.C.Catalog.labels c.args.catalog.now) (g.C.Catalog.sets c.args.catalog.now) state = record {
      laid = g.met.C.Catalog.layout_is c.args.catalog.now honest;
      rises = is.tunes.rises;
      labelled = sym (g.met.C.Catalog.labels_are c.args.catalog.now honest);
      listed = g.met.C.Catalog.sets_are c.args.catalog.now honest;
    } in
    let decided : Decides state c.args.command.now c.set_cut.result = search rules in
    no_change c.set_cut.result state (step state c.args.command.now) _ _ _ are decided c.set_cut.ensures.possible c.set_cut.ensures.alters stays

pub returns-in-SetDrop-clause-changes : goal.returns-in-SetDrop-clause-changes
returns-in-SetDrop-clause-changes g c = λ honest is stays.
    let state : State = g.C.Catalog.state c.args.catalog.now in
    let are : AreOf (g.C.Catalog.layout c.args.catalog.now) (g.C.Catalog.labels c.args.catalog.now) (g.C.Catalog.sets c.args.catalog.now) state = record {
      laid = g.met.C.Catalog.layout_is c.args.catalog.now honest;
      rises = is.tunes.rises;
      labelled = sym (g.met.C.Catalog.labels_are c.args.catalog.now honest);
      listed = g.met.C.Catalog.sets_are c.args.catalog.now honest;
    } in
    let decided : Decides state c.args.command.now c.set_drop.result = search rules in
    no_change c.set_drop.result state (step state c.args.command.now) _ _ _ are decided c.set_drop.ensures.possible c.set_drop.ensures.alters stays

pub returns-in-Upgrade-clause-changes : goal.returns-in-Upgrade-clause-changes
returns-in-Upgrade-clause-changes g c = λ honest is stays.
    let state : State = g.C.Catalog.state c.args.catalog.now in
    let laid = g.met.C.Catalog.layout_is c.args.catalog.now honest in
    let are : AreOf (g.C.Catalog.layout c.args.catalog.now) (g.C.Catalog.labels c.args.catalog.now) (g.C.Catalog.sets c.args.catalog.now) state = record {
      laid = laid;
      rises = is.tunes.rises;
      labelled = sym (g.met.C.Catalog.labels_are c.args.catalog.now honest);
      listed = g.met.C.Catalog.sets_are c.args.catalog.now honest;
    } in
    let it : c.args.command.now ≡ Upgrade = search rules in
    let same = subst (λ (command : Command). (step state command).0 ≡ state) it stays in
    no_change (Ok c.upgrade.result) state (step state Upgrade) _ _ _ are (c.upgrade.ensures.planned state laid) c.upgrade.ensures.possible
    c.upgrade.ensures.alters same
