use Rattle.std.proofs.Common.{◌≡◌, [], inl, inr, rules, subst}
use Rattle.tune_scripts.specs.Streams.{streams_in}
use Rattle.desk_scenes.specs.Printing.{Prints}
use Rattle.desk_changes.proofs.TellingLemmas.{tells_all}
use Rattle.desk_changes.proofs.taking_back.undo_some.Goals as goal

pub returns-in-Ok-clause-undoes : goal.returns-in-Ok-clause-undoes
returns-in-Ok-clause-undoes g c =
    let none : c.new-told.result.items ≡ [] = search rules in
    let same : c.as_slice.result.now ≡ c.undo_in_file-done.new.told.items = search rules in
    inl (
      _,
      tells_all _ _ _ none c.in-Ok.ensures.undoes,
      subst (λ bytes. Prints (streams_in g.C.Console c.args.standard.now.console c.print-printed.new.standard.console) bytes c.print-printed.result) same
          c.print-printed.ensures,
    )

pub returns-clause-undoes : goal.returns-clause-undoes
returns-clause-undoes g c = inr (c.say_not_undone.ensures, c.in-Err.ensures.undoes)
