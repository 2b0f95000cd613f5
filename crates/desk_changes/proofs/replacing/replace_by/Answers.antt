use Rattle.std.proofs.Common.{◌∙◌, inl, inr, refl, subst}
use Rattle.tune_scripts.specs.Streams.{streams_in}
use Rattle.desk_scenes.specs.Printing.{WritesOrFails}
use Rattle.desk_changes.proofs.replacing.replace_by.Goals as goal

pub returns-in-Ok-clause-replaces : goal.returns-in-Ok-clause-replaces
returns-in-Ok-clause-replaces g c =
    let done = c.in-Ok.ensures.replaces in
    let streams = streams_in g.C.Console c.args.standard.now.console c.print.new.standard.console in (
      done.0,
      0,
      inl (refl, done.1),
      inl (refl, subst (λ line. WritesOrFails streams line c.print.result) (c.as_slice.ensures.value ∙ done.2) c.print.ensures.1),
    )

pub returns-in-Err-clause-replaces : goal.returns-in-Err-clause-replaces
returns-in-Err-clause-replaces g c =
    let done = c.in-Err.ensures.replaces in
    (done.0, c.say_unreplaced.result, inr (c.say_unreplaced.ensures, done.1), inr (c.say_unreplaced.ensures, refl, refl))
