use Rattle.std.proofs.Common.{refl, ap, Some}
use Rattle.tune_scripts.proofs.CarriedLemmas.{honest_before}
use Rattle.desk_loads.proofs.FillLemmas.{ok_by, holds_script}
use Rattle.desk_loads.proofs.filling.fill_archive.Goals as goal

pub returns-in-Ok : goal.returns-in-Ok
returns-in-Ok g c = λ is_open empty.
    let start = c.args.archive in
    let finish = c.run-end.new.store in
    let bytes = c.run-end.new.console.replies.bytes.items in
    ok_by (λ filled shows met.
    let at_end = shows.was_honest met in
    let runs = c.run-end.ensures.runs at_end in
    let at_start = honest_before _ runs.carried _ _ runs.carries_out at_end in
    holds_script g.D.Disk start finish _ c.args.script.now bytes c.run-end.result _ filled (ap Some c.new-console.ensures.rest)
    (ap Some c.new-console.ensures.none) refl runs is_open (empty at_start) c.in-Ok.ensures.0 c.in-Ok.ensures.1 shows met)
    c.look_over.result.outcome c.look_over.ensures
