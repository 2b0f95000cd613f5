use Rattle.std.proofs.Common.{◌≡◌, Err, refl, rules}
use Rattle.tune_store.proofs.list_archive.carry_out.Goals as goal
use Rattle.tune_store.proofs.list_archive.carry_out.Goals.{in-Some+in_ok-make, in_default}

pub returns-in_err-make : goal.returns-in_err-make
returns-in_err-make c =
    let made = c.in_err-make.ensures in
    let answer : c.from_residual.result ≡ Err c.in_err-make.field-0.0 = search rules in
    rw answer (made.0, made.1, rw c.in-Some.is made.2)

pub returns : goal.returns
returns c = elim c.match-change.branch [
  | in-Some+in_ok-make w ↦ (refl, rw (w.layout-is, w.tunes-is, w.sets-is, w.in-Some.is) w.in_ok-make.ensures)
  | in_default w ↦ (refl, rw (w.layout-is, w.tunes-is, w.sets-is, w.in_default.is) refl)
]
