use Rattle.std.proofs.Common.{inl, inr, refl}
use Rattle.desk_changes.proofs.WorkLemmas.{works_asked, works_both, works_carried}
use Rattle.desk_changes.proofs.undone.number_stray.Goals as goal

pub returns-in_err-stray-clause-works : goal.returns-in_err-stray-clause-works
returns-in_err-stray-clause-works g c = works_asked g.D.Disk _ _ c.stray_of.ensures

pub returns-in_err-stray-clause-renumbers : goal.returns-in_err-stray-clause-renumbers
returns-in_err-stray-clause-renumbers g c = inl c.stray_of.ensures

pub returns-in_default-clause-works : goal.returns-in_default-clause-works
returns-in_default-clause-works g c = works_asked g.D.Disk _ _ c.stray_of.ensures

pub returns-in_default-clause-renumbers : goal.returns-in_default-clause-renumbers
returns-in_default-clause-renumbers g c = inl c.stray_of.ensures

pub returns-in_err-renumber-clause-works : goal.returns-in_err-renumber-clause-works
returns-in_err-renumber-clause-works g c =
    works_both g.D.Disk _ _ _ (works_asked g.D.Disk _ _ c.stray_of.ensures) (works_carried g.D.Disk _ _ _ _ c.renumber.ensures)

pub returns-in_err-renumber-clause-renumbers : goal.returns-in_err-renumber-clause-renumbers
returns-in_err-renumber-clause-renumbers g c = inr (_, _, _, _, tt, c.stray_of.ensures, c.renumber.ensures)

pub returns-clause-works : goal.returns-clause-works
returns-clause-works g c =
    works_both g.D.Disk _ _ _ (works_asked g.D.Disk _ _ c.stray_of.ensures) (works_carried g.D.Disk _ _ _ _ c.renumber.ensures)

pub returns-clause-renumbers : goal.returns-clause-renumbers
returns-clause-renumbers g c = inr (_, _, _, _, tt, c.stray_of.ensures, c.renumber.ensures)

pub returns-in_default-clause-accepted : goal.returns-in_default-clause-accepted
returns-in_default-clause-accepted g c = inl c.stray_of.ensures

pub returns-clause-accepted : goal.returns-clause-accepted
returns-clause-accepted g c = inr (_, _, _, _, (_, refl), c.stray_of.ensures, c.in_ok-renumber.ensures)
