use Rattle.std.proofs.Common.{refl}
use Rattle.tune_changes.proofs.CarryLemmas.{partly_none, carries_no_memory}
use Rattle.desk_changes.proofs.undone.restore.Goals as goal

pub returns-in_default : goal.returns-in_default
returns-in_default g c = carries_no_memory g.S.TuneStore _ _ _ _ _ (partly_none g.S.TuneStore _ _ _ (λ is_open h. refl)) refl
