-- A look that failed behind one that went well.
use Rattle.std.proofs.Common.{ℕ, Ok, Err}
use Rattle.tune_disk.specs.Disk.{DiskState}
use Rattle.tune_pages.specs.Kept.{Kept}
use Rattle.tune_pages.specs.PageLooks.{LooksAt}
use Rattle.tune_pages.specs.declared.fault.Fault.{Fault}
use Rattle.tune_pages.proofs.Looking.{look_next}

-- whatever the answer would have been
pub look_fails : {D T U V : Type 0} (honest : D → Type 0) (failures : D → ℕ) (state : D → DiskState) (x : T) (fault : Fault) (a b c : Kept D)
    → LooksAt {T = T} honest failures state (Ok x) a b → LooksAt {T = U} honest failures state (Err fault) b c
    → LooksAt {T = V} honest failures state (Err fault) a c
look_fails honest failures state x fault a b c one two = look_next honest failures state x (Err fault) a b c one
    (record { was_honest = two.was_honest; same_state = two.same_state; counted = two.counted; same = two.same })
