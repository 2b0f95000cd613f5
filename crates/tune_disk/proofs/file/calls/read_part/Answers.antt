use Rattle.std.proofs.Common.{◌∙◌, ◌-◌, ◌++◌, ◌∷◌, [], ℕ, List, ap, get_or, length}
use Rattle.tune_disk.proofs.Overwrites.{same_byte}
use Rattle.tune_disk.specs.declared.file.told.Told.{Told}
use Rattle.tune_disk.specs.declared.file.told.Told.TheVariants.{Ended}
use Rattle.tune_disk.proofs.Told.{read_ended}
use Rattle.tune_disk.proofs.file.calls.read_part.Goals as goal

pub returns-in-Ok-eq0-clause-ok : goal.returns-in-Ok-eq0-clause-ok
returns-in-Ok-eq0-clause-ok c =
    read_ended c.args.at (length c.clear_from.new.into) c.clear_from.new.into c.args.log.now.items c.and.result.items
    (c.and.ensures ∙ ap (λ (l : List (ℕ × Told)). l ++ (c.args.at, Ended) ∷ []) c.loop.invariant)
    (λ k. ap (λ (l : List ℕ). get_or l k 0) c.clear_from.ensures ∙ same_byte (length c.read_at.new.buf - 0) k 0)
