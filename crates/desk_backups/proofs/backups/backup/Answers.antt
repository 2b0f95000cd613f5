use Rattle.std.proofs.Common.{◌≡◌, ℕ, List, refl, inl, inr, subst, sym, Option, string_bytes}
use Rattle.tune_disk.specs.declared.disk.Disk as disk
use Rattle.tune_scripts.specs.Streams.{Streams}
use Rattle.tune_desk.specs.DeskDeeds.{DeskDeed}
use Rattle.desk_backups.specs.Backups.{BacksUp, TellsCopyName}
use Rattle.desk_backups.proofs.CopyLemmas.{nothing_done}
use Rattle.desk_backups.proofs.backups.backup.Goals as goal

-- the name of the copy that was made was told
module _ {D : Type 0} (disks : disk.Ghosts D) (file copy : List ℕ) (keep : Option ℕ) (was now : List (DeskDeed D)) where
  told_done : (number status : ℕ) (streams : Streams) (both : (done : BacksUp disks file copy keep was now) × (done.number ≡ number))
      → TellsCopyName copy number streams status → (done : BacksUp disks file copy keep was now) × TellsCopyName copy done.number streams status
  told_done number status streams both told = (both.0, subst (λ n. TellsCopyName copy n streams status) (sym both.1) told)

pub returns-then-eq-clause-files : goal.returns-then-eq-clause-files
returns-then-eq-clause-files g c = nothing_done g.D.Disk (string_bytes c.args.file.now) (string_bytes c.args.copy.now) c.args.keep _

pub returns-in-Ok-clause-backs_up : goal.returns-in-Ok-clause-backs_up
returns-in-Ok-clause-backs_up g c = inl (told_done g.D.Disk (string_bytes c.args.file.now) (string_bytes c.args.copy.now) c.args.keep _ _
    c.in-Ok.named.number c.tell_name.result _ c.in-Ok.ensures.backs_up (c.tell_name.ensures (string_bytes c.args.copy.now) c.in-Ok.ensures.named))

pub returns-in-Err-clause-backs_up : goal.returns-in-Err-clause-backs_up
returns-in-Err-clause-backs_up g c = inr ((refl, refl), c.say_unbacked.ensures)
