-- What the calls come to that put a text in the place of a tune.
use Rattle.std.specs.Prelude.{◌≡◌, ℕ, List, Result, Err, IfOk}
use Rattle.std.specs.Global.{Vec}
use Rattle.tune_disk.specs.declared.disk.Disk as disk
use Rattle.tune_asking.specs.AskingCalls.{Meaning}
use Rattle.tune_changes.specs.Planning.{planned_replace}
use Rattle.tune_undo.specs.declared.old_entries.EntryKind.TheVariants as kind
use Rattle.desk_changes.specs.ChangedFiles.{Passage}
use Rattle.desk_changes.specs.Inside.Turning.{Alters, AltersFile, Stretch}
use Rattle.desk_changes.specs.ReplacedTunes.{ReplacesByTurns}
use Rattle.desk_changes.specs.declared.replacing.Replacement.{Replacement}
use Rattle.desk_changes.specs.declared.replacing.ToldTurns.{ToldTurns}

-- turns and a line are what a replacement comes to
abbrev pub told_turns : Replacement → Meaning ToldTurns
told_turns what = record {
  good = λ state told. ReplacesByTurns what told.line.items state told.turns.items;
  refused = λ state refusal.
      planned_replace what.number what.revision what.text state ≡ Err refusal;
}

-- A replacement was brought about behind a look, and the line that tells of it is given.
abbrev pub ReplacesIn : {D A : Type 0} → disk.Ghosts D → List ℕ → Replacement → Result (Vec ℕ) A
    → Passage D → Type 0
ReplacesIn disks file what result course = (line : List ℕ)
    × Alters disks file kind.Replace (ReplacesByTurns what line) result course
    × IfOk result (λ told. told.items ≡ line)

-- The same in FILE, which was opened to change and closed; or it was not opened.
abbrev pub ReplacesInFile : {D A : Type 0} → disk.Ghosts D → List ℕ → Replacement
    → Result (Vec ℕ) A → Stretch D → Type 0
ReplacesInFile disks file what result stretch = (line : List ℕ)
    × AltersFile disks file kind.Replace (ReplacesByTurns what line) result stretch
    × IfOk result (λ told. told.items ≡ line)
