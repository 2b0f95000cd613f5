-- What an order comes to, by its parts.
use Rattle.std.proofs.Common.{◌≡◌, ◌≢◌, ◌⊎◌, inl, inr, ℕ, List, [], ◌∷◌, ◌++◌, refl, sym, ◌∙◌, ap, append-nil, append_assoc}
use Rattle.std.specs.List.{AllByRecursion}
use Rattle.tune_disk.specs.declared.disk.Disk as disk
use Rattle.tune_store.specs.State.{State}
use Rattle.tune_archive.specs.declared.archive.Counts.{Counts}
use Rattle.tune_scripts.specs.Replies.{line_of}
use Rattle.tune_scripts.specs.Streams.{Streams}
use Rattle.tune_cli.specs.ProgramLines.{counts_bytes}
use Rattle.tune_desk.specs.DeskDeeds.{DeskDeed, ChangesNothing}
use Rattle.desk_scenes.specs.FileAnswers.{Did, IsAsked}
use Rattle.desk_scenes.specs.OpenedFile.{CountsOf}
use Rattle.desk_scenes.specs.Scenes.{Scene}
use Rattle.desk_orders.specs.Orders.{TellsAnswer}
use Rattle.desk_scenes.specs.Printing.{PrintsOrNot}

-- COUNTS
counts_are : (counts : Counts) (state : State) → CountsOf counts state → line_of counts.layout counts.tunes counts.sets ≡ counts_bytes state
counts_are counts state h = rw (h.layout, h.tunes, h.sets) refl

pub checks : {D : Type 0} (disks : disk.Ghosts D) (file : List ℕ) (counts : Counts) (scene : Scene D)
    → Did scene.was scene.now (IsAsked disks file (CountsOf counts))
    → PrintsOrNot scene.streams (line_of counts.layout counts.tunes counts.sets) scene.status
    → TellsAnswer disks file (λ state bytes. bytes ≡ counts_bytes state) scene
checks disks file counts scene asked (inl prints) = inl (
  line_of counts.layout counts.tunes counts.sets,
  (
    asked.0,
    asked.1,
    record {
      visited = asked.2.visited;
      told = λ honest. (let told = asked.2.told honest in (told.0, told.1, counts_are counts told.0 told.2));
    },
  ),
  prints,
)
checks disks file counts scene asked (inr none) = inr ((asked.0, asked.1, inr asked.2.visited), none.0, none.1)
