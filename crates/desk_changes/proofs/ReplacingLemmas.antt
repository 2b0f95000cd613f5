-- A replacement, by its parts: the book, what it comes to, and what is printed.
use Rattle.std.proofs.Common.{◌≡◌, inl, inr, ℕ, List, Option, Some, None, Err, refl, ap, ◌∙◌, subst}
use Rattle.std.specs.Prelude.{IfSome, codes}
use Rattle.tune_disk.specs.declared.disk.Disk as disk
use Rattle.tune_store.specs.State.{State, tune_at}
use Rattle.tune_store.specs.declared.tune.Tune.{Tune}
use Rattle.tune_store.specs.declared.command.Refusal.{Refusal}
use Rattle.tune_store.specs.declared.command.Refusal.TheVariants.{Unknown}
use Rattle.tune_scripts.specs.Consoles.{OutputTold}
use Rattle.tune_scripts.specs.Streams.{Streams, streams_in}
use Rattle.tune_scripts.specs.declared.console.Console as console
use Rattle.tune_asking.specs.AskingCalls.{tune_or, tune_told}
use Rattle.tune_changes.specs.Planning.{one_turn, planned_replace, text_replaced}
use Rattle.tune_desk.specs.DeskDeeds.{DeskDeed}
use Rattle.desk_scenes.specs.Printing.{ReadsAll, WritesOrFails}
use Rattle.desk_scenes.specs.Scenes.{Scene}
use Rattle.desk_changes.specs.ReplacedTunes.{IsBookOf, ReadsOneBook, ReadsText, ReplacesText}
use Rattle.desk_changes.specs.declared.replacing.Replacement.{Replacement}

-- THE BOOK
-- standard input, as a book
pub input_is_book : {D : Type 0} (path : List ℕ) (result : Option (List ℕ)) (streams : Streams) (was : List (DeskDeed D)) → path ≡ codes "-"
    → IfSome result (ReadsAll streams) → IfSome result (λ book. ReadsOneBook path book streams was was)
input_is_book path None streams was dash reads = tt
input_is_book path (Some book) streams was dash reads = inl (dash, reads, refl)

-- the text of a book that was read
pub text_is_read : {D : Type 0} (path book : List ℕ) (result : Option (List ℕ)) (streams : Streams) (was now : List (DeskDeed D))
    → ReadsOneBook path book streams was now → IfSome result (λ text. IsBookOf text book) → IfSome result (λ text. ReadsText path text streams was now)
text_is_read path book None streams was now reads is = tt
text_is_read path book (Some text) streams was now reads is = (book, reads, is)

-- of a console from which nothing was read since
pub reads_on : {C D : Type 0} (kept : console.Ghosts C) (path text : List ℕ) (old mid new : C) (was now : List (DeskDeed D))
    → kept.input new ≡ kept.input mid → ReadsText path text (streams_in kept old mid) was now → ReadsText path text (streams_in kept old new) was now
reads_on kept path text old mid new was now same (book, inl (dash, all, e), is) = (book, inl (dash, all, e), is)
reads_on kept path text old mid new was now same (book, inr (other, still, e), is) = (book, inr (other, same ∙ still, e), is)

-- WHAT IT COMES TO
-- no tune has the number
unknown_by : (number : ℕ) (revision : Option ℕ) (text : List ℕ) (there : Option Tune) (refusal : Refusal) → tune_or number there ≡ Err refusal
    → one_turn (text_replaced number revision text there) ≡ Err refusal
unknown_by number revision text None refusal e = (let same : Unknown number ≡ refusal = cc in ap (λ r. Err r) same)
unknown_by number revision text (Some tune) refusal e = absurd cc

pub unknown_planned : (number : ℕ) (revision : Option ℕ) (text : List ℕ) (state : State) (refusal : Refusal) → tune_told number state ≡ Err refusal
    → planned_replace number revision text state ≡ Err refusal
unknown_planned number revision text state refusal e = unknown_by number revision text (tune_at number state.tunes) refusal e

-- WHAT IS PRINTED
module _ {D : Type 0} (disks : disk.Ghosts D) (file : List ℕ) (what : Replacement) where
  -- what a console shows between two moments, while this was done
  abbrev pub scene_of : {C : Type 0} → console.Ghosts C → C → C → List (DeskDeed D) → List (DeskDeed D) → ℕ → Scene D
  scene_of kept old new was now status = record { streams = streams_in kept old new; was = was; now = now; status = status }

  -- of a console to which nothing was written before
  pub prints_after : {C : Type 0} (kept : console.Ghosts C) (old mid new : C) (was now : List (DeskDeed D)) (status : ℕ)
      → kept.output mid ≡ kept.output old → ReplacesText disks file what (scene_of kept mid new was now status)
      → ReplacesText disks file what (scene_of kept old new was now status)
  prints_after kept old mid new was now status same (line, changed, changes, inl (done, written)) = (
    line,
    changed,
    changes,
    inl (
      done,
      subst (λ (out : OutputTold). WritesOrFails (record {
        input = record { was = kept.input old; now = kept.input new };
        output = record { was = out; now = kept.output new };
      }) line status) same written,
    ),
  )
  prints_after kept old mid new was now status same (line, changed, changes, inr (not_done, nothing, is)) =
      (line, changed, changes, inr (not_done, nothing ∙ same, is))
