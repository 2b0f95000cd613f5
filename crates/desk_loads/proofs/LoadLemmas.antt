-- A script that is read, and the archive that is put.
use Rattle.std.proofs.Common.{◌≡◌, ◌≢◌, ◌⊎◌, inl, inr, ℕ, List, [], ◌∷◌, ◌++◌, refl, sym, ap, ◌∙◌, subst, None, false, Ok, Err}
use Rattle.std.specs.List.{AllByRecursion}
use Rattle.std.proofs.lemmas.List.{append-nil, append_assoc}
use Rattle.tune_disk.specs.declared.disk.Disk as disk
use Rattle.tune_archive.specs.declared.archive.Counts.{Counts}
use Rattle.tune_scripts.specs.Consoles.{InputTold, OutputTold}
use Rattle.tune_scripts.specs.Replies.{line_of}
use Rattle.tune_scripts.specs.Streams.{Streams}
use Rattle.tune_undo.specs.EntryBytes.{entry_bytes}
use Rattle.tune_undo.specs.declared.old_entries.Part.{Part}
use Rattle.tune_desk.specs.ArchiveFiles.{KeepsEntry, IsBegunArchiveBy, MakesNoneBy}
use Rattle.tune_desk.specs.DeskDeeds.{DeskDeed, ChangesNothing, grown, read}
use Rattle.tune_desk.specs.OldTexts.{Grows, GrowsNot}
use Rattle.tune_desk.specs.Results.{Places, SparesFiles, old_of, result_places}
use Rattle.tune_desk.specs.declared.desk.DeskFault.{DeskFault}
use Rattle.tune_desk.proofs.EntryLemmas.{archive_kept}
use Rattle.tune_desk.proofs.SpareLemmas.{quiet_all, spares_both, spares_reading}
use Rattle.desk_scenes.specs.Printing.{PrintsOrNot, WritesNothing, WritesOrFails}
use Rattle.desk_scenes.specs.Scenes.{IsQuiet}
use Rattle.desk_scenes.proofs.QuietLemmas.{all_both}
use Rattle.desk_copies.proofs.RestoreLemmas.{makes_before, none_before}
use Rattle.desk_loads.specs.LoadedScripts.{KeepsLoad, Loads, PutsScript, ReadsScript, entry_of_load}

-- THE ENTRY
pub keeps_none : {D : Type 0} (file : List ℕ) (parts : List Part) (was : List (DeskDeed D)) → parts ≡ [] → KeepsLoad file parts was was
keeps_none file [] was none = refl
keeps_none file (part ∷ parts) was none = absurd cc

pub keeps_some : {D : Type 0} (file : List ℕ) (parts : List Part) (was now : List (DeskDeed D)) → parts ≢ []
    → Grows file (entry_bytes (entry_of_load parts)) was now → KeepsLoad file parts was now
keeps_some file [] was now some grows = absurd (some refl)
keeps_some file (part ∷ parts) was now some grows = grows

pub grows_none : {D : Type 0} (file : List ℕ) (was : List (DeskDeed D)) → GrowsNot file was was
grows_none file was = record { asked = []; tried = []; history = sym (append-nil was); changes_nothing = tt; failed = inl refl }

-- after questions alone
pub spares_asked : {D : Type 0} (places : Places) (was now : List (DeskDeed D)) → IsQuiet was now → SparesFiles places was now
spares_asked places was now quiet =
    subst (SparesFiles places was) (sym quiet.1) (spares_reading places was quiet.0 (quiet_all places quiet.0 quiet.2))

pub grows_not_asked : {D : Type 0} (file : List ℕ) (was now : List (DeskDeed D)) → IsQuiet was now → GrowsNot file was now
grows_not_asked file was now quiet = record {
  asked = quiet.0;
  tried = [];
  history = quiet.1 ∙ ap (λ l. was ++ l) (sym (append-nil quiet.0));
  changes_nothing = quiet.2;
  failed = inl refl;
}

-- and then an entry was kept, or not
module _ {D : Type 0} (file : List ℕ) (was mid now : List (DeskDeed D)) (quiet : IsQuiet was mid) where
  pub spares_later : SparesFiles (result_places file None false) mid now → SparesFiles (result_places file None false) was now
  spares_later spares = let places = result_places file None false in spares_both places was mid now (spares_asked places was mid quiet) spares

  pub grows_later : (bytes : List ℕ) → Grows file bytes mid now → Grows file bytes was now
  grows_later bytes h = let deed = grown (old_of file) h.piece (Ok tt) in record {
    asked = quiet.0 ++ h.asked;
    piece = h.piece;
    history = h.history ∙ ap (λ l. l ++ (h.asked ++ deed ∷ [])) quiet.1 ∙ append_assoc was quiet.0 (h.asked ++ deed ∷ [])
        ∙ ap (λ l. was ++ l) (sym (append_assoc quiet.0 h.asked (deed ∷ [])));
    changes_nothing = all_both ChangesNothing quiet.0 h.asked quiet.2 h.changes_nothing;
    is_piece = h.is_piece;
  }

  pub grows_not_later : GrowsNot file mid now → GrowsNot file was now
  grows_not_later h = record {
    asked = quiet.0 ++ h.asked;
    tried = h.tried;
    history = h.history ∙ ap (λ l. l ++ (h.asked ++ h.tried)) quiet.1 ∙ append_assoc was quiet.0 (h.asked ++ h.tried)
        ∙ ap (λ l. was ++ l) (sym (append_assoc quiet.0 h.asked h.tried));
    changes_nothing = all_both ChangesNothing quiet.0 h.asked quiet.2 h.changes_nothing;
    failed = h.failed;
  }

-- an archive that is begun is so still once its entry is kept
pub begun_kept : {D : Type 0} (file target : List ℕ) (parts : List Part) (was mid now : List (DeskDeed D)) → IsBegunArchiveBy KeepsEntry file target was mid
    → SparesFiles (result_places file None false) mid now → KeepsLoad file parts mid now → IsBegunArchiveBy KeepsEntry file target was now
begun_kept file target [] was mid now begun spares same = subst (IsBegunArchiveBy KeepsEntry file target was) (sym same) begun
begun_kept file target (part ∷ parts) was mid now begun spares grows =
    archive_kept file target was mid now begun (entry_bytes (entry_of_load (part ∷ parts))) spares grows

-- NOTHING WAS READ
pub same_none : {D : Type 0} (file : List ℕ) (was now : List (DeskDeed D)) → now ≡ was → MakesNoneBy KeepsEntry file was now
same_none file was now e = record { since = []; history = e ∙ sym (append-nil was); each = tt; unnamed = tt }

pub unread_none : {D : Type 0} (file path : List ℕ) (fault : DeskFault) (was now : List (DeskDeed D)) → now ≡ was ++ read path (Err fault) ∷ []
    → MakesNoneBy KeepsEntry file was now
unread_none file path fault was now e = record { since = read path (Err fault) ∷ []; history = e; each = (tt, tt); unnamed = (tt, tt) }

-- A SCRIPT WAS READ
pub script_asked : {D : Type 0} (path script : List ℕ) (streams : Streams) (was mid : List (DeskDeed D)) → ReadsScript path script streams was mid
    → (asked : List (DeskDeed D)) × (mid ≡ was ++ asked) × AllByRecursion ChangesNothing asked
script_asked path script streams was mid (inl (is, reads, e)) = ([], e ∙ sym (append-nil was), tt)
script_asked path script streams was mid (inr (other, same, e)) = (read path (Ok script) ∷ [], e, (refl, tt))

abbrev pub streams_by : InputTold → InputTold → OutputTold → OutputTold → Streams
streams_by i j o p = record { input = record { was = i; now = j }; output = record { was = o; now = p } }

-- what is read stays read while something is printed
reads_still : {D : Type 0} (path script : List ℕ) (i j k : InputTold) (o p q r : OutputTold) (was mid : List (DeskDeed D)) → k ≡ j
    → ReadsScript path script (streams_by i j o p) was mid → ReadsScript path script (streams_by i k q r) was mid
reads_still path script i j k o p q r was mid e (inl h) = inl h
reads_still path script i j k o p q r was mid e (inr (other, same, deeds)) = inr (other, e ∙ same, deeds)

input_still : (i j : InputTold) (o p : OutputTold) (line : List ℕ) (status : ℕ) → PrintsOrNot (streams_by i j o p) line status → j ≡ i
input_still i j o p line status (inl prints) = prints.0
input_still i j o p line status (inr (silent, fails)) = silent.0

abbrev TellsLine : Streams → List ℕ → ℕ → Type 0
TellsLine streams line status = WritesOrFails streams line status ⊎ (WritesNothing streams × (status ≢ 0))

told_line : (i j h : InputTold) (o p : OutputTold) (line : List ℕ) (status : ℕ) → PrintsOrNot (streams_by i j o p) line status
    → TellsLine (streams_by h j o p) line status
told_line i j h o p line status (inl prints) = inl prints.1
told_line i j h o p line status (inr (silent, fails)) = inr (silent.1, fails)

module _ {D : Type 0} (disks : disk.Ghosts D) (file path script : List ℕ) (was mid now : List (DeskDeed D)) where
  pub loads_then : (i j k : InputTold) (o p q : OutputTold) (counts : Counts) (status : ℕ) → p ≡ o
      → ReadsScript path script (streams_by i j o p) was mid → PutsScript disks file script counts mid now
      → PrintsOrNot (streams_by j k p q) (line_of counts.layout counts.tunes counts.sets) status
      → Loads disks file path (record { streams = streams_by i k o q; was = was; now = now; status = status })
  loads_then i j k o p q counts status same reads puts prints =
      let asked = script_asked path script (streams_by i j o p) was mid reads in
      let line = line_of counts.layout counts.tunes counts.sets in
      inl (record {
        script = script;
        counts = counts;
        mid = mid;
        makes = makes_before file was mid now asked.0 asked.1 asked.2 puts.makes;
        reads = reads_still path script i j k o p o q was mid (input_still j k p q line status prints) reads;
        puts = puts;
        prints = subst (λ x. TellsLine (streams_by i k x q) line status) same (told_line j k i p q line status prints);
      })

  pub loads_none : (i j : InputTold) (o p : OutputTold) (status : ℕ) → p ≡ o → ReadsScript path script (streams_by i j o p) was mid
      → MakesNoneBy KeepsEntry file mid now → status ≢ 0
      → Loads disks file path (record { streams = streams_by i j o p; was = was; now = now; status = status })
  loads_none i j o p status same reads none fails =
      let asked = script_asked path script (streams_by i j o p) was mid reads in
      inr (none_before file was mid now asked.0 asked.1 asked.2 none, same, fails)
