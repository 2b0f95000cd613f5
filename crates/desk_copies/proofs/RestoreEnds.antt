-- What comes of a copy that is restored.
use Rattle.std.proofs.Common.{◌≡◌, ℕ, List, [], ◌∷◌, ◌++◌, refl, subst, Result, Ok, Err}
use Rattle.sha2.specs.Sha256.{sha256}
use Rattle.tune_disk.specs.Disk.{DiskState}
use Rattle.tune_disk.specs.declared.disk.Disk as disk
use Rattle.tune_disk.specs.declared.file.Access.TheVariants.{Read}
use Rattle.tune_desk.specs.ArchiveFiles.{MakesIt, MakesNone, NamesNone}
use Rattle.tune_desk.specs.DeskDeeds.{DeskDeed, ChangesNothing, opened, closed}
use Rattle.tune_desk.specs.declared.desk.DeskFault.{DeskFault}
use Rattle.tune_desk.proofs.ArchiveLemmas.{makes_one_more, quiet_makes, quiet_unnamed}
use Rattle.tune_desk.proofs.DeedLists.{All-map}
use Rattle.tune_desk.proofs.SpareLemmas.{each_of_all}
use Rattle.desk_copies.specs.Copies.{CopiesArchive, IsLookedAt}
use Rattle.desk_copies.specs.Inside.Asked.{AsksSum}
use Rattle.desk_copies.specs.Restored.{AgreesAndRestores, CopyRead, PutsCopy, RestoresFile, RestoresFrom, RestoresState}
use Rattle.desk_copies.specs.declared.archive_copies.Copied.{Copied}
use Rattle.desk_copies.specs.declared.restores.Restored.{Restored}
use Rattle.desk_copies.specs.declared.restores.Unrestored.{Unrestored}
use Rattle.desk_copies.proofs.RestoreLemmas.{makes_before, none_before, none_more}

-- the state of what was copied
pub restores_state : (from to : DiskState) (copied : Copied) → CopiesArchive from to copied → RestoresState from to copied.counts
restores_state from to copied h = record { state = h.state; held = h.held; kept = h.kept; counted = h.counts }

module _ {D : Type 0} (disks : disk.Ghosts D) (file copy : List ℕ) where
  -- COPY, read from one disk to another
  abbrev pub read_of : D → D → CopyRead D
  read_of source after = record { path = copy; source = source; after = after }

  -- a copy from a disk that was only looked at before
  from_before : (source looked after : D) (restored : Restored) (was now : List (DeskDeed D)) → IsLookedAt disks.honest disks.state source looked
      → IsLookedAt disks.honest disks.state looked after → PutsCopy disks file (read_of looked after) restored was now
      → PutsCopy disks file (read_of source after) restored was now
  from_before source looked after restored was now first second h = record {
    made = h.made;
    makes = h.makes;
    puts = h.puts;
    restores = λ met kept.
        subst (λ s. RestoresState s (disks.state h.made) restored.counts) (first.same (second.was_honest met)) (h.restores met kept);
  }

  -- the sum agreed, and then it was restored
  pub agreed_then : {T E : Type 0} (done : T) (source looked after : D) (sum : List ℕ) (outcome : Result Restored Unrestored) (was mid now : List (DeskDeed D))
      → IsLookedAt disks.honest disks.state source looked → (disks.honest looked → sum ≡ sha256 (disks.state source).seen)
      → AsksSum {T = T} {E = E} copy sum (Ok done) was mid → IsLookedAt disks.honest disks.state looked after
      → RestoresFrom disks file (read_of looked after) outcome mid now → AgreesAndRestores disks file (read_of source after) outcome was now
  agreed_then done source looked after sum (Ok restored) was mid now first summed asks second h = record {
    sum = sum;
    asked = asks.asked;
    mid = mid;
    history = asks.history;
    quiet = asks.quiet;
    agrees = asks.agrees;
    summed = λ met. summed (second.was_honest met);
    puts = from_before source looked after restored mid now first second h;
  }
  agreed_then done source looked after sum (Err why) was mid now first summed asks second h = none_before file was mid now asks.asked asks.history asks.quiet h

  -- or it did not agree
  pub unagreed : {T E : Type 0} (why : E) (sum : List ℕ) (was now : List (DeskDeed D)) → AsksSum {T = T} {E = E} copy sum (Err why) was now
      → MakesNone file was now
  unagreed why sum was now asks = record {
    since = asks.asked;
    history = asks.history;
    each = each_of_all ChangesNothing (MakesIt file) (quiet_makes file) [] asks.asked asks.quiet;
    unnamed = All-map ChangesNothing NamesNone quiet_unnamed asks.asked asks.quiet;
  }

  -- COPY was opened before, and closed behind
  pub visited_then : (source after : D) (outcome : Result Restored Unrestored) (was first last now : List (DeskDeed D))
      → first ≡ was ++ opened copy Read (Ok source) ∷ [] → AgreesAndRestores disks file (read_of source after) outcome first last
      → now ≡ last ++ closed copy after ∷ [] → RestoresFile disks file copy outcome was now
  visited_then source after (Ok restored) was first last now e h k =
      let inner = makes_before file first h.mid last h.asked h.history h.quiet h.puts.makes in
      let outer = makes_before file was first last (opened copy Read (Ok source) ∷ []) e (refl, tt) inner in
      record {
        source = source;
        after = after;
        first = first;
        last = last;
        makes = makes_one_more file was last now (closed copy after) outer k tt;
        opens = e;
        puts = h;
        closes = k;
      }
  visited_then source after (Err why) was first last now e h k =
      none_more file was last now (closed copy after) (none_before file was first last (opened copy Read (Ok source) ∷ []) e (refl, tt) h) k refl

  pub unvisited : (fault : DeskFault) (was now : List (DeskDeed D)) → now ≡ was ++ opened copy Read (Err fault) ∷ [] → MakesNone file was now
  unvisited fault was now e = record { since = opened copy Read (Err fault) ∷ []; history = e; each = (tt, tt); unnamed = (tt, tt) }
