-- An entry that is kept while an archive is begun.
use Rattle.std.proofs.Common.{◌≡◌, ◌≢◌, ◌⊎◌, inl, inr, ℕ, List, [], ◌∷◌, ◌++◌, codes, refl, ap, sym, ◌∙◌, subst, None, false, Ok, Err, arith}
use Rattle.std.proofs.lemmas.List.{append_assoc, append-nil, append_cancel_left, same_from_push}
use Rattle.std.proofs.lemmas.List.Elements.{Contains-push_cases}
use Rattle.std.specs.List.{AllByRecursion, Contains}
use Rattle.tune_disk.specs.declared.file.Access.TheVariants.{Read, Change}
use Rattle.tune_desk.specs.ArchiveFiles.{KeepsNone, KeepsEntry, MakesItBy, IsBegunArchiveBy, MakesNoneBy}
use Rattle.tune_desk.specs.DeskDeeds.{DeskDeed, Answer, ChangesNothing, looked, compared, tested, followed, read, listed, made, named, named_over, removed}
use Rattle.tune_desk.specs.DeskDeeds.{opened, closed, grown, created, linked, shared}
use Rattle.tune_desk.specs.OldTexts.{Grows, GrowsNot}
use Rattle.tune_desk.specs.Results.{SparesFiles, ComesInOrder, EachAfter, LeavesFile, MayGrow, new_of, old_of, result_places}
use Rattle.tune_desk.specs.declared.desk.DeskFault.{DeskFault}
use Rattle.tune_desk.proofs.ArchiveLemmas.{archive_asked, archive_then}
use Rattle.tune_desk.proofs.BegunLemmas.{none_there}
use Rattle.tune_desk.proofs.DeedLists.{covers_rest, grows-more}

-- the book of old texts is not TARGET.new
old_is_not_new : (file target : List ℕ) → old_of file ≢ new_of target
old_is_not_new file target e =
    let whole : (file ++ codes ".old.ab") ++ 99 ∷ [] ≡ (target ++ codes ".ne") ++ 119 ∷ [] =
    append_assoc file (codes ".old.ab") (99 ∷ []) ∙ e ∙ sym (append_assoc target (codes ".ne") (119 ∷ [])) in
    let last : 99 ≡ 119 = (same_from_push (file ++ codes ".old.ab") (target ++ codes ".ne") 99 119 whole).1 in
    omega (arith, last)

leaves_new : (D : Type 0) (file target piece : List ℕ) (answer : Answer) → LeavesFile {D = D} (new_of target) (grown (old_of file) piece answer)
leaves_new D file target piece answer h = elim (Contains-push_cases [] (old_of file) (new_of target) h) [
  | inl none ↦ none_there (new_of target) none
  | inr same ↦ old_is_not_new file target same
]

-- the last deed of some, by those before it
comes_last : {D : Type 0} (Fits : List (DeskDeed D) → DeskDeed D → Type 0) (before xs : List (DeskDeed D)) (deed : DeskDeed D)
    → EachAfter Fits before (xs ++ deed ∷ []) → Fits (before ++ xs) deed
comes_last Fits before [] deed h = subst (λ l. Fits l deed) (sym (append-nil before)) h.0
comes_last Fits before (x ∷ xs) deed h = subst (λ l. Fits l deed) (append_assoc before (x ∷ []) xs) (comes_last Fits (before ++ x ∷ []) xs deed h.1)

-- a growth that spared files came where it may
may_grow : {D : Type 0} (file piece : List ℕ) (answer : Answer) (mid now asked : List (DeskDeed D)) → SparesFiles (result_places file None false) mid now
    → now ≡ mid ++ (asked ++ grown (old_of file) piece answer ∷ []) → MayGrow (result_places file None false) (old_of file) asked
may_grow file piece answer mid now asked spares e =
    let places = result_places file None false in
    let deed = grown (old_of file) piece answer in
    let same : spares.since ≡ asked ++ deed ∷ [] = append_cancel_left mid spares.since (asked ++ deed ∷ []) (sym spares.history ∙ e) in
    comes_last (ComesInOrder places) [] asked deed (subst (EachAfter (ComesInOrder places) []) same spares.in_order)

module _ {D : Type 0} (file target : List ℕ) (was mid now : List (DeskDeed D)) (h : IsBegunArchiveBy KeepsEntry file target was mid) where
  grown_then : (asked : List (DeskDeed D)) (piece : List ℕ) (answer : Answer) → SparesFiles (result_places file None false) mid now
      → AllByRecursion ChangesNothing asked → now ≡ mid ++ (asked ++ grown (old_of file) piece answer ∷ []) → IsBegunArchiveBy KeepsEntry file target was now
  grown_then asked piece answer spares quiet e =
      let places = result_places file None false in
      let may = may_grow file piece answer mid now asked spares e in
      archive_then file target was (mid ++ asked) (archive_asked file target was mid h (mid ++ asked) asked refl quiet) now
      (grown (old_of file) piece answer) (e ∙ sym (append_assoc mid asked (grown (old_of file) piece answer ∷ [])))
      (refl, grows-more (covers_rest h.since asked) places (old_of file) may) tt (leaves_new D file target piece answer)

  -- an entry was kept
  pub archive_kept : (bytes : List ℕ) → SparesFiles (result_places file None false) mid now → Grows file bytes mid now
      → IsBegunArchiveBy KeepsEntry file target was now
  archive_kept bytes spares grows = grown_then grows.asked grows.piece (Ok tt) spares grows.changes_nothing grows.history

  -- or it was not
  pub archive_unkept : SparesFiles (result_places file None false) mid now → GrowsNot file mid now → IsBegunArchiveBy KeepsEntry file target was now
  archive_unkept spares not = by not.failed
    where
      by : (not.tried ≡ []) ⊎ ((piece : List ℕ) × (fault : DeskFault) × (not.tried ≡ grown (old_of file) piece (Err fault) ∷ []))
          → IsBegunArchiveBy KeepsEntry file target was now
      by (inl none) = archive_asked file target was mid h now not.asked
          (not.history ∙ ap (λ l. mid ++ (not.asked ++ l)) none ∙ ap (λ l. mid ++ l) (append-nil not.asked)) not.changes_nothing
      by (inr (piece, fault, e)) =
          grown_then not.asked piece (Err fault) spares not.changes_nothing (not.history ∙ ap (λ l. mid ++ (not.asked ++ l)) e)

-- WHERE NO ENTRY WAS KEPT SO FAR
keeps_more : {D : Type 0} (file : List ℕ) (before : List (DeskDeed D)) (deed : DeskDeed D) → MakesItBy KeepsNone file before deed
    → MakesItBy KeepsEntry file before deed
keeps_more file before (looked path answer) h = tt
keeps_more file before (compared path other answer) h = tt
keeps_more file before (tested path bytes answer) h = tt
keeps_more file before (followed path answer) h = tt
keeps_more file before (read path answer) h = tt
keeps_more file before (listed path answer) h = tt
keeps_more file before (made path bytes answer) h = absurd h
keeps_more file before (named from to answer) h = h
keeps_more file before (named_over from to answer) h = h
keeps_more file before (removed path answer) h = h
keeps_more file before (opened path Read answer) h = tt
keeps_more file before (opened path Change answer) h = h
keeps_more file before (closed path disk) h = tt
keeps_more file before (grown path bytes answer) h = absurd h
keeps_more file before (created path answer) h = h
keeps_more file before (linked from to answer) h = h
keeps_more file before (shared path like answer) h = h

each_keeps : {D : Type 0} (file : List ℕ) (before xs : List (DeskDeed D)) → EachAfter (MakesItBy KeepsNone file) before xs
    → EachAfter (MakesItBy KeepsEntry file) before xs
each_keeps file before [] h = tt
each_keeps file before (x ∷ xs) h = (keeps_more file before x h.0, each_keeps file (before ++ x ∷ []) xs h.1)

pub begun_keeps : {D : Type 0} (file target : List ℕ) (was now : List (DeskDeed D)) → IsBegunArchiveBy KeepsNone file target was now
    → IsBegunArchiveBy KeepsEntry file target was now
begun_keeps file target was now h = record {
  since = h.since;
  history = h.history;
  each = each_keeps file [] h.since h.each;
  unnamed = h.unnamed;
  leads = h.leads;
  own = h.own;
}

pub none_keeps : {D : Type 0} (file : List ℕ) (was now : List (DeskDeed D)) → MakesNoneBy KeepsNone file was now → MakesNoneBy KeepsEntry file was now
none_keeps file was now h = record { since = h.since; history = h.history; each = each_keeps file [] h.since h.each; unnamed = h.unnamed }
