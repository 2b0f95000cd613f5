-- The book of old texts grows, or not.
use Rattle.std.proofs.Common.{◌≡◌, ◌⊎◌, inl, inr, ℕ, List, [], ◌∷◌, ◌++◌, Ok, Err, refl, sym, ap, ◌∙◌, subst, codes}
use Rattle.std.proofs.Common.{append-nil}
use Rattle.std.proofs.lemmas.List.{append_assoc}
use Rattle.std.specs.Prelude.{None, false, Result}
use Rattle.std.specs.List.{AllByRecursion}
use Rattle.tune_desk.specs.DeskDeeds.{DeskDeed, Answer, compared, grown, ChangesNothing}
use Rattle.tune_desk.specs.Inside.Asks.{Asks}
use Rattle.tune_desk.specs.Inside.Growths.{KnowsOther, KnowsNoArchive}
use Rattle.tune_desk.specs.OldTexts.{Grows, GrowsNot, IsPieceOf}
use Rattle.tune_desk.specs.Results.{SparesFiles, MayGrow, KeepsTo, ComesInOrder, IsReading, old_of, result_places}
use Rattle.tune_desk.specs.declared.desk.DeskFault.{DeskFault}
use Rattle.tune_desk.specs.declared.old_texts.OldTextsFault.{OldTextsFault}
use Rattle.tune_desk.proofs.AskLemmas.{asks_first}
use Rattle.tune_desk.proofs.DeedLists.{covers_rest, first_of_one}
use Rattle.tune_desk.proofs.SpareLemmas.{spares_reading, spares_none, each_append, each_of_all, reading_keeps, reading_comes, quiet_all}

-- the file was compared with FILE, and then it was tested
pub other_then : {D : Type 0} (file old : List ℕ) (result : Result (Unit {0}) OldTextsFault) (was mid now : List (DeskDeed D))
    → mid ≡ was ++ compared old file (Ok false) ∷ [] → Asks (KnowsNoArchive old result) mid now → Asks (KnowsOther file old result) was now
other_then file old (Ok done) was mid now e h =
    let deed = compared old file (Ok false) in
    asks_first (KnowsNoArchive old (Ok done)) (KnowsOther file old (Ok done)) was mid now deed e refl
    (λ rest known. (inl (first_of_one deed rest), (covers_rest (deed ∷ []) rest).each _ known)) h
other_then file old (Err why) was mid now e h =
    asks_first (KnowsNoArchive old (Err why)) (KnowsOther file old (Err why)) was mid now (compared old file (Ok false)) e refl (λ rest known. tt) h

module _ {D : Type 0} (file : List ℕ) where
  -- what was asked spares files
  pub asked_spares : (Known : List (DeskDeed D) → Type 0) (was now : List (DeskDeed D)) → Asks Known was now
      → SparesFiles (result_places file None false) was now
  asked_spares Known was now asks = subst (SparesFiles (result_places file None false) was) (sym asks.history)
      (spares_reading (result_places file None false) was asks.since (quiet_all (result_places file None false) asks.since asks.changes_nothing))

  -- and so does a growth after it
  pub grown_spares : (was mid now : List (DeskDeed D)) (piece : List ℕ) (answer : Answer)
      → Asks (MayGrow (result_places file None false) (old_of file)) was mid → now ≡ mid ++ grown (old_of file) piece answer ∷ []
      → SparesFiles (result_places file None false) was now
  grown_spares was mid now piece answer asks e =
      let places = result_places file None false in
      let deed = grown (old_of file) piece answer in
      let reads = quiet_all places asks.since asks.changes_nothing in
      record {
        since = asks.since ++ deed ∷ [];
        history = e ∙ ap (λ l. l ++ deed ∷ []) asks.history ∙ append_assoc was asks.since (deed ∷ []);
        keeps = each_append (KeepsTo places) [] asks.since (deed ∷ [])
            (each_of_all (IsReading places) (KeepsTo places) (reading_keeps places) [] asks.since reads) (refl, tt);
        in_order = each_append (ComesInOrder places) [] asks.since (deed ∷ [])
            (each_of_all (IsReading places) (ComesInOrder places) (reading_comes places) [] asks.since reads) (asks.known, tt);
      }

  -- what was grown
  pub grows : (Known : List (DeskDeed D) → Type 0) (was mid now : List (DeskDeed D)) (bytes piece : List ℕ) → Asks Known was mid → IsPieceOf bytes piece
      → now ≡ mid ++ grown (old_of file) piece (Ok tt) ∷ [] → Grows file bytes was now
  grows Known was mid now bytes piece asks is e = record {
    asked = asks.since;
    piece = piece;
    history = e ∙ ap (λ l. l ++ grown (old_of file) piece (Ok tt) ∷ []) asks.history
        ∙ append_assoc was asks.since (grown (old_of file) piece (Ok tt) ∷ []);
    changes_nothing = asks.changes_nothing;
    is_piece = is;
  }

  -- and what was not
  pub grows_not : (Known : List (DeskDeed D) → Type 0) (was now : List (DeskDeed D)) → Asks Known was now → GrowsNot file was now
  grows_not Known was now asks = record {
    asked = asks.since;
    tried = [];
    history = asks.history ∙ ap (λ l. was ++ l) (sym (append-nil asks.since));
    changes_nothing = asks.changes_nothing;
    failed = inl refl;
  }

  pub growth_failed : (Known : List (DeskDeed D) → Type 0) (was mid now : List (DeskDeed D)) (piece : List ℕ) (fault : DeskFault) → Asks Known was mid
      → now ≡ mid ++ grown (old_of file) piece (Err fault) ∷ [] → GrowsNot file was now
  growth_failed Known was mid now piece fault asks e = record {
    asked = asks.since;
    tried = grown (old_of file) piece (Err fault) ∷ [];
    history = e ∙ ap (λ l. l ++ grown (old_of file) piece (Err fault) ∷ []) asks.history
        ∙ append_assoc was asks.since (grown (old_of file) piece (Err fault) ∷ []);
    changes_nothing = asks.changes_nothing;
    failed = inr (piece, fault, refl);
  }

  -- where there was no memory at the beginning
  pub nothing_spares : (was : List (DeskDeed D)) → SparesFiles (result_places file None false) was was
  nothing_spares was = spares_none (result_places file None false) was

  pub nothing_grown : (was : List (DeskDeed D)) → GrowsNot file was was
  nothing_grown was = record { asked = []; tried = []; history = sym (append-nil was); changes_nothing = tt; failed = inl refl }
