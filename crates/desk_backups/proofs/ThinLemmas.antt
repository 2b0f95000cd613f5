-- Old copies that are taken away, one deed after another.
use Rattle.std.proofs.Common.{◌≡◌, ◌⊎◌, ℕ, zero, suc, ◌<◌, List, [], ◌∷◌, ◌++◌, refl, ap, sym, ◌∙◌, subst, inl, inr, Ok, true, false, arith}
use Rattle.std.proofs.lemmas.List.{append_assoc}
use Rattle.desk_copies.specs.SumFiles.{sum_path}
use Rattle.tune_desk.specs.DeskDeeds.{DeskDeed, Answer, ChangesNothing, looked, compared, tested, followed, read, listed, made, named, named_over, removed}
use Rattle.tune_desk.specs.DeskDeeds.{opened, closed, grown, created, linked, shared}
use Rattle.tune_desk.specs.Results.{AreFoundApart, archive_head}
use Rattle.tune_desk.proofs.DeedLists.{Covers, covers_front, covers_rest, first_of_one}
use Rattle.tune_desk.proofs.SpareLemmas.{each_append, each_of_all}
use Rattle.desk_scenes.specs.Scenes.{IsQuiet}
use Rattle.desk_backups.specs.CopyNames.{numbered_copy}
use Rattle.desk_backups.specs.Inside.Thinned.{IsOldCopy, IsThinned}
use Rattle.desk_backups.specs.OldCopies.{HasNewer, IsFound, Thinning, Thins, ThinsOut}
use Rattle.desk_backups.specs.declared.old_copies.Walked.{Walked}

-- what changes nothing takes nothing away
quiet_thins : {D : Type 0} (thinning : Thinning) (before : List (DeskDeed D)) (deed : DeskDeed D) → ChangesNothing deed → Thins thinning before deed
quiet_thins thinning before (looked path answer) h = h
quiet_thins thinning before (compared path other answer) h = h
quiet_thins thinning before (tested path bytes answer) h = h
quiet_thins thinning before (followed path answer) h = h
quiet_thins thinning before (read path answer) h = h
quiet_thins thinning before (listed path answer) h = h
quiet_thins thinning before (made path bytes answer) h = h
quiet_thins thinning before (named from to answer) h = h
quiet_thins thinning before (named_over from to answer) h = h
quiet_thins thinning before (removed path answer) h = absurd (cc)
quiet_thins thinning before (opened path access answer) h = h
quiet_thins thinning before (closed path disk) h = h
quiet_thins thinning before (grown path bytes answer) h = h
quiet_thins thinning before (created path answer) h = h
quiet_thins thinning before (linked from to answer) h = h
quiet_thins thinning before (shared path like answer) h = h

-- what was found stays found
newer_more : {D : Type 0} {some all : List (DeskDeed D)} (more : Covers some all) (thinning : Thinning) (count number : ℕ)
    → HasNewer thinning count number some → HasNewer thinning count number all
newer_more more thinning zero number h = tt
newer_more more thinning (suc others) number h = (
  h.0,
  h.1,
  elim h.2 [ inl is ↦ inl is | inr found ↦ inr (more.each _ found) ],
  newer_more more thinning others h.0 h.3,
)

-- and what is newer than a copy is newer than an older one
newer_below : {D : Type 0} (thinning : Thinning) (before : List (DeskDeed D)) (count number below : ℕ) → below < number
    → HasNewer thinning count number before → HasNewer thinning count below before
newer_below thinning before zero number below lt h = tt
newer_below thinning before (suc others) number below lt h =
    let above = h.1 in (h.0, omega (arith, lt, above), h.2, h.3)

module _ {D : Type 0} (thinning : Thinning) (was mid now : List (DeskDeed D)) where
  more_history : (since : List (DeskDeed D)) (deed : DeskDeed D) → mid ≡ was ++ since → now ≡ mid ++ deed ∷ [] → now ≡ was ++ (since ++ deed ∷ [])
  more_history since deed h e = e ∙ ap (λ l. l ++ deed ∷ []) h ∙ append_assoc was since (deed ∷ [])

  abbrev thins_then : (deed : DeskDeed D) (h : ThinsOut thinning was mid) → now ≡ mid ++ deed ∷ [] → Thins thinning h.since deed → ThinsOut thinning was now
  thins_then deed h e fits = record {
    since = h.since ++ deed ∷ [];
    history = more_history h.since deed h.history e;
    each = each_append (Thins thinning) [] h.since (deed ∷ []) h.each (fits, tt);
  }

  pub thins_quiet : (deed : DeskDeed D) → ThinsOut thinning was mid → now ≡ mid ++ deed ∷ [] → ChangesNothing deed → ThinsOut thinning was now
  thins_quiet deed h e quiet = thins_then deed h e (quiet_thins thinning h.since deed quiet)

  pub walked_quiet : (walked : Walked) (deed : DeskDeed D) → IsThinned thinning walked was mid → now ≡ mid ++ deed ∷ [] → ChangesNothing deed
      → IsThinned thinning walked was now
  walked_quiet walked deed h e quiet = record {
    thins = thins_then deed h.thins e (quiet_thins thinning h.thins.since deed quiet);
    newer = λ number lt. newer_more (covers_front h.thins.since (deed ∷ [])) thinning walked.found number (h.newer number lt);
  }

  pub old_quiet : (number : ℕ) (deed : DeskDeed D) → IsOldCopy thinning number was mid → now ≡ mid ++ deed ∷ [] → ChangesNothing deed
      → IsOldCopy thinning number was now
  old_quiet number deed h e quiet = record {
    thins = thins_then deed h.thins e (quiet_thins thinning h.thins.since deed quiet);
    found = (covers_front h.thins.since (deed ∷ [])).each _ h.found;
    newer = newer_more (covers_front h.thins.since (deed ∷ [])) thinning thinning.keep number h.newer;
  }

  -- COPY of a number begins as an archive
  module _ (walked next : Walked) (number : ℕ) (path : List ℕ) (is : path ≡ numbered_copy thinning.copy number) (lt : number < walked.last)
      (h : IsThinned thinning walked was mid) (e : now ≡ mid ++ tested path archive_head (Ok true) ∷ []) where
    seen : now ≡ mid ++ tested (numbered_copy thinning.copy number) archive_head (Ok true) ∷ []
    seen = e ∙ ap (λ p. mid ++ tested p archive_head (Ok true) ∷ []) is

    abbrev deed : DeskDeed D
    deed = tested (numbered_copy thinning.copy number) archive_head (Ok true)

    found_it : IsFound thinning number (h.thins.since ++ deed ∷ [])
    found_it = (covers_rest h.thins.since (deed ∷ [])).each deed (first_of_one deed [])

    -- it is one of those that stay
    pub stays : next.last ≡ number → next.found ≡ suc walked.found → IsThinned thinning next was now
    stays last count = record {
      thins = thins_then deed h.thins seen refl;
      newer = λ below under. let low : below < number = subst (λ n. below < n) last under in
          subst (λ n. HasNewer thinning n below (h.thins.since ++ deed ∷ [])) (sym count) (
            number,
            low,
            inr found_it,
            newer_more (covers_front h.thins.since (deed ∷ [])) thinning walked.found number (h.newer number lt),
          );
    }

    -- or an old one
    pub is_old : walked.found ≡ thinning.keep → IsOldCopy thinning number was now
    is_old enough = record {
      thins = thins_then deed h.thins seen refl;
      found = found_it;
      newer = newer_more (covers_front h.thins.since (deed ∷ [])) thinning thinning.keep number
          (subst (λ n. HasNewer thinning n number h.thins.since) enough (h.newer number lt));
    }

  -- it was taken away
  pub old_removed : (number : ℕ) (path : List ℕ) (answer : Answer)
      → (path ≡ numbered_copy thinning.copy number) ⊎ (path ≡ sum_path (numbered_copy thinning.copy number))
      → (h : IsOldCopy thinning number was mid) → AreFoundApart path thinning.file h.thins.since → now ≡ mid ++ removed path answer ∷ []
      → IsOldCopy thinning number was now
  old_removed number path answer is h apart e = record {
    thins = thins_then (removed path answer) h.thins e
        (record { number = number; found = h.found; newer = h.newer; other = apart; is = is });
    found = (covers_front h.thins.since (removed path answer ∷ [])).each _ h.found;
    newer = newer_more (covers_front h.thins.since (removed path answer ∷ [])) thinning thinning.keep number h.newer;
  }

-- a file that is not FILE was taken away
pub old_apart : {D : Type 0} (thinning : Thinning) (number : ℕ) (file path : List ℕ) (answer : Answer) (was old mid now : List (DeskDeed D))
    → thinning.file ≡ file → (path ≡ numbered_copy thinning.copy number) ⊎ (path ≡ sum_path (numbered_copy thinning.copy number))
    → IsOldCopy thinning number was old → mid ≡ old ++ compared path file (Ok false) ∷ [] → now ≡ mid ++ removed path answer ∷ []
    → IsOldCopy thinning number was now
old_apart {D} thinning number file path answer was old mid now same is h e k =
    let deed : DeskDeed D = compared path thinning.file (Ok false) in
    let here : mid ≡ old ++ deed ∷ [] = e ∙ ap (λ f. old ++ compared path f (Ok false) ∷ []) (sym same) in
    let asked : IsOldCopy thinning number was mid = record {
      thins = thins_then thinning was old mid deed h.thins here refl;
      found = (covers_front h.thins.since (deed ∷ [])).each _ h.found;
      newer = newer_more (covers_front h.thins.since (deed ∷ [])) thinning thinning.keep number h.newer;
    } in
    old_removed thinning was mid now number path answer is asked
    (inl ((covers_rest h.thins.since (deed ∷ [])).each deed (first_of_one deed []))) k

-- of each older copy there are as many newer ones
pub walked_on : {D : Type 0} (thinning : Thinning) (next : Walked) (number : ℕ) (was now : List (DeskDeed D)) → IsOldCopy thinning number was now
    → next.last ≡ number → next.found ≡ thinning.keep → IsThinned thinning next was now
walked_on thinning next number was now h last count = record {
  thins = h.thins;
  newer = λ below under. subst (λ n. HasNewer thinning n below h.thins.since) (sym count)
      (newer_below thinning h.thins.since thinning.keep number below (subst (λ n. below < n) last under) h.newer);
}

-- the walk begins at the newest
pub walk_begins : {D : Type 0} (thinning : Thinning) (walked : Walked) (was now : List (DeskDeed D)) → ThinsOut thinning was now
    → walked.last ≡ thinning.newest → walked.found ≡ 1 → IsThinned thinning walked was now
walk_begins thinning walked was now h last count = record {
  thins = h;
  newer = λ number under. subst (λ n. HasNewer thinning n number h.since) (sym count)
      (thinning.newest, subst (λ n. number < n) last under, inl refl, tt);
}

-- behind questions
pub asked_thins : {D : Type 0} (thinning : Thinning) (was now : List (DeskDeed D)) → IsQuiet was now → ThinsOut thinning was now
asked_thins thinning was now h = record {
  since = h.0;
  history = h.1;
  each = each_of_all ChangesNothing (Thins thinning) (quiet_thins thinning) [] h.0 h.2;
}
