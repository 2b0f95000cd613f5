-- Questions, one after another, and what is known by them.
use Rattle.std.proofs.Common.{◌≡◌, ◌⊎◌, ℕ, List, [], ◌∷◌, ◌++◌, Bool, true, false, refl, ap, sym, ◌∙◌, subst, inl, inr, Result, Ok, Err}
use Rattle.std.proofs.lemmas.List.{append_assoc, append-nil}
use Rattle.std.specs.List.{Contains}
use Rattle.tune_desk.specs.DeskDeeds.{DeskDeed, ChangesNothing, looked, tested, followed}
use Rattle.tune_desk.specs.Inside.Asks.{Asks, Judges, KnowsStanding, IsCauseUnasked, IsNamedLike, TellsNames, IsHeld, IsReplaceable, MayBeWritten}
use Rattle.tune_desk.specs.Refusals.{HasCause}
use Rattle.tune_desk.specs.Results.{Places, AreFoundApart, SparesNames, SparesArchive, archive_head}
use Rattle.tune_desk.specs.declared.desk.DeskFault.{DeskFault}
use Rattle.tune_desk.specs.declared.desk.Standing.TheVariants as standing
use Rattle.tune_desk.specs.declared.refusals.ResultRefusal.{ResultRefusal}
use Rattle.tune_desk.specs.declared.refusals.ResultRefusal.TheVariants.{Archive, OtherArchive, Companion}
use Rattle.tune_desk.specs.declared.refusals.ResultRefusal.TheVariants.{Standing, Folder, NotFile}
use Rattle.tune_desk.specs.declared.refusals.ResultRefusal.TheVariants.{NoFolder, Unasked, OutOfMemory}
use Rattle.tune_desk.specs.declared.refusals.ResultRefusal.TheVariants.{NewStands, NotMade, NotNamed, Left, Unkept}
use Rattle.tune_desk.proofs.DeedLists.{Covers, covers_front, covers_rest, first_of_one, All-append, cause-more, names-more, archive-more, apart-more}

pub asks_none : {D : Type 0} (Known : List (DeskDeed D) → Type 0) (was : List (DeskDeed D)) → Known [] → Asks Known was was
asks_none Known was known =
    record { since = []; history = sym (append-nil was); changes_nothing = tt; known = known }

pub asks_one : {D : Type 0} (Known : List (DeskDeed D) → Type 0) (was now : List (DeskDeed D)) (deed : DeskDeed D) → now ≡ was ++ deed ∷ []
    → ChangesNothing deed → Known (deed ∷ []) → Asks Known was now
asks_one Known was now deed e quiet known =
    record { since = deed ∷ []; history = e; changes_nothing = (quiet, tt); known = known }

pub asks_map : {D : Type 0} (P Q : List (DeskDeed D) → Type 0) (was now : List (DeskDeed D)) → ((since : List (DeskDeed D)) → P since → Q since)
    → Asks P was now → Asks Q was now
asks_map P Q was now f h =
    record { since = h.since; history = h.history; changes_nothing = h.changes_nothing; known = f h.since h.known }

pub asks_both : {D : Type 0} (P Q R : List (DeskDeed D) → Type 0) (was mid now : List (DeskDeed D))
    → ((front rest : List (DeskDeed D)) → P front → Q rest → R (front ++ rest)) → Asks P was mid → Asks Q mid now → Asks R was now
asks_both P Q R was mid now f h k = record {
  since = h.since ++ k.since;
  history = k.history ∙ ap (λ l. l ++ k.since) h.history ∙ append_assoc was h.since k.since;
  changes_nothing = All-append ChangesNothing h.since k.since h.changes_nothing k.changes_nothing;
  known = f h.since k.since h.known k.known;
}

pub asks_first : {D : Type 0} (Q R : List (DeskDeed D) → Type 0) (was mid now : List (DeskDeed D)) (deed : DeskDeed D) → mid ≡ was ++ deed ∷ []
    → ChangesNothing deed → ((rest : List (DeskDeed D)) → Q rest → R (deed ∷ rest)) → Asks Q mid now → Asks R was now
asks_first Q R was mid now deed e quiet f h = record {
  since = deed ∷ h.since;
  history = h.history ∙ ap (λ l. l ++ h.since) e ∙ append_assoc was (deed ∷ []) h.since;
  changes_nothing = (quiet, h.changes_nothing);
  known = f h.since h.known;
}

module _ {D : Type 0} {some all : List (DeskDeed D)} (more : Covers some all) where
  pub judges-more : {A : Type 0} (places : Places) (target : List ℕ) (Known : A → List (DeskDeed D) → Type 0) → ((a : A) → Known a some → Known a all)
      → (result : Result A ResultRefusal) → Judges places target Known result some → Judges places target Known result all
  judges-more places target Known f (Ok a) h = f a h
  judges-more places target Known f (Err why) h = cause-more more places target why h

  pub like-more : (path file : List ℕ) (why : ResultRefusal) → IsNamedLike path file why some → IsNamedLike path file why all
  like-more path file Archive h = (h.0, more.each _ h.1)
  like-more path file Companion h = (h.0, more.each _ h.1)
  like-more path file (Unasked fault) h = (h.0, h.1, more.each _ h.2)
  like-more path file OutOfMemory h = tt
  like-more path file OtherArchive h = absurd h
  like-more path file Standing h = absurd h
  like-more path file Folder h = absurd h
  like-more path file NotFile h = absurd h
  like-more path file NoFolder h = absurd h
  like-more path file NewStands h = absurd h
  like-more path file (NotMade fault) h = absurd h
  like-more path file (NotNamed fault) h = absurd h
  like-more path file (Left fault) h = absurd h
  like-more path file Unkept h = absurd h

  pub held-more : (places : Places) (target : List ℕ) (why : ResultRefusal) → IsHeld places target why some → IsHeld places target why all
  held-more places target Archive h = more.each _ h
  held-more places target OtherArchive h = more.each _ h
  held-more places target Standing h = h
  held-more places target (Unasked fault) h = (h.0, h.1, more.each _ h.2)
  held-more places target OutOfMemory h = tt
  held-more places target Companion h = absurd h
  held-more places target Folder h = absurd h
  held-more places target NotFile h = absurd h
  held-more places target NoFolder h = absurd h
  held-more places target NewStands h = absurd h
  held-more places target (NotMade fault) h = absurd h
  held-more places target (NotNamed fault) h = absurd h
  held-more places target (Left fault) h = absurd h
  held-more places target Unkept h = absurd h

  pub standing-more : (target : List ℕ) (stands : Bool) → KnowsStanding target stands some → KnowsStanding target stands all
  standing-more target true h = more.each _ h
  standing-more target false h = tt

-- A look found nothing, and the folder was looked at.
pub look_then : {D : Type 0} (places : Places) (target : List ℕ) (result : Result Bool ResultRefusal) (was mid now : List (DeskDeed D)) (deed : DeskDeed D)
    → mid ≡ was ++ deed ∷ []
    → ChangesNothing deed → Asks (Judges places target (KnowsStanding target) result) mid now
    → Asks (Judges places target (KnowsStanding target) result) was now
look_then places target result was mid now deed e quiet h =
    asks_first (Judges places target (KnowsStanding target) result) (Judges places target (KnowsStanding target) result) was mid now deed e quiet
    (λ rest. judges-more (covers_rest (deed ∷ []) rest) places target (KnowsStanding target)
    (λ b. standing-more (covers_rest (deed ∷ []) rest) target b) result) h

module _ {D : Type 0} (places : Places) (target : List ℕ) where
  pub unasked_cause : (why : ResultRefusal) (since : List (DeskDeed D)) → IsCauseUnasked why since → HasCause places target why since
  unasked_cause (Unasked fault) since h = h
  unasked_cause OutOfMemory since h = tt
  unasked_cause Archive since h = absurd h
  unasked_cause OtherArchive since h = absurd h
  unasked_cause Companion since h = absurd h
  unasked_cause Standing since h = absurd h
  unasked_cause Folder since h = absurd h
  unasked_cause NotFile since h = absurd h
  unasked_cause NoFolder since h = absurd h
  unasked_cause NewStands since h = absurd h
  unasked_cause (NotMade fault) since h = absurd h
  unasked_cause (NotNamed fault) since h = absurd h
  unasked_cause (Left fault) since h = absurd h
  unasked_cause Unkept since h = absurd h

  pub named_cause : (file : List ℕ) (why : ResultRefusal) (since : List (DeskDeed D)) → (file ≡ places.file) ⊎ Contains since (followed places.file (Ok file))
      → IsNamedLike target file why since → HasCause places target why since
  named_cause file Archive since is_file h = inr (record { file = file; is_file = is_file; has_name = h.0; one_folder = h.1 })
  named_cause file Companion since is_file h = record { file = file; is_file = is_file; has_name = h.0; one_folder = h.1 }
  named_cause file (Unasked fault) since is_file h = h
  named_cause file OutOfMemory since is_file h = tt
  named_cause file OtherArchive since is_file h = absurd h
  named_cause file Standing since is_file h = absurd h
  named_cause file Folder since is_file h = absurd h
  named_cause file NotFile since is_file h = absurd h
  named_cause file NoFolder since is_file h = absurd h
  named_cause file NewStands since is_file h = absurd h
  named_cause file (NotMade fault) since is_file h = absurd h
  named_cause file (NotNamed fault) since is_file h = absurd h
  named_cause file (Left fault) since is_file h = absurd h
  named_cause file Unkept since is_file h = absurd h

  pub held_cause : (why : ResultRefusal) (since all : List (DeskDeed D)) → Covers since all → Contains all (looked target (Ok standing.File))
      → IsHeld places target why since
      → HasCause places target why all
  held_cause Archive since all more stands h = inl (more.each _ h)
  held_cause OtherArchive since all more stands h = more.each _ h
  held_cause Standing since all more stands h = (h, stands)
  held_cause (Unasked fault) since all more stands h = (h.0, h.1, more.each _ h.2)
  held_cause OutOfMemory since all more stands h = tt
  held_cause Companion since all more stands h = absurd h
  held_cause Folder since all more stands h = absurd h
  held_cause NotFile since all more stands h = absurd h
  held_cause NoFolder since all more stands h = absurd h
  held_cause NewStands since all more stands h = absurd h
  held_cause (NotMade fault) since all more stands h = absurd h
  held_cause (NotNamed fault) since all more stands h = absurd h
  held_cause (Left fault) since all more stands h = absurd h
  held_cause Unkept since all more stands h = absurd h

  -- FILE was followed, and then one of the two names refused
  pub here_refused : (there : List ℕ) (why : ResultRefusal) (was mid now : List (DeskDeed D)) → mid ≡ was ++ followed places.file (Ok there) ∷ []
      → Asks (IsNamedLike target places.file why) mid now → Asks (HasCause places target why) was now
  here_refused there why was mid now e h =
      asks_first (IsNamedLike target places.file why) (HasCause places target why) was mid now (followed places.file (Ok there)) e refl
      (λ rest k. cause-more (covers_rest (followed places.file (Ok there) ∷ []) rest) places target why (named_cause places.file why rest (inl refl) k)) h

  named_more : (file : List ℕ) (why : ResultRefusal) (some all : List (DeskDeed D)) → Covers some all → Contains all (followed places.file (Ok file))
      → IsNamedLike target file why some → HasCause places target why all
  named_more file why some all more leads h = named_cause file why all (inr leads) (like-more more target file why h)

  spared : (there : List ℕ) (result : Result (Unit {0}) ResultRefusal) (front rest : List (DeskDeed D)) → SparesNames target places.file front
      → TellsNames target there result rest
      → Judges places target (λ _ since. SparesArchive places target since) result (followed places.file (Ok there) ∷ (front ++ rest))
  spared there (Ok done) front rest here told =
      let all : List (DeskDeed D) = followed places.file (Ok there) ∷ (front ++ rest) in
      let tail : Covers (front ++ rest) all = covers_rest (followed places.file (Ok there) ∷ []) (front ++ rest) in
      record {
        file = there;
        leads = first_of_one (followed places.file (Ok there)) (front ++ rest);
        here = names-more tail target places.file (names-more (covers_front front rest) target places.file here);
        there = names-more tail target there (names-more (covers_rest front rest) target there told);
      }
  spared there (Err why) front rest here told =
      let all : List (DeskDeed D) = followed places.file (Ok there) ∷ (front ++ rest) in
      let tail : Covers (front ++ rest) all = covers_rest (followed places.file (Ok there) ∷ []) (front ++ rest) in
      let more : Covers rest all = record { each = λ deed k. tail.each deed ((covers_rest front rest).each deed k) } in
      named_more there why rest all more (first_of_one (followed places.file (Ok there)) (front ++ rest)) told

  pub archive_spared : (there : List ℕ) (result : Result (Unit {0}) ResultRefusal) (was first second now : List (DeskDeed D))
      → first ≡ was ++ followed places.file (Ok there) ∷ []
      → Asks (SparesNames target places.file) first second → Asks (TellsNames target there result) second now
      → Asks (Judges places target (λ _ since. SparesArchive places target since) result) was now
  archive_spared there result was first second now e h k =
      let Both : List (DeskDeed D) → Type 0 = λ since. Judges places target (λ _ all. SparesArchive places target all) result
      (followed places.file (Ok there) ∷ since) in
      asks_first Both (Judges places target (λ _ since. SparesArchive places target since) result) was first now (followed places.file (Ok there)) e refl
      (λ rest q. q)
      (asks_both (SparesNames target places.file) (TellsNames target there result) Both first second now
      (λ front rest p q. spared there result front rest p q) h k)

  -- after other questions, a refusal
  pub refused_later : (P : List (DeskDeed D) → Type 0) (why : ResultRefusal) (was mid now : List (DeskDeed D)) → Asks P was mid
      → Asks (HasCause places target why) mid now
      → Asks (HasCause places target why) was now
  refused_later P why was mid now h k = asks_both P (HasCause places target why) (HasCause places target why) was mid now
      (λ front rest p q. cause-more (covers_rest front rest) places target why q) h k

  pub held_later : (stands : Bool) (why : ResultRefusal) (was first second now : List (DeskDeed D)) → stands ≡ true → Asks
      (KnowsStanding target stands) was first
      → Asks (SparesArchive places target) first second → Asks (IsHeld places target why) second now → Asks (HasCause places target why) was now
  held_later stands why was first second now is h k l =
      let h' : Asks (KnowsStanding target true) was first = subst (λ b. Asks (KnowsStanding target b) was first) is h in
      asks_both (KnowsStanding target true) (IsHeld places target why) (HasCause places target why) was first now
      (λ front rest p q. held_cause why rest (front ++ rest) (covers_rest front rest) ((covers_front front rest).each _ p) q) h'
      (asks_both (SparesArchive places target) (IsHeld places target why) (IsHeld places target why) first second now
      (λ front rest p q. held-more (covers_rest front rest) places target why q) k l)

  replaced : (front mid rest : List (DeskDeed D)) → Contains front (looked target (Ok standing.File)) → SparesArchive places target mid
      → IsReplaceable places target rest
      → MayBeWritten places target true (front ++ (mid ++ rest))
  replaced front mid rest stands spares may =
      let tail : Covers (mid ++ rest) (front ++ (mid ++ rest)) = covers_rest front (mid ++ rest) in
      let last : Covers rest (front ++ (mid ++ rest)) = record { each = λ deed k. tail.each deed ((covers_rest mid rest).each deed k) } in
      record {
        spares = archive-more tail places target (archive-more (covers_front mid rest) places target spares);
        replaces = λ _. record {
          leave = may.leave;
          stands = (covers_front front (mid ++ rest)).each _ stands;
          other = apart-more last target places.file may.other;
          no_archive = last.each _ may.no_archive;
        };
      }

  pub over_later : (stands : Bool) (was first second now : List (DeskDeed D)) → stands ≡ true → Asks (KnowsStanding target stands) was first
      → Asks (SparesArchive places target) first second → Asks (IsReplaceable places target) second now → Asks (MayBeWritten places target true) was now
  over_later stands was first second now is h k l =
      let h' : Asks (KnowsStanding target true) was first = subst (λ b. Asks (KnowsStanding target b) was first) is h in
      let Both : List (DeskDeed D) → Type 0 = λ since. (mid : List (DeskDeed D)) × (rest : List (DeskDeed D)) ×
      (since ≡ mid ++ rest) × SparesArchive places target mid × IsReplaceable places target rest in
      asks_both (KnowsStanding target true) Both (MayBeWritten places target true) was first now
      (λ front rest p q. subst (λ s. MayBeWritten places target true (front ++ s)) (sym q.2) (replaced front q.0 q.1 p q.3 q.4)) h'
      (asks_both (SparesArchive places target) (IsReplaceable places target) Both first second now (λ front rest p q. (front, rest, refl, p, q)) k l)

  pub new_later : (P : List (DeskDeed D) → Type 0) (was mid now : List (DeskDeed D)) → Asks P was mid → Asks (SparesArchive places target) mid now
      → Asks (MayBeWritten places target false) was now
  new_later P was mid now h k = asks_both P (SparesArchive places target) (MayBeWritten places target false) was mid now
      (λ front rest p q. record { spares = archive-more (covers_rest front rest) places target q; replaces = λ e. absurd (cc) }) h k

  -- a file that is not FILE was tested
  pub tested_later : (answer : Result Bool DeskFault) (Q : List (DeskDeed D) → Type 0) (was mid now : List (DeskDeed D))
      → now ≡ mid ++ tested target archive_head answer ∷ []
      → ((since : List (DeskDeed D)) → AreFoundApart target places.file since → Q (since ++ tested target archive_head answer ∷ []))
      → Asks (AreFoundApart target places.file) was mid → Asks Q was now
  tested_later answer Q was mid now e f h = asks_both (AreFoundApart target places.file) (λ since. since ≡ tested target archive_head answer ∷ []) Q was mid now
      (λ front rest p q. subst (λ r. Q (front ++ r)) (sym q) (f front p)) h (asks_one _ mid now (tested target archive_head answer) e refl refl)
