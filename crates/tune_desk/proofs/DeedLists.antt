-- Deeds among others: what is known of some holds among more.
use Rattle.std.proofs.Common.{ℕ, List, [], ◌∷◌, ◌++◌, refl, inl, inr, lit<}
use Rattle.std.proofs.lemmas.List.Elements.{Contains-append_left, Contains-append_right}
use Rattle.std.specs.List.{AllByRecursion, Contains}
use Rattle.tune_desk.specs.DeskDeeds.{DeskDeed}
use Rattle.tune_desk.specs.KeptNames.{IsNamesake, IsKeptName, folder_of}
use Rattle.tune_desk.specs.Refusals.{HasCause, HasFault, IsBeside}
use Rattle.tune_desk.specs.Results.{Places, LeadsTo, AreFoundApart, SparesNames, SparesArchive, MayBeReplaced, MayGrow}
use Rattle.tune_desk.specs.declared.refusals.ResultRefusal.{ResultRefusal}
use Rattle.tune_desk.specs.declared.refusals.ResultRefusal.TheVariants.{Archive, OtherArchive, Companion}
use Rattle.tune_desk.specs.declared.refusals.ResultRefusal.TheVariants.{Standing as StandsThere, Folder, NotFile}
use Rattle.tune_desk.specs.declared.refusals.ResultRefusal.TheVariants.{NoFolder, Unasked, OutOfMemory}
use Rattle.tune_desk.specs.declared.refusals.ResultRefusal.TheVariants.{NewStands, NotMade, NotNamed, Left, Unkept}

-- Each of these deeds is one of those.
pub record Covers {D : Type 0} (some all : List (DeskDeed D)) : Type 0 where
  pub each : (deed : DeskDeed D) → Contains some deed → Contains all deed

pub covers_front : {D : Type 0} (front rest : List (DeskDeed D)) → Covers front (front ++ rest)
covers_front front rest = record { each = λ deed h. Contains-append_left front rest deed h }

pub covers_rest : {D : Type 0} (front rest : List (DeskDeed D)) → Covers rest (front ++ rest)
covers_rest front rest = record { each = λ deed h. Contains-append_right front rest deed h }

pub first_of_one : {D : Type 0} (deed : DeskDeed D) (more : List (DeskDeed D)) → Contains (deed ∷ more) deed
first_of_one deed more = Contains-append_left (deed ∷ []) more deed (0, lit< tt, refl)

pub All-append : {X : Type 0} (P : X → Type 0) (xs ys : List X) → AllByRecursion P xs → AllByRecursion P ys → AllByRecursion P (xs ++ ys)
All-append P [] ys h k = k
All-append P (x ∷ xs) ys h k = (h.0, All-append P xs ys h.1 k)

pub All-map : {X : Type 0} (P Q : X → Type 0) → ((x : X) → P x → Q x) → (xs : List X) → AllByRecursion P xs → AllByRecursion Q xs
All-map P Q f [] h = tt
All-map P Q f (x ∷ xs) h = (f x h.0, All-map P Q f xs h.1)

module _ {D : Type 0} {some all : List (DeskDeed D)} (more : Covers some all) where
  pub leads-more : (places : Places) (target : List ℕ) → LeadsTo places target some → LeadsTo places target all
  leads-more places target h = record { out = h.out; asked = h.asked; answered = more.each _ h.answered }

  pub apart-more : (path other : List ℕ) → AreFoundApart path other some → AreFoundApart path other all
  apart-more path other (inl h) = inl (more.each _ h)
  apart-more path other (inr h) = inr (more.each _ h)

  pub names-more : (path file : List ℕ) → SparesNames path file some → SparesNames path file all
  names-more path file h = λ kin. apart-more (folder_of path) (folder_of file) (h kin)

  pub archive-more : (places : Places) (target : List ℕ) → SparesArchive places target some → SparesArchive places target all
  archive-more places target h = record {
    file = h.file;
    leads = more.each _ h.leads;
    here = names-more target places.file h.here;
    there = names-more target h.file h.there;
  }

  pub replaced-more : (places : Places) (target : List ℕ) → MayBeReplaced places target some → MayBeReplaced places target all
  replaced-more places target h = record {
    leave = h.leave;
    stands = more.each _ h.stands;
    other = apart-more target places.file h.other;
    no_archive = more.each _ h.no_archive;
  }

  pub grows-more : (places : Places) (path : List ℕ) → MayGrow places path some → MayGrow places path all
  grows-more places path (inl h) = inl (more.each _ h)
  grows-more places path (inr h) = inr (more.each _ h.0, apart-more path places.file h.1, more.each _ h.2)

  pub beside-more : (HasName : List ℕ → List ℕ → Type 0) (places : Places) (target : List ℕ) → IsBeside HasName places target some
      → IsBeside HasName places target all
  beside-more HasName places target h = record {
    file = h.file;
    is_file = elim h.is_file [ inl e ↦ inl e | inr k ↦ inr (more.each _ k) ];
    has_name = h.has_name;
    one_folder = more.each _ h.one_folder;
  }

  pub fault-more : (fault : _) → HasFault fault some → HasFault fault all
  fault-more fault h = (h.0, h.1, more.each _ h.2)

  pub cause-more : (places : Places) (target : List ℕ) (why : ResultRefusal) → HasCause places target why some → HasCause places target why all
  cause-more places target Archive (inl h) = inl (more.each _ h)
  cause-more places target Archive (inr h) = inr (beside-more IsNamesake places target h)
  cause-more places target OtherArchive h = more.each _ h
  cause-more places target Companion h = beside-more IsKeptName places target h
  cause-more places target StandsThere h = (h.0, more.each _ h.1)
  cause-more places target Folder h = more.each _ h
  cause-more places target NotFile h = more.each _ h
  cause-more places target NoFolder h = (h.0, h.1, more.each _ h.2)
  cause-more places target (Unasked fault) h = (h.0, h.1, more.each _ h.2)
  cause-more places target OutOfMemory h = tt
  cause-more places target NewStands (inl h) = inl (h.0, more.each _ h.1)
  cause-more places target NewStands (inr h) = inr (more.each _ h)
  cause-more places target (NotMade fault) (inl h) = inl (h.0, more.each _ h.1)
  cause-more places target (NotMade fault) (inr h) = inr (more.each _ h)
  cause-more places target (NotNamed fault) h = ((h.0.0, h.0.1, more.each _ h.0.2), more.each _ h.1)
  cause-more places target (Left fault) h = more.each _ h
  cause-more places target Unkept h = (h.0, h.1, more.each _ h.2)
