-- The next number of a copy, by the deeds.
use Rattle.std.proofs.Common.{◌≡◌, ◌≢◌, ℕ, suc, ◌≤◌, List, [], ◌∷◌, ◌++◌, Ok, Err, refl, ap, sym, ◌∙◌, subst, inl, inr, arith}
use Rattle.std.proofs.lemmas.List.{append_assoc, append_cancel_left}
use Rattle.std.proofs.lemmas.List.Elements.{All-contains}
use Rattle.std.specs.List.{All, AllByRecursion, Contains}
use Rattle.tune_desk.specs.DeskDeeds.{DeskDeed, ChangesNothing, listed, looked}
use Rattle.tune_desk.specs.KeptNames.{folder_of}
use Rattle.tune_desk.specs.declared.desk.DeskFault.TheVariants.{Missing}
use Rattle.tune_desk.specs.declared.desk.Standing.{Standing}
use Rattle.tune_desk.specs.declared.desk.Standing.TheVariants.{Nothing, File, Folder, Other}
use Rattle.tune_desk.proofs.DeedLists.{Covers, covers_front, covers_rest, first_of_one}
use Rattle.desk_scenes.proofs.QuietLemmas.{all_both}
use Rattle.desk_scenes.specs.FileAnswers.{Did}
use Rattle.desk_scenes.specs.Scenes.{IsQuiet}
use Rattle.desk_backups.proofs.ListedLemmas.{contains_none}
use Rattle.desk_backups.specs.Inside.Numbering.{AreListedCopies, TellsNumbers}
use Rattle.desk_backups.specs.NextCopies.{CountsCopies, FindsNextCopy, IsCopyThere, IsNextNumber, ListsNames, NumbersCopy}

-- what was told is told among more deeds
module _ {D : Type 0} {some all : List (DeskDeed D)} (more : Covers some all) where
  names_more : (folder : List ℕ) (names : List (List ℕ)) → ListsNames folder names some → ListsNames folder names all
  names_more folder names (inl h) = inl (more.each _ h)
  names_more folder names (inr h) = inr (more.each _ h.0, h.1)

  counts_more : (standing : Standing) (copy : List ℕ) (number : ℕ) → CountsCopies standing copy number some → CountsCopies standing copy number all
  counts_more standing copy number h = record { names = h.names; told = names_more (folder_of copy) h.names h.told; next = h.next }

  numbers_more : (standing : Standing) (copy : List ℕ) (number : ℕ) → NumbersCopy standing copy number some → NumbersCopy standing copy number all
  numbers_more Nothing copy number h = counts_more Nothing copy number h
  numbers_more File copy number h = counts_more File copy number h
  numbers_more Folder copy number h = h
  numbers_more Other copy number h = h

module _ {D : Type 0} (copy : List ℕ) (number : ℕ) (was mid now : List (DeskDeed D)) where
  -- COPY was looked at, and then its number was found
  pub finds_next : (standing : Standing) → mid ≡ was ++ looked copy (Ok standing) ∷ [] → IsQuiet mid now
      → Did mid now (NumbersCopy standing copy number) → FindsNextCopy copy number was now
  finds_next standing e quiet h = record {
    standing = standing;
    since = h.0;
    history = h.1 ∙ ap (λ l. l ++ h.0) e ∙ append_assoc was (looked copy (Ok standing) ∷ []) h.0;
    quiet = subst (AllByRecursion ChangesNothing) (append_cancel_left mid quiet.0 h.0 (sym quiet.1 ∙ h.1)) quiet.2;
    numbers = h.2;
  }

  -- and then more was asked
  pub finds_more : FindsNextCopy copy number was mid → IsQuiet mid now → FindsNextCopy copy number was now
  finds_more h quiet = record {
    standing = h.standing;
    since = h.since ++ quiet.0;
    history = quiet.1 ∙ ap (λ l. l ++ quiet.0) h.history ∙ append_assoc was (looked copy (Ok h.standing) ∷ h.since) quiet.0;
    quiet = all_both ChangesNothing h.since quiet.0 h.quiet quiet.2;
    numbers = numbers_more (covers_front h.since quiet.0) h.standing copy number h.numbers;
  }

  pub counts_after : (standing : Standing) → IsQuiet was mid → Did mid now (CountsCopies standing copy number)
      → Did was now (CountsCopies standing copy number)
  counts_after standing quiet h = (
    quiet.0 ++ h.0,
    h.1 ∙ ap (λ l. l ++ h.0) quiet.1 ∙ append_assoc was quiet.0 h.0,
    counts_more (covers_rest quiet.0 h.0) standing copy number h.2,
  )

-- by what stands at COPY
module _ {D : Type 0} (copy : List ℕ) (number : ℕ) (was now : List (DeskDeed D)) where
  pub by_file : (standing : Standing) → standing ≡ File → Did was now (CountsCopies standing copy number)
      → Did was now (NumbersCopy standing copy number)
  by_file Nothing is h = absurd (cc)
  by_file File is h = h
  by_file Folder is h = absurd (cc)
  by_file Other is h = absurd (cc)

  pub by_nothing : (standing : Standing) → standing ≡ Nothing → Did was now (CountsCopies standing copy number)
      → Did was now (NumbersCopy standing copy number)
  by_nothing Nothing is h = h
  by_nothing File is h = absurd (cc)
  by_nothing Folder is h = absurd (cc)
  by_nothing Other is h = absurd (cc)

pub by_other : {D : Type 0} (copy : List ℕ) (since : List (DeskDeed D)) (standing : Standing) → standing ≢ File → standing ≢ Nothing
    → NumbersCopy standing copy 0 since
by_other copy since Nothing file nothing = absurd (nothing refl)
by_other copy since File file nothing = absurd (file refl)
by_other copy since Folder file nothing = refl
by_other copy since Other file nothing = refl

-- the number behind those that were told
module _ {D : Type 0} (standing : Standing) (copy numbers : List ℕ) (was now : List (DeskDeed D)) (h : Did was now (TellsNumbers copy numbers)) where
  counted : (number : ℕ) → IsNextNumber (IsCopyThere standing copy h.2.names) number → Did was now (CountsCopies standing copy number)
  counted number next = (h.0, h.1, record { names = h.2.names; told = h.2.told; next = next })

  none_listed : numbers ≡ [] → (number : ℕ) → Contains numbers number → ⊥
  none_listed none number has = contains_none number (subst (λ l. Contains l number) none has)

  pub behind_greatest : (greatest number : ℕ) → Contains numbers greatest × All (λ n. n ≤ greatest) numbers → number ≡ suc greatest
      → Did was now (CountsCopies standing copy number)
  behind_greatest greatest number found is =
      subst (λ n. Did was now (CountsCopies standing copy n)) (sym is) (counted (suc greatest) (inr (h.2.are.each greatest found.0), below))
    where
      below : (n : ℕ) → IsCopyThere standing copy h.2.names n → n ≤ greatest
      below n (inl at) = let zero_ : n ≡ 0 = at.1 in omega arith
      below n (inr at) = All-contains (λ x. x ≤ greatest) numbers n found.1 (h.2.are.all n at)

  pub behind_file : numbers ≡ [] → standing ≡ File → Did was now (CountsCopies standing copy 1)
  behind_file none is = counted 1 (inl (is, refl), below)
    where
      below : (n : ℕ) → IsCopyThere standing copy h.2.names n → n ≤ 0
      below n (inl at) = let zero_ : n ≡ 0 = at.1 in omega arith
      below n (inr at) = absurd (none_listed none n (h.2.are.all n at))

  pub behind_nothing : numbers ≡ [] → standing ≢ File → Did was now (CountsCopies standing copy 0)
  behind_nothing none not = counted 0 no_copy
    where
      no_copy : (n : ℕ) → ¬ (IsCopyThere standing copy h.2.names n)
      no_copy n = λ there. elim there [ inl at ↦ not at.0 | inr at ↦ none_listed none n (h.2.are.all n at) ]

-- the names that were told
module _ {D : Type 0} (folder copy numbers : List ℕ) (is : folder ≡ folder_of copy) (was now : List (DeskDeed D)) where
  pub names_told : (names : List (List ℕ)) → now ≡ was ++ listed folder (Ok names) ∷ [] → AreListedCopies copy names numbers
      → Did was now (TellsNumbers copy numbers)
  names_told names e are = let deed : DeskDeed D = listed folder (Ok names) in (
    deed ∷ [],
    e,
    record { names = names; told = inl (subst (λ f. Contains (deed ∷ []) (listed f (Ok names))) is (first_of_one deed [])); are = are },
  )

  pub no_folder_told : now ≡ was ++ listed folder (Err Missing) ∷ [] → numbers ≡ [] → Did was now (TellsNumbers copy numbers)
  no_folder_told e none = let deed : DeskDeed D = listed folder (Err Missing) in (
    deed ∷ [],
    e,
    record {
      names = [];
      told = inr (subst (λ f. Contains (deed ∷ []) (listed f (Err Missing))) is (first_of_one deed []), refl);
      are = record {
        each = λ number has. absurd (contains_none number (subst (λ l. Contains l number) none has));
        all = λ number at. absurd (contains_none at.name at.among);
      };
    },
  )
