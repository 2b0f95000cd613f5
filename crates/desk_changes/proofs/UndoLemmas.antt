-- An undoing, by its parts: entries, changes, and the book that they stand in.
use Rattle.std.proofs.Common.{◌≡◌, ◌≢◌, inl, inr, ◌<◌, ℕ, ◌+◌, List, [], ◌∷◌, ◌++◌, Bool, true, false, ◌||◌, take, drop, length, get_or, refl}
use Rattle.std.proofs.Common.{sym, ◌∙◌, ap, subst, append_assoc, append-nil}
use Rattle.std.proofs.Common.{Some, None, Ok, Err, arith}
use Rattle.std.specs.Prelude.{Option, Result, IfOk, IfErr, MatchResult, Vec}
use Rattle.std.proofs.lemmas.List.{drop_more}
use Rattle.std.specs.Option.{option_to_list}
use Rattle.tune_store.specs.State.{State}
use Rattle.tune_disk.specs.declared.disk.Disk as disk
use Rattle.tune_disk.specs.declared.file.Access.TheVariants.{Change}
use Rattle.tune_archive.specs.AsStore.{store_on}
use Rattle.tune_archive.specs.Shelf.{Shelf}
use Rattle.tune_asking.specs.Asking.{IsOnlyAsked}
use Rattle.tune_asking.proofs.CallLemmas.{asked_more}
use Rattle.tune_store.specs.declared.command.Refusal.{Refusal}
use Rattle.tune_store.specs.declared.command.Reply.{Reply}
use Rattle.tune_desk.specs.DeskDeeds.{DeskDeed, opened, closed, read}
use Rattle.tune_desk.specs.Results.{old_of}
use Rattle.tune_desk.specs.declared.desk.DeskFault.{DeskFault}
use Rattle.tune_desk.specs.declared.desk.DeskFault.TheVariants.{Missing}
use Rattle.desk_changes.specs.ToldChanges.{LacksBook}
use Rattle.desk_scenes.specs.OpenedFile.{IsArchiveOf}
use Rattle.desk_scenes.specs.Scenes.{IsQuiet}
use Rattle.desk_scenes.proofs.QuietLemmas.{quiet_one}
use Rattle.tune_undo.specs.EntryBytes.{entry_bytes, mark_bytes}
use Rattle.tune_undo.specs.OldEntries.{StepValue, step_value}
use Rattle.tune_undo.specs.declared.old_entries.Mark.TheVariants.{Undoing}
use Rattle.tune_undo.specs.declared.old_entries.Part.{Part}
use Rattle.tune_undo.specs.declared.old_entries.Step.{Step}
use Rattle.tune_desk.specs.OldTexts.{Grows}
use Rattle.desk_changes.specs.ChangedFiles.{Passage, IsChangedWithin}
use Rattle.desk_changes.specs.Inside.Telling.{Tells, ToldBytes}
use Rattle.desk_changes.specs.Inside.TriedUndoings.{FindsSteps, steps_of, TriesEntries, TriesChange, TriesTimes, TriesByBook, TriesWithin}
use Rattle.desk_changes.specs.OldChanges.{BookChange, changes_of_steps, ReadsSteps}
use Rattle.desk_changes.specs.TakenBack.{BeginsUndoing, IsAccepted, all_gone_by, entry_of_texts, gone_by}
use Rattle.desk_changes.specs.TakenBack.{FindsUnchanged, KeepsOldTexts, RenumbersOne, UndoesEntry, UndoesEntries, UndoesChange}
use Rattle.desk_changes.specs.TakenBack.{BreaksOffEntry, BreaksOffEntries, BreaksOffChange}
use Rattle.desk_changes.proofs.BookLemmas.{EndsIn, split_at, split_more}
use Rattle.desk_changes.proofs.TellingLemmas.{puts_more}
use Rattle.desk_changes.specs.Undone.{GoesBack, UndoesLast, UndoesFewer, UsesBook, FindsNoBook}

-- texts that are kept, where there are any
pub keeps_some : {D : Type 0} (file : List ℕ) (parts : List Part) (was now : List (DeskDeed D)) → parts ≢ []
    → Grows file (entry_bytes (entry_of_texts parts)) was now → KeepsOldTexts file parts was now
keeps_some file [] was now some grows = absurd (some refl)
keeps_some file (part ∷ parts) was now some grows = grows

pub keeps_none : {D : Type 0} (file : List ℕ) (parts : List Part) (was : List (DeskDeed D)) → parts ≡ [] → KeepsOldTexts file parts was was
keeps_none file [] was none = refl
keeps_none file (part ∷ parts) was none = absurd cc

-- parts that are looked at, one after another
pub gone_next : (parts : List Part) (at : ℕ) (part : Part) (state : State) → at < length parts → part ≡ get_or parts at part
    → all_gone_by (drop at parts) state ≡ option_to_list (gone_by part state) ++ all_gone_by (drop (at + 1) parts) state
gone_next parts at part state within is =
    ap (λ some. all_gone_by some state) (drop_more parts at part within ∙ ap (λ (p : Part). p ∷ drop (at + 1) parts) (sym is))

pub gone_more : (before more rest whole : List Part) → whole ≡ before ++ (more ++ rest) → whole ≡ (before ++ more) ++ rest
gone_more before more rest whole e = e ∙ sym (append_assoc before more rest)

module _ {D : Type 0} (disks : disk.Ghosts D) where
  -- questions before a tune gets its number
  pub renumbers_after : (Is : Result Reply Refusal → Type 0) (start mid finish : Shelf D) → IsOnlyAsked (store_on disks) start mid
      → RenumbersOne disks Is mid finish → RenumbersOne disks Is start finish
  renumbers_after Is start mid finish asked (inl more) = inl (asked_more (store_on disks) start mid finish asked more)
  renumbers_after Is start mid finish asked (inr (at, number, to, result, is, more, carries)) =
      inr (at, number, to, result, is, asked_more (store_on disks) start mid at asked more, carries)

  -- where an undoing was begun, or not
  pub begun_none : (file : List ℕ) (begun : Option ℕ) (greatest : ℕ) (here : Shelf D) (was now : List (DeskDeed D)) → begun ≡ None
      → Grows file (mark_bytes (Undoing greatest)) was now
      → BeginsUndoing disks file begun (record { start = here; finish = here; was = was; now = now })
  begun_none file begun greatest here was now none grows =
      subst (λ (b : Option ℕ). BeginsUndoing disks file b (record { start = here; finish = here; was = was; now = now })) (sym none) (refl, (greatest, grows))

  pub begun_some : (file : List ℕ) (begun : Option ℕ) (greatest : ℕ) (start finish : Shelf D) (was : List (DeskDeed D)) → begun ≡ Some greatest
      → RenumbersOne disks IsAccepted start finish
      → BeginsUndoing disks file begun (record { start = start; finish = finish; was = was; now = was })
  begun_some file begun greatest start finish was some renumbers =
      subst (λ (b : Option ℕ). BeginsUndoing disks file b (record { start = start; finish = finish; was = was; now = was })) (sym some) (renumbers, refl)

  module _ (file : List ℕ) where
    -- entries behind a look
    pub change_of : {A : Type 0} (change : BookChange) (told : ToldBytes) (result : Result Bool A) (start looked finish : Shelf D) (was now : List (DeskDeed D))
        → FindsUnchanged disks change start looked
        → TriesEntries disks file change told result (record { start = looked; finish = finish; was = was; now = now })
        → TriesChange disks file change told result (record { start = start; finish = finish; was = was; now = now })
    change_of change told (Ok some) start looked finish was now found undoes =
        record { more = undoes.more; are = undoes.are; so = (looked, found, undoes.so) }
    change_of change told (Err why) start looked finish was now found breaks = inr (looked, found, breaks)

    -- an entry before those that were undone, or broken off
    pub entries_more : (some later : List Step) (step : Step) (of_later of_this is : Bool) (before between after : List ℕ)
        (start mid finish : Shelf D) (was deeds now : List (DeskDeed D)) → some ≡ step ∷ later
        → Tells (record { was = before; now = between })
        (λ more. UndoesEntries disks file (steps_of later) of_later more (record { start = start; finish = mid; was = was; now = deeds }))
        → Tells (record { was = between; now = after })
        (λ more. UndoesEntry disks file (step_value step) of_this more (record { start = mid; finish = finish; was = deeds; now = now }))
        → is ≡ (of_later || of_this)
        → Tells (record { was = before; now = after })
        (λ more. UndoesEntries disks file (steps_of some) is more (record { start = start; finish = finish; was = was; now = now }))
    entries_more some later step of_later of_this is before between after start mid finish was deeds now e undone undoes so =
        let more = undone.more ++ undoes.more in
        let course : Passage D = record { start = start; finish = finish; was = was; now = now } in
        record {
          more = more;
          are = puts_more before between after undone.more undoes.more undone.are undoes.are;
          so = subst (λ (l : List Step). UndoesEntries disks file (steps_of l) is more course) (sym e)
              (mid, deeds, of_later, of_this, undone.more, undoes.more, undone.so, undoes.so, so, refl);
        }

    pub entries_broken : (changes later : List Step) (at : ℕ) (step : Step) (of_later : Bool) (told : List ℕ) (start mid finish : Shelf D)
        (was deeds now : List (DeskDeed D)) → drop at changes ≡ step ∷ later
        → UndoesEntries disks file (steps_of later) of_later told (record { start = start; finish = mid; was = was; now = deeds })
        → BreaksOffEntry disks file step.entry.parts.items (record { start = mid; finish = finish; was = deeds; now = now })
        → BreaksOffEntries disks file (steps_of changes) (record { start = start; finish = finish; was = was; now = now })
    entries_broken changes later at step of_later told start mid finish was deeds now e undone breaks = (
      steps_of (take at changes),
      step_value step,
      steps_of later,
      of_later,
      told,
      mid,
      deeds,
      split_at changes at ∙ ap (λ (l : List Step). steps_of (take at changes) ++ steps_of l) e,
      undone,
      breaks,
    )

    -- what was undone so far, of some entries up to a place
    pub record BackTo (changes : List Step) (left wanted count : ℕ) (before after : List ℕ) (course : Passage D) : Type 0 where
      pub gone : List BookChange
      pub taken : ℕ
      pub split : changes_of_steps (steps_of changes) ≡ changes_of_steps (steps_of (take left changes)) ++ gone
      pub counted : taken + wanted ≡ count
      pub told : Tells (record { was = before; now = after }) (λ more. GoesBack disks file gone taken more course)

    -- one more, in which there was something to be taken back, or not
    pub one_taken : (changes : List Step) (left first wanted fewer count : ℕ) (change : BookChange) (before between after : List ℕ)
        (start mid finish : Shelf D) (was deeds now : List (DeskDeed D))
        → BackTo changes left wanted count before between (record { start = start; finish = mid; was = was; now = deeds }) → EndsIn changes left first change
        → fewer + 1 ≡ wanted → Tells (record { was = between; now = after })
        (λ more. UndoesChange disks file change true more (record { start = mid; finish = finish; was = deeds; now = now }))
        → BackTo changes first fewer count before after (record { start = start; finish = finish; was = was; now = now })
    one_taken changes left first wanted fewer count change before between after start mid finish was deeds now so ends less undoes = record {
      gone = change ∷ so.gone;
      taken = so.taken + 1;
      split = split_more changes left first change so.gone ends so.split;
      counted = let counted = so.counted in omega (arith, counted, less);
      told = record {
        more = so.told.more ++ undoes.more;
        are = puts_more before between after so.told.more undoes.more so.told.are undoes.are;
        so = (mid, deeds, so.taken, true, so.told.more, undoes.more, so.told.so, undoes.so, refl, refl);
      };
    }

    pub one_passed : (changes : List Step) (left first wanted count : ℕ) (change : BookChange) (before between after : List ℕ)
        (start mid finish : Shelf D) (was deeds now : List (DeskDeed D))
        → BackTo changes left wanted count before between (record { start = start; finish = mid; was = was; now = deeds }) → EndsIn changes left first change
        → Tells (record { was = between; now = after })
        (λ more. UndoesChange disks file change false more (record { start = mid; finish = finish; was = deeds; now = now }))
        → BackTo changes first wanted count before after (record { start = start; finish = finish; was = was; now = now })
    one_passed changes left first wanted count change before between after start mid finish was deeds now so ends undoes = record {
      gone = change ∷ so.gone;
      taken = so.taken;
      split = split_more changes left first change so.gone ends so.split;
      counted = so.counted;
      told = record {
        more = so.told.more ++ undoes.more;
        are = puts_more before between after so.told.more undoes.more so.told.are undoes.are;
        so = (mid, deeds, so.taken, false, so.told.more, undoes.more, so.told.so, undoes.so, refl, refl);
      };
    }

    -- none so far
    pub back_none : (changes : List Step) (left count : ℕ) (told : List ℕ) (here : Shelf D) (was : List (DeskDeed D)) → take left changes ≡ changes
        → BackTo changes left count count told told (record { start = here; finish = here; was = was; now = was })
    back_none changes left count told here was all = record {
      gone = [];
      taken = 0;
      split = ap (λ some. changes_of_steps (steps_of some)) (sym all) ∙ sym (append-nil (changes_of_steps (steps_of (take left changes))));
      counted = omega arith;
      told = record { more = []; are = sym (append-nil told); so = (refl, refl, (refl, refl)) };
    }

    -- all that were wanted
    pub last_undone : (changes : List Step) (left wanted count : ℕ) (before after : List ℕ) (course : Passage D)
        → BackTo changes left wanted count before after course → wanted ≡ 0
        → Tells (record { was = before; now = after }) (λ more. UndoesLast disks file count more (steps_of changes) course)
    last_undone changes left wanted count before after course so none = record {
      more = so.told.more;
      are = so.told.are;
      so = record {
        earlier = changes_of_steps (steps_of (take left changes));
        gone = so.gone;
        split = so.split;
        back = let counted = so.counted in
            let all : so.taken ≡ count = omega (arith, counted, none) in
            subst (λ (n : ℕ). GoesBack disks file so.gone n so.told.more course) all so.told.so;
      };
    }

    -- none is left, but more were wanted
    pub none_left : (changes : List Step) (left wanted count : ℕ) (before after : List ℕ) (start finish : Shelf D) (was now : List (DeskDeed D))
        → BackTo changes left wanted count before after (record { start = start; finish = finish; was = was; now = now }) → 0 < wanted → left ≡ 0
        → UndoesFewer disks file count (steps_of changes) (record { start = start; finish = finish; was = was; now = now })
    none_left changes left wanted count before after start finish was now so more none = record {
      earlier = changes_of_steps (steps_of (take left changes));
      gone = so.gone;
      split = so.split;
      taken = so.taken;
      fewer = let counted = so.counted in omega (arith, counted, more);
      told = so.told.more;
      mid = finish;
      deeds = now;
      back = so.told.so;
      ends = inl (ap (λ (n : ℕ). changes_of_steps (steps_of (take n changes))) none, (refl, refl));
    }

    -- the next one was broken off
    pub next_broken : (changes : List Step) (left first wanted count : ℕ) (change : BookChange) (before between : List ℕ)
        (start mid finish : Shelf D) (was deeds now : List (DeskDeed D))
        → BackTo changes left wanted count before between (record { start = start; finish = mid; was = was; now = deeds }) → EndsIn changes left first change
        → 0 < wanted → BreaksOffChange disks file change (record { start = mid; finish = finish; was = deeds; now = now })
        → UndoesFewer disks file count (steps_of changes) (record { start = start; finish = finish; was = was; now = now })
    next_broken changes left first wanted count change before between start mid finish was deeds now so ends more breaks = record {
      earlier = changes_of_steps (steps_of (take left changes));
      gone = so.gone;
      split = so.split;
      taken = so.taken;
      fewer = let counted = so.counted in omega (arith, counted, more);
      told = so.told.more;
      mid = mid;
      deeds = deeds;
      back = so.told.so;
      ends = inr (changes_of_steps (steps_of (take first changes)), change, ends, breaks);
    }

    -- behind the reading of the book
    pub book_then : {A : Type 0} (count : ℕ) (told : ToldBytes) (steps : List StepValue) (result : Result (Unit {0}) A) (start finish : Shelf D)
        (was began now : List (DeskDeed D)) → ReadsSteps file steps was began
        → TriesTimes disks file (record { count = count; told = told }) steps result (record { start = start; finish = finish; was = began; now = now })
        → TriesByBook disks file count told result (record { start = start; finish = finish; was = was; now = now })
    book_then count told steps (Ok done) start finish was began now reads undoes = record {
      more = undoes.more;
      are = undoes.are;
      so = record { steps = steps; began = began; reads = reads; does = undoes.so };
    }
    book_then count told steps (Err why) start finish was began now reads fewer =
        inr (record { steps = steps; began = began; reads = reads; does = fewer })

    -- FILE around it
    pub record Around (old new : D) (course : Passage D) (was now : List (DeskDeed D)) : Type 0 where
      pub is : IsArchiveOf disks old course.start
      pub became : course.finish.pages.disk ≡ Some new
      pub began : course.was ≡ was ++ opened file Change (Ok old) ∷ []
      pub ended : now ≡ course.now ++ closed file new ∷ []

    changed : (Does : Passage D → Type 0) (old new : D) (course : Passage D) (was now : List (DeskDeed D)) → Around old new course was now
        → Does course → IsChangedWithin disks file Does was now
    changed Does old new course was now around does = record {
      old = old;
      new = new;
      course = course;
      is = around.is;
      became = around.became;
      began = around.began;
      ended = around.ended;
      does = does;
    }

    pub within_file : {A : Type 0} (count : ℕ) (told : ToldBytes) (result : Result (Unit {0}) A) (old new : D) (course : Passage D)
        (was now : List (DeskDeed D)) → Around old new course was now → TriesByBook disks file count told result course
        → TriesWithin disks file count told result (record { was = was; now = now })
    within_file count told (Ok done) old new course was now around undoes = record {
      more = undoes.more;
      are = undoes.are;
      so = changed (UsesBook file (UndoesLast disks file count undoes.more)) old new course was now around undoes.so;
    }
    within_file count told (Err why) old new course was now around (inl none) = inr (inl (changed FindsNoBook old new course was now around none))
    within_file count told (Err why) old new course was now around (inr fewer) =
        inr (inr (changed (UsesBook file (UndoesFewer disks file count)) old new course was now around fewer))

-- what was read changed nothing
pub reads_quiet : {D : Type 0} (file : List ℕ) (steps : List StepValue) (was now : List (DeskDeed D)) → ReadsSteps file steps was now → IsQuiet was now
reads_quiet file steps was now reads = quiet_one was now (read (old_of file) (Ok reads.book)) reads.deed refl

pub found_in : {D A X : Type 0} (file path : List ℕ) (book : Result (List ℕ) DeskFault) (result : Result (Vec Step X) A) (was now : List (DeskDeed D))
    → path ≡ old_of file → now ≡ was ++ read path book ∷ [] → IfOk result (λ steps. FindsSteps book (steps_of steps.items))
    → MatchResult result (λ steps. ReadsSteps file (steps_of steps.items) was now) (λ why. IsQuiet was now)
found_in file path (Ok book) (Ok steps) was now same deed found =
    record {
      book = book;
      items = found.items;
      deed = deed ∙ ap (λ p. was ++ read p (Ok book) ∷ []) same;
      log = found.log;
      are = found.are;
    }
found_in file path (Err fault) (Ok steps) was now same deed found = absurd found
found_in file path book (Err why) was now same deed found = quiet_one was now (read path book) deed refl

pub missing_in : {D A X : Type 0} (file path : List ℕ) (book : Result (List ℕ) DeskFault) (result : Result X A) (Is : A → Type 0) (was now : List (DeskDeed D))
    → path ≡ old_of file → now ≡ was ++ read path book ∷ [] → IfErr result (λ why. Is why → book ≡ Err Missing)
    → IfErr result (λ why. Is why → LacksBook file was now)
missing_in file path book (Ok steps) Is was now same deed lacks = tt
missing_in file path book (Err why) Is was now same deed lacks = λ is.
    deed ∙ ap (λ p. was ++ read p book ∷ []) same ∙ ap (λ b. was ++ read (old_of file) b ∷ []) (lacks is)
