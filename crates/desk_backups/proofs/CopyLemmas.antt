-- Copies that are written, by the deeds.
use Rattle.std.proofs.Common.{◌≡◌, ℕ, List, [], ◌∷◌, ◌++◌, Bool, true, false, refl, ap, sym, ◌∙◌, subst, inl, inr, Result, Ok, Err, Option, Some}
use Rattle.std.proofs.lemmas.List.{append_assoc}
use Rattle.tune_disk.specs.declared.disk.Disk as disk
use Rattle.tune_disk.specs.declared.file.Access.TheVariants.{Read}
use Rattle.tune_desk.specs.BegunResults.{AfterNaming, IsBegun, NamesNew, PutOutcome, WritesDisk, naming_of, refusal_of_removal}
use Rattle.tune_desk.specs.DeskDeeds.{DeskDeed, Answer, closed, opened, removed, shared}
use Rattle.tune_desk.specs.Results.{Places, Names, SparesFiles, WritesTarget, new_of, result_places}
use Rattle.tune_desk.specs.declared.desk.DeskFault.{DeskFault}
use Rattle.tune_desk.specs.declared.refusals.ResultRefusal.{ResultRefusal}
use Rattle.tune_desk.specs.declared.refusals.ResultRefusal.TheVariants.{Unkept}
use Rattle.tune_desk.proofs.BegunLemmas.{begun_quiet, begun_removed, begun_shared, finished_spares}
use Rattle.tune_desk.proofs.DeedLists.{Covers, covers_front, covers_rest, first_of_one, leads-more}
use Rattle.tune_desk.proofs.SpareLemmas.{spares_both, spares_none, spares_one_more, spares_reading}
use Rattle.desk_copies.specs.SumFiles.{sum_path}
use Rattle.desk_copies.specs.declared.archive_copies.Copied.{Copied}
use Rattle.desk_scenes.proofs.FileLemmas.{quiet_spares, unasked_spares}
use Rattle.desk_scenes.proofs.VisitLemmas.{more_deeds}
use Rattle.desk_scenes.specs.FileAnswers.{Did, IsUnasked}
use Rattle.desk_scenes.specs.Scenes.{IsQuiet}
use Rattle.desk_backups.specs.BackupFiles.{IsNamed, SparesCopies, SparesCopy}
use Rattle.desk_backups.specs.Backups.{BacksUp, CopiesFile, CopiesWhole, FileRead, HasCopied, HasCopy, MakesCopy, PutsOrSpares, WritesSum}
use Rattle.desk_backups.specs.CopyNames.{copy_places, numbered_copy, sum_line, sum_places}
use Rattle.desk_backups.specs.Inside.Copying.{SparesSum, SumsWhole}
use Rattle.desk_backups.specs.NextCopies.{FindsNextCopy}
use Rattle.desk_backups.specs.OldCopies.{ThinsBy}
use Rattle.desk_backups.specs.declared.backup_reasons.Unbacked.{Unbacked}

-- the deed of a path that is that of another
closed_at : {D : Type 0} (path other : List ℕ) (disk : D) (mid now : List (DeskDeed D)) → path ≡ other → now ≡ mid ++ closed path disk ∷ []
    → now ≡ mid ++ closed other disk ∷ []
closed_at path other disk mid now same e = e ∙ ap (λ p. mid ++ closed p disk ∷ []) same

shared_at : {D : Type 0} (path other like : List ℕ) (answer : Answer) (mid now : List (DeskDeed D)) → path ≡ other
    → now ≡ mid ++ shared path like answer ∷ [] → now ≡ mid ++ shared other like answer ∷ []
shared_at path other like answer mid now same e = e ∙ ap (λ p. mid ++ shared p like answer ∷ []) same

-- TARGET.new GETS ITS NAME
no_refusal : (outcome : PutOutcome) (why : ResultRefusal) → outcome ≡ Ok tt → outcome ≡ Err why → ⊥
no_refusal outcome why done e = cc

not_removed : (fault : DeskFault) (answer : Answer) → Ok tt ≡ refusal_of_removal fault answer → ⊥
not_removed fault (Ok done) e = cc
not_removed fault (Err left) e = cc

named_so : {D : Type 0} (target : List ℕ) (over : Bool) (mid now : List (DeskDeed D)) → NamesNew target over (Ok tt) mid now
    → now ≡ mid ++ naming_of target over (Ok tt) ∷ []
named_so {D} target over mid now names = by names.answer names.after
  where
    by : (answer : Answer) → AfterNaming target answer (Ok tt) (mid ++ naming_of target over answer ∷ []) now → now ≡ mid ++ naming_of target over (Ok tt) ∷ []
    by (Ok done) after = after.1
    by (Err fault) (inl after) = absurd (no_refusal (Ok tt) Unkept refl after.1)
    by (Err fault) (inr after) = absurd (not_removed fault after.1.answer after.1.told)

-- A RESULT THAT WAS BEGUN
module _ {D : Type 0} (places : Places) (target path like : List ℕ) (over : Bool) (made : D) (shares : Answer) (was begun given shut : List (DeskDeed D))
    (same : path ≡ new_of target) (h : IsBegun places target over was begun) (e : given ≡ begun ++ shared path like shares ∷ [])
    (k : shut ≡ given ++ closed path made ∷ []) where
  given_begun : IsBegun places target over was given
  given_begun = begun_shared places target over was begun h given like shares (shared_at path (new_of target) like shares begun given same e)

  shut_begun : IsBegun places target over was shut
  shut_begun = begun_quiet places target over was given given_begun shut (closed path made) k refl

  pub naming_spares : (outcome : PutOutcome) (now : List (DeskDeed D)) → NamesNew target over outcome shut now → SparesFiles places was now
  naming_spares outcome now names = finished_spares places target over was shut now outcome shut_begun names

  pub leaving_spares : (answer : Answer) (now : List (DeskDeed D)) → now ≡ shut ++ removed path answer ∷ [] → SparesFiles places was now
  leaving_spares answer now l =
      begun_removed places target over was shut shut_begun now answer (l ∙ ap (λ p. shut ++ removed p answer ∷ []) same)

  pub naming_makes : (disks : disk.Ghosts D) (read : FileRead D) (copied : Copied) (now : List (DeskDeed D)) → NamesNew target over (Ok tt) shut now
      → HasCopy disks read copied made → MakesCopy disks places read copied was now
  naming_makes disks read copied now names has = record {
    spares = naming_spares (Ok tt) now names;
    writes = record {
      target = target;
      over = over;
      mid = given;
      disk = made;
      begun = given_begun;
      history = named_so target over shut now names
          ∙ ap (λ l. l ++ naming_of target over (Ok tt) ∷ []) (closed_at path (new_of target) made given shut same k)
          ∙ append_assoc given (closed (new_of target) made ∷ []) (naming_of target over (Ok tt) ∷ []);
      is = has;
    };
  }

-- FILE, OPENED AND CLOSED
module _ {D : Type 0} (disks : disk.Ghosts D) (file path : List ℕ) where
  opened_spares : (answer : Result D DeskFault) (was now : List (DeskDeed D)) → now ≡ was ++ opened file Read answer ∷ []
      → SparesFiles (copy_places file path) was now
  opened_spares answer was now e =
      subst (SparesFiles (copy_places file path) was) (sym e)
      (spares_reading (copy_places file path) was (opened file Read answer ∷ []) (refl, tt))

  pub unvisited : (fault : DeskFault) (was now : List (DeskDeed D)) → now ≡ was ++ opened file Read (Err fault) ∷ []
      → SparesFiles (copy_places file path) was now
  unvisited fault was now e = opened_spares (Err fault) was now e

  around_spares : (source after : D) (was first last now : List (DeskDeed D)) → first ≡ was ++ opened file Read (Ok source) ∷ []
      → SparesFiles (copy_places file path) first last → now ≡ last ++ closed file after ∷ [] → SparesFiles (copy_places file path) was now
  around_spares source after was first last now e h k =
      spares_one_more (copy_places file path) was last now (closed file after)
      (spares_both (copy_places file path) was first last (opened_spares (Ok source) was first e) h) k refl

  pub visited : (source after : D) (outcome : Result Copied Unbacked) (was first last now : List (DeskDeed D))
      → first ≡ was ++ opened file Read (Ok source) ∷ []
      → PutsOrSpares disks (copy_places file path) (record { source = source; after = after }) outcome first last
      → now ≡ last ++ closed file after ∷ [] → CopiesFile disks file path outcome was now
  visited source after (Ok copied) was first last now e h k =
      record { read = record { source = source; after = after }; first = first; last = last; opens = e; makes = h; closes = k }
  visited source after (Err why) was first last now e h k = around_spares source after was first last now e h k

  pub copied_spares : (copied : Copied) (was now : List (DeskDeed D)) → HasCopied disks file path copied was now → SparesFiles (copy_places file path) was now
  copied_spares copied was now h = around_spares h.read.source h.read.after was h.first h.last now h.opens h.makes.spares h.closes

-- THE NAME WAS GIVEN
naming_names : (D : Type 0) (target : List ℕ) (over : Bool) → Names {D = D} target (Ok tt) (naming_of target over (Ok tt))
naming_names D target true = inr refl
naming_names D target false = inl refl

named_more : {D : Type 0} {some all : List (DeskDeed D)} (more : Covers some all) (file path : List ℕ) → IsNamed file path some → IsNamed file path all
named_more more file path h = (h.0, leads-more more (copy_places file path) h.0 h.1, (h.2.0, h.2.1, more.each _ h.2.2))

written_named : {D : Type 0} (file path : List ℕ) (Is : D → Type 0) (was now : List (DeskDeed D)) → WritesDisk (copy_places file path) Is was now
    → Did was now (IsNamed file path)
written_named {D} file path Is was now h =
    let naming = naming_of h.target h.over (Ok tt) in
    let rest = closed (new_of h.target) h.disk ∷ naming ∷ [] in (
      h.begun.since ++ rest,
      more_deeds was h.mid now h.begun.since rest h.begun.history h.history,
      (
        h.target,
        leads-more (covers_front h.begun.since rest) (copy_places file path) h.target h.begun.leads,
        (
          naming,
          naming_names D h.target h.over,
          (covers_rest h.begun.since rest).each naming
              ((covers_rest (closed (new_of h.target) h.disk ∷ []) (naming ∷ [])).each naming (first_of_one naming [])),
        ),
      ),
    )

named_between : {D : Type 0} (file path : List ℕ) (was first last now front back : List (DeskDeed D)) → first ≡ was ++ front
    → Did first last (IsNamed file path) → now ≡ last ++ back → Did was now (IsNamed file path)
named_between file path was first last now front back e h k = (
  (front ++ h.0) ++ back,
  more_deeds was last now (front ++ h.0) back (more_deeds was first last front h.0 e h.1) k,
  named_more (covers_front (front ++ h.0) back) file path (named_more (covers_rest front h.0) file path h.2),
)

copied_named : {D : Type 0} (disks : disk.Ghosts D) (file path : List ℕ) (copied : Copied) (was now : List (DeskDeed D))
    → HasCopied disks file path copied was now → Did was now (IsNamed file path)
copied_named disks file path copied was now h =
    named_between file path was h.first h.last now _ _ h.opens
    (written_named file path (HasCopy disks h.read copied) h.first h.last h.makes.writes) h.closes

-- THE SUM BESIDE IT
module _ {D : Type 0} (file path beside : List ℕ) (was now : List (DeskDeed D)) where
  pub beside_spares : beside ≡ sum_path path → SparesFiles (result_places file (Some beside) false) was now → SparesFiles (sum_places file path) was now
  beside_spares same h = subst (λ p. SparesFiles (result_places file (Some p) false) was now) same h

  pub beside_written : (sum line : List ℕ) → beside ≡ sum_path path → line ≡ sum_line sum path
      → WritesTarget (result_places file (Some beside) false) line was now
      → WritesSum file path sum was now
  beside_written sum line same is h =
      subst (λ l. WritesTarget (sum_places file path) l was now) is (subst (λ p. WritesTarget (result_places file (Some p) false) line was now) same h)

  pub none_beside : now ≡ was → SparesFiles (sum_places file path) was now
  none_beside e = subst (SparesFiles (sum_places file path) was) (sym e) (spares_none (sum_places file path) was)

-- THE COPY, AND THEN ITS SUM
module _ {D : Type 0} (disks : disk.Ghosts D) (file path : List ℕ) (Thins : List (DeskDeed D) → List (DeskDeed D) → Type 0) where
  pub summed_after : (copied : Copied) (was made now : List (DeskDeed D)) → HasCopied disks file path copied was made
      → SparesSum file path Thins made now → SparesCopy file path Thins was now
  summed_after copied was made now h k = record {
    copied = made;
    summed = k.summed;
    copies = copied_spares disks file path copied was made h;
    sums = k.sums;
    thins = elim k.thins [ inl none ↦ inl none | inr thins ↦ inr (copied_named disks file path copied was made h, thins) ];
  }

  pub whole_after : (copied : Copied) (sum : List ℕ) (was made now : List (DeskDeed D)) → HasCopied disks file path copied was made
      → copied.sum ≡ sum → SumsWhole file path sum Thins made now → CopiesWhole disks file path Thins was now
  whole_after copied sum was made now h same k = record {
    copied = copied;
    made = made;
    summed = k.summed;
    copies = h;
    sums = subst (λ s. WritesSum file path s made k.summed) (sym same) k.sums;
    thins = k.thins;
  }

  -- nothing came of it
  pub uncopied : (was now : List (DeskDeed D)) → SparesFiles (copy_places file path) was now → SparesCopy file path Thins was now
  uncopied was now h = record { copied = now; summed = now; copies = h; sums = spares_none (sum_places file path) now; thins = inl refl }

  -- what was asked before
  pub copy_before : (was begun now : List (DeskDeed D)) → SparesFiles (copy_places file path) was begun → SparesCopy file path Thins begun now
      → SparesCopy file path Thins was now
  copy_before was begun now front h = record {
    copied = h.copied;
    summed = h.summed;
    copies = spares_both (copy_places file path) was begun h.copied front h.copies;
    sums = h.sums;
    thins = elim h.thins [
      | inl none ↦ inl none
      | inr both ↦ inr (
        (
          front.since ++ both.0.0,
          more_deeds was begun h.copied front.since both.0.0 front.history both.0.1,
          named_more (covers_rest front.since both.0.0) file path both.0.2,
        ),
        both.1,
      )
    ];
  }

-- FILE WAS BROUGHT TO REST, AND A NAME FOUND
module _ {D : Type 0} (disks : disk.Ghosts D) (file copy : List ℕ) (keep : Option ℕ) where
  pub unrested : (was now : List (DeskDeed D)) → Did was now (IsUnasked disks file) → SparesCopies file copy keep was now
  unrested was now did =
      (0, uncopied disks file copy (ThinsBy file copy 0 keep) was now (unasked_spares disks (copy_places file copy) was now did))

  pub unnamed : (was rested now : List (DeskDeed D)) → Did was rested (IsUnasked disks file) → IsQuiet rested now → SparesCopies file copy keep was now
  unnamed was rested now did quiet = (
    0,
    uncopied disks file copy (ThinsBy file copy 0 keep) was now
        (spares_both (copy_places file copy) was rested now (unasked_spares disks (copy_places file copy) was rested did)
        (quiet_spares disks (copy_places file copy) rested now quiet)),
  )

  pub named_files : (path : List ℕ) (number : ℕ) (was rested begun now : List (DeskDeed D)) → path ≡ numbered_copy copy number
      → Did was rested (IsUnasked disks file) → IsQuiet rested begun → SparesCopy file path (ThinsBy file copy number keep) begun now
      → SparesCopies file copy keep was now
  named_files path number was rested begun now same did quiet h =
      let places = copy_places file (numbered_copy copy number) in (
        number,
        copy_before disks file (numbered_copy copy number) (ThinsBy file copy number keep) was begun now
            (spares_both places was rested begun (unasked_spares disks places was rested did) (quiet_spares disks places rested begun quiet))
            (subst (λ p. SparesCopy file p (ThinsBy file copy number keep) begun now) same h),
      )

  pub named_backs : (path : List ℕ) (number : ℕ) (was rested begun now : List (DeskDeed D)) → path ≡ numbered_copy copy number
      → Did was rested (IsUnasked disks file) → FindsNextCopy copy number rested begun → CopiesWhole disks file path (ThinsBy file copy number keep) begun now
      → (done : BacksUp disks file copy keep was now) × (done.number ≡ number)
  named_backs path number was rested begun now same did finds h = (
    record {
      number = number;
      rested = rested;
      begun = begun;
      rests = did;
      asks = finds;
      copies = subst (λ p. CopiesWhole disks file p (ThinsBy file copy number keep) begun now) same h;
    },
    refl,
  )

  pub nothing_done : (was : List (DeskDeed D)) → SparesCopies file copy keep was was
  nothing_done was = (0, uncopied disks file copy (ThinsBy file copy 0 keep) was was (spares_none (copy_places file copy) was))
