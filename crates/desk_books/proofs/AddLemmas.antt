-- Books that are taken in one after another.
use Rattle.std.proofs.Common.{◌≡◌, ◌≢◌, inl, inr, ℕ, ◌+◌, ◌<◌, max, List, [], ◌∷◌, ◌++◌, None, length, take, get_or, ap, sym, refl, ◌∙◌, subst, arith}
use Rattle.std.proofs.Common.{add-zero, append-nil}
use Rattle.std.proofs.lemmas.List.{take_more}
use Rattle.std.proofs.lemmas.Grind.{common_steps}
use Rattle.sha2.specs.Sha256.{sha256}
use Rattle.tune_undo.specs.declared.old_entries.After.TheVariants.{Text}
use Rattle.tune_undo.specs.declared.old_entries.Part.TheVariants.{Tune}
use Rattle.tune_store.specs.declared.tune_store.TuneStore as store
use Rattle.tune_disk.specs.declared.disk.Disk as disk
use Rattle.std.specs.Prelude.{Result, false}
use Rattle.tune_desk.specs.DeskDeeds.{DeskDeed, read}
use Rattle.tune_desk.specs.OldTexts.{GrowsNot}
use Rattle.tune_desk.specs.Results.{Places, SparesFiles, IsReading, result_places}
use Rattle.tune_desk.specs.declared.desk.DeskFault.{DeskFault}
use Rattle.tune_desk.proofs.SpareLemmas.{spares_none, spares_one_more, spares_both}
use Rattle.desk_terms.specs.declared.adding.Adding.{Adding}
use Rattle.desk_scenes.specs.Scenes.{IsQuiet}
use Rattle.desk_scenes.proofs.QuietLemmas.{quiet_none, quiet_one, quiet_both}
use Rattle.desk_books.specs.AddedBooks.{Reached, TakesBook, TakesParts, Adds, added_parts}
use Rattle.desk_books.specs.Givens.{ReadsGivenBook}

-- FILES
-- a book that is read
pub reads_quiet : {D : Type 0} (input path : List ℕ) (answer : Result (List ℕ) DeskFault) (was now : List (DeskDeed D))
    → ReadsGivenBook input path answer was now → IsQuiet was now
reads_quiet input path answer was now (inl (is, same, gives)) = subst (IsQuiet was) (sym same) (quiet_none was)
reads_quiet input path answer was now (inr (other, deed)) = quiet_one was now (read path answer) deed refl

pub reads_spare : {D : Type 0} (places : Places) (input path : List ℕ) (answer : Result (List ℕ) DeskFault) (was now : List (DeskDeed D))
    → ReadsGivenBook input path answer was now → SparesFiles places was now
reads_spare places input path answer was now (inl (is, same, gives)) = subst (SparesFiles places was) (sym same) (spares_none places was)
reads_spare places input path answer was now (inr (other, deed)) = spares_one_more places was was now (read path answer) (spares_none places was) deed refl

-- what is done between the opening of FILE and its closing
pub around_spares : {D : Type 0} (file : List ℕ) (was began ended now : List (DeskDeed D)) (first last : DeskDeed D) → began ≡ was ++ first ∷ []
    → IsReading (result_places file None false) first → SparesFiles (result_places file None false) began ended → now ≡ ended ++ last ∷ []
    → IsReading (result_places file None false) last → SparesFiles (result_places file None false) was now
around_spares file was began ended now first last e reads spares f closes =
    let places = result_places file None false in
    let opens = spares_one_more places was was began first (spares_none places was) e reads in
    spares_one_more places was ended now last (spares_both places was began ended opens spares) f closes

-- STATUSES
-- a greater status
pub parts_more : {D S : Type 0} (kept : store.Ghosts S) (file : List ℕ) (parts : List (List ℕ)) (old new : Reached D S) (first later status : ℕ)
    → status ≡ max first later → TakesParts kept file parts old new first → TakesParts kept file parts old new status
parts_more kept file [] old new first later status e h = h
parts_more kept file (part ∷ parts) old new first later status e (inl (mid, takes, rest)) =
    inl (mid, takes, parts_more kept file parts mid new first later status e rest)
parts_more kept file (part ∷ parts) old new first later status e (inr (refused, why, is, takes)) =
    inr (λ none. refused (omega (arith, e, none)), why, is, takes)

-- what was looked at before
pub adds_after : {D : Type 0} (disks : disk.Ghosts D) (file : List ℕ) (how : Adding) (was mid now : List (DeskDeed D)) (status : ℕ)
    → IsQuiet was mid → Adds disks file how mid now status → Adds disks file how was now status
adds_after disks file how was mid now status before (inl (quiet, refused)) = inl (quiet_both was mid now before quiet, refused)
adds_after disks file how was mid now status before (inr (found, input, at, quiet, adds)) =
    inr (found, input, at, quiet_both was mid at before quiet, adds)

-- PARTS OF A BOOK
-- Where what is left is taken in from here, all was taken in from the start.
abbrev pub Continues : {D S : Type 0} → store.Ghosts S → List ℕ → List (List ℕ) → Reached D S → List (List ℕ) → Reached D S → Type 0
Continues {D} {S} kept file all start left here =
    (new : Reached D S) (status : ℕ) → TakesParts kept file left here new status → TakesParts kept file all start new status

module _ {D S : Type 0} (kept : store.Ghosts S) (file : List ℕ) (all : List (List ℕ)) (start : Reached D S) where
  pub continues_first : (left : List (List ℕ)) → left ≡ all → Continues kept file all start left start
  continues_first left e = λ new status h. subst (λ parts. TakesParts kept file parts start new status) e h

  pub continues_next : (left rest : List (List ℕ)) (part : List ℕ) (here mid : Reached D S) (status : ℕ) → left ≡ part ∷ rest → status ≡ 0
      → Continues kept file all start left here → TakesBook kept file part here mid status → Continues kept file all start rest mid
  continues_next left rest part here mid status e zero goes takes = λ new last h.
      let taken = subst (TakesBook kept file part here mid) zero takes in
      goes new last (subst (λ parts. TakesParts kept file parts here new last) (sym e) (inl (mid, taken, h)))

  pub continues_stop : (left rest : List (List ℕ)) (part : List ℕ) (here new : Reached D S) (status : ℕ) → left ≡ part ∷ rest → status ≢ 0
      → Continues kept file all start left here → TakesBook kept file part here new status → TakesParts kept file all start new status
  continues_stop left rest part here new status e refused goes takes =
      goes new status (subst (λ parts. TakesParts kept file parts here new status) (sym e) (inr (refused, status, refused, takes)))

  pub continues_end : (left : List (List ℕ)) (here : Reached D S) (status : ℕ) → left ≡ [] → Continues kept file all start left here
      → TakesParts kept file all start here status
  continues_end left here status e goes = goes here status (subst (λ parts. TakesParts kept file parts here here status) (sym e) refl)

-- PARTS OF AN ENTRY
length_take_of : {X : Type 0} (xs : List X) (i : ℕ) → i < length xs → length (take i xs) ≡ i
length_take_of xs i lt = grind (arith, common_steps)

added_append : (texts : List (List ℕ)) (first : ℕ) (text : List ℕ)
    → added_parts first (texts ++ text ∷ []) ≡ added_parts first texts ++ Tune (first + length texts) None (Text (sha256 text)) ∷ []
added_append [] first text = ap (λ n. Tune n None (Text (sha256 text)) ∷ []) (sym (add-zero first))
added_append (other ∷ texts) first text =
    let number : (first + 1) + length texts ≡ first + length (other ∷ texts) = omega arith in
    ap (λ parts. Tune first None (Text (sha256 other)) ∷ parts)
    (added_append texts (first + 1) text
    ∙ ap (λ n. added_parts (first + 1) texts ++ Tune n None (Text (sha256 text)) ∷ []) number)

-- the parts of the first texts, and of one more
pub added_more : (texts : List (List ℕ)) (first i number : ℕ) (text sum : List ℕ) → i < length texts → text ≡ get_or texts i text
    → number ≡ first + i → sum ≡ sha256 text
    → added_parts first (take i texts) ++ Tune number None (Text sum) ∷ [] ≡ added_parts first (take (i + 1) texts)
added_more texts first i number text sum lt is at e =
    let size : length (take i texts) ≡ i = length_take_of texts i lt in
    let longer : take (i + 1) texts ≡ take i texts ++ text ∷ [] = take_more texts i text lt ∙ ap (λ y. take i texts ++ y ∷ []) (sym is) in
    ap (λ s. added_parts first (take i texts) ++ Tune number None (Text s) ∷ []) e
    ∙ ap (λ n. added_parts first (take i texts) ++ Tune n None (Text (sha256 text)) ∷ []) (at ∙ ap (λ n. first + n) (sym size))
    ∙ sym (added_append (take i texts) first text) ∙ ap (added_parts first) (sym longer)

-- nothing was grown
pub grows_nothing : {D : Type 0} (file : List ℕ) (was : List (DeskDeed D)) → GrowsNot file was was
grows_nothing file was = record { asked = []; tried = []; history = sym (append-nil was); changes_nothing = tt; failed = inl refl }
