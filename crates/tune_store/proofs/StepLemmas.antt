-- Answers by the step.
use Rattle.std.proofs.Common.{subst}
use Rattle.std.proofs.Common.{◌≡◌, ℕ, ◌+◌, Bool, true, false, not, cond, eqb, ltb, List, [], ◌∷◌, length, Option, Some, None, Result, Ok, Err, refl, sym, ap}
use Rattle.std.proofs.Common.{◌∙◌, inl, inr, ◌⊎◌, arith}
use Rattle.std.specs.Prelude.{◌≢◌, ◌↔◌, IfErr, ⊤}
use Rattle.abc_fields.specs.Books.{Texts, book_answer}
use Rattle.abc_fields.specs.declared.book.BookFault.{BookFault}
use Rattle.abc_fields.specs.declared.book.BookFault.TheVariants as fault
use Rattle.tune_queries.specs.Queries.{is_bad}
use Rattle.tune_queries.specs.declared.queries.Query.{Query}
use Rattle.tune_sets.specs.Sets.{set_at, holder}
use Rattle.tune_sets.specs.Calls.{SetsOutcome, create_set, create_unless, add_number, add_to, cut_place, cut_from, drop_set, drop_found, places_found}
use Rattle.tune_sets.specs.declared.set_lists.TuneSet.{TuneSet}
use Rattle.tune_sets.specs.declared.faults.SetFault.{SetFault}
use Rattle.tune_sets.specs.declared.faults.SetFault.TheVariants as set_fault
use Rattle.tune_store.specs.State.{State, IsState, Standing, greatest, tune_at}
use Rattle.tune_store.specs.TuneSteps.{Outcome, TunesOutcome, tunes_step, refusal_of, import_book, replace_book, replace_texts, replace_tune, delete_tune}
use Rattle.tune_store.specs.TuneSteps.{is_number, renumbered_state, renumber_unless, renumber_found, renumber}
use Rattle.tune_store.specs.SetSteps.{refusal_of_sets, sets_answer, sets_step, set_add_found}
use Rattle.tune_store.specs.Questions.{shown}
use Rattle.tune_store.specs.Step.{step}
use Rattle.tune_store.specs.Answers.{Answers, open_at, stepped, no_memory, failed_before, failed_after, is_closed, passed}
use Rattle.tune_store.specs.Answers.{stays_open, IsRefusalOf, IsRefusalOfAny, IsRefusalOfOwn}
use Rattle.tune_store.specs.StoreStops.{Among, Passes}
use Rattle.tune_store.specs.Inside.Plans.{IsOwnOrMemory}
use Rattle.tune_store.specs.declared.tune.Tune.{Tune}
use Rattle.tune_store.specs.Limits.{longest_text, most_tunes, greatest_number, greatest_revision}
use Rattle.tune_store.specs.declared.command.Command.{Command}
use Rattle.tune_store.specs.declared.command.Command.TheVariants.{Import, Replace, Delete, Renumber, Show, Find, Titles, SetNew, SetAdd, SetCut}
use Rattle.tune_store.specs.declared.command.Command.TheVariants.{SetDrop, Sets, SetShow, ExportAll, ExportSet, Upgrade}
use Rattle.tune_store.specs.declared.command.Reply.{Reply}
use Rattle.tune_store.specs.declared.command.Reply.TheVariants.{Renumbered}
use Rattle.tune_store.specs.declared.command.Refusal.{Refusal}
use Rattle.tune_store.specs.declared.command.Refusal.TheVariants.{BookTooLong, NoTune, BadTune, NotOne, Unknown, Stale, Worn, ArchiveFull}
use Rattle.tune_store.specs.declared.command.Refusal.TheVariants.{NumbersSpent, Taken, InSet, NoSuchSet, SetTaken, SetFull, SetsFull, NoSuchPlace}
use Rattle.tune_store.specs.declared.command.Refusal.TheVariants.{BadName, BadNumber, BadQuery, OutOfMemory, Device, Closed}
use Rattle.tune_store.specs.declared.layout.Layout.{Layout}

-- CALLS OF SETS
-- where sets refuse, they stay, and the refusal is one of these
abbrev pub SetsRefuse : {Answer : Type 0} → (Refusal → Type 0) → List TuneSet → SetsOutcome Answer → Type 0
SetsRefuse P sets outcome = (why : SetFault) → outcome.1 ≡ Err why → (outcome.0 ≡ sets) × P (refusal_of_sets why)

sets_refuse : {Answer : Type 0} (P : Refusal → Type 0) (sets : List TuneSet) (why : SetFault) → P (refusal_of_sets why)
    → SetsRefuse {Answer = Answer} P sets (sets, Err why)
sets_refuse P sets why is other h = let same : why ≡ other = cc in (refl, subst (λ one. P (refusal_of_sets one)) same is)

sets_accept : {Answer : Type 0} (P : Refusal → Type 0) (sets new : List TuneSet) (answer : Answer) → SetsRefuse P sets (new, Ok answer)
sets_accept P sets new answer why h = cc

-- by a test, where it holds or where it does not
refuse_if : {Answer : Type 0} (P : Refusal → Type 0) (sets : List TuneSet) (test : Bool) (one other : SetsOutcome Answer)
    → SetsRefuse P sets one → SetsRefuse P sets other → SetsRefuse P sets (cond test one other)
refuse_if P sets true one other first second = first
refuse_if P sets false one other first second = second

create_unless_refuses : (name : List ℕ) (sets : List TuneSet) (found : Option TuneSet)
    → SetsRefuse (IsOwnOrMemory (SetNew name)) sets (create_unless name sets found)
create_unless_refuses name sets (Some set) = sets_refuse (IsOwnOrMemory (SetNew name)) sets set_fault.SetTaken (inl tt)
create_unless_refuses name sets None = let P = IsOwnOrMemory (SetNew name) in
    refuse_if P sets _ _ _ (sets_refuse P sets set_fault.SetsFull (inl tt)) (sets_accept P sets _ tt)

pub create_refuses : (name : List ℕ) (sets : List TuneSet) → SetsRefuse (IsOwnOrMemory (SetNew name)) sets (create_set name sets)
create_refuses name sets = let P = IsOwnOrMemory (SetNew name) in
    refuse_if P sets _ _ _ (sets_refuse P sets set_fault.BadName (inl tt)) (create_unless_refuses name sets (set_at name sets))

add_to_refuses : (name : List ℕ) (number : ℕ) (sets : List TuneSet) (found : Option TuneSet)
    → SetsRefuse (IsOwnOrMemory (SetAdd name number)) sets (add_to name number sets found)
add_to_refuses name number sets None = sets_refuse (IsOwnOrMemory (SetAdd name number)) sets set_fault.NoSuchSet (inl tt)
add_to_refuses name number sets (Some set) = let P = IsOwnOrMemory (SetAdd name number) in
    refuse_if P sets _ _ _ (sets_refuse P sets set_fault.SetFull (inl tt)) (sets_accept P sets _ _)

pub add_refuses : (name : List ℕ) (number : ℕ) (sets : List TuneSet) → SetsRefuse (IsOwnOrMemory (SetAdd name number)) sets (add_number name number sets)
add_refuses name number sets = add_to_refuses name number sets (set_at name sets)

cut_from_refuses : (name : List ℕ) (place : ℕ) (sets : List TuneSet) (found : Option TuneSet)
    → SetsRefuse (IsOwnOrMemory (SetCut name place)) sets (cut_from name place sets found)
cut_from_refuses name place sets None = sets_refuse (IsOwnOrMemory (SetCut name place)) sets set_fault.NoSuchSet (inl tt)
cut_from_refuses name place sets (Some set) = let P = IsOwnOrMemory (SetCut name place) in
    refuse_if P sets _ _ _ (sets_accept P sets _ tt) (sets_refuse P sets set_fault.NoSuchPlace (inl tt))

pub cut_refuses : (name : List ℕ) (place : ℕ) (sets : List TuneSet) → SetsRefuse (IsOwnOrMemory (SetCut name place)) sets (cut_place name place sets)
cut_refuses name place sets = cut_from_refuses name place sets (set_at name sets)

drop_found_refuses : (name : List ℕ) (sets : List TuneSet) (found : Option TuneSet)
    → SetsRefuse (IsOwnOrMemory (SetDrop name)) sets (drop_found name sets found)
drop_found_refuses name sets None = sets_refuse (IsOwnOrMemory (SetDrop name)) sets set_fault.NoSuchSet (inl tt)
drop_found_refuses name sets (Some set) = sets_accept (IsOwnOrMemory (SetDrop name)) sets _ tt

pub drop_refuses : (name : List ℕ) (sets : List TuneSet) → SetsRefuse (IsOwnOrMemory (SetDrop name)) sets (drop_set name sets)
drop_refuses name sets = drop_found_refuses name sets (set_at name sets)

-- ANOTHER NUMBER
-- the outcome of another number, by whether that is its own, and by the tunes of the two numbers
abbrev renumbered_by : State → ℕ → ℕ → Bool → Option Tune → Option Tune → Outcome
renumbered_by old number to same None other = (old, Err (Unknown number))
renumbered_by old number to same (Some tune) None = (renumbered_state number to old, Ok (Renumbered number to))
renumbered_by old number to same (Some tune) (Some other) = cond same (old, Ok (Renumbered number to)) (old, Err (Taken to))

found_by : (old : State) (number to : ℕ) (found other : Option Tune) (taken : tune_at to old.tunes ≡ other)
    → renumber_found old number to found ≡ renumbered_by old number to (eqb number to) found other
found_by old number to None other taken = refl
found_by old number to (Some tune) None taken = ap (renumber_unless old number to) taken
found_by old number to (Some tune) (Some other) taken = ap (renumber_unless old number to) taken

-- what holds of the outcome, however the tests end
renumber_step : (P : Outcome → Type 0) (old : State) (number to : ℕ)
    → ((good same : Bool) (found other : Option Tune) → P (cond good (renumbered_by old number to same found other) (old, Err BadNumber)))
    → P (renumber old number to)
renumber_step P old number to each =
    let found = tune_at number old.tunes in let other = tune_at to old.tunes in
    subst (λ o. P (cond (is_number to) o (old, Err BadNumber))) (sym (found_by old number to found other refl))
    (each (is_number to) (eqb number to) found other)

-- A REFUSED COMMAND CHANGES NOTHING
-- where the answer is a refusal, the tunes or the state are these
abbrev pub KeepsOnErr : {A : Type 0} → A → A × Result Reply Refusal → Type 0
KeepsOnErr old outcome = (refusal : Refusal) → outcome.1 ≡ Err refusal → outcome.0 ≡ old

-- an outcome by two tests, of which each refuses
two_tests_keep : (old new : List Tune) (a b : Bool) (x y : Refusal) (reply : Reply)
    → KeepsOnErr old (cond a (old, Err x) (cond b (old, Err y) (new, Ok reply)))
two_tests_keep old new true b x y reply refusal h = refl
two_tests_keep old new false true x y reply refusal h = refl
two_tests_keep old new false false x y reply refusal h = cc

-- an import that is refused keeps the tunes
import_keeps : (layout : Layout) (old : List Tune) (texts : Texts) → KeepsOnErr old (import_book layout old texts)
import_keeps layout old (Err fault) refusal h = refl
import_keeps layout old (Ok texts) refusal h =
    two_tests_keep old _ (ltb (most_tunes layout) (length old + length texts)) (ltb greatest_number (greatest old + length texts)) _ _ _ refusal h

-- so does a replacement, of the tune that was found
replace_tune_keeps : (old : List Tune) (number revision : ℕ) (text : List ℕ) (found : Option Tune)
    → KeepsOnErr old (replace_tune old number revision text found)
replace_tune_keeps old number revision text None refusal h = refl
replace_tune_keeps old number revision text (Some tune) refusal h =
    two_tests_keep old _ (not (eqb tune.revision revision)) (not (ltb tune.revision greatest_revision)) _ _ _ refusal h

-- by the texts of a book
replace_texts_keep : (old : List Tune) (number revision : ℕ) (texts : List (List ℕ)) → KeepsOnErr old (replace_texts old number revision texts)
replace_texts_keep old number revision [] refusal h = refl
replace_texts_keep old number revision (text ∷ []) refusal h = replace_tune_keeps old number revision text (tune_at number old) refusal h
replace_texts_keep old number revision (text ∷ next ∷ texts) refusal h = refl

-- or by a book that has none
replace_keeps : (old : List Tune) (number revision : ℕ) (texts : Texts) → KeepsOnErr old (replace_book old number revision texts)
replace_keeps old number revision (Err fault) refusal h = refl
replace_keeps old number revision (Ok texts) refusal h = replace_texts_keep old number revision texts refusal h

-- and a deletion
delete_keeps : (old : List Tune) (number : ℕ) (held : Option (List ℕ)) (found : Option Tune) → KeepsOnErr old (delete_tune old number held found)
delete_keeps old number held None refusal h = refl
delete_keeps old number None (Some tune) refusal h = cc
delete_keeps old number (Some name) (Some tune) refusal h = refl

-- what keeps the tunes of a state keeps the state
step_keeps : (old : State) (outcome : TunesOutcome) → KeepsOnErr old.tunes outcome → KeepsOnErr old (tunes_step old outcome)
step_keeps old outcome keeps refusal h = ap (λ tunes. record old { tunes = tunes }) (keeps refusal h)

-- another number that is refused keeps the state
renumber_keeps : (old : State) (number to : ℕ) (good same : Bool) (found other : Option Tune)
    → KeepsOnErr old (cond good (renumbered_by old number to same found other) (old, Err BadNumber))
renumber_keeps old number to false same found other refusal h = refl
renumber_keeps old number to true same None other refusal h = refl
renumber_keeps old number to true same (Some tune) None refusal h = cc
renumber_keeps old number to true true (Some tune) (Some other) refusal h = refl
renumber_keeps old number to true false (Some tune) (Some other) refusal h = refl

-- and a change of sets
sets_keep : {Answer : Type 0} (P : Refusal → Type 0) (reply : Answer → Reply) (old : State) (outcome : SetsOutcome Answer)
    → SetsRefuse P old.sets outcome → KeepsOnErr old (sets_step reply old outcome)
sets_keep P reply old (new, Ok answer) refuse refusal h = cc
sets_keep P reply old (new, Err why) refuse refusal h = ap (λ sets. record old { sets = sets }) (refuse why refl).0

-- a number more in a set too
add_keeps : (old : State) (name : List ℕ) (number : ℕ) (found : Option Tune) → KeepsOnErr old (set_add_found old name number found)
add_keeps old name number None = λ refusal h. refl
add_keeps old name number (Some tune) = sets_keep (IsOwnOrMemory (SetAdd name number)) _ old _ (add_refuses name number old.sets)

-- a command that is refused keeps the state
pub refused_keeps : (old : State) (command : Command) → KeepsOnErr old (step old command)
refused_keeps old (Import book) = step_keeps old _ (import_keeps _ old.tunes (book_answer (longest_text old.layout) book))
refused_keeps old (Replace number revision book) = step_keeps old _ (replace_keeps old.tunes number revision (book_answer (longest_text old.layout) book))
refused_keeps old (Delete number) = step_keeps old _ (delete_keeps old.tunes number (holder number old.sets) (tune_at number old.tunes))
refused_keeps old (Renumber number to) =
    renumber_step (KeepsOnErr old) old number to (λ good same found other. renumber_keeps old number to good same found other)
refused_keeps old (Show number) = λ refusal h. refl
refused_keeps old (Find query) = λ refusal h. refl
refused_keeps old Titles = λ refusal h. refl
refused_keeps old (SetNew name) = sets_keep (IsOwnOrMemory (SetNew name)) _ old _ (create_refuses name old.sets)
refused_keeps old (SetAdd name number) = add_keeps old name number (tune_at number old.tunes)
refused_keeps old (SetCut name place) = sets_keep (IsOwnOrMemory (SetCut name place)) _ old _ (cut_refuses name place old.sets)
refused_keeps old (SetDrop name) = sets_keep (IsOwnOrMemory (SetDrop name)) _ old _ (drop_refuses name old.sets)
refused_keeps old Sets = λ refusal h. refl
refused_keeps old (SetShow name) = λ refusal h. refl
refused_keeps old ExportAll = λ refusal h. refl
refused_keeps old (ExportSet name) = λ refusal h. refl
refused_keeps old Upgrade = λ refusal h. cc

-- WHICH REFUSALS A COMMAND IS GIVEN
-- where the answer is a refusal, it is one of these
abbrev pub Refuses : (Refusal → Type 0) → Result Reply Refusal → Type 0
Refuses P answer = (refusal : Refusal) → answer ≡ Err refusal → P refusal

-- the same of the answer of an outcome
abbrev OutcomeRefuses : (Refusal → Type 0) → TunesOutcome → Type 0
OutcomeRefuses P outcome = Refuses P outcome.1

-- an outcome by two tests, of which each refuses
two_tests_refuse : (P : Refusal → Type 0) (old new : List Tune) (a b : Bool) (x y : Refusal) (reply : Reply) → P x → P y
    → OutcomeRefuses P (cond a (old, Err x) (cond b (old, Err y) (new, Ok reply)))
two_tests_refuse P old new true b x y reply is_x is_y refusal h = let same : x ≡ refusal = cc in subst P same is_x
two_tests_refuse P old new false true x y reply is_x is_y refusal h = let same : y ≡ refusal = cc in subst P same is_y
two_tests_refuse P old new false false x y reply is_x is_y refusal h = cc

-- the faults of a book are refusals of an import
import_fault : (book : List ℕ) (fault : BookFault) → IsOwnOrMemory (Import book) (refusal_of fault)
import_fault book fault.BookTooLong = inl tt
import_fault book fault.NoTune = inl tt
import_fault book (fault.BadTune place why) = inl tt
import_fault book fault.OutOfMemory = inr refl

-- and of a replacement
replace_fault : (number revision : ℕ) (book : List ℕ) (fault : BookFault) → IsOwnOrMemory (Replace number revision book) (refusal_of fault)
replace_fault number revision book fault.BookTooLong = inl tt
replace_fault number revision book fault.NoTune = inl tt
replace_fault number revision book (fault.BadTune place why) = inl tt
replace_fault number revision book fault.OutOfMemory = inr refl

-- the refusals of an import
import_refuses : (layout : Layout) (old : List Tune) (book : List ℕ) (texts : Texts) → Refuses (IsOwnOrMemory (Import book)) (import_book layout old texts).1
import_refuses layout old book (Err fault) refusal h =
    let same : refusal_of fault ≡ refusal = cc in
    subst (IsOwnOrMemory (Import book)) same (import_fault book fault)
import_refuses layout old book (Ok texts) refusal h =
    two_tests_refuse (IsOwnOrMemory (Import book)) old _ (ltb (most_tunes layout) (length old + length texts))
    (ltb greatest_number (greatest old + length texts)) _ _ _ (inl tt) (inl tt) refusal h

-- those of a replacement, of the tune that was found
replace_tune_refuses : (old : List Tune) (number revision : ℕ) (book text : List ℕ) (found : Option Tune)
    → Refuses (IsOwnOrMemory (Replace number revision book)) (replace_tune old number revision text found).1
replace_tune_refuses old number revision book text None refusal h =
    let same : Unknown number ≡ refusal = cc in subst (IsOwnOrMemory (Replace number revision book)) same (inl refl)
replace_tune_refuses old number revision book text (Some tune) refusal h =
    two_tests_refuse (IsOwnOrMemory (Replace number revision book)) old _ (not (eqb tune.revision revision))
    (not (ltb tune.revision greatest_revision)) _ _ _ (inl tt) (inl tt) refusal h

-- by the texts of a book
replace_texts_refuse : (old : List Tune) (number revision : ℕ) (book : List ℕ) (texts : List (List ℕ))
    → Refuses (IsOwnOrMemory (Replace number revision book)) (replace_texts old number revision texts).1
replace_texts_refuse old number revision book [] refusal h =
    let same : NotOne 0 ≡ refusal = cc in subst (IsOwnOrMemory (Replace number revision book)) same (inl tt)
replace_texts_refuse old number revision book (text ∷ []) refusal h = replace_tune_refuses old number revision book text (tune_at number old) refusal h
replace_texts_refuse old number revision book (text ∷ next ∷ texts) refusal h =
    let same : NotOne (length (text ∷ next ∷ texts)) ≡ refusal = cc in subst (IsOwnOrMemory (Replace number revision book)) same (inl tt)

-- or by a book that has none
replace_refuses : (old : List Tune) (number revision : ℕ) (book : List ℕ) (texts : Texts)
    → Refuses (IsOwnOrMemory (Replace number revision book)) (replace_book old number revision texts).1
replace_refuses old number revision book (Err fault) refusal h =
    let same : refusal_of fault ≡ refusal = cc in
    subst (IsOwnOrMemory (Replace number revision book)) same (replace_fault number revision book fault)
replace_refuses old number revision book (Ok texts) refusal h = replace_texts_refuse old number revision book texts refusal h

-- those of a deletion
delete_refuses : (old : List Tune) (number : ℕ) (held : Option (List ℕ)) (found : Option Tune)
    → Refuses (IsOwnOrMemory (Delete number)) (delete_tune old number held found).1
delete_refuses old number held None refusal h = let same : Unknown number ≡ refusal = cc in subst (IsOwnOrMemory (Delete number)) same (inl refl)
delete_refuses old number (Some name) (Some tune) refusal h =
    let same : InSet name ≡ refusal = cc in subst (IsOwnOrMemory (Delete number)) same (inl tt)
delete_refuses old number None (Some tune) refusal h = cc

-- those of another number
renumber_refuses : (old : State) (number to : ℕ) (good same : Bool) (found other : Option Tune)
    → Refuses (IsOwnOrMemory (Renumber number to)) (cond good (renumbered_by old number to same found other) (old, Err BadNumber)).1
renumber_refuses old number to false same found other refusal h =
    let is : BadNumber ≡ refusal = cc in subst (IsOwnOrMemory (Renumber number to)) is (inl tt)
renumber_refuses old number to true same None other refusal h =
    let is : Unknown number ≡ refusal = cc in subst (IsOwnOrMemory (Renumber number to)) is (inl refl)
renumber_refuses old number to true same (Some tune) None refusal h = cc
renumber_refuses old number to true true (Some tune) (Some other) refusal h = cc
renumber_refuses old number to true false (Some tune) (Some other) refusal h =
    let is : Taken to ≡ refusal = cc in subst (IsOwnOrMemory (Renumber number to)) is (inl refl)

-- those of a change of sets
sets_refusal : {Answer : Type 0} (P : Refusal → Type 0) (reply : Answer → Reply) (old : State) (outcome : SetsOutcome Answer)
    → SetsRefuse P old.sets outcome → Refuses P (sets_step reply old outcome).1
sets_refusal P reply old (new, Ok answer) refuse refusal h = cc
sets_refusal P reply old (new, Err why) refuse refusal h = let same : refusal_of_sets why ≡ refusal = cc in subst P same (refuse why refl).1

-- those of a number more in a set
add_refusal : (old : State) (name : List ℕ) (number : ℕ) (found : Option Tune)
    → Refuses (IsOwnOrMemory (SetAdd name number)) (set_add_found old name number found).1
add_refusal old name number None = λ refusal h.
    let same : Unknown number ≡ refusal = cc in subst (IsOwnOrMemory (SetAdd name number)) same (inl refl)
add_refusal old name number (Some tune) = sets_refusal (IsOwnOrMemory (SetAdd name number)) _ old _ (add_refuses name number old.sets)

-- those of a query
find_refuses : (query : Query) (bad : Bool) (reply : Reply) → Refuses (IsOwnOrMemory (Find query)) (cond bad (Err BadQuery) (Ok reply))
find_refuses query true reply refusal h = let same : BadQuery ≡ refusal = cc in subst (IsOwnOrMemory (Find query)) same (inl tt)
find_refuses query false reply refusal h = cc

-- those of a look at a set, whatever it shows
look_refuses : (P : Refusal → Type 0) (reply : List ℕ → Reply) (found : Option TuneSet) → P NoSuchSet
    → Refuses P (sets_answer reply (places_found found))
look_refuses P reply None is refusal h = let same : NoSuchSet ≡ refusal = cc in subst P same is
look_refuses P reply (Some set) is refusal h = cc

-- and of a look at a tune
show_refuses : (number : ℕ) (found : Option Tune) → Refuses (IsOwnOrMemory (Show number)) (shown number found)
show_refuses number None refusal h = let same : Unknown number ≡ refusal = cc in subst (IsOwnOrMemory (Show number)) same (inl refl)
show_refuses number (Some tune) refusal h = cc

-- the refusals of each command
step_refuses : (old : State) (command : Command) → Refuses (IsOwnOrMemory command) (step old command).1
step_refuses old (Import book) = import_refuses _ old.tunes book (book_answer (longest_text old.layout) book)
step_refuses old (Replace number revision book) = replace_refuses old.tunes number revision book (book_answer (longest_text old.layout) book)
step_refuses old (Delete number) = delete_refuses old.tunes number (holder number old.sets) (tune_at number old.tunes)
step_refuses old (Renumber number to) =
    renumber_step (λ o. Refuses (IsOwnOrMemory (Renumber number to)) o.1) old number to
    (λ good same found other. renumber_refuses old number to good same found other)
step_refuses old (Show number) = show_refuses number (tune_at number old.tunes)
step_refuses old (Find query) = find_refuses query (is_bad query) _
step_refuses old Titles = λ refusal h. cc
step_refuses old (SetNew name) = sets_refusal (IsOwnOrMemory (SetNew name)) _ old _ (create_refuses name old.sets)
step_refuses old (SetAdd name number) = add_refusal old name number (tune_at number old.tunes)
step_refuses old (SetCut name place) = sets_refusal (IsOwnOrMemory (SetCut name place)) _ old _ (cut_refuses name place old.sets)
step_refuses old (SetDrop name) = sets_refusal (IsOwnOrMemory (SetDrop name)) _ old _ (drop_refuses name old.sets)
step_refuses old Sets = λ refusal h. cc
step_refuses old (SetShow name) = look_refuses (IsOwnOrMemory (SetShow name)) _ (set_at name old.sets) (inl tt)
step_refuses old ExportAll = λ refusal h. cc
step_refuses old (ExportSet name) = look_refuses (IsOwnOrMemory (ExportSet name)) _ (set_at name old.sets) (inl tt)
step_refuses old Upgrade = λ refusal h. cc

-- NO COMMAND ANSWERS FOR THE DEVICE
-- the refusals that a state's own step does not give
abbrev pub IsOfDevice : Refusal → Type 0
IsOfDevice refusal = (refusal ≡ Device) ⊎ (refusal ≡ Closed)

-- no command's own refusal is that the device failed
own_not_device : (command : Command) → IsRefusalOfOwn command Device → ⊥
own_not_device (Import book) own = own
own_not_device (Replace number revision book) own = own
own_not_device (Delete number) own = own
own_not_device (Renumber number to) own = own
own_not_device (Show number) own = own
own_not_device (Find query) own = own
own_not_device Titles own = own
own_not_device (SetNew name) own = own
own_not_device (SetAdd name number) own = own
own_not_device (SetCut name place) own = own
own_not_device (SetDrop name) own = own
own_not_device Sets own = own
own_not_device (SetShow name) own = own
own_not_device ExportAll own = own
own_not_device (ExportSet name) own = own
own_not_device Upgrade own = own

-- or that it failed before
own_not_closed : (command : Command) → IsRefusalOfOwn command Closed → ⊥
own_not_closed (Import book) own = own
own_not_closed (Replace number revision book) own = own
own_not_closed (Delete number) own = own
own_not_closed (Renumber number to) own = own
own_not_closed (Show number) own = own
own_not_closed (Find query) own = own
own_not_closed Titles own = own
own_not_closed (SetNew name) own = own
own_not_closed (SetAdd name number) own = own
own_not_closed (SetCut name place) own = own
own_not_closed (SetDrop name) own = own
own_not_closed Sets own = own
own_not_closed (SetShow name) own = own
own_not_closed ExportAll own = own
own_not_closed (ExportSet name) own = own
own_not_closed Upgrade own = own

-- no command is refused for the device
step_not_of_device : (old : State) (command : Command) (refusal : Refusal) → (step old command).1 ≡ Err refusal → IsOfDevice refusal → ⊥
step_not_of_device old command refusal h of = elim (step_refuses old command refusal h) [
  | inl own ↦ elim of [
    | inl e ↦ own_not_device command (subst (IsRefusalOfOwn command) e own)
    | inr e ↦ own_not_closed command (subst (IsRefusalOfOwn command) e own)
  ]
  | inr memory ↦ elim of [ inl e ↦ cc | inr e ↦ cc ]
]

-- a refusal that is none of the device leaves a store open
open_after : (refusal : Refusal) → (IsOfDevice refusal → ⊥) → stays_open (Err refusal) ≡ true
open_after NoTune other = refl
open_after (BadTune place why) other = refl
open_after (NotOne count) other = refl
open_after (Unknown number) other = refl
open_after (Stale revision) other = refl
open_after Worn other = refl
open_after (Taken number) other = refl
open_after (InSet name) other = refl
open_after NoSuchSet other = refl
open_after SetTaken other = refl
open_after SetFull other = refl
open_after SetsFull other = refl
open_after NoSuchPlace other = refl
open_after BadName other = refl
open_after BadNumber other = refl
open_after BadQuery other = refl
open_after ArchiveFull other = refl
open_after NumbersSpent other = refl
open_after BookTooLong other = refl
open_after OutOfMemory other = refl
open_after Device other = absurd (other (inl refl))
open_after Closed other = absurd (other (inr refl))

-- WHAT AN ANSWER SAYS OF THE STORE
-- after each refusal but that of a device that failed, the store stands for what it stood for
pub refused_stays : (old new : Standing) (command : Command) (answer : Result Reply Refusal) → Answers old command answer new
    → IfErr answer (λ refusal. refusal ≢ Device → new ≡ old)
refused_stays _ _ _ _ (stepped old new command (Ok reply) e) = tt
refused_stays _ _ _ _ (stepped old new command (Err refusal) e) =
    λ other. ap open_at (sym (ap (λ (o : Outcome). o.0) e) ∙ refused_keeps old command refusal (ap (λ (o : Outcome). o.1) e))
refused_stays _ _ _ _ (no_memory old command) = λ other. refl
refused_stays _ _ _ _ (failed_before old command) = λ other. absurd (other refl)
refused_stays _ _ _ _ (failed_after old command) = λ other. absurd (other refl)
refused_stays _ _ _ _ (is_closed old command) = λ other. refl

-- each refusal is one that may come to the command
pub answers_name : (old new : Standing) (command : Command) (answer : Result Reply Refusal) → Answers old command answer new
    → IfErr answer (IsRefusalOf command)
answers_name _ _ _ _ (stepped old new command (Ok reply) e) = tt
answers_name _ _ _ _ (stepped old new command (Err refusal) e) = elim (step_refuses old command refusal (ap (λ (o : Outcome). o.1) e)) [
  | inl own ↦ inl own
  | inr memory ↦ inr (subst (IsRefusalOfAny command) (sym memory) tt)
]
answers_name _ _ _ _ (no_memory old command) = inr tt
answers_name _ _ _ _ (failed_before old command) = inr tt
answers_name _ _ _ _ (failed_after old command) = inr tt
answers_name _ _ _ _ (is_closed old command) = inr tt

-- whether a store is closed after a call is known by the answer
pub answers_close : (old new : Standing) (command : Command) (answer : Result Reply Refusal) → Answers old command answer new
    → new.closed ≡ not (stays_open answer)
answers_close _ _ _ _ (stepped old new command (Ok reply) e) = refl
answers_close _ _ _ _ (stepped old new command (Err refusal) e) =
    sym (ap not (open_after refusal (step_not_of_device old command refusal (ap (λ (o : Outcome). o.1) e))))
answers_close _ _ _ _ (no_memory old command) = refl
answers_close _ _ _ _ (failed_before old command) = refl
answers_close _ _ _ _ (failed_after old command) = refl
answers_close _ _ _ _ (is_closed old command) = refl

-- a store answers that it is closed exactly where it is
pub closed_answers : (old new : Standing) (command : Command) (answer : Result Reply Refusal) → Answers old command answer new
    → (answer ≡ Err Closed) ↔ (old.closed ≡ true)
closed_answers _ _ _ _ (stepped old new command answer e) =
    (λ h. absurd (step_not_of_device old command Closed (ap (λ (o : Outcome). o.1) e ∙ h) (inr refl)), λ h. cc)
closed_answers _ _ _ _ (no_memory old command) = (λ h. cc, λ h. cc)
closed_answers _ _ _ _ (failed_before old command) = (λ h. cc, λ h. cc)
closed_answers _ _ _ _ (failed_after old command) = (λ h. cc, λ h. cc)
closed_answers _ _ _ _ (is_closed old command) = (λ h. refl, λ h. refl)

-- the state after an answer is the state before, or one that the command went on to
pub answers_reach : (old new : Standing) (command : Command) (answer : Result Reply Refusal) → Answers old command answer new
    → Among new.state (old.state ∷ passed old.state command answer)
answers_reach _ _ _ _ (stepped old new command (Ok reply) e) = inr (inl (sym (ap (λ (o : Outcome). o.0) e)))
answers_reach _ _ _ _ (stepped old new command (Err refusal) e) =
    inl (sym (ap (λ (o : Outcome). o.0) e) ∙ refused_keeps old command refusal (ap (λ (o : Outcome). o.1) e))
answers_reach _ _ _ _ (no_memory old command) = inl refl
answers_reach _ _ _ _ (failed_before old command) = inl refl
answers_reach _ _ _ _ (failed_after old command) = inr (inl refl)
answers_reach _ _ _ _ (is_closed old command) = inl refl

-- A STORE IN MEMORY
-- it has no device that fails
pub never_fails : (old new : State) (command : Command) (answer : Result Reply Refusal)
    → Answers (open_at old) command answer (open_at new) → answer ≡ Err Device → ⊥
never_fails old new command answer answers failed =
    let closed : false ≡ not (stays_open answer) = answers_close _ _ _ _ answers in
    let shut : not (stays_open answer) ≡ true = ap (λ a. not (stays_open a)) failed in
    cc

-- it passes the states of its answer, and no stop leaves any of them
pub passes_in_memory : (old new : State) (command : Command) (answer : Result Reply Refusal)
    → Answers (open_at old) command answer (open_at new) → IsState new
    → Passes {S = State}
    (record {
      honest = λ _. ⊤;
      sound = IsState;
      state = λ state. state;
      moment = λ _. 0;
      left_at = λ _ _ _. ⊥;
      left_since = λ _ _ _. ⊥;
      stands_for = λ _ _. ⊥;
    }) old new (passed old command answer)
passes_in_memory old new command answer answers is = record {
  reaches = λ honest. answers_reach _ _ _ _ answers;
  was_honest = λ honest. honest;
  stays_sound = λ sound. is;
  later = λ honest. omega arith;
  keeps = λ honest since file left. left;
  recalls = λ honest at file early left. left;
  leaves = λ sound honest since file early left. absurd left;
}
