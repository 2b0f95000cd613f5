-- The law of revisions.
use Rattle.std.proofs.Common.{◌≡◌, ℕ, ◌+◌, Bool, true, false, not, cond, eqb, ltb, List, [], ◌∷◌, length, Option, Some, None, Ok, Err, refl, ap, sym}
use Rattle.std.proofs.Common.{subst, ◌∙◌, arith, add-zero, inl, inr}
use Rattle.std.specs.Prelude.{◌≢◌, IsSome, IsTrue, IsFalse, is_ok, is_some, IfOk, Result, ◌&&◌}
use Rattle.std.specs.Option.{option_map}
use Rattle.std.proofs.lemmas.Bool.{eqb-true, eqb-false, cases_Bool, and_parts}
use Rattle.abc_fields.specs.Books.{Texts, book_answer}
use Rattle.tune_sets.specs.Sets.{holder}
use Rattle.tune_store.specs.State.{State, IsState, NumbersRiseFrom, Standing, greatest, tune_at}
use Rattle.tune_store.specs.TuneSteps.{Outcome, TunesOutcome, with_tune, without_tune, revised, with_texts, import_book, replace_tune, replace_book}
use Rattle.tune_store.specs.TuneSteps.{delete_tune}
use Rattle.tune_store.specs.TuneSteps.{moved, is_number, renumber, renumber_found, renumber_unless}
use Rattle.tune_store.specs.SetSteps.{set_add_found}
use Rattle.tune_store.specs.Step.{step}
use Rattle.tune_store.specs.Answers.{Answers, stepped, no_memory, failed_before, failed_after, is_closed}
use Rattle.tune_store.specs.Runs.{Answered, Runs}
use Rattle.tune_store.specs.Revisions.{revision_in, revision_of, HasTune, accepts, replaces, is_replace_of, is_delete_of, times_replaced, RaisesRevision}
use Rattle.tune_store.specs.Revisions.{now_at, now_after, number_after, RaisesReplaced, AcceptedReplaceRaises}
use Rattle.tune_store.specs.Revisions.{OthersKeepRevision, RevisionCounts, AcceptedReplaceIsCurrent}
use Rattle.tune_store.specs.declared.tune.Tune.{Tune}
use Rattle.tune_store.specs.Limits.{longest_text, most_tunes, greatest_number, greatest_revision}
use Rattle.tune_store.specs.declared.command.Command.{Command}
use Rattle.tune_store.specs.declared.command.Command.TheVariants.{Import, Replace, Delete, Renumber, SetAdd}
use Rattle.tune_store.specs.declared.command.Reply.{Reply}
use Rattle.tune_store.specs.declared.command.Reply.TheVariants.{Replaced}
use Rattle.tune_store.specs.declared.command.Refusal.{Refusal}
use Rattle.tune_store.specs.declared.command.Refusal.TheVariants.{Stale, Worn}
use Rattle.tune_store.proofs.StepLemmas.{KeepsOnErr, refused_keeps, answers_close}
use Rattle.tune_store.proofs.PlaceLemmas.{tune_at-number, tune_at-with_tune_same, tune_at-with_tune_other, tune_at-append, tune_at-without_other}
use Rattle.tune_store.proofs.PlaceLemmas.{tune_at-without_same}
use Rattle.tune_store.proofs.MoveLemmas.{tune_at-moved_to, tune_at-moved_other}
use Rattle.tune_store.specs.declared.layout.Layout.{Layout}

-- AN ACCEPTED REPLACE
-- the tune in the place of the one of a number is the tune of the number
tune_at-with_tune : (number : ℕ) (new : Tune) (tunes : List Tune) → new.number ≡ number → IsSome (tune_at number tunes)
    → tune_at number (with_tune new tunes) ≡ Some new
tune_at-with_tune number new tunes e =
    let P : ℕ → Type 0 = λ n. IsSome (tune_at n tunes) → tune_at n (with_tune new tunes) ≡ Some new in subst P e (tune_at-with_tune_same new tunes)

-- an outcome whose reply is no refusal raises the revision of a tune
record Raises (number revision : ℕ) (old new : List Tune) : Type 0 where
  named : revision_in number old ≡ Some revision
  raised : revision_in number new ≡ Some (revision + 1)

abbrev RaisesOnOk : ℕ → ℕ → List Tune → TunesOutcome → Type 0
RaisesOnOk number revision old outcome = IsTrue (is_ok outcome.1) → Raises number revision old outcome.0

-- the revision of a tune, where there is one
abbrev revision : Option Tune → Option ℕ
revision found = option_map (λ tune. tune.revision) found

-- of a replacement's two tests the first lets only the current revision through
replace_tests : (tunes : List Tune) (number named : ℕ) (text : List ℕ) (tune : Tune) (current young : Bool) → tune_at number tunes ≡ Some tune
    → eqb tune.revision named ≡ current
    → RaisesOnOk number named tunes
    (cond (not current) (tunes, Err (Stale tune.revision))
    (cond (not young) (tunes, Err Worn) (with_tune (revised tune text) tunes, Ok (Replaced number (tune.revision + 1)))))
replace_tests tunes number named text tune false young found test accepted = cc
replace_tests tunes number named text tune true false found test accepted = cc
replace_tests tunes number named text tune true true found test accepted =
    let e : tune.revision ≡ named = eqb-true tune.revision named test in
    let later = tune_at-with_tune number (revised tune text) tunes (tune_at-number number tunes tune found) (ap is_some found) in
    record { named = ap revision found ∙ ap (λ r. Some r) e; raised = ap revision later ∙ ap (λ r. Some (r + 1)) e }

-- a replacement of the tune that was found raises its revision, where it is accepted
replace_found : (tunes : List Tune) (number named : ℕ) (text : List ℕ) (found : Option Tune) → tune_at number tunes ≡ found
    → RaisesOnOk number named tunes (replace_tune tunes number named text found)
replace_found tunes number named text None e accepted = cc
replace_found tunes number named text (Some tune) e accepted =
    replace_tests tunes number named text tune (eqb tune.revision named) (ltb tune.revision greatest_revision) e refl accepted

-- so does one by the texts of a book
replace_raises : (tunes : List Tune) (number named : ℕ) (texts : Texts) → RaisesOnOk number named tunes (replace_book tunes number named texts)
replace_raises tunes number named (Err why) accepted = cc
replace_raises tunes number named (Ok []) accepted = cc
replace_raises tunes number named (Ok (text ∷ [])) accepted = replace_found tunes number named text (tune_at number tunes) refl accepted
replace_raises tunes number named (Ok (text ∷ next ∷ texts)) accepted = cc

-- an accepted Replace names the current revision, and raises it by one
pub accepted_replace_raises : (state : State) (number named : ℕ) (book : List ℕ) → AcceptedReplaceRaises state number named book
accepted_replace_raises state number named book accepted =
    let raises = replace_raises state.tunes number named (book_answer (longest_text state.layout) book) accepted in
    record { named = raises.named; raised = raises.raised }

-- ANY OTHER COMMAND
-- an outcome that is a refusal leaves the state
refused_outcome : (old : State) (outcome : Outcome) → KeepsOnErr old outcome → IsFalse (is_ok outcome.1) → outcome.0 ≡ old
refused_outcome old (new, Ok reply) keeps refused = cc
refused_outcome old (new, Err refusal) keeps refused = keeps refusal refl

-- a command that is not accepted leaves the state
pub refused_leaves : (state : State) (command : Command) → IsFalse (accepts state command) → (step state command).0 ≡ state
refused_leaves state command refused = refused_outcome state (step state command) (refused_keeps state command) refused

-- an outcome leaves the revision of a tune
abbrev LeavesRevision : ℕ → List Tune → TunesOutcome → Type 0
LeavesRevision number old outcome = revision_in number outcome.0 ≡ revision_in number old

-- an outcome by two tests, of which each refuses
two_tests_leave : (number : ℕ) (old new : List Tune) (a b : Bool) (x y : Refusal) (reply : Reply) → tune_at number new ≡ tune_at number old
    → LeavesRevision number old (cond a (old, Err x) (cond b (old, Err y) (new, Ok reply)))
two_tests_leave number old new true b x y reply same = refl
two_tests_leave number old new false true x y reply same = refl
two_tests_leave number old new false false x y reply same = ap revision same

-- an import leaves the revision of a tune that was there
import_leaves : (layout : Layout) (tunes : List Tune) (number : ℕ) (texts : Texts) → IsSome (tune_at number tunes)
    → LeavesRevision number tunes (import_book layout tunes texts)
import_leaves layout tunes number (Err why) was = refl
import_leaves layout tunes number (Ok texts) was =
    two_tests_leave number tunes (with_texts tunes texts) (ltb (most_tunes layout) (length tunes + length texts))
    (ltb greatest_number (greatest tunes + length texts)) _ _ _ (tune_at-append number tunes _ was)

-- a replacement of another tune that was found leaves it
replace_found_leaves : (tunes : List Tune) (number other named : ℕ) (text : List ℕ) (found : Option Tune) → (other ≡ number → ⊥)
    → tune_at other tunes ≡ found
    → LeavesRevision number tunes (replace_tune tunes other named text found)
replace_found_leaves tunes number other named text None apart e = refl
replace_found_leaves tunes number other named text (Some tune) apart e =
    let ne = λ (same : tune.number ≡ number). apart (sym (tune_at-number other tunes tune e) ∙ same) in
    two_tests_leave number tunes (with_tune (revised tune text) tunes) (not (eqb tune.revision named))
    (not (ltb tune.revision greatest_revision)) _ _ _ (tune_at-with_tune_other number (revised tune text) tunes ne)

-- so does one by the texts of a book
replace_leaves : (tunes : List Tune) (number other named : ℕ) (texts : Texts) → (other ≡ number → ⊥)
    → LeavesRevision number tunes (replace_book tunes other named texts)
replace_leaves tunes number other named (Err why) apart = refl
replace_leaves tunes number other named (Ok []) apart = refl
replace_leaves tunes number other named (Ok (text ∷ [])) apart = replace_found_leaves tunes number other named text (tune_at other tunes) apart refl
replace_leaves tunes number other named (Ok (text ∷ next ∷ texts)) apart = refl

-- a deletion of another tune leaves it
delete_other_leaves : (tunes : List Tune) (number other : ℕ) (held : Option (List ℕ)) (found : Option Tune) → (other ≡ number → ⊥)
    → LeavesRevision number tunes (delete_tune tunes other held found)
delete_other_leaves tunes number other held None apart = refl
delete_other_leaves tunes number other (Some name) (Some tune) apart = refl
delete_other_leaves tunes number other None (Some tune) apart = ap revision (tune_at-without_other number other tunes apart)

-- a deletion leaves it where the tune is there after it
delete_leaves : (tunes : List Tune) (number other : ℕ) (held : Option (List ℕ)) (found : Option Tune) → NumbersRiseFrom 0 tunes
    → IsSome (tune_at number (delete_tune tunes other held found).0)
    → LeavesRevision number tunes (delete_tune tunes other held found)
delete_leaves tunes number other held None rises is_there = refl
delete_leaves tunes number other (Some name) (Some tune) rises is_there = refl
delete_leaves tunes number other None (Some tune) rises is_there = elim (cases_Bool (eqb other number)) [
  | inl same ↦
      let e = eqb-true other number same in
      let P : ℕ → Type 0 = λ n. tune_at number (without_tune n tunes) ≡ None in
      let gone = subst P (sym e) (tune_at-without_same 0 number tunes rises) in
      let none = sym is_there ∙ ap is_some gone in
      cc
  | inr differs ↦ delete_other_leaves tunes number other None (Some tune) (eqb-false other number differs)
]

-- an outcome carries the revision of a tune along to the number that the tune has then
abbrev CarriesRevision : Command → ℕ → State → Outcome → Type 0
CarriesRevision command number old outcome = revision_of (now_at command (is_ok outcome.1) number) outcome.0 ≡ revision_of number old

-- a tune's own number, or another one, as a number for it changes nothing
same_number : (state : State) (number to other : ℕ) → number ≡ to → revision_of (cond (eqb other number) to other) state ≡ revision_of other state
same_number state number to other same = elim (cases_Bool (eqb other number)) [
  | inl its ↦ rw its (ap (λ n. revision_of n state) (sym (eqb-true other number its ∙ same)))
  | inr differs ↦ rw differs refl
]

-- a tune gets a number that is free, and has the revision that it had; so has each other tune
move_carries : (state : State) (number to other : ℕ) (tune : Tune) → tune_at number state.tunes ≡ Some tune → tune_at to state.tunes ≡ None
    → HasTune other state
    → revision_in (cond (eqb other number) to other) (moved number to state.tunes) ≡ revision_of other state
move_carries state number to other tune found free was = elim (cases_Bool (eqb other number)) [
  | inl its ↦
      let before : tune_at other state.tunes ≡ Some tune = ap (λ n. tune_at n state.tunes) (eqb-true other number its) ∙ found in
      rw its (ap revision (tune_at-moved_to number to state.tunes tune found free) ∙ sym (ap revision before))
  | inr differs ↦
      let taken : to ≢ other = λ e. let none : false ≡ true = ap is_some (sym (ap (λ n. tune_at n state.tunes) (sym e) ∙ free)) ∙ was in cc in
      let apart : number ≢ other = λ e. eqb-false other number differs (sym e) in
      rw differs (ap revision (tune_at-moved_other number to other state.tunes apart taken))
]

unless_carries : (state : State) (number to other : ℕ) (tune : Tune) (found : Option Tune) → tune_at number state.tunes ≡ Some tune
    → tune_at to state.tunes ≡ found → HasTune other state
    → CarriesRevision (Renumber number to) other state (renumber_unless state number to found)
unless_carries state number to other tune None its free was = move_carries state number to other tune its free was
unless_carries state number to other tune (Some taken) its e was = elim (cases_Bool (eqb number to)) [
  | inl same ↦ rw same (same_number state number to other (eqb-true number to same))
  | inr differs ↦ rw differs refl
]

found_carries : (state : State) (number to other : ℕ) (found : Option Tune) → tune_at number state.tunes ≡ found → HasTune other state
    → CarriesRevision (Renumber number to) other state (renumber_found state number to found)
found_carries state number to other None its was = refl
found_carries state number to other (Some tune) its was = unless_carries state number to other tune (tune_at to state.tunes) its refl was

renumber_carries : (state : State) (number to other : ℕ) → HasTune other state
    → CarriesRevision (Renumber number to) other state (renumber state number to)
renumber_carries state number to other was = elim (cases_Bool (is_number to)) [
  | inl good ↦ rw good (found_carries state number to other (tune_at number state.tunes) refl was)
  | inr bad ↦ rw bad refl
]

-- a place more of a set leaves the tunes
add_leaves : (state : State) (name : List ℕ) (number : ℕ) (found : Option Tune) → (set_add_found state name number found).0.tunes ≡ state.tunes
add_leaves state name number None = refl
add_leaves state name number (Some tune) = refl

-- any other command leaves the revision of a tune that is there before and after it
pub others_keep_revision : (state : State) (number : ℕ) (command : Command) → IsState state → OthersKeepRevision state number command
others_keep_revision state number (Import book) is other was there = import_leaves _ state.tunes number (book_answer (longest_text state.layout) book) was
others_keep_revision state number (Replace replaced named book) is other was there = elim (cases_Bool (eqb replaced number)) [
  | inl same ↦ let refused = rw same at other in ap (revision_of number) (refused_leaves state (Replace replaced named book) refused)
  | inr differs ↦ replace_leaves state.tunes number replaced named (book_answer (longest_text state.layout) book) (eqb-false replaced number differs)
]
others_keep_revision state number (Delete deleted) is other was there =
    delete_leaves state.tunes number deleted (holder deleted state.sets) (tune_at deleted state.tunes) is.tunes.rises there
others_keep_revision state number (Renumber renumbered to) is other was there = renumber_carries state renumbered to number was
others_keep_revision state number (SetAdd name added) is other was there =
    ap (revision_in number) (add_leaves state name added (tune_at added state.tunes))
others_keep_revision state number command is other was there = refl

-- a command that is neither an accepted Replace of a tune nor an accepted Delete of it carries its revision along
keeps_revision : (state : State) (number : ℕ) (command : Command) → IsFalse (replaces number state command)
    → IsFalse (is_delete_of number command && accepts state command) → HasTune number state
    → CarriesRevision command number state (step state command)
keeps_revision state number (Import book) other stays was = import_leaves _ state.tunes number (book_answer (longest_text state.layout) book) was
keeps_revision state number (Replace replaced named book) other stays was = elim (cases_Bool (eqb replaced number)) [
  | inl same ↦ let refused = rw same at other in ap (revision_of number) (refused_leaves state (Replace replaced named book) refused)
  | inr differs ↦ replace_leaves state.tunes number replaced named (book_answer (longest_text state.layout) book) (eqb-false replaced number differs)
]
keeps_revision state number (Delete deleted) other stays was = elim (cases_Bool (eqb deleted number)) [
  | inl same ↦ let refused = rw same at stays in ap (revision_of number) (refused_leaves state (Delete deleted) refused)
  | inr differs ↦
      delete_other_leaves state.tunes number deleted (holder deleted state.sets) (tune_at deleted state.tunes) (eqb-false deleted number differs)
]
keeps_revision state number (Renumber renumbered to) other stays was = renumber_carries state renumbered to number was
keeps_revision state number (SetAdd name added) other stays was =
    ap (revision_in number) (add_leaves state name added (tune_at added state.tunes))
keeps_revision state number command other stays was = refl

-- RUNS OF COMMANDS
-- a tune that has a revision is there
tune_is_there : (number revision : ℕ) (state : State) → revision_of number state ≡ Some revision → HasTune number state
tune_is_there number revision state has = found (tune_at number state.tunes) has
  where
    found : (tune : Option Tune) → option_map (λ t. t.revision) tune ≡ Some revision → IsSome tune
    found None e = cc
    found (Some tune) e = refl

-- an accepted Replace raises the revision that the tune has
replaced_counts : (state : State) (number current : ℕ) (command : Command) → IsTrue (replaces number state command) → revision_of number state ≡ Some current
    → revision_of (now_at command (accepts state command) number) (step state command).0 ≡ Some (current + 1)
replaced_counts state number current (Replace replaced named book) accepted has =
    let parts = and_parts (eqb replaced number) (accepts state (Replace replaced named book)) accepted in
    let e : replaced ≡ number = eqb-true replaced number parts.0 in
    let P : ℕ → Type 0 = λ n. RaisesRevision n named state (step state (Replace replaced named book)).0 in
    let raises : RaisesRevision number named state (step state (Replace replaced named book)).0 =
    subst P e (accepted_replace_raises state replaced named book parts.1) in
    let same : named ≡ current = cc (raises.named, has) in
    raises.raised ∙ ap (λ r. Some (r + 1)) same
replaced_counts state number current command accepted has = cc

-- one command raises the revision by one, or carries it along
step_counts : (state : State) (number current : ℕ) (command : Command) → revision_of number state ≡ Some current
    → IsFalse (is_delete_of number command && accepts state command)
    → revision_of (now_at command (accepts state command) number) (step state command).0 ≡ Some (current + cond (replaces number state command) 1 0)
step_counts state number current command has stays = elim (cases_Bool (replaces number state command)) [
  | inl replaced ↦ rw replaced (replaced_counts state number current command replaced has)
  | inr other ↦ rw (other, add-zero) (keeps_revision state number command other stays (tune_is_there number current state has) ∙ has)
]

and_false : (b : Bool) → (b && false) ≡ false
and_false true = refl
and_false false = refl

-- after a command that is not accepted a tune has the number that it had
number_stays : (command : Command) (number : ℕ) → now_at command false number ≡ number
number_stays (Renumber renumbered to) number = refl
number_stays command number = refl

-- so does one answer, after which the store is open
answer_counts : (old new : Standing) (command : Command) (answer : Result Reply Refusal) (number current : ℕ) → Answers old command answer new
    → new.closed ≡ false → revision_of number old.state ≡ Some current → IsFalse (is_delete_of number command && is_ok answer)
    → revision_of (now_at command (is_ok answer) number) new.state ≡ Some (current + cond (is_replace_of number command && is_ok answer) 1 0)
answer_counts _ _ _ _ number current (stepped old new command answer e) is_open has stays =
    let P : Outcome → Type 0 = λ o. IsFalse (is_delete_of number command && is_ok o.1)
    → revision_of (now_at command (is_ok o.1) number) o.0 ≡ Some (current + cond (is_replace_of number command && is_ok o.1) 1 0) in
    subst P e (step_counts old number current command has) stays
answer_counts _ _ _ _ number current (no_memory old command) is_open has stays =
    rw (and_false (is_replace_of number command), number_stays command number, add-zero) has
answer_counts _ _ _ _ number current (failed_before old command) is_open has stays = cc
answer_counts _ _ _ _ number current (failed_after old command) is_open has stays = cc
answer_counts _ _ _ _ number current (is_closed old command) is_open has stays = cc

-- a store that is open after an answer was open before it
open_before : (old new : Standing) (command : Command) (answer : Result Reply Refusal) → Answers old command answer new
    → new.closed ≡ false → old.closed ≡ false
open_before _ _ _ _ (stepped old new command answer e) is_open = refl
open_before _ _ _ _ (no_memory old command) is_open = refl
open_before _ _ _ _ (failed_before old command) is_open = refl
open_before _ _ _ _ (failed_after old command) is_open = refl
open_before _ _ _ _ (is_closed old command) is_open = is_open

-- and so of a run
open_before_run : (run : List Answered) (old new : Standing) → Runs old run new → new.closed ≡ false → old.closed ≡ false
open_before_run [] old new runs is_open = ap (λ (s : Standing). s.closed) (sym runs) ∙ is_open
open_before_run (next ∷ run) old new runs is_open = open_before old runs.0 next.command next.answer runs.1 (open_before_run run runs.0 new runs.2 is_open)

-- while a tune stays, its revision counts the accepted Replaces of it
pub revision_counts : (old : Standing) (run : List Answered) (new : Standing) (number current : ℕ) → RevisionCounts old run new number current
revision_counts old [] new number current runs is_open has stays = rw add-zero (ap (λ (s : Standing). revision_of number s.state) runs ∙ has)
revision_counts old (next ∷ run) new number current runs is_open has stays =
    let mid_open = open_before_run run runs.0 new runs.2 is_open in
    let mid_has = answer_counts old runs.0 next.command next.answer number current runs.1 mid_open has stays.0 in
    let counted = revision_counts runs.0 run new (now_after next number) _ runs.2 is_open mid_has stays.1 in
    let one = cond (is_replace_of number next.command && is_ok next.answer) 1 0 in
    let same : current + one + times_replaced (now_after next number) run ≡ current + (one + times_replaced (now_after next number) run) = omega arith in
    counted ∙ ap (λ r. Some r) same

-- an accepted command is no Replace, or it raises the revision that it names
step_raises : (state : State) (command : Command) → IsTrue (accepts state command) → RaisesReplaced command state (step state command).0
step_raises state (Replace number named book) accepted = accepted_replace_raises state number named book accepted
step_raises state command accepted = tt

pub answers_raise : (old new : Standing) (command : Command) (answer : Result Reply Refusal) → Answers old command answer new
    → IfOk answer (λ _. RaisesReplaced command old.state new.state)
answers_raise _ _ _ _ (stepped old new command (Ok reply) e) =
    let P : Outcome → Type 0 = λ o. IsTrue (is_ok o.1) → RaisesReplaced command old o.0 in
    subst P e (step_raises old command) refl
answers_raise _ _ _ _ (stepped old new command (Err refusal) e) = tt
answers_raise _ _ _ _ (no_memory old command) = tt
answers_raise _ _ _ _ (failed_before old command) = tt
answers_raise _ _ _ _ (failed_after old command) = tt
answers_raise _ _ _ _ (is_closed old command) = tt

-- the same where it is known by the device
pub raised_where : (H : Type 0) (old new : Standing) (command : Command) (answer : Result Reply Refusal) → Answers old command answer new
    → IfOk answer (λ _. H → RaisesReplaced command old.state new.state)
raised_where H old new command (Ok reply) answers = λ honest. answers_raise old new command (Ok reply) answers
raised_where H old new command (Err refusal) answers = tt

-- a store that accepts a command was open, and is
accepted_open : (old new : Standing) (command : Command) (reply : Reply) → Answers old command (Ok reply) new → old.closed ≡ false
accepted_open old new command reply answers = open_before old new command (Ok reply) answers (answers_close old new command (Ok reply) answers)

-- so a Replace that names a revision of before is accepted only where no accepted one came since
pub accepted_replace_is_current : (old : Standing) (run : List Answered) (mid : Standing) (number current : ℕ)
    → AcceptedReplaceIsCurrent old run mid number current
accepted_replace_is_current old run mid number current runs has stays book reply new accepted =
    let now : ℕ = number_after run number in
    let raises : RaisesRevision now current mid.state new.state = answers_raise mid new (Replace now current book) (Ok reply) accepted in
    let counted = revision_counts old run mid number current runs (accepted_open mid new _ reply accepted) has stays in
    let same : current ≡ current + times_replaced number run = cc (raises.named, counted) in
    omega arith
