-- Which accepted commands leave the state as it is.
use Rattle.std.proofs.Common.{◌≡◌, ℕ, ◌+◌, ◌<◌, true, not, eqb, ltb, List, [], ◌∷◌, length, Option, Some, None, Result, Ok, Err, refl, ap, sym, ◌∙◌}
use Rattle.std.proofs.Common.{inl, inr, arith, length-append, IsTrue, IsOk}
use Rattle.std.specs.Prelude.{IsSome}
use Rattle.std.proofs.lemmas.Bool.{cases_Bool, eqb-true}
use Rattle.abc_fields.specs.Books.{Texts, book_answer}
use Rattle.tune_sets.specs.Sets.{set_at, holder}
use Rattle.tune_sets.specs.Calls.{SetsOutcome, create_set, add_number, cut_place, drop_set}
use Rattle.tune_store.specs.Limits.{longest_text, most_tunes, greatest_number, greatest_revision}
use Rattle.tune_store.specs.State.{State, greatest, tune_at}
use Rattle.tune_store.specs.Step.{step}
use Rattle.tune_store.specs.TuneSteps.{TunesOutcome, tunes_step, numbered, import_texts, import_book, revised, replace_tune, replace_texts, replace_book}
use Rattle.tune_store.specs.TuneSteps.{delete_tune, is_number, renumber, renumber_found, renumber_unless, upgraded_state}
use Rattle.tune_store.specs.SetSteps.{sets_step, set_add_found}
use Rattle.tune_store.specs.Answers.{changes_nothing, is_two}
use Rattle.tune_store.specs.Revisions.{accepts}
use Rattle.tune_store.specs.declared.layout.Layout.{Layout}
use Rattle.tune_store.specs.declared.layout.Layout.TheVariants.{One, Two}
use Rattle.tune_store.specs.declared.tune.Tune.{Tune}
use Rattle.tune_store.specs.declared.command.Command.{Command}
use Rattle.tune_store.specs.declared.command.Command.TheVariants.{Import, Replace, Delete, Renumber, Show, Find, Titles, SetNew, SetAdd, SetCut}
use Rattle.tune_store.specs.declared.command.Command.TheVariants.{SetDrop, Sets, SetShow, ExportAll, ExportSet, Upgrade}
use Rattle.tune_store.specs.declared.command.Reply.{Reply}
use Rattle.tune_store.specs.declared.command.Refusal.{Refusal}
use Rattle.tune_store.proofs.StateLemmas.{length-numbered}
use Rattle.tune_store.proofs.PlaceLemmas.{tune_at-number, tune_at-with_tune_same}
use Rattle.tune_store.proofs.MoveLemmas.{tune_at-moved_to, length-without_one}
use Rattle.tune_store.proofs.ChangeLemmas.{some_texts, new_alters, add_alters, cut_alters, drop_alters}

-- an outcome that is accepted is another state, or other tunes
abbrev Alters : {A : Type 0} → A → A × Result Reply Refusal → Type 0
Alters old outcome = IsOk outcome.1 → outcome.0 ≡ old → ⊥

-- TUNES
import_alters : (layout : Layout) (tunes : List Tune) (texts : List (List ℕ)) → 0 < length texts → Alters tunes (import_texts layout tunes texts)
import_alters layout tunes texts some ok same = elim (cases_Bool (ltb (most_tunes layout) (length tunes + length texts))) [
  | inl full ↦ let refused = rw full at ok in cc
  | inr room ↦ elim (cases_Bool (ltb greatest_number (greatest tunes + length texts))) [
    | inl spent ↦ let refused = rw (room, spent) at ok in cc
    | inr fits ↦
        let stays = rw (room, fits) at same in
        let new = numbered (greatest tunes + 1) texts in
        omega (arith, ap length stays, length-append tunes new, length-numbered (greatest tunes + 1) texts)
  ]
]

book_alters : (layout : Layout) (tunes : List Tune) (answer : Texts) → ((texts : List (List ℕ)) → answer ≡ Ok texts → 0 < length texts)
    → Alters tunes (import_book layout tunes answer)
book_alters layout tunes (Ok texts) some ok same = import_alters layout tunes texts (some texts refl) ok same
book_alters layout tunes (Err why) some ok same = cc

-- the tune of a number has a later revision
replace_alters : (tunes : List Tune) (number revision : ℕ) (text : List ℕ) (found : Option Tune) → tune_at number tunes ≡ found
    → Alters tunes (replace_tune tunes number revision text found)
replace_alters tunes number revision text None there ok same = cc
replace_alters tunes number revision text (Some tune) there ok same = elim (cases_Bool (not (eqb tune.revision revision))) [
  | inl stale ↦ let refused = rw stale at ok in cc
  | inr current ↦ elim (cases_Bool (not (ltb tune.revision greatest_revision))) [
    | inl worn ↦ let refused = rw (current, worn) at ok in cc
    | inr young ↦
        let stays = rw (current, young) at same in
        let own : tune_at tune.number tunes ≡ Some tune = ap (λ n. tune_at n tunes) (tune_at-number number tunes tune there) ∙ there in
        let has : IsSome (tune_at tune.number tunes) = rw own refl in
        let put = tune_at-with_tune_same (revised tune text) tunes has in
        let before = ap (tune_at tune.number) stays in
        let e : revised tune text ≡ tune = cc in
        let later = ap (λ (t : Tune). t.revision) e in
        omega arith
  ]
]

texts_alter : (tunes : List Tune) (number revision : ℕ) (texts : List (List ℕ)) → Alters tunes (replace_texts tunes number revision texts)
texts_alter tunes number revision [] ok same = cc
texts_alter tunes number revision (text ∷ []) ok same = replace_alters tunes number revision text (tune_at number tunes) refl ok same
texts_alter tunes number revision (text ∷ next ∷ texts) ok same = cc

replaced_alters : (tunes : List Tune) (number revision : ℕ) (answer : Texts) → Alters tunes (replace_book tunes number revision answer)
replaced_alters tunes number revision (Ok texts) ok same = texts_alter tunes number revision texts ok same
replaced_alters tunes number revision (Err why) ok same = cc

delete_alters : (tunes : List Tune) (number : ℕ) (held : Option (List ℕ)) (found : Option Tune) → tune_at number tunes ≡ found
    → Alters tunes (delete_tune tunes number held found)
delete_alters tunes number held None there ok same = cc
delete_alters tunes number (Some name) (Some tune) there ok same = cc
delete_alters tunes number None (Some tune) there ok same = omega (arith, ap length same, length-without_one number tunes tune there)

-- what alters the tunes of a state alters the state
tunes_alter : (state : State) (outcome : TunesOutcome) → Alters state.tunes outcome → Alters state (tunes_step state outcome)
tunes_alter state outcome alters ok same = alters ok (ap (λ (s : State). s.tunes) same)

-- RENUMBER
unless_own : (state : State) (number to : ℕ) (tune : Tune) (other : Option Tune) → tune_at number state.tunes ≡ Some tune → tune_at to state.tunes ≡ other
    → IsOk (renumber_unless state number to other).1 → (renumber_unless state number to other).0 ≡ state → eqb number to ≡ true
unless_own state number to tune None there free ok same =
    let new = tune_at-moved_to number to state.tunes tune there free in
    let stays = ap (λ (s : State). tune_at to s.tunes) same in
    cc
unless_own state number to tune (Some other) there taken ok same = elim (cases_Bool (eqb number to)) [
  | inl own ↦ own
  | inr apart ↦ let refused = rw apart at ok in cc
]

found_own : (state : State) (number to : ℕ) (found : Option Tune) → tune_at number state.tunes ≡ found → IsOk (renumber_found state number to found).1
    → (renumber_found state number to found).0 ≡ state → eqb number to ≡ true
found_own state number to None there ok same = cc
found_own state number to (Some tune) there ok same = unless_own state number to tune (tune_at to state.tunes) there refl ok same

renumber_own : (state : State) (number to : ℕ) → IsOk (renumber state number to).1 → (renumber state number to).0 ≡ state → eqb number to ≡ true
renumber_own state number to ok same = elim (cases_Bool (is_number to)) [
  | inl good ↦ found_own state number to (tune_at number state.tunes) refl (rw good at ok) (rw good at same)
  | inr bad ↦ let refused = rw bad at ok in cc
]

-- and its own number is that of the tune
own_unless : (state : State) (number to : ℕ) (tune : Tune) (other : Option Tune) → tune_at number state.tunes ≡ Some tune → tune_at to state.tunes ≡ other
    → eqb number to ≡ true → (renumber_unless state number to other).0 ≡ state
own_unless state number to tune None there free own = let e = ap (λ n. tune_at n state.tunes) (eqb-true number to own) in cc
own_unless state number to tune (Some other) there taken own = rw own refl

own_found : (state : State) (number to : ℕ) (found : Option Tune) → tune_at number state.tunes ≡ found → eqb number to ≡ true
    → (renumber_found state number to found).0 ≡ state
own_found state number to None there own = refl
own_found state number to (Some tune) there own = own_unless state number to tune (tune_at to state.tunes) there refl own

own_stays : (state : State) (number to : ℕ) → eqb number to ≡ true → (renumber state number to).0 ≡ state
own_stays state number to own = elim (cases_Bool (is_number to)) [
  | inl good ↦ rw good (own_found state number to (tune_at number state.tunes) refl own)
  | inr bad ↦ rw bad refl
]

-- SET LISTS
sets_alter : {Answer : Type 0} (reply : Answer → Reply) (state : State) (outcome : SetsOutcome Answer) → (IsOk outcome.1 → outcome.0 ≡ state.sets → ⊥)
    → Alters state (sets_step reply state outcome)
sets_alter reply state (sets, Ok answer) alters ok same = alters refl (ap (λ (s : State). s.sets) same)
sets_alter reply state (sets, Err why) alters ok same = cc

place_alters : (state : State) (name : List ℕ) (number : ℕ) (found : Option Tune) → Alters state (set_add_found state name number found)
place_alters state name number None ok same = cc
place_alters state name number (Some tune) ok same =
    sets_alter _ state (add_number name number state.sets) (add_alters name number state.sets (set_at name state.sets) refl) ok same

-- COMMANDS
pub only_kept : (state : State) (command : Command) → IsTrue (accepts state command) → (step state command).0 ≡ state
    → changes_nothing state.layout command ≡ true
only_kept state (Import book) ok same =
    absurd (tunes_alter state _ (book_alters state.layout state.tunes _ (some_texts (longest_text state.layout) book)) ok same)
only_kept state (Replace number revision book) ok same =
    absurd (tunes_alter state _ (replaced_alters state.tunes number revision (book_answer (longest_text state.layout) book)) ok same)
only_kept state (Delete number) ok same =
    absurd (tunes_alter state _ (delete_alters state.tunes number (holder number state.sets) (tune_at number state.tunes) refl) ok same)
only_kept state (Renumber number to) ok same = renumber_own state number to ok same
only_kept state (Show number) ok same = refl
only_kept state (Find query) ok same = refl
only_kept state Titles ok same = refl
only_kept state (SetNew name) ok same = absurd (sets_alter _ state (create_set name state.sets) (new_alters name state.sets) ok same)
only_kept state (SetAdd name number) ok same = absurd (place_alters state name number (tune_at number state.tunes) ok same)
only_kept state (SetCut name place) ok same =
    absurd (sets_alter _ state (cut_place name place state.sets) (cut_alters name place state.sets (set_at name state.sets) refl) ok same)
only_kept state (SetDrop name) ok same =
    absurd (sets_alter _ state (drop_set name state.sets) (drop_alters name state.sets (set_at name state.sets) refl) ok same)
only_kept state Sets ok same = refl
only_kept state (SetShow name) ok same = refl
only_kept state ExportAll ok same = refl
only_kept state (ExportSet name) ok same = refl
only_kept state Upgrade ok same = ap is_two (sym (ap (λ (s : State). s.layout) same))

upgrade_kept : (state : State) (layout : Layout) → state.layout ≡ layout → is_two layout ≡ true → upgraded_state state ≡ state
upgrade_kept state One is own = cc
upgrade_kept state Two is own = λ i. record state { layout = sym is i }

pub kept : (state : State) (command : Command) → changes_nothing state.layout command ≡ true → (step state command).0 ≡ state
kept state (Renumber number to) own = own_stays state number to own
kept state (Show number) own = refl
kept state (Find query) own = refl
kept state Titles own = refl
kept state Sets own = refl
kept state (SetShow name) own = refl
kept state ExportAll own = refl
kept state (ExportSet name) own = refl
kept state Upgrade own = upgrade_kept state state.layout refl own
kept state command own = cc
