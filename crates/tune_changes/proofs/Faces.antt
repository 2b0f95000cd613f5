-- States but for the revisions of their tunes.
use Rattle.std.proofs.Common.{◌≡◌, ℕ, List, [], Option, Some, None, refl, sym, ap, ◌∙◌, inl, inr}
use Rattle.std.proofs.Common.{option_map}
use Rattle.std.proofs.Common.{◌≢◌, ◌∷◌, cond, eqb, ltb}
use Rattle.std.specs.Str.{bytes_eq}
use Rattle.std.proofs.lemmas.Bool.{cases_Bool, ne_eqb}
use Rattle.std.proofs.lemmas.Slice.Eq.{bytes_eq-Decides}
use Rattle.tune_sets.specs.Sets.{set_at, set_inserted as set_inserted, without_set as without_set}
use Rattle.tune_sets.specs.declared.set_lists.TuneSet.{TuneSet}
use Rattle.tune_sets.proofs.PlaceLemmas.{set_at-inserted_other, set_at-without_other}
use Rattle.tune_store.specs.State.{State, NumbersRiseFrom, tune_at, IsState}
use Rattle.tune_store.specs.TuneSteps.{tune_inserted, without_tune}
use Rattle.tune_store.specs.declared.tune.Tune.{Tune}
use Rattle.tune_store.proofs.PlaceLemmas.{tune_at-number, tune_at-without_same, tune_at-without_other}
use Rattle.tune_changes.specs.SubjectTurns.{Subject, text_at, numbers_at, content}
use Rattle.tune_changes.specs.SubjectTurns.Subject.{TuneOf, SetOf}
use Rattle.tune_changes.specs.ChangedStates.{anew, all_anew, face, tune_with, put_text, put_numbers, with_content}
use Rattle.tune_changes.proofs.TuneLists.{in_and_out, out_and_in, out_already, found_in, without_anew, inserted_anew, found_anew, rises_anew}
use Rattle.tune_changes.proofs.SetListLemmas.{named, found_name, none_without, set_out_already, set_out_and_in, set_in_and_out, set_found_in}

-- a tune of this number and text, and no revision to tell of
abbrev pub plain_tune : ℕ → List ℕ → Tune
plain_tune number text = record { number = number; revision = 1; text = text }

-- tunes without revisions, in which the one of a number has this text, or is not there
abbrev pub plain_text : ℕ → Option (List ℕ) → List Tune → List Tune
plain_text number None tunes = without_tune number tunes
plain_text number (Some text) tunes = tune_inserted (plain_tune number text) (without_tune number tunes)

-- the same of a state without revisions
abbrev pub plain : Subject → Option (List ℕ) → State → State
plain (TuneOf number) to state = record state { tunes = plain_text number to state.tunes }
plain (SetOf name) to state = record state { sets = put_numbers name to state.sets }

-- A SUBJECT IN A FACE
text_anew : (number : ℕ) (found : Option Tune) → option_map (λ (t : Tune). t.text) (option_map anew found) ≡ option_map (λ (t : Tune). t.text) found
text_anew number None = refl
text_anew number (Some tune) = refl

pub content_face : (subject : Subject) (state : State) → content subject (face state) ≡ content subject state
content_face (TuneOf number) state =
    ap (λ (found : Option Tune). option_map (λ (t : Tune). t.text) found) (found_anew number state.tunes) ∙ text_anew number (tune_at number state.tunes)
content_face (SetOf name) state = refl

-- the face of a state with a subject put
anew_with : (number : ℕ) (tunes : List Tune) (found : Option Tune) (text : List ℕ) → tune_at number tunes ≡ found
    → anew (tune_with number found text) ≡ plain_tune number text
anew_with number tunes None text e = refl
anew_with number tunes (Some tune) text e =
    let its = tune_at-number number tunes tune e in
    elim (cases_Bool (bytes_eq tune.text text)) [
      | inl same ↦
          let own = (bytes_eq-Decides tune.text text).0 same in
          rw same (ap (λ n. plain_tune n tune.text) its ∙ ap (λ (t : List ℕ). plain_tune number t) own)
      | inr other ↦ rw other (ap (λ n. plain_tune n text) its)
    ]

put_anew : (number : ℕ) (to : Option (List ℕ)) (tunes : List Tune) → all_anew (put_text number to tunes) ≡ plain_text number to (all_anew tunes)
put_anew number None tunes = without_anew number tunes
put_anew number (Some text) tunes =
    inserted_anew (tune_with number (tune_at number tunes) text) (without_tune number tunes)
    ∙ ap (λ (t : Tune). tune_inserted t (all_anew (without_tune number tunes))) (anew_with number tunes (tune_at number tunes) text refl)
    ∙ ap (λ (ts : List Tune). tune_inserted (plain_tune number text) ts) (without_anew number tunes)

pub face_with : (subject : Subject) (to : Option (List ℕ)) (state : State) → face (with_content subject to state) ≡ plain subject to (face state)
face_with (TuneOf number) to state = ap (λ (ts : List Tune). record { layout = state.layout; tunes = ts; sets = state.sets }) (put_anew number to state.tunes)
face_with (SetOf name) to state = refl

-- WHAT IS PUT IS THERE
text_put : (number : ℕ) (to : Option (List ℕ)) (tunes : List Tune) → NumbersRiseFrom 0 tunes
    → option_map (λ (t : Tune). t.text) (tune_at number (plain_text number to tunes)) ≡ to
text_put number None tunes rises = ap (λ (found : Option Tune). option_map (λ (t : Tune). t.text) found) (tune_at-without_same 0 number tunes rises)
text_put number (Some text) tunes rises =
    ap (λ (found : Option Tune). option_map (λ (t : Tune). t.text) found)
    (found_in number (plain_tune number text) (without_tune number tunes) refl (tune_at-without_same 0 number tunes rises))

numbers_put : (name : List ℕ) (to : Option (List ℕ)) (state : State) → IsState state
    → option_map (λ (s : TuneSet). s.numbers) (set_at name (put_numbers name to state.sets)) ≡ to
numbers_put name None state is =
    ap (λ (found : Option TuneSet). option_map (λ (s : TuneSet). s.numbers) found) (none_without [] name state.sets is.sets.rises)
numbers_put name (Some numbers) state is =
    ap (λ (found : Option TuneSet). option_map (λ (s : TuneSet). s.numbers) found)
    (set_found_in name numbers (without_set name state.sets) (none_without [] name state.sets is.sets.rises))

pub content_plain : (subject : Subject) (to : Option (List ℕ)) (state : State) → IsState state → content subject (plain subject to (face state)) ≡ to
content_plain (TuneOf number) to state is = text_put number to (all_anew state.tunes) (rises_anew 0 state.tunes is.tunes.rises)
content_plain (SetOf name) to state is = numbers_put name to state is

-- WHAT WAS IS PUT BACK
-- a number is put once, whatever was put before
text_twice : (number : ℕ) (to was : Option (List ℕ)) (tunes : List Tune) → NumbersRiseFrom 0 tunes
    → without_tune number (plain_text number to tunes) ≡ without_tune number tunes
text_twice number None was tunes rises = out_already number (without_tune number tunes) (tune_at-without_same 0 number tunes rises)
text_twice number (Some text) was tunes rises =
    in_and_out number (plain_tune number text) (without_tune number tunes) refl (tune_at-without_same 0 number tunes rises)

text_over : (number : ℕ) (was : Option (List ℕ)) (some more : List Tune) → without_tune number some ≡ without_tune number more
    → plain_text number was some ≡ plain_text number was more
text_over number None some more same = same
text_over number (Some text) some more same = ap (tune_inserted (plain_tune number text)) same

text_own : (number : ℕ) (found : Option Tune) (tunes : List Tune) → NumbersRiseFrom 0 tunes → tune_at number tunes ≡ found
    → plain_text number (option_map (λ (t : Tune). t.text) found) (all_anew tunes) ≡ all_anew tunes
text_own number None tunes rises e = out_already number (all_anew tunes) (found_anew number tunes ∙ ap (option_map anew) e)
text_own number (Some tune) tunes rises e =
    ap (λ n. tune_inserted (plain_tune n tune.text) (without_tune number (all_anew tunes))) (sym (tune_at-number number tunes tune e))
    ∙ out_and_in 0 number (anew tune) (all_anew tunes) (rises_anew 0 tunes rises) (found_anew number tunes ∙ ap (option_map anew) e)

text_back : (number : ℕ) (to : Option (List ℕ)) (state : State) → IsState state
    → plain_text number (text_at number state) (plain_text number to (all_anew state.tunes)) ≡ all_anew state.tunes
text_back number to state is =
    text_over number (text_at number state) (plain_text number to (all_anew state.tunes)) (all_anew state.tunes)
    (text_twice number to to (all_anew state.tunes) (rises_anew 0 state.tunes is.tunes.rises))
    ∙ text_own number (tune_at number state.tunes) state.tunes is.tunes.rises refl

numbers_twice : (name : List ℕ) (to : Option (List ℕ)) (sets : List TuneSet) → set_at name (without_set name sets) ≡ None
    → without_set name (put_numbers name to sets) ≡ without_set name sets
numbers_twice name None sets none = set_out_already name (without_set name sets) none
numbers_twice name (Some numbers) sets none = set_in_and_out name numbers (without_set name sets) none

pub numbers_over : (name : List ℕ) (was : Option (List ℕ)) (some more : List TuneSet) → without_set name some ≡ without_set name more
    → put_numbers name was some ≡ put_numbers name was more
numbers_over name None some more same = same
numbers_over name (Some numbers) some more same = ap (set_inserted (named name numbers)) same

pub numbers_own : (name : List ℕ) (found : Option TuneSet) (state : State) → IsState state → set_at name state.sets ≡ found
    → put_numbers name (option_map (λ (s : TuneSet). s.numbers) found) state.sets ≡ state.sets
numbers_own name None state is e = set_out_already name state.sets e
numbers_own name (Some set) state is e =
    ap (λ (n : List ℕ). set_inserted (named n set.numbers) (without_set name state.sets)) (sym (found_name name state.sets set e))
    ∙ set_out_and_in [] name set state.sets is.sets.rises e

pub numbers_back : (name : List ℕ) (to : Option (List ℕ)) (state : State) → IsState state
    → put_numbers name (numbers_at name state) (put_numbers name to state.sets) ≡ state.sets
numbers_back name to state is =
    numbers_over name (numbers_at name state) (put_numbers name to state.sets) state.sets
    (numbers_twice name to state.sets (none_without [] name state.sets is.sets.rises))
    ∙ numbers_own name (set_at name state.sets) state is refl

pub plain_back : (subject : Subject) (to : Option (List ℕ)) (state : State) → IsState state
    → plain subject (content subject state) (plain subject to (face state)) ≡ face state
plain_back (TuneOf number) to state is =
    ap (λ (ts : List Tune). record { layout = state.layout; tunes = ts; sets = state.sets }) (text_back number to state is)
plain_back (SetOf name) to state is =
    ap (λ (ss : List TuneSet). record { layout = state.layout; tunes = all_anew state.tunes; sets = ss }) (numbers_back name to state is)

-- ALL ELSE IS AS IT WAS
text_in : (number : ℕ) (new : Tune) (tunes : List Tune) → new.number ≢ number → tune_at number (tune_inserted new tunes) ≡ tune_at number tunes
text_in number new [] apart = rw (ne_eqb new.number number apart) refl
text_in number new (tune ∷ tunes) apart = elim (cases_Bool (ltb new.number tune.number)) [
  | inl before ↦ rw (before, ne_eqb new.number number apart) refl
  | inr behind ↦ rw behind (ap (λ (found : Option Tune). cond (eqb tune.number number) (Some tune) found) (text_in number new tunes apart))
]

number_with : (number : ℕ) (found : Option Tune) (text : List ℕ) (tunes : List Tune) → tune_at number tunes ≡ found
    → (tune_with number found text).number ≡ number
number_with number None text tunes e = refl
number_with number (Some tune) text tunes e =
    let its = tune_at-number number tunes tune e in
    elim (cases_Bool (bytes_eq tune.text text)) [ inl same ↦ rw same its | inr other ↦ rw other its ]

other_text : (number other : ℕ) (to : Option (List ℕ)) (tunes : List Tune) → number ≢ other → tune_at other (put_text number to tunes) ≡ tune_at other tunes
other_text number other None tunes apart = tune_at-without_other other number tunes apart
other_text number other (Some text) tunes apart =
    let new = tune_with number (tune_at number tunes) text in
    let its = number_with number (tune_at number tunes) text tunes refl in
    text_in other new (without_tune number tunes) (λ e. apart (sym its ∙ e)) ∙ tune_at-without_other other number tunes apart

other_numbers : (name other : List ℕ) (to : Option (List ℕ)) (sets : List TuneSet) → name ≢ other → set_at other (put_numbers name to sets) ≡ set_at other sets
other_numbers name other None sets apart = set_at-without_other name other sets (λ e. apart (sym e))
other_numbers name other (Some numbers) sets apart =
    set_at-inserted_other other (named name numbers) (without_set name sets) (λ e. apart (sym e)) ∙ set_at-without_other name other sets (λ e. apart (sym e))

pub others_stay : (state : State) (subject other : Subject) (to : Option (List ℕ)) → subject ≢ other
    → content other (with_content subject to state) ≡ content other state
others_stay state (TuneOf number) (TuneOf other) to apart =
    ap (λ (found : Option Tune). option_map (λ (t : Tune). t.text) found) (other_text number other to state.tunes (λ e. apart (ap TuneOf e)))
others_stay state (TuneOf number) (SetOf name) to apart = refl
others_stay state (SetOf name) (TuneOf number) to apart = refl
others_stay state (SetOf name) (SetOf other) to apart =
    ap (λ (found : Option TuneSet). option_map (λ (s : TuneSet). s.numbers) found) (other_numbers name other to state.sets (λ e. apart (ap SetOf e)))

pub its_content : (state : State) (subject : Subject) (to : Option (List ℕ)) → IsState state → content subject (with_content subject to state) ≡ to
its_content state subject to is =
    sym (content_face subject (with_content subject to state)) ∙ ap (content subject) (face_with subject to state) ∙ content_plain subject to state is
