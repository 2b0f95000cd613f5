-- All that a state holds goes out: its set lists, and then its tunes.
use Rattle.std.proofs.Common.{◌≡◌, ℕ, ◌<◌, false, List, [], ◌∷◌, ◌++◌, map, reverse, Option, Some, None, refl, sym, ap, ◌∙◌, subst, arith, append_assoc}
use Rattle.std.specs.Prelude.{◌==◌}
use Rattle.std.specs.List.{AllByRecursion}
use Rattle.std.specs.Str.{bytes_eq}
use Rattle.std.proofs.lemmas.Bool.{eq-eqb, ne_eqb}
use Rattle.std.proofs.lemmas.List.{reverse-append}
use Rattle.tune_sets.specs.Names.{is_before}
use Rattle.tune_sets.specs.Sets.{NamesRiseFrom as SetsRise, holder, without_set as without_set}
use Rattle.tune_sets.specs.declared.set_lists.TuneSet.{TuneSet}
use Rattle.tune_sets.proofs.NameOrder.{same_name, before_differs}
use Rattle.tune_sets.proofs.ChangeLemmas.{rises-below}
use Rattle.tune_store.specs.State.{State, IsState, NumbersRiseFrom, tune_at, empty_of}
use Rattle.tune_store.specs.TuneSteps.{without_tune}
use Rattle.tune_store.specs.declared.tune.Tune.{Tune}
use Rattle.tune_store.specs.declared.command.Command.{Command}
use Rattle.tune_changes.specs.Bringing.{brought, brought_each}
use Rattle.tune_changes.specs.ChangedStates.{AreAlike, face, all_anew}
use Rattle.tune_changes.specs.CommandRuns.{after_commands, LeadsAccepted}
use Rattle.tune_changes.specs.BroughtParts.{loaded_parts, tune_comes, set_comes}
use Rattle.tune_changes.specs.SubjectTurns.{Aim}
use Rattle.tune_changes.specs.SubjectTurns.Subject.{TuneOf, SetOf}
use Rattle.tune_changes.specs.Undoing.{CanBeText}
use Rattle.tune_changes.proofs.Leading.{after_append, after_keeps, leads_after, leads_none, leads_on, leads_to, leads_with}
use Rattle.tune_changes.proofs.Undone.{brings}

-- AIMS
-- the set list of a name goes, and the tune of a number
abbrev pub set_out : List ℕ → Aim
set_out name = record { subject = SetOf name; to = None }

abbrev pub tune_out : ℕ → Aim
tune_out number = record { subject = TuneOf number; to = None }

brought_both : (some more : List Aim) (state : State)
    → brought_each (some ++ more) state ≡ brought_each some state ++ brought_each more (after_commands (brought_each some state) state)
brought_both [] more state = refl
brought_both (aim ∷ some) more state =
    let first = brought aim.subject aim.to state in
    let next = after_commands first state in
    let rest = brought_each some next in
    ap (λ (later : List Command). first ++ later) (brought_both some more next)
    ∙ ap (λ (s : State). first ++ (rest ++ brought_each more s)) (sym (after_append first rest state))
    ∙ sym (append_assoc first rest (brought_each more (after_commands (first ++ rest) state)))

all_both : {X : Type 0} (P : X → Type 0) (xs ys : List X) → AllByRecursion P xs → AllByRecursion P ys → AllByRecursion P (xs ++ ys)
all_both P [] ys h k = k
all_both P (x ∷ xs) ys h k = (h.0, all_both P xs ys h.1 k)

all_turned : {X : Type 0} (P : X → Type 0) (xs : List X) → AllByRecursion P xs → AllByRecursion P (reverse xs)
all_turned P [] h = tt
all_turned P (x ∷ xs) h = subst (AllByRecursion P) (sym (reverse-append (x ∷ []) xs)) (all_both P (reverse xs) (x ∷ []) (all_turned P xs h.1) (h.0, tt))

-- SET LISTS
-- what is left of set lists without those of some names
abbrev sets_left : List (List ℕ) → List TuneSet → List TuneSet
sets_left [] sets = sets
sets_left (name ∷ names) sets = sets_left names (without_set name sets)

sets_go : (names : List (List ℕ)) (state : State) → IsState state
    → LeadsAccepted state (brought_each (map set_out names) state) (record state { sets = sets_left names state.sets })
sets_go [] state is = leads_none state (record state { sets = state.sets }) refl
sets_go (name ∷ names) state is =
    let commands = brought (SetOf name) None state in
    let next = after_commands commands state in
    let first = brings state (SetOf name) None is tt in
    leads_on state next (record state { sets = sets_left names (without_set name state.sets) }) commands (brought_each (map set_out names) next)
    (leads_after state _ commands first)
    (leads_to next (record next { sets = sets_left names next.sets }) _ _ (ap (λ (s : State). record s { sets = sets_left names s.sets }) first.1)
    (sets_go names next (after_keeps commands state is)))

sets_left-append : (some more : List (List ℕ)) (sets : List TuneSet) → sets_left (some ++ more) sets ≡ sets_left more (sets_left some sets)
sets_left-append [] more sets = refl
sets_left-append (name ∷ some) more sets = sets_left-append some more (without_set name sets)

-- the first one stays while others go
first_set_stays : (set : TuneSet) (names : List (List ℕ)) (sets : List TuneSet) → AllByRecursion (λ name. bytes_eq set.name name ≡ false) names
    → sets_left names (set ∷ sets) ≡ set ∷ sets_left names sets
first_set_stays set [] sets h = refl
first_set_stays set (name ∷ names) sets h = rw h.0 (first_set_stays set names (without_set name sets) h.1)

names_differ : (low : List ℕ) (sets : List TuneSet) → SetsRise low sets
    → AllByRecursion (λ name. bytes_eq low name ≡ false) (map (λ (set : TuneSet). set.name) sets)
names_differ low [] rises = tt
names_differ low (set ∷ sets) rises = (
  before_differs low set.name rises.0,
  names_differ low sets (rises-below low set.name sets rises.0 rises.1),
)

no_set_left : (low : List ℕ) (sets : List TuneSet) → SetsRise low sets → sets_left (reverse (map (λ (set : TuneSet). set.name) sets)) sets ≡ []
no_set_left low [] rises = refl
no_set_left low (set ∷ sets) rises =
    let names = map (λ (other : TuneSet). other.name) sets in
    let own : without_set set.name (set ∷ []) ≡ [] = rw (same_name set.name set.name refl) refl in
    ap (λ (l : List (List ℕ)). sets_left l (set ∷ sets)) (reverse-append (set.name ∷ []) names)
    ∙ sets_left-append (reverse names) (set.name ∷ []) (set ∷ sets)
    ∙ ap (λ (left : List TuneSet). without_set set.name left) (first_set_stays set (reverse names) sets
    (all_turned _ names (names_differ set.name sets rises.1))
    ∙ ap (λ (left : List TuneSet). set ∷ left) (no_set_left set.name sets rises.1))
    ∙ own

-- TUNES
abbrev tunes_left : List ℕ → List Tune → List Tune
tunes_left [] tunes = tunes
tunes_left (number ∷ numbers) tunes = tunes_left numbers (without_tune number tunes)

-- a tune can go where there is no set list
can_go : (number : ℕ) (found : Option Tune) (state : State) → state.sets ≡ [] → CanBeText number found None state
can_go number None state none = tt
can_go number (Some tune) state none = ap (λ (sets : List TuneSet). holder number sets) none

tunes_go : (numbers : List ℕ) (state : State) → IsState state → state.sets ≡ []
    → LeadsAccepted state (brought_each (map tune_out numbers) state) (record state { tunes = tunes_left numbers state.tunes })
tunes_go [] state is none = leads_none state (record state { tunes = state.tunes }) refl
tunes_go (number ∷ numbers) state is none =
    let commands = brought (TuneOf number) None state in
    let next = after_commands commands state in
    let first = brings state (TuneOf number) None is (can_go number (tune_at number state.tunes) state none) in
    leads_on state next (record state { tunes = tunes_left numbers (without_tune number state.tunes) }) commands (brought_each (map tune_out numbers) next)
    (leads_after state _ commands first)
    (leads_to next (record next { tunes = tunes_left numbers next.tunes }) _ _ (ap (λ (s : State). record s { tunes = tunes_left numbers s.tunes }) first.1)
    (tunes_go numbers next (after_keeps commands state is) (ap (λ (s : State). s.sets) first.1 ∙ none)))

tunes_left-append : (some more : List ℕ) (tunes : List Tune) → tunes_left (some ++ more) tunes ≡ tunes_left more (tunes_left some tunes)
tunes_left-append [] more tunes = refl
tunes_left-append (number ∷ some) more tunes = tunes_left-append some more (without_tune number tunes)

first_tune_stays : (tune : Tune) (numbers : List ℕ) (tunes : List Tune) → AllByRecursion (λ number. tune.number < number) numbers
    → tunes_left numbers (tune ∷ tunes) ≡ tune ∷ tunes_left numbers tunes
first_tune_stays tune [] tunes h = refl
first_tune_stays tune (number ∷ numbers) tunes h =
    let l : tune.number < number = h.0 in
    rw (ne_eqb tune.number number (λ e. absurd (omega arith))) (first_tune_stays tune numbers (without_tune number tunes) h.1)

numbers_above : (low mid : ℕ) (tunes : List Tune) → low < mid → NumbersRiseFrom mid tunes
    → AllByRecursion (λ number. low < number) (map (λ (tune : Tune). tune.number) tunes)
numbers_above low mid [] lt rises = tt
numbers_above low mid (tune ∷ tunes) lt rises =
    let l : mid < tune.number = rises.0 in
    (omega arith, numbers_above low tune.number tunes (omega arith) rises.1)

all_above : (low : ℕ) (tunes : List Tune) → NumbersRiseFrom low tunes → AllByRecursion (λ number. low < number) (map (λ (tune : Tune). tune.number) tunes)
all_above low [] rises = tt
all_above low (tune ∷ tunes) rises = (rises.0, numbers_above low tune.number tunes rises.0 rises.1)

no_tune_left : (low : ℕ) (tunes : List Tune) → NumbersRiseFrom low tunes → tunes_left (reverse (map (λ (tune : Tune). tune.number) tunes)) tunes ≡ []
no_tune_left low [] rises = refl
no_tune_left low (tune ∷ tunes) rises =
    let numbers = map (λ (other : Tune). other.number) tunes in
    let own : without_tune tune.number (tune ∷ []) ≡ [] = rw (eq-eqb tune.number tune.number refl) refl in
    ap (λ (l : List ℕ). tunes_left l (tune ∷ tunes)) (reverse-append (tune.number ∷ []) numbers)
    ∙ tunes_left-append (reverse numbers) (tune.number ∷ []) (tune ∷ tunes)
    ∙ ap (λ (left : List Tune). without_tune tune.number left) (first_tune_stays tune (reverse numbers) tunes (all_turned _ numbers
    (all_above tune.number tunes rises.1)) ∙ ap (λ (left : List Tune). tune ∷ left) (no_tune_left tune.number tunes rises.1))
    ∙ own

-- ALL
-- the set lists of a state go, and then its tunes, the last ones first
abbrev pub all_out : State → List Aim
all_out state = map set_out (reverse (map (λ (set : TuneSet). set.name) state.sets))
    ++ map tune_out (reverse (map (λ (tune : Tune). tune.number) state.tunes))

pub unloaded : (state : State) → IsState state → LeadsAccepted state (brought_each (all_out state) state) (empty_of state.layout)
unloaded state is =
    let names = reverse (map (λ (set : TuneSet). set.name) state.sets) in
    let numbers = reverse (map (λ (tune : Tune). tune.number) state.tunes) in
    let commands = brought_each (map set_out names) state in
    let next = after_commands commands state in
    let first = sets_go names state is in
    let no_set = no_set_left [] state.sets is.sets.rises in
    let no_tune = no_tune_left 0 state.tunes is.tunes.rises in
    let last = tunes_go numbers next (after_keeps commands state is) (ap (λ (s : State). s.sets) first.1 ∙ no_set) in
    let empty : record next { tunes = tunes_left numbers next.tunes } ≡ empty_of state.layout =
    ap (λ (s : State). record s { tunes = tunes_left numbers s.tunes }) first.1
    ∙ (λ i. record { layout = state.layout; tunes = no_tune i; sets = no_set i }) in
    leads_with state (empty_of state.layout) _ _ (brought_both (map set_out names) (map tune_out numbers) state)
    (leads_on state next (empty_of state.layout) commands (brought_each (map tune_out numbers) next) (leads_after state _ commands first)
    (leads_to next _ _ _ empty last))

-- REVISIONS
tunes_alike : (tunes : List Tune) → map tune_comes (all_anew tunes) ≡ map tune_comes tunes
tunes_alike [] = refl
tunes_alike (tune ∷ tunes) = ap (λ l. tune_comes tune ∷ l) (tunes_alike tunes)

face_parts : (state : State) → loaded_parts (face state) ≡ loaded_parts state
face_parts state = ap (λ l. l ++ map set_comes state.sets) (tunes_alike state.tunes)

-- a load brings the same parts whatever the revisions are
pub alike_parts : (state now : State) → AreAlike now state → loaded_parts state ≡ loaded_parts now
alike_parts state now alike = sym (face_parts state) ∙ sym (ap loaded_parts alike) ∙ face_parts now
