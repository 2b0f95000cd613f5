-- The plans of what is left, as numbers are looked at one after another.
use Rattle.std.proofs.Common.{◌≡◌, ℕ, ◌+◌, ◌<◌, ◌≤◌, Bool, true, false, cond, not, List, [], ◌∷◌, ◌++◌, length, map, take, drop, get_or, Option}
use Rattle.std.proofs.Common.{Some, None, Result, Ok, Err}
use Rattle.std.proofs.Common.{refl, sym, ap, ◌∙◌, subst, inl, inr, ◌⊎◌, arith}
use Rattle.std.specs.Global.{Vec}
use Rattle.std.specs.Str.{bytes_eq}
use Rattle.std.proofs.lemmas.List.{append-nil, append_assoc, drop_more, drop_all, map-append, take_more}
use Rattle.std.specs.List.{list_all}
use Rattle.std.specs.Option.{option_map}
use Rattle.tune_sets.specs.Names.{is_good_name}
use Rattle.tune_sets.specs.Numbers.{has_place, is_among}
use Rattle.tune_sets.specs.Sets.{holder, set_at}
use Rattle.tune_sets.specs.declared.set_lists.TuneSet.{TuneSet}
use Rattle.tune_store.specs.State.{State, tune_at}
use Rattle.tune_store.specs.declared.tune.Tune.{Tune}
use Rattle.tune_store.specs.declared.command.Refusal.{Refusal}
use Rattle.tune_store.specs.declared.command.Refusal.TheVariants.{OutOfMemory, Device, BadName, Unknown, NoSuchPlace}
use Rattle.tune_store.specs.declared.tune_store.TuneStore.{Ghosts}
use Rattle.tune_asking.specs.Asking.{IsFault, IsToldOrFault}
use Rattle.tune_asking.proofs.CallLemmas.{Goes}
use Rattle.tune_asking.specs.AskingCalls.{Call, tune_or, tune_told}
use Rattle.tune_changes.specs.Inside.TurnPlans.{IsPlannedOrFault, all_gone, gone_at, numbers_of_set, turns_told}
use Rattle.tune_changes.specs.Planning.{first_unknown, moved_place, numbers_put, put_where, tunes_put, place_moved, places_cut, planned_when, set_gone}
use Rattle.tune_changes.specs.Planning.{tune_gone, tunes_gone, unknown_after, turn_with_more}
use Rattle.tune_changes.specs.Planning.{without_places}
use Rattle.tune_changes.proofs.SetListLemmas.{found_name}
use Rattle.tune_changes.specs.declared.turns.Turn.{Turn}
use Rattle.tune_changes.specs.declared.turns.Turn.TheVariants as turn

-- THE SET OF A NAME
sets_at : (name : List ℕ) (sets : List TuneSet) (i : ℕ) (set : TuneSet) → i < length sets → set ≡ get_or sets i set
    → set_at name (drop i sets) ≡ cond (bytes_eq set.name name) (Some set) (set_at name (drop (i + 1) sets))
sets_at name sets i set l at = ap (set_at name) (drop_more sets i set l ∙ ap (λ (s : TuneSet). s ∷ drop (i + 1) sets) (sym at))

pub set_here : (name : List ℕ) (sets : List TuneSet) (i : ℕ) (set : TuneSet) → i < length sets → set ≡ get_or sets i set
    → bytes_eq set.name name ≡ true → set_at name (drop i sets) ≡ Some set
set_here name sets i set l at same =
    sets_at name sets i set l at ∙ ap (λ b. cond b (Some set) (set_at name (drop (i + 1) sets))) same

pub set_further : (name : List ℕ) (sets : List TuneSet) (i : ℕ) (set : TuneSet) → i < length sets → set ≡ get_or sets i set
    → bytes_eq set.name name ≡ false → set_at name (drop i sets) ≡ set_at name (drop (i + 1) sets)
set_further name sets i set l at other =
    sets_at name sets i set l at ∙ ap (λ b. cond b (Some set) (set_at name (drop (i + 1) sets))) other

-- what is found of it
pub found_at : (asked name : List ℕ) (listed sets : List TuneSet) (set : TuneSet) → asked ≡ name → listed ≡ sets → set_at asked listed ≡ Some set
    → (numbers_of_set name sets ≡ Some set.numbers) × (set.name ≡ name)
found_at asked name listed sets set same are found =
    let there : set_at name sets ≡ Some set = ap (λ n. set_at n sets) (sym same) ∙ ap (set_at asked) (sym are) ∙ found in
    (ap (option_map (λ (s : TuneSet). s.numbers)) there, found_name name sets set there)

-- it goes
pub gone_set : (name named : List ℕ) (there : Option (List ℕ)) (old list : List ℕ) → there ≡ Some old → named ≡ name → list ≡ old
    → set_gone name there ≡ Ok (turn.Set named (Some list) None)
gone_set name named there old list e same copy =
    ap (set_gone name) e ∙ ap (λ n. Ok (turn.Set n (Some old) None)) (sym same) ∙ ap (λ l. Ok (turn.Set named (Some l) None)) (sym copy)

-- places of it go
pub cut_set : (name named places : List ℕ) (there : Option (List ℕ)) (old list left : List ℕ) → there ≡ Some old → named ≡ name
    → list_all (λ place. has_place place old) places ≡ true → list ≡ old → left ≡ without_places places 1 old
    → places_cut name places there ≡ Ok (turn.Set named (Some list) (Some left))
cut_set name named places there old list left e same all copy rest =
    ap (places_cut name places) e
    ∙ ap (λ t. cond t (Ok (turn.Set name (Some old) (Some (without_places places 1 old)))) (Err NoSuchPlace)) all
    ∙ ap (λ n. Ok (turn.Set n (Some old) (Some (without_places places 1 old)))) (sym same)
    ∙ ap (λ l. Ok (turn.Set named (Some l) (Some (without_places places 1 old)))) (sym copy)
    ∙ ap (λ l. Ok (turn.Set named (Some list) (Some l))) (sym rest)

pub cut_never : (name places : List ℕ) (there : Option (List ℕ)) (old : List ℕ) → there ≡ Some old
    → list_all (λ place. has_place place old) places ≡ false → places_cut name places there ≡ Err NoSuchPlace
cut_never name places there old e none =
    ap (places_cut name places) e
    ∙ ap (λ t. cond t (Ok (turn.Set name (Some old) (Some (without_places places 1 old)))) (Err NoSuchPlace)) none

-- a place of it moves
pub moved_set : (name named : List ℕ) (place to : ℕ) (there : Option (List ℕ)) (old list left : List ℕ) → there ≡ Some old → named ≡ name
    → list_all (λ at. has_place at old) (place ∷ to ∷ []) ≡ true → list ≡ old → left ≡ moved_place place to old
    → place_moved name place to there ≡ Ok (turn.Set named (Some list) (Some left))
moved_set name named place to there old list left e same all copy rest =
    ap (place_moved name place to) e
    ∙ ap (λ t. cond t (Ok (turn.Set name (Some old) (Some (moved_place place to old)))) (Err NoSuchPlace)) all
    ∙ ap (λ n. Ok (turn.Set n (Some old) (Some (moved_place place to old)))) (sym same)
    ∙ ap (λ l. Ok (turn.Set named (Some l) (Some (moved_place place to old)))) (sym copy)
    ∙ ap (λ l. Ok (turn.Set named (Some list) (Some l))) (sym rest)

-- PLACES THAT ARE CUT
cut_by : (cut : Bool) (number : ℕ) (rest : List ℕ) → cond cut rest (number ∷ rest) ≡ cond cut [] (number ∷ []) ++ rest
cut_by true number rest = refl
cut_by false number rest = refl

pub places_next : (places numbers : List ℕ) (i : ℕ) → i < length numbers
    → without_places places (i + 1) (drop i numbers)
    ≡ cond (is_among (i + 1) places) [] (get_or numbers i 0 ∷ []) ++ without_places places (i + 1 + 1) (drop (i + 1) numbers)
places_next places numbers i l =
    ap (without_places places (i + 1)) (drop_more numbers i 0 l)
    ∙ cut_by (is_among (i + 1) places) (get_or numbers i 0) (without_places places (i + 1 + 1) (drop (i + 1) numbers))

-- PLANS THAT ARE MADE AT ONCE
fault_or : (refusal : Refusal) → IsFault refusal ⊎ (IsFault refusal → ⊥)
fault_or OutOfMemory = inl (inl refl)
fault_or Device = inl (inr refl)
fault_or refusal = inr (λ fault. elim fault [ inl e ↦ absurd cc | inr e ↦ absurd cc ])

-- questions were asked, and a plan was made of the state
pub planned_then : {S : Type 0} (k : Ghosts S) (old new : S) (sets : List TuneSet) (plan : State → Result (List Turn) Refusal)
    (result : Result (Vec Turn) Refusal) → Goes k old new
    → (k.closed old ≡ false → k.honest new → sets ≡ (k.state old).sets → IsPlannedOrFault (plan (k.state old)) result)
    → Call k old new (planned_when sets plan) result
planned_then k old new sets plan (Ok turns) goes told = record {
  asked = goes.asked;
  stays = goes.stays;
  answer = λ is_open h same. told is_open h same;
}
planned_then k old new sets plan (Err refusal) goes told = record {
  asked = goes.asked;
  stays = λ is_open shut. let no = goes.stays is_open in absurd cc;
  answer = λ is_open h. elim (fault_or refusal) [
    | inl fault ↦ inr fault
    | inr none ↦ inl (λ same. elim (told is_open h same) [ inl e ↦ e | inr fault ↦ absurd (none fault) ])
  ];
}

pub told_then : {S : Type 0} (k : Ghosts S) (old new : S) (plan : State → Result (List Turn) Refusal) (result : Result (Vec Turn) Refusal)
    → Goes k old new → (k.closed old ≡ false → k.honest new → IsPlannedOrFault (plan (k.state old)) result)
    → Call k old new (turns_told plan) result
told_then k old new plan (Ok turns) goes told = record { asked = goes.asked; stays = goes.stays; answer = told }
told_then k old new plan (Err refusal) goes told = record {
  asked = goes.asked;
  stays = λ is_open shut. let no = goes.stays is_open in absurd cc;
  answer = told;
}

-- an answer that is just what is told
pub told_is : (told answer : Result Turn Refusal) → answer ≡ told → IsToldOrFault told answer
told_is told (Ok turn) e = sym e
told_is told (Err refusal) e = inl (sym e)

pub tune_found : (number : ℕ) (there : Option Tune) (tune : Tune) → tune_or number there ≡ Ok tune → there ≡ Some tune
tune_found number None tune e = absurd cc
tune_found number (Some other) tune e = cc

-- tunes that are put, each of which is there
pub put_known : (name numbers : List ℕ) (state : State) → is_good_name name ≡ true → first_unknown numbers state.tunes ≡ None
    → tunes_put name numbers state ≡ numbers_put name numbers state.sets (numbers_of_set name state.sets)
put_known name numbers state good known =
    ap (λ t. cond (not t) (Err BadName) (put_where name numbers state (first_unknown numbers state.tunes))) good
    ∙ ap (put_where name numbers state) known

-- LISTS
pub mapped_more : {A B : Type 0} (f : A → B) (xs : List A) (i : ℕ) (d : A) → i < length xs
    → map f (take (i + 1) xs) ≡ map f (take i xs) ++ f (get_or xs i d) ∷ []
mapped_more f xs i d l = ap (map f) (take_more xs i d l) ∙ map-append f (take i xs) (get_or xs i d ∷ [])

-- NUMBERS OF TUNES
pub known_next : (numbers : List ℕ) (i : ℕ) (state : State) (tune : Tune) → i < length numbers → tune_told (get_or numbers i 0) state ≡ Ok tune
    → first_unknown (drop i numbers) state.tunes ≡ first_unknown (drop (i + 1) numbers) state.tunes
known_next numbers i state tune l told =
    ap (λ left. first_unknown left state.tunes) (drop_more numbers i 0 l) ∙ by (tune_at (get_or numbers i 0) state.tunes) told
  where
    by : (there : Option Tune) → tune_or (get_or numbers i 0) there ≡ Ok tune
        → unknown_after (get_or numbers i 0) there (first_unknown (drop (i + 1) numbers) state.tunes) ≡ first_unknown (drop (i + 1) numbers) state.tunes
    by None e = absurd cc
    by (Some other) e = refl

pub unknown_here : (numbers : List ℕ) (i : ℕ) (state : State) (refusal : Refusal) → i < length numbers
    → tune_told (get_or numbers i 0) state ≡ Err refusal
    → (first_unknown (drop i numbers) state.tunes ≡ Some (get_or numbers i 0)) × (refusal ≡ Unknown (get_or numbers i 0))
unknown_here numbers i state refusal l told =
    let h = by (tune_at (get_or numbers i 0) state.tunes) told in
    (ap (λ left. first_unknown left state.tunes) (drop_more numbers i 0 l) ∙ h.0, h.1)
  where
    by : (there : Option Tune) → tune_or (get_or numbers i 0) there ≡ Err refusal
        → (unknown_after (get_or numbers i 0) there (first_unknown (drop (i + 1) numbers) state.tunes) ≡ Some (get_or numbers i 0))
        × (refusal ≡ Unknown (get_or numbers i 0))
    by None e = (refl, cc)
    by (Some other) e = absurd cc

-- TUNES THAT GO
-- turns before those of a plan
abbrev pub before : List Turn → Result (List Turn) Refusal → Result (List Turn) Refusal
before done (Err refusal) = Err refusal
before done (Ok more) = Ok (done ++ more)

pub before_none : (plan : Result (List Turn) Refusal) → plan ≡ before [] plan
before_none (Err refusal) = refl
before_none (Ok more) = refl

-- one turn more
pub before_more : (done : List Turn) (turn : Turn) (rest : Result (List Turn) Refusal)
    → before done (turn_with_more (Ok turn) rest) ≡ before (done ++ turn ∷ []) rest
before_more done turn (Err refusal) = refl
before_more done turn (Ok more) = ap Ok (sym (append_assoc done (turn ∷ []) more))

gone_by : (went : Bool) (number : ℕ) (its : Result Turn Refusal) (rest : Result (List Turn) Refusal)
    → cond went (Err (Unknown number)) (turn_with_more its rest) ≡ turn_with_more (cond went (Err (Unknown number)) its) rest
gone_by true number its rest = refl
gone_by false number its rest = refl

-- the plan of the numbers from a place on
pub gone_next : (numbers : List ℕ) (held : List (Option (List ℕ))) (i : ℕ) (state : State) → i < length numbers → length held ≡ length numbers
    → all_gone (take i numbers) (drop i held) (drop i numbers) state
    ≡ turn_with_more (gone_at numbers held i state) (all_gone (take (i + 1) numbers) (drop (i + 1) held) (drop (i + 1) numbers) state)
gone_next numbers held i state l same =
    let number = get_or numbers i 0 in
    let name = get_or held i None in
    let in_held : i < length held = omega arith in
    let rest = all_gone (take i numbers ++ number ∷ []) (drop (i + 1) held) (drop (i + 1) numbers) state in
    ap (λ (ns : List ℕ). all_gone (take i numbers) (drop i held) ns state) (drop_more numbers i 0 l)
    ∙ ap (λ (hs : List (Option (List ℕ))). all_gone (take i numbers) hs (number ∷ drop (i + 1) numbers) state) (drop_more held i None in_held)
    ∙ gone_by (is_among number (take i numbers)) number (tune_gone number name (tune_at number state.tunes)) rest
    ∙ ap (λ (front : List ℕ). turn_with_more (gone_at numbers held i state) (all_gone front (drop (i + 1) held) (drop (i + 1) numbers) state))
    (sym (take_more numbers i 0 l))

pub gone_end : (numbers : List ℕ) (held : List (Option (List ℕ))) (i : ℕ) (state : State) → length numbers ≤ i
    → all_gone (take i numbers) (drop i held) (drop i numbers) state ≡ Ok []
gone_end numbers held i state l = ap (λ (ns : List ℕ). all_gone (take i numbers) (drop i held) ns state) (drop_all i numbers l)

-- what set list has each tune, of the set lists of the state
pub all_held : (gone numbers : List ℕ) (state : State)
    → all_gone gone (map (λ number. holder number state.sets) numbers) numbers state ≡ tunes_gone gone numbers state
all_held gone [] state = refl
all_held gone (number ∷ numbers) state =
    ap (λ (rest : Result (List Turn) Refusal). cond (is_among number gone) (Err (Unknown number))
    (turn_with_more (tune_gone number (holder number state.sets) (tune_at number state.tunes)) rest)) (all_held (gone ++ number ∷ []) numbers state)
