-- What a change comes to: a turn for each tune or set list, or why it is refused. Nothing is
-- changed
-- by it: a plan is made before anything is.
use Rattle.std.specs.Prelude.{◌≡◌, ℕ, ◌+◌, ◌-◌, List, [], ◌∷◌, ◌++◌, length, take, drop, not}
use Rattle.std.specs.Prelude.{Bool, false, Result, Ok, Err, string_bytes}
use Rattle.std.specs.Global.{Global, Vec}
use Rattle.std.specs.Prelude.{◌==◌, nat_lt, nat_le, slice_index, if◌then◌else◌, Option, None, Some}
use Rattle.std.specs.List.{list_all, remove}
use Rattle.tune_sets.specs.Limits.{most_places, most_sets}
use Rattle.tune_sets.specs.Names.{is_good_name}
use Rattle.tune_sets.specs.Numbers.{is_among, has_place}
use Rattle.tune_sets.specs.Sets.{holder}
use Rattle.tune_sets.specs.declared.set_lists.TuneSet.{TuneSet}
use Rattle.tune_store.specs.Limits.{greatest_revision}
use Rattle.tune_store.specs.State.{State, tune_at}
use Rattle.tune_store.specs.declared.tune.Tune.{Tune}
use Rattle.tune_store.specs.declared.command.Refusal.{Refusal}
use Rattle.tune_store.specs.declared.command.Refusal.TheVariants.{Unknown, InSet, BadName, SetFull}
use Rattle.tune_store.specs.declared.command.Refusal.TheVariants.{SetsFull, NoSuchSet, NoSuchPlace}
use Rattle.tune_store.specs.declared.command.Refusal.TheVariants.{Stale, Worn}
use Rattle.tune_asking.specs.AskingCalls.{Meaning}
use Rattle.desk_terms.specs.declared.alteration.Alteration.{Alteration}
use Rattle.desk_terms.specs.declared.alteration.Alteration.TheVariants.{Delete, Put, Cut, Move}
use Rattle.desk_terms.specs.declared.alteration.Alteration.TheVariants.{Drop}
use Rattle.tune_changes.specs.SubjectTurns.{numbers_at}
use Rattle.tune_changes.specs.declared.turns.Turn.{Turn}
use Rattle.tune_changes.specs.declared.turns.Turn.TheVariants as turn

-- a turn before more
abbrev pub turn_with_more : Result Turn Refusal → Result (List Turn) Refusal
    → Result (List Turn) Refusal
turn_with_more (Err refusal) more = Err refusal
turn_with_more (Ok first) (Err refusal) = Err refusal
turn_with_more (Ok first) (Ok turns) = Ok (first ∷ turns)

-- one turn alone
abbrev pub one_turn : Result Turn Refusal → Result (List Turn) Refusal
one_turn answer = turn_with_more answer (Ok [])

-- DELETE
-- the tune of a number goes, where there is one, and no set list names it
abbrev pub tune_gone : ℕ → Option (List ℕ) → Option Tune → Result Turn Refusal
tune_gone number held None = Err (Unknown number)
tune_gone number (Some name) (Some tune) = Err (InSet name)
tune_gone number None (Some tune) = Ok (turn.Tune number (Some tune.text) None)

-- The tunes of these numbers go, behind those of other ones. A tune that is gone before has no
-- number any more.
abbrev pub tunes_gone : List ℕ → List ℕ → State → Result (List Turn) Refusal
tunes_gone gone [] state = Ok []
tunes_gone gone (number ∷ numbers) state =
    if is_among number gone then Err (Unknown number)
    else turn_with_more (tune_gone number (holder number state.sets) (tune_at number state.tunes))
    (tunes_gone (gone ++ number ∷ []) numbers state)

-- PUT
-- the first of these numbers that no tune has; none where there is none
abbrev pub unknown_after : ℕ → Option Tune → Option ℕ → Option ℕ
unknown_after number None more = Some number
unknown_after number (Some tune) more = more

abbrev pub first_unknown : List ℕ → List Tune → Option ℕ
first_unknown [] tunes = None
first_unknown (number ∷ numbers) tunes =
    unknown_after number (tune_at number tunes) (first_unknown numbers tunes)

-- numbers go to the end of a set list, which is made where there is none
abbrev pub numbers_put : List ℕ → List ℕ → List TuneSet → Option (List ℕ) → Result Turn Refusal
numbers_put name numbers sets None =
    if nat_lt most_places (length numbers) then Err SetFull
    else if nat_le most_sets (length sets) then Err SetsFull
    else Ok (turn.Set name None (Some numbers))
numbers_put name numbers sets (Some old) =
    if nat_lt most_places (length old + length numbers) then Err SetFull
    else Ok (turn.Set name (Some old) (Some (old ++ numbers)))

-- the same where each number is that of a tune
abbrev pub put_where : List ℕ → List ℕ → State → Option ℕ → Result Turn Refusal
put_where name numbers state (Some number) = Err (Unknown number)
put_where name numbers state None =
    numbers_put name numbers state.sets (numbers_at name state)

-- and the name is good
abbrev pub tunes_put : List ℕ → List ℕ → State → Result Turn Refusal
tunes_put name numbers state =
    if not (is_good_name name) then Err BadName
    else put_where name numbers state (first_unknown numbers state.tunes)

-- CUT
-- the numbers without those at these places, which are counted from `place` on
abbrev pub without_places : List ℕ → ℕ → List ℕ → List ℕ
without_places places place [] = []
without_places places place (number ∷ numbers) =
    if is_among place places then without_places places (place + 1) numbers
    else number ∷ without_places places (place + 1) numbers

-- these places go, each as it is counted before
abbrev pub places_cut : List ℕ → List ℕ → Option (List ℕ) → Result Turn Refusal
places_cut name places None = Err NoSuchSet
places_cut name places (Some old) =
    if list_all (λ place. has_place place old) places
    then Ok (turn.Set name (Some old) (Some (without_places places 1 old)))
    else Err NoSuchPlace

-- MOVE
-- a number before what stands at a place and behind it; the places count from 1
abbrev pub with_number_at : ℕ → ℕ → List ℕ → List ℕ
with_number_at place number numbers =
    take (place - 1) numbers ++ number ∷ drop (place - 1) numbers

-- the number at a place stands at another one
abbrev pub moved_place : ℕ → ℕ → List ℕ → List ℕ
moved_place place to old = with_number_at to (slice_index old (place - 1)) (remove old (place - 1))

abbrev pub place_moved : List ℕ → ℕ → ℕ → Option (List ℕ) → Result Turn Refusal
place_moved name place to None = Err NoSuchSet
place_moved name place to (Some old) =
    if list_all (λ at. has_place at old) (place ∷ to ∷ [])
    then Ok (turn.Set name (Some old) (Some (moved_place place to old)))
    else Err NoSuchPlace

-- DROP
abbrev pub set_gone : List ℕ → Option (List ℕ) → Result Turn Refusal
set_gone name None = Err NoSuchSet
set_gone name (Some old) = Ok (turn.Set name (Some old) None)

-- EVERY CHANGE
abbrev pub planned_by : Alteration → State → Result (List Turn) Refusal
planned_by (Delete numbers) state = tunes_gone [] numbers.items state
planned_by (Put name numbers) state = one_turn (tunes_put (string_bytes name) numbers.items state)
planned_by (Cut name places) state =
    one_turn (places_cut (string_bytes name) places.items (numbers_at (string_bytes name) state))
planned_by (Move name place to) state =
    one_turn (place_moved (string_bytes name) place to (numbers_at (string_bytes name) state))
planned_by (Drop name) state =
    one_turn (set_gone (string_bytes name) (numbers_at (string_bytes name) state))

-- REPLACE
-- whether a revision is one that was not asked for
abbrev pub is_stale : Option ℕ → ℕ → Bool
is_stale None revision = false
is_stale (Some asked) revision = not (asked == revision)

-- a tune gets another text, where it has the revision that was asked for, if one was
abbrev pub text_replaced : ℕ → Option ℕ → List ℕ → Option Tune → Result Turn Refusal
text_replaced number revision text None = Err (Unknown number)
text_replaced number revision text (Some tune) =
    if is_stale revision tune.revision then Err (Stale tune.revision)
    else if not (nat_lt tune.revision greatest_revision) then Err Worn
    else Ok (turn.Tune number (Some tune.text) (Some text))

abbrev pub planned_replace : ℕ → Option ℕ → List ℕ → State → Result (List Turn) Refusal
planned_replace number revision text state =
    one_turn (text_replaced number revision text (tune_at number state.tunes))

-- CALLS
-- turns are those of a plan, by set lists that are those of the state
abbrev pub planned_when : List TuneSet → (State → Result (List Turn) Refusal)
    → Meaning (Vec Turn)
planned_when sets plan = record {
  good = λ state turns. sets ≡ state.sets → plan state ≡ Ok turns.items;
  refused = λ state refusal. sets ≡ state.sets → plan state ≡ Err refusal;
}
