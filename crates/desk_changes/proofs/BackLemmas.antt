-- What an entry of turns is taken back by.
use Rattle.std.proofs.Common.{◌≡◌, List, [], ◌∷◌, ◌++◌, map, refl, sym, ap, ◌∙◌, subst}
use Rattle.std.specs.Prelude.{reverse}
use Rattle.std.proofs.lemmas.List.{map-append, reverse-append}
use Rattle.tune_sets.specs.declared.set_lists.TuneSet.{TuneSet}
use Rattle.tune_store.specs.State.{State, IsState, empty_of}
use Rattle.tune_store.specs.declared.tune.Tune.{Tune}
use Rattle.tune_changes.specs.Aims.{aim_for, aimed_back, turn_of}
use Rattle.tune_changes.specs.Bringing.{brought_each}
use Rattle.tune_changes.specs.ChangedStates.{AreAlike}
use Rattle.tune_changes.specs.CommandRuns.{LeadsAccepted}
use Rattle.tune_changes.specs.BroughtParts.{loaded_parts, set_comes, tune_comes}
use Rattle.tune_changes.specs.SubjectTurns.{Aim, aim_back}
use Rattle.tune_changes.specs.Undoing.{taken_back}
use Rattle.tune_changes.specs.declared.turns.Turn.{Turn}
use Rattle.tune_changes.specs.declared.turns.Turn.TheVariants as turn
use Rattle.tune_undo.specs.declared.old_entries.EntryKind.{EntryKind}
use Rattle.tune_changes.proofs.Unloaded.{alike_parts, all_out, set_out, tune_out, unloaded}
use Rattle.desk_changes.specs.BackLaws.{entry_back, loaded_back}
use Rattle.desk_changes.specs.EntriesOfTurns.{part_of}
use Rattle.desk_changes.specs.TakenBack.{aim_by, aims_by}

map_reverse : {X Y : Type 0} (f : X → Y) (xs : List X) → map f (reverse xs) ≡ reverse (map f xs)
map_reverse f [] = refl
map_reverse f (x ∷ xs) =
    ap (map f) (reverse-append (x ∷ []) xs)
    ∙ map-append f (reverse xs) (x ∷ [])
    ∙ ap (λ l. l ++ f x ∷ []) (map_reverse f xs)
    ∙ sym (reverse-append (f x ∷ []) (map f xs))

one_back : (t : Turn) → aim_for (aim_by (part_of t)) ≡ aim_back (turn_of t)
one_back (turn.Tune number was is) = refl
one_back (turn.Set name was is) = refl

each_back : (turns : List Turn) → map aim_for (aims_by (map part_of turns)) ≡ map aim_back (map turn_of turns)
each_back [] = refl
each_back (t ∷ turns) = λ i. one_back t i ∷ each_back turns i

pub same_back : (kind : EntryKind) (turns : List Turn) (state : State) → entry_back kind turns state ≡ taken_back (map turn_of turns) state
same_back kind turns state = ap (λ (aims : List Aim). brought_each aims state) (
    map_reverse aim_for (aims_by (map part_of turns))
    ∙ ap reverse (each_back turns)
    ∙ sym (map_reverse aim_back (map turn_of turns))
    )

-- LOADS
sets_aims : (sets : List TuneSet) → map aim_for (aims_by (map set_comes sets)) ≡ map set_out (map (λ (set : TuneSet). set.name) sets)
sets_aims [] = refl
sets_aims (set ∷ sets) = ap (λ (aims : List Aim). set_out set.name ∷ aims) (sets_aims sets)

parts_aims : (tunes : List Tune) (sets : List TuneSet)
    → map aim_for (aims_by (map tune_comes tunes ++ map set_comes sets))
    ≡ map tune_out (map (λ (tune : Tune). tune.number) tunes) ++ map set_out (map (λ (set : TuneSet). set.name) sets)
parts_aims [] sets = sets_aims sets
parts_aims (tune ∷ tunes) sets = ap (λ (aims : List Aim). tune_out tune.number ∷ aims) (parts_aims tunes sets)

loaded_aims : (state : State) → map aim_for (reverse (aims_by (loaded_parts state))) ≡ all_out state
loaded_aims state =
    let names = map (λ (set : TuneSet). set.name) state.sets in
    let numbers = map (λ (tune : Tune). tune.number) state.tunes in
    map_reverse aim_for (aims_by (loaded_parts state))
    ∙ ap reverse (parts_aims state.tunes state.sets)
    ∙ reverse-append (map tune_out numbers) (map set_out names)
    ∙ ap (λ (aims : List Aim). aims ++ reverse (map tune_out numbers)) (sym (map_reverse set_out names))
    ∙ ap (λ (aims : List Aim). map set_out (reverse names) ++ aims) (sym (map_reverse tune_out numbers))

-- a load is taken back from the state that it made, whatever its revisions are now
pub loads_back : (state now : State) → IsState now → AreAlike now state → LeadsAccepted now (loaded_back state now) (empty_of now.layout)
loads_back state now is alike =
    subst (λ parts. LeadsAccepted now (aimed_back (aims_by parts) now) (empty_of now.layout)) (sym (alike_parts state now alike))
    (subst (λ (aims : List Aim). LeadsAccepted now (brought_each aims now) (empty_of now.layout)) (sym (loaded_aims now)) (unloaded now is))
