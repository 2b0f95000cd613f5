-- What a load brings: all that its archive holds, of which nothing was before.
use Rattle.std.specs.Prelude.{◌≡◌, List, ◌++◌, map, None, Some, ⊤}
use Rattle.std.specs.Global.{Vec}
use Rattle.sha2.specs.Sha256.{sha256}
use Rattle.tune_sets.specs.declared.set_lists.TuneSet.{TuneSet}
use Rattle.tune_store.specs.Labels.{labels_of}
use Rattle.tune_store.specs.State.{State}
use Rattle.tune_store.specs.declared.catalog.Label.{Label}
use Rattle.tune_store.specs.declared.tune.Tune.{Tune}
use Rattle.tune_asking.specs.AskingCalls.{Meaning}
use Rattle.tune_undo.specs.declared.old_entries.After.TheVariants.{Text}
use Rattle.tune_undo.specs.declared.old_entries.Part.{Part}
use Rattle.tune_undo.specs.declared.old_entries.Part.TheVariants as part

-- a tune that comes, and a set list
abbrev pub tune_comes : Tune → Part
tune_comes tune = part.Tune tune.number None (Text (sha256 tune.text))

abbrev pub set_comes : TuneSet → Part
set_comes set = part.Set set.name None (Some set.numbers)

-- THE PARTS OF ITS ENTRY: the tunes of the state that a load makes come, by number, and then its
-- set lists, by name.
abbrev pub loaded_parts : State → List Part
loaded_parts state = map tune_comes state.tunes ++ map set_comes state.sets

-- what is told of a store whose labels and set lists are those of its state
abbrev pub parts_where : List Label → List TuneSet → Meaning (Vec Part)
parts_where labels sets = record {
  good = λ state parts. labels ≡ labels_of state.tunes → sets ≡ state.sets
      → parts.items ≡ loaded_parts state;
  refused = λ state refusal. ⊤;
}
