-- What a store stands for, and what it passed over one call or many, by the members of its trait.
use Rattle.std.specs.Prelude.{List}
use Rattle.tune_store.specs.State.{State, Standing, standing_by}
use Rattle.tune_store.specs.StoreStops.{Passes}
use Rattle.tune_store.specs.declared.tune_store.TuneStore.{Ghosts}

-- what the store stands for, and whether it is closed
abbrev pub standing_of : {S : Type 0} → Ghosts S → S → Standing
standing_of store = standing_by store.state store.closed

-- from `old` to `new` the store passed these states
abbrev pub StorePasses : {S : Type 0} → Ghosts S → S → S → List State → Type 0
StorePasses store old new = Passes
    (record {
      honest = store.honest;
      sound = store.sound;
      state = store.state;
      moment = store.moment;
      left_at = store.left_at;
      left_since = store.left_since;
      stands_for = store.stands_for;
    })
    old new
