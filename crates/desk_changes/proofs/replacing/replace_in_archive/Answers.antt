use Rattle.std.proofs.Common.{[], ℕ, inl, refl, Err, string_bytes}
use Rattle.std.specs.Prelude.{Result}
use Rattle.std.specs.Global.{Vec}
use Rattle.tune_archive.specs.AsStore.{store_on}
use Rattle.tune_asking.proofs.CallLemmas.{asked_none}
use Rattle.tune_undo.specs.declared.old_entries.EntryKind.TheVariants as kind
use Rattle.desk_changes.specs.ReplacedTunes.{ReplacesByTurns}
use Rattle.desk_changes.specs.declared.words.Unchanged.{Unchanged}
use Rattle.desk_changes.proofs.AlteringLemmas.{grows_none, look_then}
use Rattle.desk_changes.proofs.replacing.replace_in_archive.Goals as goal

pub returns-then-bytes-longest_text-clause-replaces : goal.returns-then-bytes-longest_text-clause-replaces
returns-then-bytes-longest_text-clause-replaces g c = λ is_open.
    ([], inl (record { asked = asked_none (store_on g.D.Disk) c.args.archive.now; unkept = grows_none (string_bytes c.args.file.now) _ }), tt)

pub returns-in-Ok-carry-clause-replaces : goal.returns-in-Ok-carry-clause-replaces
returns-in-Ok-carry-clause-replaces g c = λ is_open. (
  c.in-Ok.told.line.items,
  record {
    turns = c.in-Ok.told.turns.items;
    mid = c.told_turns.new.store;
    looked = c.in-Ok.ensures.asked;
    means = λ honest. c.in-Ok.ensures.answer is_open honest;
    brings = rw c.as_slice.ensures.value at c.in-Ok-carry.ensures.turns;
  },
  refl,
)

pub returns-in-Err-carry-clause-replaces : goal.returns-in-Err-carry-clause-replaces
returns-in-Err-carry-clause-replaces g c = λ is_open.
    let line = c.in-Ok.told.line.items in
    let result : Result (Vec ℕ) Unchanged = Err c.in-Err-carry.why in (
      line,
      look_then g.D.Disk (string_bytes c.args.file.now) kind.Replace (ReplacesByTurns c.args.what line) c.in-Ok.told.turns.items c.args.archive.now
          c.told_turns.new.store c.carry.new.archive _ _ result c.in-Ok.ensures.asked (λ honest. c.in-Ok.ensures.answer is_open honest)
          (rw c.as_slice.ensures.value at c.in-Err-carry.ensures.turns),
      tt,
    )

pub returns-in-Err-clause-replaces : goal.returns-in-Err-clause-replaces
returns-in-Err-clause-replaces g c = λ is_open.
    ([], inl (record { asked = c.told_turns.ensures.asked; unkept = grows_none (string_bytes c.args.file.now) _ }), tt)
