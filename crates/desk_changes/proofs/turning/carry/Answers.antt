use Rattle.std.proofs.Common.{inl, inr, refl, subst, string_bytes}
use Rattle.tune_undo.specs.EntryBytes.{entry_bytes}
use Rattle.tune_desk.specs.OldTexts.{Grows}
use Rattle.desk_changes.proofs.AlteringLemmas.{grows_none}
use Rattle.desk_changes.proofs.turning.carry.Goals as goal

pub returns-in_default-clause-turns : goal.returns-in_default-clause-turns
returns-in_default-clause-turns g c = inl (refl, grows_none (string_bytes c.args.file.now) _)

pub returns-in-Ok-keep_entry-clause-turns : goal.returns-in-Ok-keep_entry-clause-turns
returns-in-Ok-keep_entry-clause-turns g c = inr (
  c.in-Err-bring_about.refusal,
  record {
    kept = subst (λ entry. Grows (string_bytes c.args.file.now) (entry_bytes entry) (g.K.Desk.deeds c.args.desk.now) (g.K.Desk.deeds c.keep_entry.new.desk))
        c.in-Ok.ensures c.in-Ok-keep_entry.ensures.kept;
    carried = c.in-Err-bring_about.ensures;
  },
)
