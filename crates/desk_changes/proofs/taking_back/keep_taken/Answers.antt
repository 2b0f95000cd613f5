use Rattle.std.proofs.Common.{inl, inr, subst, rules, string_bytes}
use Rattle.std.proofs.lemmas.List.{nil_from_length}
use Rattle.tune_undo.specs.EntryBytes.{entry_bytes}
use Rattle.tune_desk.specs.OldTexts.{Grows}
use Rattle.desk_changes.proofs.AlteringLemmas.{grows_none}
use Rattle.desk_changes.proofs.UndoLemmas.{keeps_none, keeps_some}
use Rattle.desk_changes.proofs.WorkLemmas.{beside_asked, then_files}
use Rattle.desk_changes.proofs.taking_back.keep_taken.Goals as goal

pub returns-in_err-kept-clause-works : goal.returns-in_err-kept-clause-works
returns-in_err-kept-clause-works g c =
    let file = string_bytes c.args.file.now in
    beside_asked g.D.Disk file _ _ _ c.taken_by.ensures.asked

pub returns-then-is_empty-clause-works : goal.returns-then-is_empty-clause-works
returns-then-is_empty-clause-works g c =
    let file = string_bytes c.args.file.now in
    beside_asked g.D.Disk file _ _ _ c.taken_by.ensures.asked

pub returns-in_err-keep_entry-clause-works : goal.returns-in_err-keep_entry-clause-works
returns-in_err-keep_entry-clause-works g c =
    let file = string_bytes c.args.file.now in
    let looked = beside_asked g.D.Disk file _ _ _ c.taken_by.ensures.asked in
    then_files g.D.Disk file _ _ _ _ _ looked c.keep_entry.ensures.files

pub returns-clause-works : goal.returns-clause-works
returns-clause-works g c =
    let file = string_bytes c.args.file.now in
    let looked = beside_asked g.D.Disk file _ _ _ c.taken_by.ensures.asked in
    then_files g.D.Disk file _ _ _ _ _ looked c.keep_entry.ensures.files

pub returns-in_err-kept-clause-book : goal.returns-in_err-kept-clause-book
returns-in_err-kept-clause-book g c = inl (grows_none (string_bytes c.args.file.now) _)

pub returns-then-is_empty-clause-book : goal.returns-then-is_empty-clause-book
returns-then-is_empty-clause-book g c = inl (grows_none (string_bytes c.args.file.now) _)

pub returns-in_err-keep_entry-clause-book : goal.returns-in_err-keep_entry-clause-book
returns-in_err-keep_entry-clause-book g c = inl c.in_err-keep_entry.ensures.refused

pub returns-clause-book : goal.returns-clause-book
returns-clause-book g c = inr (
  c.in_ok-kept.kept.parts.items,
  subst (λ entry. Grows (string_bytes c.args.file.now) (entry_bytes entry) (g.K.Desk.deeds c.args.desk.now) (g.K.Desk.deeds c.keep_entry.new.desk))
      c.in_ok-kept.ensures.texts c.in_ok-keep_entry.ensures.kept,
)

pub returns-then-is_empty-clause-keeps : goal.returns-then-is_empty-clause-keeps
returns-then-is_empty-clause-keeps g c = record {
  gone = c.in_ok-kept.kept.parts.items;
  asked = c.taken_by.ensures.asked;
  are = λ is_open h. c.in_ok-kept.ensures.gone.was is_open h;
  keeps = keeps_none (string_bytes c.args.file.now) c.in_ok-kept.kept.parts.items _ (nil_from_length c.in_ok-kept.kept.parts.items (search rules));
}

pub returns-clause-keeps : goal.returns-clause-keeps
returns-clause-keeps g c = record {
  gone = c.in_ok-kept.kept.parts.items;
  asked = c.taken_by.ensures.asked;
  are = λ is_open h. c.in_ok-kept.ensures.gone.was is_open h;
  keeps = keeps_some (string_bytes c.args.file.now) c.in_ok-kept.kept.parts.items _ _ (search rules)
      (subst (λ entry. Grows (string_bytes c.args.file.now) (entry_bytes entry) (g.K.Desk.deeds c.args.desk.now) (g.K.Desk.deeds c.keep_entry.new.desk))
      c.in_ok-kept.ensures.texts c.in_ok-keep_entry.ensures.kept);
}
