use Rattle.std.proofs.Common.{inl, inr, refl, string_bytes}
use Rattle.tune_archive.specs.AsStore.{store_on}
use Rattle.tune_asking.proofs.CallLemmas.{asked_none}
use Rattle.desk_changes.proofs.AlteringLemmas.{grows_none}
use Rattle.desk_changes.proofs.UndoLemmas.{begun_none, begun_some}
use Rattle.desk_changes.proofs.WorkLemmas.{beside_files, beside_archive}
use Rattle.desk_changes.proofs.taking_back.begin_undoing.Goals as goal

pub returns-in_err-keep_mark-in-None-clause-works : goal.returns-in_err-keep_mark-in-None-clause-works
returns-in_err-keep_mark-in-None-clause-works g c =
    beside_files g.D.Disk (string_bytes c.args.file.now) _ _ _ c.keep_mark.ensures.files

pub returns-in_ok-keep_mark-in-None-clause-works : goal.returns-in_ok-keep_mark-in-None-clause-works
returns-in_ok-keep_mark-in-None-clause-works g c =
    beside_files g.D.Disk (string_bytes c.args.file.now) _ _ _ c.keep_mark.ensures.files

pub returns-in_err-number_stray-in-Some-clause-works : goal.returns-in_err-number_stray-in-Some-clause-works
returns-in_err-number_stray-in-Some-clause-works g c =
    beside_archive g.D.Disk (string_bytes c.args.file.now) _ _ _ c.number_stray.ensures.works

pub returns-in_ok-number_stray-in-Some-clause-works : goal.returns-in_ok-number_stray-in-Some-clause-works
returns-in_ok-number_stray-in-Some-clause-works g c =
    beside_archive g.D.Disk (string_bytes c.args.file.now) _ _ _ c.number_stray.ensures.works

pub returns-in_err-keep_mark-in-None-clause-book : goal.returns-in_err-keep_mark-in-None-clause-book
returns-in_err-keep_mark-in-None-clause-book g c = inl c.in_err-keep_mark-in-None.ensures.refused

pub returns-in_ok-keep_mark-in-None-clause-book : goal.returns-in_ok-keep_mark-in-None-clause-book
returns-in_ok-keep_mark-in-None-clause-book g c = inr (_, (_, refl), c.in_ok-keep_mark-in-None.ensures.kept)

pub returns-in_err-number_stray-in-Some-clause-book : goal.returns-in_err-number_stray-in-Some-clause-book
returns-in_err-number_stray-in-Some-clause-book g c = inl (grows_none (string_bytes c.args.file.now) _)

pub returns-in_ok-number_stray-in-Some-clause-book : goal.returns-in_ok-number_stray-in-Some-clause-book
returns-in_ok-number_stray-in-Some-clause-book g c = inl (grows_none (string_bytes c.args.file.now) _)

pub returns-in_err-keep_mark-in-None-clause-renumbers : goal.returns-in_err-keep_mark-in-None-clause-renumbers
returns-in_err-keep_mark-in-None-clause-renumbers g c = inl (asked_none (store_on g.D.Disk) _)

pub returns-in_ok-keep_mark-in-None-clause-renumbers : goal.returns-in_ok-keep_mark-in-None-clause-renumbers
returns-in_ok-keep_mark-in-None-clause-renumbers g c = inl (asked_none (store_on g.D.Disk) _)

pub returns-in_err-number_stray-in-Some-clause-renumbers : goal.returns-in_err-number_stray-in-Some-clause-renumbers
returns-in_err-number_stray-in-Some-clause-renumbers g c = c.number_stray.ensures.renumbers

pub returns-in_ok-number_stray-in-Some-clause-renumbers : goal.returns-in_ok-number_stray-in-Some-clause-renumbers
returns-in_ok-number_stray-in-Some-clause-renumbers g c = c.number_stray.ensures.renumbers

pub returns-in_ok-keep_mark-in-None-clause-begins : goal.returns-in_ok-keep_mark-in-None-clause-begins
returns-in_ok-keep_mark-in-None-clause-begins g c =
    begun_none g.D.Disk (string_bytes c.args.file.now) _ _ _ _ _ c.in-None.is c.in_ok-keep_mark-in-None.ensures.kept

pub returns-in_ok-number_stray-in-Some-clause-begins : goal.returns-in_ok-number_stray-in-Some-clause-begins
returns-in_ok-number_stray-in-Some-clause-begins g c =
    begun_some g.D.Disk (string_bytes c.args.file.now) _ _ _ _ _ c.in-Some.is c.in_ok-number_stray-in-Some.ensures.accepted
