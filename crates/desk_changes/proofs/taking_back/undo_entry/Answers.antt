use Rattle.std.proofs.Common.{[], refl, inl, inr, ◌∙◌, sym, append-nil, string_bytes}
use Rattle.std.proofs.lemmas.Result.{err_from_is_err_and}
use Rattle.tune_archive.specs.AsStore.{store_on}
use Rattle.tune_asking.proofs.CallLemmas.{asked_none, asked_more}
use Rattle.desk_changes.proofs.AlteringLemmas.{grows_none}
use Rattle.desk_changes.proofs.UndoLemmas.{renumbers_after}
use Rattle.desk_changes.proofs.WorkLemmas.{beside_asked, beside_both, then_files}
use Rattle.desk_changes.proofs.taking_back.undo_entry.Goals as goal

pub returns-in_err-standing-clause-works : goal.returns-in_err-standing-clause-works
returns-in_err-standing-clause-works g c =
    let file = string_bytes c.args.file.now in
    beside_asked g.D.Disk file _ _ _ c.look_at_entry.ensures.asked

pub returns-in_err-keep_mark-clause-works : goal.returns-in_err-keep_mark-clause-works
returns-in_err-keep_mark-clause-works g c =
    let file = string_bytes c.args.file.now in
    let looked = beside_asked g.D.Disk file _ _ _ c.look_at_entry.ensures.asked in
    then_files g.D.Disk file _ _ _ _ _ looked c.keep_mark.ensures.files

pub returns-then-is_done-clause-works : goal.returns-then-is_done-clause-works
returns-then-is_done-clause-works g c =
    let file = string_bytes c.args.file.now in
    let looked = beside_asked g.D.Disk file _ _ _ c.look_at_entry.ensures.asked in
    then_files g.D.Disk file _ _ _ _ _ looked c.keep_mark.ensures.files

pub returns-in_err-keep_taken-clause-works : goal.returns-in_err-keep_taken-clause-works
returns-in_err-keep_taken-clause-works g c =
    let file = string_bytes c.args.file.now in
    let looked = beside_asked g.D.Disk file _ _ _ c.look_at_entry.ensures.asked in
    beside_both g.D.Disk file _ _ _ _ _ _ looked c.keep_taken.ensures.works

pub returns-in_err-begin_undoing-clause-works : goal.returns-in_err-begin_undoing-clause-works
returns-in_err-begin_undoing-clause-works g c =
    let file = string_bytes c.args.file.now in
    let looked = beside_asked g.D.Disk file _ _ _ c.look_at_entry.ensures.asked in
    let kept = beside_both g.D.Disk file _ _ _ _ _ _ looked c.keep_taken.ensures.works in
    beside_both g.D.Disk file _ _ _ _ _ _ kept c.begin_undoing.ensures.works

pub returns-in_err-finish_undoing-clause-works : goal.returns-in_err-finish_undoing-clause-works
returns-in_err-finish_undoing-clause-works g c =
    let file = string_bytes c.args.file.now in
    let looked = beside_asked g.D.Disk file _ _ _ c.look_at_entry.ensures.asked in
    let kept = beside_both g.D.Disk file _ _ _ _ _ _ looked c.keep_taken.ensures.works in
    let began = beside_both g.D.Disk file _ _ _ _ _ _ kept c.begin_undoing.ensures.works in
    beside_both g.D.Disk file _ _ _ _ _ _ began c.finish_undoing.ensures.works

pub returns-clause-works : goal.returns-clause-works
returns-clause-works g c =
    let file = string_bytes c.args.file.now in
    let looked = beside_asked g.D.Disk file _ _ _ c.look_at_entry.ensures.asked in
    let kept = beside_both g.D.Disk file _ _ _ _ _ _ looked c.keep_taken.ensures.works in
    let began = beside_both g.D.Disk file _ _ _ _ _ _ kept c.begin_undoing.ensures.works in
    beside_both g.D.Disk file _ _ _ _ _ _ began c.finish_undoing.ensures.works

pub returns-in_err-standing-clause-undoes : goal.returns-in_err-standing-clause-undoes
returns-in_err-standing-clause-undoes g c =
    let file = string_bytes c.args.file.now in
    let here = c.look_at_entry.new.store in
    let p = err_from_is_err_and c.from_residual.result c.from_residual.ensures.1 in
    rw p.1 (record {
      judged = here;
      ready = here;
      last = here;
      was_kept = g.K.Desk.deeds c.args.desk.now;
      was_begun = g.K.Desk.deeds c.args.desk.now;
      asked = c.look_at_entry.ensures.asked;
      renumbers = inl (asked_none (store_on g.D.Disk) here);
      keeps = inl (grows_none file _);
      begins = inl (grows_none file _);
      ends = inl (refl, refl);
      told = asked_none (store_on g.D.Disk) here;
    })

pub returns-in_err-keep_mark-clause-undoes : goal.returns-in_err-keep_mark-clause-undoes
returns-in_err-keep_mark-clause-undoes g c =
    let file = string_bytes c.args.file.now in
    let here = c.look_at_entry.new.store in
    let p = err_from_is_err_and c.from_residual-in_err-keep_mark.result c.from_residual-in_err-keep_mark.ensures.1 in
    rw p.1 (record {
      judged = here;
      ready = here;
      last = here;
      was_kept = g.K.Desk.deeds c.keep_mark.new.desk;
      was_begun = g.K.Desk.deeds c.keep_mark.new.desk;
      asked = c.look_at_entry.ensures.asked;
      renumbers = inl (asked_none (store_on g.D.Disk) here);
      keeps = inl c.in_err-keep_mark.ensures.refused;
      begins = inl (grows_none file _);
      ends = inl (refl, refl);
      told = asked_none (store_on g.D.Disk) here;
    })

pub returns-then-is_done-clause-undoes : goal.returns-then-is_done-clause-undoes
returns-then-is_done-clause-undoes g c =
    let done = c.is_done.ensures c.if-is_done.true in
    record {
      more = [];
      are = sym (append-nil c.args.told.now.items);
      so = (
        refl,
        record {
          unbegun = done.1;
          asked = c.look_at_entry.ensures.asked;
          stood = record {
            stays = c.in_ok-standing.ensures.judges.stays;
            was = λ is_open h. c.in_ok-standing.ensures.judges.was is_open h ∙ done.0;
          };
          marked = c.in_ok-keep_mark.ensures.kept;
        },
      );
    }

pub returns-in_err-keep_taken-clause-undoes : goal.returns-in_err-keep_taken-clause-undoes
returns-in_err-keep_taken-clause-undoes g c =
    let file = string_bytes c.args.file.now in
    let here = c.keep_taken.new.archive in
    let p = err_from_is_err_and c.from_residual-in_err-keep_taken.result c.from_residual-in_err-keep_taken.ensures.1 in
    rw p.1 (record {
      judged = here;
      ready = here;
      last = here;
      was_kept = g.K.Desk.deeds c.keep_taken.new.desk;
      was_begun = g.K.Desk.deeds c.keep_taken.new.desk;
      asked = asked_more (store_on g.D.Disk) _ _ _ c.look_at_entry.ensures.asked c.keep_taken.ensures.asks;
      renumbers = inl (asked_none (store_on g.D.Disk) here);
      keeps = c.keep_taken.ensures.book;
      begins = inl (grows_none file _);
      ends = inl (refl, refl);
      told = asked_none (store_on g.D.Disk) here;
    })

pub returns-in_err-begin_undoing-clause-undoes : goal.returns-in_err-begin_undoing-clause-undoes
returns-in_err-begin_undoing-clause-undoes g c =
    let here = c.begin_undoing.new.archive in
    let p = err_from_is_err_and c.from_residual-in_err-begin_undoing.result c.from_residual-in_err-begin_undoing.ensures.1 in
    rw p.1 (record {
      judged = c.look_at_entry.new.store;
      ready = here;
      last = here;
      was_kept = g.K.Desk.deeds c.keep_taken.new.desk;
      was_begun = g.K.Desk.deeds c.begin_undoing.new.desk;
      asked = c.look_at_entry.ensures.asked;
      renumbers = renumbers_after g.D.Disk _ _ _ _ c.keep_taken.ensures.asks c.begin_undoing.ensures.renumbers;
      keeps = c.keep_taken.ensures.book;
      begins = c.begin_undoing.ensures.book;
      ends = inl (refl, refl);
      told = asked_none (store_on g.D.Disk) here;
    })

pub returns-in_err-finish_undoing-clause-undoes : goal.returns-in_err-finish_undoing-clause-undoes
returns-in_err-finish_undoing-clause-undoes g c =
    let some = c.in_err-finish_undoing.ensures.finishes in
    let p = err_from_is_err_and c.from_residual-in_err-finish_undoing.result c.from_residual-in_err-finish_undoing.ensures.1 in
    rw p.1 (record {
      judged = c.look_at_entry.new.store;
      ready = c.begin_undoing.new.archive;
      last = some.last;
      was_kept = g.K.Desk.deeds c.keep_taken.new.desk;
      was_begun = g.K.Desk.deeds c.begin_undoing.new.desk;
      asked = c.look_at_entry.ensures.asked;
      renumbers = renumbers_after g.D.Disk _ _ _ _ c.keep_taken.ensures.asks c.begin_undoing.ensures.renumbers;
      keeps = c.keep_taken.ensures.book;
      begins = c.begin_undoing.ensures.book;
      ends = inr (c.in_ok-standing.ensures.stands, some.brings);
      told = some.asked;
    })

pub returns-clause-undoes : goal.returns-clause-undoes
returns-clause-undoes g c =
    let finishes = c.in_ok-finish_undoing.ensures.finishes in
    record {
      more = finishes.more;
      are = finishes.are;
      so = record {
        judged = c.look_at_entry.new.store;
        kept = c.keep_taken.new.archive;
        ready = c.begin_undoing.new.archive;
        was_kept = g.K.Desk.deeds c.keep_taken.new.desk;
        was_begun = g.K.Desk.deeds c.begin_undoing.new.desk;
        asked = c.look_at_entry.ensures.asked;
        stood = c.in_ok-standing.ensures.stands;
        keeps = c.in_ok-keep_taken.ensures.keeps;
        begins = c.in_ok-begin_undoing.ensures.begins;
        brings = finishes.so;
      };
    }
