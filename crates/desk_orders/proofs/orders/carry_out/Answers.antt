use Rattle.std.proofs.Common.{◌≡◌, string_bytes, refl}
use Rattle.std.specs.Prelude.{Ok, None, false}
use Rattle.tune_cli.specs.ProgramLines.{counts_bytes}
use Rattle.tune_scripts.specs.Streams.{streams_in}
use Rattle.tune_desk.specs.Results.{result_places}
use Rattle.desk_questions.specs.Told.{told}
use Rattle.desk_words.specs.declared.asked.Order.TheVariants as order
use Rattle.desk_scenes.proofs.FileLemmas.{quiet_spares}
use Rattle.desk_orders.proofs.FileLemmas.{kept_by, carried_by, told_keeps, asked_keeps, empty_keeps, restored_keeps, loaded_keeps}
use Rattle.desk_orders.proofs.FileLemmas.{writes_spares, drafts_spares, places_spares}
use Rattle.desk_orders.proofs.orders.carry_out.Goals as goal

pub returns-in-Tell-clause-files : goal.returns-in-Tell-clause-files
returns-in-Tell-clause-files g c = kept_by (string_bytes c.args.file.now) c.args.order.now (order.Tell c.in-Tell.question) (g.K.Desk.deeds c.args.desk.now)
    (g.K.Desk.deeds c.tell.new.desk) c.in-Tell.is
    (told_keeps g.D.Disk (string_bytes c.args.file.now) (λ state bytes. told c.in-Tell.question state ≡ Ok bytes) (record {
      streams = streams_in g.C.Console c.args.standard.now.console c.tell.new.standard.console;
      was = g.K.Desk.deeds c.args.desk.now;
      now = g.K.Desk.deeds c.tell.new.desk;
      status = c.tell.result;
    }) c.tell.ensures)

pub returns-in-Write-clause-files : goal.returns-in-Write-clause-files
returns-in-Write-clause-files g c = kept_by (string_bytes c.args.file.now) c.args.order.now (order.Write c.in-Write.question c.in-Write.target)
    (g.K.Desk.deeds c.args.desk.now) (g.K.Desk.deeds c.write.new.desk) c.in-Write.is
    (writes_spares g.D.Disk (string_bytes c.args.file.now) (λ state bytes. told c.in-Write.question state ≡ Ok bytes) c.in-Write.target (record {
      streams = streams_in g.C.Console c.args.standard.now.console c.write.new.standard.console;
      was = g.K.Desk.deeds c.args.desk.now;
      now = g.K.Desk.deeds c.write.new.desk;
      status = c.write.result;
    }) c.write.ensures)

pub returns-in-Check-clause-files : goal.returns-in-Check-clause-files
returns-in-Check-clause-files g c = kept_by (string_bytes c.args.file.now) c.args.order.now order.Check (g.K.Desk.deeds c.args.desk.now)
    (g.K.Desk.deeds c.check.new.desk) c.in-Check.is
    (told_keeps g.D.Disk (string_bytes c.args.file.now) (λ state bytes. bytes ≡ counts_bytes state) (record {
      streams = streams_in g.C.Console c.args.standard.now.console c.check.new.standard.console;
      was = g.K.Desk.deeds c.args.desk.now;
      now = g.K.Desk.deeds c.check.new.desk;
      status = c.check.result;
    }) c.check.ensures)

pub returns-in-Draft-clause-files : goal.returns-in-Draft-clause-files
returns-in-Draft-clause-files g c = kept_by (string_bytes c.args.file.now) c.args.order.now (order.Draft c.in-Draft.number c.in-Draft.out)
    (g.K.Desk.deeds c.args.desk.now) (g.K.Desk.deeds c.draft.new.desk) c.in-Draft.is
    (drafts_spares g.D.Disk (string_bytes c.args.file.now) c.in-Draft.number (string_bytes c.in-Draft.out) (record {
      streams = streams_in g.C.Console c.args.standard.now.console c.draft.new.standard.console;
      was = g.K.Desk.deeds c.args.desk.now;
      now = g.K.Desk.deeds c.draft.new.desk;
      status = c.draft.result;
    }) c.draft.ensures)

pub returns-in-Ask-clause-files : goal.returns-in-Ask-clause-files
returns-in-Ask-clause-files g c = kept_by (string_bytes c.args.file.now) c.args.order.now order.Ask (g.K.Desk.deeds c.args.desk.now)
    (g.K.Desk.deeds c.ask.new.desk) c.in-Ask.is
    (asked_keeps g.D.Disk (string_bytes c.args.file.now) (record {
      streams = streams_in g.C.Console c.args.standard.now.console c.ask.new.standard.console;
      was = g.K.Desk.deeds c.args.desk.now;
      now = g.K.Desk.deeds c.ask.new.desk;
      status = c.ask.result;
    }) c.ask.ensures)

pub returns-in-CheckBooks-clause-files : goal.returns-in-CheckBooks-clause-files
returns-in-CheckBooks-clause-files g c = kept_by (string_bytes c.args.file.now) c.args.order.now (order.CheckBooks c.in-CheckBooks.paths)
    (g.K.Desk.deeds c.args.desk.now) (g.K.Desk.deeds c.check_books.new.desk) c.in-CheckBooks.is
    (quiet_spares g.D.Disk (result_places (string_bytes c.args.file.now) None false) _ _ c.check_books.ensures.quiet)

pub returns-in-CheckCopy-clause-files : goal.returns-in-CheckCopy-clause-files
returns-in-CheckCopy-clause-files g c = kept_by (string_bytes c.args.file.now) c.args.order.now (order.CheckCopy c.in-CheckCopy.copy)
    (g.K.Desk.deeds c.args.desk.now) (g.K.Desk.deeds c.check_copy.new.desk) c.in-CheckCopy.is
    (quiet_spares g.D.Disk (result_places (string_bytes c.args.file.now) None false) _ _ c.check_copy.ensures.files)

pub returns-in-Make-clause-files : goal.returns-in-Make-clause-files
returns-in-Make-clause-files g c = kept_by (string_bytes c.args.file.now) c.args.order.now order.Make (g.K.Desk.deeds c.args.desk.now)
    (g.K.Desk.deeds c.make.new.desk) c.in-Make.is
    (empty_keeps g.D.Disk (string_bytes c.args.file.now) _ _ c.make.result c.make.ensures)

pub returns-in-Restore-clause-files : goal.returns-in-Restore-clause-files
returns-in-Restore-clause-files g c = kept_by (string_bytes c.args.file.now) c.args.order.now (order.Restore c.in-Restore.copy c.in-Restore.force)
    (g.K.Desk.deeds c.args.desk.now) (g.K.Desk.deeds c.restore.new.desk) c.in-Restore.is
    (restored_keeps g.D.Disk (string_bytes c.args.file.now) (string_bytes c.in-Restore.copy) (record {
      streams = streams_in g.C.Console c.args.standard.now.console c.restore.new.standard.console;
      was = g.K.Desk.deeds c.args.desk.now;
      now = g.K.Desk.deeds c.restore.new.desk;
      status = c.restore.result;
    }) c.restore.ensures)

pub returns-in-Load-clause-files : goal.returns-in-Load-clause-files
returns-in-Load-clause-files g c = kept_by (string_bytes c.args.file.now) c.args.order.now (order.Load c.in-Load.script) (g.K.Desk.deeds c.args.desk.now)
    (g.K.Desk.deeds c.load.new.desk) c.in-Load.is
    (loaded_keeps g.D.Disk (string_bytes c.args.file.now) (string_bytes c.in-Load.script) (record {
      streams = streams_in g.C.Console c.args.standard.now.console c.load.new.standard.console;
      was = g.K.Desk.deeds c.args.desk.now;
      now = g.K.Desk.deeds c.load.new.desk;
      status = c.load.result;
    }) c.load.ensures)

pub returns-in-Upgrade-clause-files : goal.returns-in-Upgrade-clause-files
returns-in-Upgrade-clause-files g c = kept_by (string_bytes c.args.file.now) c.args.order.now order.Upgrade (g.K.Desk.deeds c.args.desk.now)
    (g.K.Desk.deeds c.upgrade.new.desk) c.in-Upgrade.is c.upgrade.ensures.files

pub returns-in-Replace-clause-does : goal.returns-in-Replace-clause-does
returns-in-Replace-clause-does g c = carried_by g.D.Disk (string_bytes c.args.file.now) c.args.order.now
    (order.Replace c.in-Replace.number c.in-Replace.revision c.in-Replace.book) _ c.in-Replace.is c.replace.ensures.replaces

pub returns-in-CheckCopy-clause-does : goal.returns-in-CheckCopy-clause-does
returns-in-CheckCopy-clause-does g c = carried_by g.D.Disk (string_bytes c.args.file.now) c.args.order.now (order.CheckCopy c.in-CheckCopy.copy) _
    c.in-CheckCopy.is c.check_copy.ensures.tells

pub returns-in-Backup-clause-files : goal.returns-in-Backup-clause-files
returns-in-Backup-clause-files g c = kept_by (string_bytes c.args.file.now) c.args.order.now (order.Backup c.in-Backup.copy c.in-Backup.keep)
    (g.K.Desk.deeds c.args.desk.now) (g.K.Desk.deeds c.backup.new.desk) c.in-Backup.is c.backup.ensures.files

pub returns-in-Backup-clause-does : goal.returns-in-Backup-clause-does
returns-in-Backup-clause-does g c = carried_by g.D.Disk (string_bytes c.args.file.now) c.args.order.now
    (order.Backup c.in-Backup.copy c.in-Backup.keep) _ c.in-Backup.is c.backup.ensures.backs_up

pub returns-in-Add-clause-does : goal.returns-in-Add-clause-does
returns-in-Add-clause-does g c = carried_by g.D.Disk (string_bytes c.args.file.now) c.args.order.now (order.Add c.in-Add.books c.in-Add.how) _ c.in-Add.is
    c.add.ensures.adds
