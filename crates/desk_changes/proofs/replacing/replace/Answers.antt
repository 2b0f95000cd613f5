use Rattle.std.proofs.Common.{None, false, inl, inr, string_bytes, arith}
use Rattle.tune_desk.specs.Results.{result_places}
use Rattle.tune_desk.proofs.SpareLemmas.{spares_both}
use Rattle.desk_scenes.proofs.FileLemmas.{quiet_spares}
use Rattle.desk_changes.specs.declared.replacing.Replacement.{Replacement}
use Rattle.desk_changes.proofs.ReplacingLemmas.{prints_after, reads_on}
use Rattle.desk_changes.proofs.replacing.replace.Goals as goal

pub returns-in-Some-clause-files : goal.returns-in-Some-clause-files
returns-in-Some-clause-files g c =
    let places = result_places (string_bytes c.args.file.now) None false in
    spares_both places (g.K.Desk.deeds c.args.desk.now) (g.K.Desk.deeds c.read_text.new.desk) (g.K.Desk.deeds c.replace_by.new.desk)
    (quiet_spares g.D.Disk places _ _ c.in-Some.ensures.quiet) c.replace_by.ensures.files

pub returns-in-Some-clause-replaces : goal.returns-in-Some-clause-replaces
returns-in-Some-clause-replaces g c =
    let kept = g.C.Console in
    let old = c.args.standard.now.console in
    let mid = c.read_text.new.standard.console in
    let new = c.replace_by.new.standard.console in
    let was = g.K.Desk.deeds c.args.desk.now in
    let begun = g.K.Desk.deeds c.read_text.new.desk in
    let now = g.K.Desk.deeds c.replace_by.new.desk in
    let what : Replacement = record { number = c.args.asked.now.number; revision = c.args.asked.now.revision; text = c.in-Some.text } in
    inl (
      c.in-Some.text,
      begun,
      reads_on kept (string_bytes c.args.asked.now.book.now) c.in-Some.text old mid new was begun c.replace_by.ensures.input c.in-Some.ensures.text,
      prints_after g.D.Disk (string_bytes c.args.file.now) what kept old mid new begun now c.replace_by.result c.in-Some.ensures.output
          c.replace_by.ensures.replaces,
    )

pub returns-in-None-clause-files : goal.returns-in-None-clause-files
returns-in-None-clause-files g c = quiet_spares g.D.Disk (result_places (string_bytes c.args.file.now) None false) _ _ c.in-None.ensures.quiet

pub returns-in-None-clause-replaces : goal.returns-in-None-clause-replaces
returns-in-None-clause-replaces g c = inr (c.in-None.ensures.quiet, c.in-None.ensures.output, omega arith)
