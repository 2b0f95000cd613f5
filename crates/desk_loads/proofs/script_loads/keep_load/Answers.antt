use Rattle.std.proofs.Common.{None, false, rules, string_bytes}
use Rattle.std.proofs.lemmas.List.{nil_from_length}
use Rattle.tune_desk.specs.Results.{result_places}
use Rattle.tune_desk.proofs.SpareLemmas.{spares_none}
use Rattle.desk_loads.proofs.LoadLemmas.{grows_later, grows_not_later, grows_not_asked, keeps_none, keeps_some, spares_asked, spares_later}
use Rattle.desk_loads.proofs.script_loads.keep_load.Goals as goal

pub returns-then-is_empty-clause-files : goal.returns-then-is_empty-clause-files
returns-then-is_empty-clause-files g c = spares_none (result_places (string_bytes c.args.file.now) None false) _

pub returns-then-is_empty-clause-kept : goal.returns-then-is_empty-clause-kept
returns-then-is_empty-clause-kept g c =
    keeps_none (string_bytes c.args.file.now) c.args.parts.items _ (nil_from_length c.args.parts.items (search rules))

pub returns-in_err-look_again-clause-files : goal.returns-in_err-look_again-clause-files
returns-in_err-look_again-clause-files g c = spares_asked (result_places (string_bytes c.args.file.now) None false) _ _ c.look_again.ensures

pub returns-in-Ok-clause-files : goal.returns-in-Ok-clause-files
returns-in-Ok-clause-files g c = spares_later (string_bytes c.args.file.now) _ _ _ c.look_again.ensures c.keep_entry.ensures.files

pub returns-in-Ok-clause-kept : goal.returns-in-Ok-clause-kept
returns-in-Ok-clause-kept g c =
    let file = string_bytes c.args.file.now in
    keeps_some file c.args.parts.items _ _ (search rules) (grows_later file _ _ _ c.look_again.ensures _ c.in-Ok.ensures.kept)

pub returns-clause-files : goal.returns-clause-files
returns-clause-files g c = spares_later (string_bytes c.args.file.now) _ _ _ c.look_again.ensures c.keep_entry.ensures.files

pub returns-clause-refused : goal.returns-clause-refused
returns-clause-refused g c = grows_not_later (string_bytes c.args.file.now) _ _ _ c.look_again.ensures c.in-Err.ensures.refused
