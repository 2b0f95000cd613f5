use Rattle.std.proofs.Common.{◌≡◌, rules, Err, string_bytes}
use Rattle.tune_desk.specs.Results.{result_places}
use Rattle.tune_desk.proofs.AskLemmas.{here_refused, archive_spared}
use Rattle.tune_desk.proofs.result_checks.spare_archive.Goals as goal

pub returns-in_err-spare_names : goal.returns-in_err-spare_names
returns-in_err-spare_names g c =
    let answer : c.from_residual.result ≡ Err c.in_err-spare_names.field-0.0 = search rules in
    rw answer (λ out force. here_refused (result_places (string_bytes c.args.file.now) out force) (string_bytes c.args.target.now) (string_bytes c.in-Ok.there)
    c.in_err-spare_names.field-0.0 _ _ _ c.in-Ok.ensures.deed c.in_err-spare_names.ensures)

pub returns : goal.returns
returns g c = λ out force. archive_spared (result_places (string_bytes c.args.file.now) out force) (string_bytes c.args.target.now) (string_bytes c.in-Ok.there)
    c.spare_names-2.result _ _ _ _ c.in-Ok.ensures.deed c.in_ok-spare_names.ensures c.spare_names-2.ensures
