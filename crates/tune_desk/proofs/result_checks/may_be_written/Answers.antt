use Rattle.std.proofs.Common.{◌≡◌, rules, Err, string_bytes}
use Rattle.tune_desk.specs.Results.{result_places}
use Rattle.tune_desk.proofs.AskLemmas.{refused_later, held_later, over_later, new_later}
use Rattle.tune_desk.proofs.result_checks.may_be_written.Goals as goal

pub returns-in_err-stands : goal.returns-in_err-stands
returns-in_err-stands g c =
    let answer : c.from_residual.result ≡ Err c.in_err-stands.field-0.0 = search rules in
    rw answer (λ out. c.in_err-stands.ensures (result_places (string_bytes c.args.file.now) out c.args.force))

pub returns-in_err-spare_archive : goal.returns-in_err-spare_archive
returns-in_err-spare_archive g c =
    let answer : c.from_residual-in_err-spare_archive.result ≡ Err c.in_err-spare_archive.field-0.0 = search rules in
    rw answer (λ out.
    let places = result_places (string_bytes c.args.file.now) out c.args.force in
    refused_later places (string_bytes c.args.target.now) _ c.in_err-spare_archive.field-0.0 _ _ _ (c.in_ok-stands.ensures places)
    (c.in_err-spare_archive.ensures out c.args.force))

pub returns-in_err-spare_standing : goal.returns-in_err-spare_standing
returns-in_err-spare_standing g c =
    let answer : c.from_residual-in_err-spare_standing.result ≡ Err c.in_err-spare_standing.field-0.0 = search rules in
    rw answer (λ out.
    let places = result_places (string_bytes c.args.file.now) out c.args.force in
    held_later places (string_bytes c.args.target.now) c.in_ok-stands.stands c.in_err-spare_standing.field-0.0 _ _ _ _ c.if-stands.true
    (c.in_ok-stands.ensures places) (c.in_ok-spare_archive.ensures out c.args.force) (c.in_err-spare_standing.ensures out))

pub returns-in_ok-spare_standing : goal.returns-in_ok-spare_standing
returns-in_ok-spare_standing g c = λ out.
    let places = result_places (string_bytes c.args.file.now) out c.args.force in
    over_later places (string_bytes c.args.target.now) c.in_ok-stands.stands _ _ _ _ c.if-stands.true
    (c.in_ok-stands.ensures places) (c.in_ok-spare_archive.ensures out c.args.force) (c.in_ok-spare_standing.ensures out)

pub returns-else-stands : goal.returns-else-stands
returns-else-stands g c = λ out.
    let places = result_places (string_bytes c.args.file.now) out c.args.force in
    new_later places (string_bytes c.args.target.now) _ _ _ _ (c.in_ok-stands.ensures places) (c.in_ok-spare_archive.ensures out c.args.force)
