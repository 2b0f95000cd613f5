use Rattle.std.proofs.Common.{◌≡◌, rules, Err, string_bytes}
use Rattle.desk_copies.proofs.BeginningLemmas.{followed_none, followed_created, followed_uncreated, created_at}
use Rattle.desk_copies.proofs.archive_files.begin_at.Goals as goal

pub returns-in_err-over-clause-begins : goal.returns-in_err-over-clause-begins
returns-in_err-over-clause-begins g c =
    let answer : c.from_residual.result ≡ Err c.in_err-over.field-0.0 = search rules in
    rw answer (λ file was h. followed_none file (string_bytes c.args.target.now) was _ (c.in_err-over.ensures.asks file was h))

pub returns-in_default-clause-begins : goal.returns-in_default-clause-begins
returns-in_default-clause-begins g c = λ file was h. followed_none file (string_bytes c.args.target.now) was _ (c.in_ok-over.ensures.asks file was h)

pub returns-in-Ok-create-clause-begins : goal.returns-in-Ok-create-clause-begins
returns-in-Ok-create-clause-begins g c = λ file was h.
    followed_created file (string_bytes c.args.target.now) was _ (c.in_ok-over.ensures.asks file was h) _ c.in-Ok-create.disk
    (created_at _ _ _ _ _ c.in-Ok.ensures.ok c.in-Ok-create.ensures.deed)

pub returns-in-Err-clause-begins : goal.returns-in-Err-clause-begins
returns-in-Err-clause-begins g c = λ file was h.
    followed_uncreated file (string_bytes c.args.target.now) was _ (c.in_ok-over.ensures.asks file was h) _ c.in-Err.fault
    (created_at _ _ _ _ _ c.in-Ok.ensures.ok c.in-Err.ensures.deed)
