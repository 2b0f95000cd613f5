use Rattle.std.proofs.Common.{◌≡◌, ◌+◌, rules, arith, true, refl, Err, string_bytes}
use Rattle.desk_backups.specs.OldCopies.{thinning_by}
use Rattle.desk_backups.proofs.ThinLemmas.{is_old, stays, thins_quiet, walked_on, walked_quiet}
use Rattle.desk_backups.proofs.old_copies.thin_at.Goals as goal

pub returns-then-walked-asked-clause-thins : goal.returns-then-walked-asked-clause-thins
returns-then-walked-asked-clause-thins g c = λ was h.
    let seen : c.in-Ok-true.field-0 ≡ true = search rules in
    let thinning = thinning_by c.args.asked.now in
    stays thinning was _ _ c.args.walked (record { last = c.args.number; found = c.args.walked.found + 1 }) c.args.number (string_bytes c.in-Ok.path)
    c.in-Ok.ensures (omega (arith, c.if-number-walked.false)) h (rw seen at c.in-Ok-true.ensures.deed) refl (omega arith)

pub returns-in_err-take_away-in-Ok-true-clause-thins : goal.returns-in_err-take_away-in-Ok-true-clause-thins
returns-in_err-take_away-in-Ok-true-clause-thins g c = λ was h.
    let answer : c.from_residual.result ≡ Err c.in_err-take_away-in-Ok-true.field-0.0 = search rules in
    let seen : c.in-Ok-true.field-0 ≡ true = search rules in
    let thinning = thinning_by c.args.asked.now in
    let enough : c.args.walked.found ≡ c.args.asked.now.keep = omega (arith, c.requires, c.if-walked-asked.false) in
    let old = is_old thinning was _ _ c.args.walked c.args.walked c.args.number (string_bytes c.in-Ok.path)
    c.in-Ok.ensures (omega (arith, c.if-number-walked.false)) h (rw seen at c.in-Ok-true.ensures.deed) enough in
    rw answer (c.take_away.ensures thinning c.args.number was refl c.in-Ok.ensures old).thins

pub returns-in-Ok-true-clause-thins : goal.returns-in-Ok-true-clause-thins
returns-in-Ok-true-clause-thins g c = λ was h.
    let seen : c.in-Ok-true.field-0 ≡ true = search rules in
    let thinning = thinning_by c.args.asked.now in
    let enough : c.args.walked.found ≡ c.args.asked.now.keep = omega (arith, c.requires, c.if-walked-asked.false) in
    let old = is_old thinning was _ _ c.args.walked c.args.walked c.args.number (string_bytes c.in-Ok.path)
    c.in-Ok.ensures (omega (arith, c.if-number-walked.false)) h (rw seen at c.in-Ok-true.ensures.deed) enough in
    walked_on thinning (record { last = c.args.number; found = c.args.walked.found }) c.args.number was _
    (c.take_away.ensures thinning c.args.number was refl c.in-Ok.ensures old) refl enough

pub returns-in-Ok-false-clause-thins : goal.returns-in-Ok-false-clause-thins
returns-in-Ok-false-clause-thins g c = λ was h. walked_quiet _ was _ _ c.args.walked _ h c.begins.ensures.deed refl

pub returns : goal.returns
returns g c = record { found = tt; thins = λ was h. thins_quiet _ was _ _ _ h.thins c.begins.ensures.deed refl }
