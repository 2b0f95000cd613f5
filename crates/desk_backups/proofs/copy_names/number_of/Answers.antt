use Rattle.std.proofs.Common.{◌≡◌, ◌++◌, None, lit<}
use Rattle.std.proofs.lemmas.Str.Pattern.{strip_prefix_char}
use Rattle.desk_backups.proofs.ListedLemmas.{front_of, no_dot}
use Rattle.desk_backups.proofs.copy_names.number_of.Goals as goal

pub returns-in_err-digits-clause-each : goal.returns-in_err-digits-clause-each
returns-in_err-digits-clause-each c = λ number h.
    let rest = c.in_ok-rest.rest.now in
    let cut = c.in_ok-rest.ensures.cases in
    let front : c.args.name.now ≡ c.args.last.now ++ rest = front_of c.args.last.now c.args.name.now rest cut.0 cut.2 cut.1.1 in
    absurd (no_dot c.args.last.now c.args.name.now rest front (strip_prefix_char 46 rest None c.in_err-digits.ensures.cases (lit< tt)) number h)
