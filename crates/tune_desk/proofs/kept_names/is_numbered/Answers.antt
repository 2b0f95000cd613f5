use Rattle.std.proofs.Common.{◌≡◌, ◌++◌, ◌<◌, length, Some, codes, rules}
use Rattle.std.proofs.lemmas.Bool.Decides.{Decides-eqb}
use Rattle.std.proofs.lemmas.Slice.Eq.{strip_prefix_is, strip_suffix_is}
use Rattle.tune_desk.proofs.NameLemmas.{numbered_by}
use Rattle.tune_desk.proofs.kept_names.is_numbered.Goals as goal

pub returns-then-not-is_empty : goal.returns-then-not-is_empty
returns-then-not-is_empty c =
    let rest = c.in-Some.rest.now in
    let digits = c.in-Some-strip_suffix.digits.now in
    let front : c.args.ending.now ≡ codes "." ++ rest =
    strip_prefix_is Decides-eqb c.args.ending.now (codes ".") (Some c.in-Some.rest) c.in-Some.ensures.cases in
    let back : rest ≡ digits ++ codes ".old" = strip_suffix_is Decides-eqb rest (codes ".old")
    (Some c.in-Some-strip_suffix.digits) c.in-Some-strip_suffix.ensures.cases in
    let some : 0 < length digits = search rules in
    numbered_by c.args.ending.now rest digits c.are_digits.result front back some c.are_digits.ensures
