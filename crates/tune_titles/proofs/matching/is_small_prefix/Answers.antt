use Rattle.std.specs.Char.{to_ascii_lowercase}
use Rattle.tune_titles.proofs.FrontLemmas.{front_test}
use Rattle.tune_titles.proofs.matching.is_small_prefix.Goals as goal

pub returns : goal.returns
returns c =
    let h = c.eq_ignore_ascii_case.ensures in
    front_test to_ascii_lowercase c.args.front.now c.args.text.now c.eq_ignore_ascii_case.result h.test.0 h.test.1
