use Rattle.abc_keys.specs.Keys.{key_of_text}
use Rattle.abc_keys.specs.Inside.KeySteps.{key_of_trimmed}
use Rattle.std.proofs.Common.{ap}
use Rattle.abc_keys.proofs.FifthBounds.{listed_few}
use Rattle.abc_keys.proofs.CountRule.{in_order}
use Rattle.abc_keys.proofs.KeyCaseLaw.{is_key_text, no_other_key}
use Rattle.abc_keys.proofs.AccidentalLaws.{sets_its_pairs, last_counts}
use Rattle.abc_keys.proofs.key_text.key_of.Goals as goal

pub returns-clause-words : goal.returns-clause-words
returns-clause-words c = sets_its_pairs

pub returns-clause-last_counts : goal.returns-clause-last_counts
returns-clause-last_counts c = last_counts

pub returns-clause-counted : goal.returns-clause-counted
returns-clause-counted c = λ scale count is. let few = listed_few scale count is in in_order count few.0 few.1

pub returns-clause-skips_blanks : goal.returns-clause-skips_blanks
unfolding key_of_text
returns-clause-skips_blanks c = λ front back front_blank back_blank. ap key_of_trimmed (c.trim_blanks.ensures.blanks_at_ends front back front_blank back_blank)

pub returns-clause-is_key : goal.returns-clause-is_key
returns-clause-is_key c = is_key_text c.args.text.now

pub returns-clause-no_other_key : goal.returns-clause-no_other_key
returns-clause-no_other_key c = no_other_key c.args.text.now
