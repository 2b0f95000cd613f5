use Rattle.std.proofs.Common.{rules, tests}
use Rattle.std.proofs.lemmas.Iterator.Consumers.{fold_from_yields_List}
use Rattle.std.proofs.lemmas.Iterator.Splits.{YieldsList-from_slice_split}
use Rattle.abc_fields.specs.Bytes.{is_blank}
use Rattle.abc_keys.specs.Accidentals.{with_word}
use Rattle.abc_keys.proofs.accidentals.with_words.Goals as goal

pub returns : goal.returns
returns c =
    fold_from_yields_List _ with_word c.args.signature c.fold.result c.fold.ensures.ran
    (YieldsList-from_slice_split _ is_blank c.args.text.now c.split.ensures.rest c.split.ensures.done c.split.ensures.closure
    (λ x r q k. search (rules, tests)))
    (λ a x b q k. search (rules, tests))
