use Rattle.std.proofs.Common.{refl, false}
use Rattle.std.proofs.lemmas.List.{get_or-replicate}
use Rattle.told_books.proofs.tune_letters.SomeCarry.none.Goals as goal

pub returns : goal.returns
returns c = record { always = refl; unless = λ letter within. get_or-replicate 256 letter false false within }
