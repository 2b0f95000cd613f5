use Rattle.std.proofs.Common.{false}
use Rattle.std.proofs.lemmas.List.{get_or-replicate}
use Rattle.told_books.proofs.tune_letters.Letters.none.Goals as goal

pub returns : goal.returns
returns c = λ letter within. get_or-replicate 256 letter false false within
