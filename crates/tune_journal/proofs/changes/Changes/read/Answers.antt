use Rattle.std.proofs.Common.{◌≡◌, ℕ, List, length, Some, sym, ◌∙◌, ap, rules}
use Rattle.tune_journal.specs.FileOffsets.{block_bytes}
use Rattle.tune_journal.proofs.Blanks.{blank_end}
use Rattle.tune_journal.proofs.ChangeLists.{image_of_found, image_of_missing}
use Rattle.tune_journal.proofs.changes.Changes.read.Goals as goal

pub returns-in-Ok-clause-found : goal.returns-in-Ok-clause-found
returns-in-Ok-clause-found c = λ is.
    image_of_found c.args.page c.in-Ok.at c.args.self.now c.in-Ok.ensures.found ∙ sym (ap (λ (b : List ℕ). Some b) c.fill.ensures.image)

pub returns-in-Err-clause-missing : goal.returns-in-Err-clause-missing
returns-in-Err-clause-missing c = λ is. image_of_missing c.args.page c.in-Err.field-0 c.args.self.now c.in-Err.ensures.missing

pub fill-requires-clause-used : goal.fill-requires-clause-used
fill-requires-clause-used c =
    let size : length c.args.image.now.bytes ≡ block_bytes = search rules in
    blank_end c.args.image.now.bytes size
