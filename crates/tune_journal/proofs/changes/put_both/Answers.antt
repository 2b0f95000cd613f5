use Rattle.std.proofs.Common.{◌≡◌, ℕ, length, ap, arith}
use Rattle.std.proofs.lemmas.List.{length-replicate}
use Rattle.tune_journal.specs.FileOffsets.{block_bytes}
use Rattle.tune_journal.proofs.Blanks.{zeros_behind, both_padded}
use Rattle.tune_journal.proofs.changes.put_both.Goals as goal

pub put_before-requires-clause-zeros : goal.put_before-requires-clause-zeros
put_before-requires-clause-zeros c = zeros_behind (length c.args.head.now) c.args.image.now c.requires.zeros

pub returns : goal.returns
returns c =
    let long : length c.args.image.now ≡ block_bytes = omega (arith, ap length c.requires.zeros, length-replicate {A = ℕ}) in
    both_padded c.args.head.now c.args.rest.now c.args.image.now c.copy_from_slice.new.self c.put_before.new.zeros c.requires.size long
    c.copy_from_slice.ensures.after c.put_before.ensures
