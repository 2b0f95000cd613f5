use Rattle.std.proofs.Common.{◌≡◌, ◌++◌, drop}
use Rattle.abc_fields.specs.FileHeaders.{carries}
use Rattle.abc_fields.specs.Inside.HeaderRows.{in_table}
use Rattle.abc_fields.proofs.ShareLemmas.{chosen}
use Rattle.abc_fields.proofs.shares.Shares.rests_for.Given as goal

abbrev pub invariant-loop-share : goal.invariant-loop-share
invariant-loop-share l = l.rests.items ++ chosen (carries (in_table l.letters.table)) (drop l.share-index l.share-items)
    ≡ chosen (carries (in_table l.letters.table)) l.share-items
