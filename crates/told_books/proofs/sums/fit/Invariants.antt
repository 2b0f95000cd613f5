use Rattle.std.proofs.Common.{◌≡◌, ℕ, List, nat_le, drop}
use Rattle.abc_fields.specs.FileHeaders.{has_letter}
use Rattle.told_books.specs.Inside.LetterTables.{IsLetterTableOf}
use Rattle.told_books.specs.Inside.Sums.{sum_carried_by}
use Rattle.told_books.proofs.sums.fit.Given as goal

abbrev pub invariant-loop-sum : goal.invariant-loop-sum
invariant-loop-sum l = (own : List (List ℕ)) → IsLetterTableOf l.letters.table own
    → nat_le (sum_carried_by (has_letter own) (drop l.sum-index l.sums)) l.left ≡ nat_le (sum_carried_by (has_letter own) l.sums) l.room
