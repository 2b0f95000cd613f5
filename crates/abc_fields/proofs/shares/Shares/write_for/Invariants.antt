use Rattle.std.proofs.Common.{◌≡◌, ◌++◌, ◌-◌, ◌^◌, ℕ, List, length}
use Rattle.abc_fields.specs.Tunes.{joined}
use Rattle.abc_fields.specs.Inside.HeaderRows.{in_table, taken_lines}
use Rattle.abc_fields.specs.Inside.Shares.{IsFirstAt}
use Rattle.abc_fields.proofs.ShareLemmas.{AreLeft}
use Rattle.abc_fields.proofs.shares.Shares.write_for.Given as goal

abbrev pub invariant-loop-next : goal.invariant-loop-next
invariant-loop-next l = record {
  left : (bytes : List ℕ) × AreLeft (in_table l.letters.table) l.rests.items bytes
      × (l.out.items ++ bytes ≡ l.fn.out.items ++ joined (taken_lines (in_table l.letters.table) l.self));
  first : IsFirstAt (length l.rests.items) (length l.rests.items) l.rests.items l.turn.index l.turn.place;
}

abbrev pub decreases-loop-next : goal.decreases-loop-next
decreases-loop-next l = 2 ^ 64 - l.turn.place
