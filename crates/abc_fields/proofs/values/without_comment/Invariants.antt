use Rattle.std.proofs.Common.{◌≤◌, ◌-◌, length}
use Rattle.abc_fields.proofs.CommentLaw.{IsReadTo}
use Rattle.abc_fields.proofs.values.without_comment.Given as goal

abbrev pub invariant-loop-offset : goal.invariant-loop-offset
invariant-loop-offset l = record { within : l.from ≤ length l.line; read : IsReadTo l.line l.from }

abbrev pub decreases-loop-offset : goal.decreases-loop-offset
decreases-loop-offset l = length l.line - l.from
