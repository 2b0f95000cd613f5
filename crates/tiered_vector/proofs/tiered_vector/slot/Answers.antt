use Rattle.std.proofs.Common.{◌/◌, ◌%◌, arith}
use Rattle.tiered_vector.proofs.Slots.{the_slot, the_slot_behind}
use Rattle.tiered_vector.proofs.tiered_vector.slot.Goals as goal

pub returns-then-ring-turns : goal.returns-then-ring-turns
returns-then-ring-turns c = the_slot_behind c.args.turns.now c.args.place (omega arith)

pub returns : goal.returns
returns c = the_slot c.args.turns.now (c.args.place / 1023) (c.args.place % 1023) c.args.place (omega arith) (omega arith) (omega arith)
