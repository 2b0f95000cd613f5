use Rattle.std.proofs.Common.{arith}
use Rattle.std.proofs.lemmas.Bool.Decides.{nat_tests}
use Rattle.abc_items.proofs.NoteNames.{small_name}
use Rattle.abc_items.proofs.item_rows.is_note_name.Goals as goal

pub returns-in-97-to-103 : goal.returns-in-97-to-103
returns-in-97-to-103 c =
    let same = small_name c.args.byte c.ranges.byte.fits in
    grind (arith, nat_tests)

pub returns-in_default : goal.returns-in_default
returns-in_default c =
    let same = small_name c.args.byte c.ranges.byte.fits in
    grind (arith, nat_tests)

pub returns-in_default-2 : goal.returns-in_default-2
returns-in_default-2 c =
    let same = small_name c.args.byte c.ranges.byte.fits in
    grind (arith, nat_tests)
