use Rattle.std.proofs.Common.{List, ℕ, take, get_or, sym, subst, rules}
use Rattle.std.proofs.lemmas.List.{take_more}
use Rattle.tune_disk.specs.Inside.ToldMore.{IsToldTaken}
use Rattle.tune_disk.proofs.Told.{taken_none, taken_more}
use Rattle.tune_disk.proofs.file.told.tell_taken.Goals as goal

pub loop-i-init : goal.loop-i-init
loop-i-init c = taken_none c.args.log.now.items

pub loop-i-preserved : goal.loop-i-preserved
loop-i-preserved c =
    let bytes = c.args.bytes.now in
    let i = c.loop-i.i in
    let first = c.args.log.now.items in
    subst (λ (l : List ℕ). IsToldTaken l first c.and.result.items) (sym (take_more bytes i 0 (search rules)))
    (taken_more c.args.at (get_or bytes i 0) (take i bytes) first c.loop-i.log.items c.and.result.items c.loop-i.invariant c.and.ensures)
