use Rattle.std.proofs.Common.{◌≡◌, ◌+◌, ◌<◌, ℕ, length, ap, ◌∙◌, arith, rules}
use Rattle.tune_disk.specs.ByteWrites.{filled, pasted}
use Rattle.tune_disk.proofs.Overwrites.{written_pasted, length-pasted, length-filled}
use Rattle.tune_disk.proofs.Writes.{whole}
use Rattle.tune_disk.proofs.memory.overwrite.Goals as goal

pub returns-clause-ok : goal.returns-clause-ok
returns-clause-ok c =
    let at = c.args.at in
    let bytes = c.args.bytes.now in
    let file = c.args.file.now.items in
    let end = at + length bytes in
    let some : 0 < length bytes = search rules in
    let end_is : c.in_ok-end.end ≡ end = search rules in
    let full : c.lengthen.new.file.items ≡ filled end file = c.in_ok-lengthen.ensures.ok ∙ ap (λ (n : ℕ). filled n file) end_is in
    let is : c.paste.new.file ≡ pasted at bytes (filled end file) = c.paste.ensures ∙ ap (pasted at bytes) (c.deref_mut.ensures.value ∙ full) in
    let n : c.lengthen.new.file.len ≡ length c.lengthen.new.file.items = search rules in
    let room = length-pasted at bytes (filled end file) (omega (arith, length-filled end file)) in
    let same : length c.paste.new.file ≡ length c.lengthen.new.file.items =
    omega (arith, ap length is, ap length full, length-filled end file, room) in
    written_pasted at bytes file _ some (whole c.lengthen.new.file.len c.lengthen.new.file.items c.paste.new.file same n ∙ is)
