use Rattle.std.proofs.Common.{◌≡◌, ◌-◌, ◌++◌, ℕ, List, length, replicate, sym, ap, ◌∙◌, subst, rules}
use Rattle.tune_disk.specs.Inside.Fills.{Fills}
use Rattle.tune_disk.specs.Memory.{memory_state, IsFilled}
use Rattle.tune_disk.specs.Records.{state_of_records}
use Rattle.tune_disk.specs.declared.memory.Record.{Record}
use Rattle.tune_disk.proofs.Filled.{filled_is}
use Rattle.tune_disk.proofs.Writes.{whole}
use Rattle.tune_disk.proofs.memory.MemoryDisk.filled_with.Goals as goal

pub returns : goal.returns
returns c =
    let disk = c.args.self.now in
    let byte = c.args.byte in
    let s = memory_state disk in
    let longer = c.lengthen.new.file.items in
    let new = c.fill_written.new.file in
    let stable : c.in_ok-file.file.items ≡ s.now.stable = search rules in
    let content : disk.content.items ≡ s.seen = disk.replays in
    let size : c.len.result ≡ length disk.content.items = search rules in
    let behind : List ℕ → ℕ → List ℕ = λ l n. l ++ replicate (n - length l) byte in
    let grown : longer ≡ behind c.in_ok-file.file.items c.len.result = c.in_ok-lengthen.ensures.ok in
    let long : longer ≡ behind s.now.stable (length s.seen) =
    grown ∙ ap (λ (l : List ℕ). behind l c.len.result) stable ∙ ap (behind s.now.stable) (size ∙ ap length content) in
    let from : c.deref_mut.result.now ≡ longer = search rules in
    let written : List Record → Type 0 = λ l. Fills byte (state_of_records disk.first.items l).now.written c.deref_mut.result.now new in
    let filled = subst written c.deref-4.ensures.value (c.fill_written.ensures disk.first.items) in
    let fills : Fills byte s.now.written longer new = subst (λ (l : List ℕ). Fills byte s.now.written l new) from filled in
    let same : length new ≡ length longer = fills.long in
    let n : c.lengthen.new.file.len ≡ length longer = search rules in
    subst (IsFilled byte s) (sym (whole c.lengthen.new.file.len longer new same n)) (filled_is byte s longer new disk.stays long fills)
