use Rattle.std.proofs.Common.{◌≡◌, ℕ, List, length, ap, ◌∙◌, subst, arith, rules, IsTrue, ◌↔◌}
use Rattle.tune_journal.specs.Image.{window}
use Rattle.tune_journal.specs.FileOffsets.{magic, magic_offset, magic_bytes}
use Rattle.tune_journal.proofs.Windows.{shows_window}
use Rattle.tune_journal.proofs.look.read_magic.Goals as goal

pub returns-clause-magic : goal.returns-clause-magic
returns-clause-magic g c = λ h long.
    (let size : length c.read.new.into ≡ 8 = search rules in
    let is : c.read.new.into ≡ window magic_offset magic_bytes (g.D.Disk.state c.args.disk.now).seen =
    shows_window 0 c.read.new.into _ (c.in_ok-read.ensures.read h) (omega arith) ∙ ap (λ (n : ℕ). window 0 n (g.D.Disk.state c.args.disk.now).seen) size in
    subst (λ (l : List ℕ). IsTrue c.is_magic.result ↔ (l ≡ magic)) is c.is_magic.ensures)
