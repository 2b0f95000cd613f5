use Rattle.std.proofs.Common.{string_bytes, sym, ◌∙◌, arith}
use Rattle.desk_backups.proofs.NextLemmas.{behind_file, behind_greatest, behind_nothing}
use Rattle.desk_backups.proofs.copy_names.next_behind.Goals as goal

pub returns-in-Some-checked_add-clause-counts : goal.returns-in-Some-checked_add-clause-counts
returns-in-Some-checked_add-clause-counts g c =
    let same = c.as_slice.ensures.value in
    behind_greatest c.args.standing (string_bytes c.args.copy.now) c.in_ok-numbers.numbers.items _ _ c.in_ok-numbers.ensures.told
    c.in-Some.number c.in-Some-checked_add.next (rw same at c.in-Some.ensures) (omega (arith, c.in-Some-checked_add.ensures))

pub returns-in-File-clause-counts : goal.returns-in-File-clause-counts
returns-in-File-clause-counts g c =
    behind_file c.args.standing (string_bytes c.args.copy.now) c.in_ok-numbers.numbers.items _ _ c.in_ok-numbers.ensures.told
    (sym c.as_slice.ensures.value ∙ c.in-None.ensures) c.in-File.is

pub returns-clause-counts : goal.returns-clause-counts
returns-clause-counts g c =
    behind_nothing c.args.standing (string_bytes c.args.copy.now) c.in_ok-numbers.numbers.items _ _ c.in_ok-numbers.ensures.told
    (sym c.as_slice.ensures.value ∙ c.in-None.ensures) c.in_default.not-File
