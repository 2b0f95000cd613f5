use Rattle.std.proofs.Common.{◌≡◌, ◌+◌, ℕ, suc, List, [], length, drop, ap, sym, subst, ◌∙◌, arith}
use Rattle.std.specs.Prelude.{◌==◌}
use Rattle.std.proofs.lemmas.List.{take_rest, drop_all}
use Rattle.tune_undo.specs.OldItems.{Start, IsItemLog}
use Rattle.tune_undo.specs.Inside.Found.{place_of, IsLaterLog}
use Rattle.tune_undo.proofs.StepLaws.{later_first, later_absent}
use Rattle.tune_undo.proofs.steps.next_line.Goals as goal

pub returns-in-None-clause-log : goal.returns-in-None-clause-log
returns-in-None-clause-log c = λ items some log.
    let bytes = c.args.bytes.now in
    let empty = take_rest bytes (length bytes) ∙ drop_all (length bytes) bytes (omega arith) in
    let none : items ≡ [] = subst (λ (rest : List ℕ). IsItemLog Start rest items) empty log in
    subst (IsLaterLog bytes) (sym none) (later_absent bytes c.in-None.ensures)

pub returns-in-Some-clause-log : goal.returns-in-Some-clause-log
returns-in-Some-clause-log c = λ items some log.
    let bytes = c.args.bytes.now in
    let len = c.in-Some.len in
    let found = c.in-Some.ensures in
    let more : len + 1 ≡ suc len = omega arith in
    later_first bytes len items found.0.high found.1 found.0.before
    (subst (λ (rest : List ℕ). IsItemLog (place_of (len == 0)) rest items) (take_rest bytes (len + 1) ∙ ap (λ n. drop n bytes) more) log)
