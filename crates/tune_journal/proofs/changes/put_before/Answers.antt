use Rattle.std.proofs.Common.{◌∙◌, ◌-◌, ◌++◌, ℕ, List, length, drop, replicate, ap}
use Rattle.std.proofs.lemmas.List.{drop-replicate}
use Rattle.tune_journal.proofs.changes.put_before.Goals as goal

pub returns : goal.returns
returns c =
    ap (λ (l : List ℕ). c.copy_from_slice.new.self ++ drop (length c.args.bytes.now) l) c.requires.zeros
    ∙ ap (λ (l : List ℕ). c.copy_from_slice.new.self ++ l) (drop-replicate (length c.args.bytes.now) (length c.args.zeros.now) 0)
    ∙ ap (λ (l : List ℕ). l ++ replicate (length c.args.zeros.now - length c.args.bytes.now) 0) c.copy_from_slice.ensures.after
