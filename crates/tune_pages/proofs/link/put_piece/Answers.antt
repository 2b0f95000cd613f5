use Rattle.std.proofs.Common.{◌∙◌, ◌-◌, ◌++◌, ℕ, List, length, drop, replicate, ap}
use Rattle.std.proofs.lemmas.List.{drop-replicate}
use Rattle.tune_pages.proofs.link.put_piece.Goals as goal

pub returns : goal.returns
returns c =
    ap (λ (l : List ℕ). c.copy_from_slice.new.self ++ drop (length c.args.piece.now) l) c.requires.zeros
    ∙ ap (λ (l : List ℕ). c.copy_from_slice.new.self ++ l) (drop-replicate (length c.args.piece.now) (length c.args.body.now) 0)
    ∙ ap (λ (l : List ℕ). l ++ replicate (length c.args.body.now - length c.args.piece.now) 0) c.copy_from_slice.ensures.after
