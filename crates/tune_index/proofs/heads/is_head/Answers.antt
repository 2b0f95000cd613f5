use Rattle.std.proofs.Common.{◌≡◌, ℕ, List, set, sym, ap, ◌∙◌}
use Rattle.std.proofs.lemmas.List.{set-get_or}
use Rattle.index_keys.specs.Entries.{Entry}
use Rattle.tune_index.proofs.heads.is_head.Goals as goal

pub returns-then-old-head : goal.returns-then-old-head
returns-then-old-head g c = λ yes.
    let heads : List Entry = c.args.heads.now in
    let head : Entry = c.args.head.now in
    let old : Entry = c.index-heads-place.result in
    let same : old ≡ head = ap (λ (x : ℕ). (x, old.1)) (c.is_same.ensures.0 yes) ∙ ap (λ (x : ℕ). (head.0, x)) c.if-old-head.true in
    ap (λ (x : Entry). set heads c.args.place x) (sym same ∙ c.index-heads-place.is) ∙ set-get_or heads c.args.place old
