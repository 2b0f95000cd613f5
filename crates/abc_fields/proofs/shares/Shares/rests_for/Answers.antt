use Rattle.std.proofs.Common.{◌≡◌, ◌∙◌, ◌++◌, subst, sym, ap, arith, List}
use Rattle.std.proofs.lemmas.List.{append-nil, at_drop_all}
use Rattle.abc_fields.specs.FileHeaders.{carries}
use Rattle.abc_fields.specs.Inside.HeaderRows.{in_table}
use Rattle.abc_fields.specs.Inside.Shares.{RuleLines, AreShares}
use Rattle.abc_fields.proofs.ShareLemmas.{chosen, chosen_shares}
use Rattle.abc_fields.proofs.shares.Shares.rests_for.Goals as goal

pub returns : goal.returns
returns c =
    let test = carries (in_table c.args.letters.now.table) in
    let rows = c.self.inside.header.now in
    let items = c.deref-share-items.result.now in
    let P : List RuleLines → Type 0 = λ shares. AreShares test 0 rows shares in
    let whole : c.loop-share.rests.items ≡ chosen test items =
    sym (append-nil c.loop-share.rests.items)
    ∙ ap (λ ls. c.loop-share.rests.items ++ ls) (sym (at_drop_all (chosen test) items c.loop-share.share-index (omega arith)))
    ∙ c.loop-share.invariant in
    let are = subst P (sym (whole ∙ ap (chosen test) c.deref-share-items.ensures.value)) (chosen_shares test rows c.self.inside.list.items c.self.invariant) in
    rw (← c.self.view_is) are
