use Rattle.std.proofs.Common.{◌∙◌, ◌∷◌, ◌++◌, [], true, subst, sym, ap, List}
use Rattle.abc_fields.specs.Inside.Shares.{RuleLines, AreShares}
use Rattle.abc_fields.proofs.ShareLemmas.{add_empty}
use Rattle.abc_fields.proofs.shares.share_of.Goals as goal

pub returns-clause-shares : goal.returns-clause-shares
returns-clause-shares c = λ rows are.
    let P : List RuleLines → Type 0 = λ shares. AreShares (λ _. true) 0 rows shares in
    let items = c.args.shares.now.items in
    let pushed = c.in_ok-push.ensures.items ∙ ap (λ (lines : RuleLines). items ++ lines ∷ []) c.new.ensures in
    subst P (sym pushed) (add_empty rows items c.args.rule (rw c.deref.ensures.value at c.in_default.ensures) are)
