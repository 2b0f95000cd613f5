use Rattle.std.proofs.Common.{◌∙◌, ◌∷◌, ◌++◌, [], true, subst, sym, ap, set}
use Rattle.abc_fields.specs.Inside.HeaderRows.{HeaderRow}
use Rattle.abc_fields.specs.Inside.Shares.{RuleLines, AreShares, with_line}
use Rattle.abc_fields.proofs.ShareLemmas.{add_row}
use Rattle.abc_fields.proofs.shares.add_to_share.Goals as goal

pub returns : goal.returns
returns c = λ rows here are.
    let row : HeaderRow = record { rule = c.args.line.rule; text = c.args.line.text.now } in
    let shares = c.share_of.new.shares.items in
    let index = c.in_ok-index.index in
    let none = c.index_mut.result.now in
    let found = c.in_ok-index.ensures.found in
    let P : RuleLines → Type 0 = λ lines. AreShares (λ _. true) 0 (rows ++ row ∷ []) (set shares index lines) in
    let line = c.in_ok-push.ensures ∙ ap (λ lines. with_line lines c.args.place row.text) c.index_mut.ensures.value in
    subst P (sym line) (add_row rows row shares index c.args.place none found.0 (found.1 none) here (c.in_ok-index.ensures.shares rows are))
