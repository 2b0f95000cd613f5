use Rattle.std.proofs.Common.{◌≡◌, ◌∙◌, sym, ap, subst, Option, length, ◌<◌, arith}
use Rattle.std.specs.Prelude.{is_some, IfSome}
use Rattle.abc_items.specs.declared.kinds.Kind.{Kind}
use Rattle.abc_items.specs.Inside.ItemRows.{first_item, front}
use Rattle.abc_items.proofs.PlainBytes.{alone_is}
use Rattle.abc_items.proofs.item_rows.plain_kind.Goals as goal

pub returns-in-len1-up-clause-value : goal.returns-in-len1-up-clause-value
returns-in-len1-up-clause-value c =
    let some : 0 < length c.args.bytes.now = omega arith in
    subst (λ (found : Option Kind). IfSome found (λ kind. front kind 1 ≡ first_item c.args.bytes.now)) (sym c.alone.ensures)
    (alone_is c.args.bytes.now some).0

pub returns-in-len1-up-clause-plain : goal.returns-in-len1-up-clause-plain
returns-in-len1-up-clause-plain c =
    let some : 0 < length c.args.bytes.now = omega arith in
    ap (λ (found : Option Kind). is_some found) c.alone.ensures ∙ (alone_is c.args.bytes.now some).1
