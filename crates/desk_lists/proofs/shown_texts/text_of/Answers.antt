use Rattle.std.proofs.Common.{◌≡◌, ◌++◌, [], drop, length, string_bytes, sym, ap, ◌∙◌, arith}
use Rattle.std.proofs.lemmas.List.{append-nil, drop_all}
use Rattle.desk_lists.specs.ShownTexts.{text_bytes}
use Rattle.desk_lists.proofs.TextLemmas.{text_bytes-nil}
use Rattle.desk_lists.proofs.shown_texts.text_of.Goals as goal

pub returns : goal.returns
returns c =
    let none : drop c.loop-at.at c.args.bytes.now ≡ [] = drop_all c.loop-at.at c.args.bytes.now (omega arith) in
    sym (append-nil (string_bytes c.loop-at.text)) ∙ ap (λ t. string_bytes c.loop-at.text ++ t) (sym (ap text_bytes none ∙ text_bytes-nil))
    ∙ c.loop-at.invariant.text
