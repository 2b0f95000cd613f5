use Rattle.std.proofs.Common.{◌≡◌, IfOk, string_bytes, sym, ◌∙◌, subst}
use Rattle.desk_lists.specs.Folding.{folded_bytes}
use Rattle.desk_lists.proofs.TextLemmas.{text_bytes-IsUtf8}
use Rattle.desk_lists.proofs.folded_words.fold_title.Goals as goal

pub returns-in-Ok : goal.returns-in-Ok
returns-in-Ok c =
    let same = c.in-Ok.ensures.cases in
    subst (λ text. IfOk c.folded.result (λ folded. string_bytes folded ≡ folded_bytes text)) (same.0 ∙ sym (text_bytes-IsUtf8 c.args.title.now same.1))
    c.folded.ensures
