use Rattle.std.proofs.Common.{◌≡◌, IfOk, chars, encode_utf8_all, string_bytes, ap, subst, ◌∙◌}
use Rattle.std.proofs.lemmas.Str.{encodes_same, encodes-chars}
use Rattle.caseless.specs.Caseless.{default_case_fold}
use Rattle.unicode_normalization.specs.Forms.{nfd}
use Rattle.desk_lists.specs.Folding.{without_marks}
use Rattle.desk_lists.proofs.AsciiLemmas.{folded-IsAscii}
use Rattle.desk_lists.proofs.folding.folded.Goals as goal

pub returns-then-is_ascii : goal.returns-then-is_ascii
returns-then-is_ascii c =
    subst (λ bytes. IfOk c.to_ascii_lowercase.result (λ t. string_bytes t ≡ bytes)) (folded-IsAscii c.args.text.now c.if-is_ascii.ensures.cases)
    c.to_ascii_lowercase.ensures.ok

pub returns : goal.returns
returns c =
    let apart : chars c.as_str.result.now ≡ nfd (chars c.args.text.now) =
    encodes_same _ _ (encodes-chars _ c.as_str.utf8 ∙ c.as_str.ensures.value ∙ c.in_ok-apart.ensures) in
    let bare : chars c.as_str-2.result.now ≡ without_marks (nfd (chars c.args.text.now)) =
    encodes_same _ _ (encodes-chars _ c.as_str-2.utf8 ∙ c.as_str-2.ensures.value ∙ c.in_ok-bare.ensures
    ∙ ap (λ letters. encode_utf8_all (without_marks letters)) apart) in
    subst (λ letters. IfOk c.default_case_fold_str.result (λ t. string_bytes t ≡ encode_utf8_all (default_case_fold letters)))
    bare c.default_case_fold_str.ensures
