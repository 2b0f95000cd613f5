use Rattle.std.proofs.Common.{ap, sym, ◌∙◌, ◌++◌, string_bytes, arith}
use Rattle.std.specs.Char.{encode_utf8}
use Rattle.desk_lists.proofs.TextLemmas.{whole_part, front_part}
use Rattle.desk_lists.proofs.shown_texts.push_part.Goals as goal

pub returns-in_ok-push_str-in-Ok-clause-part : goal.returns-in_ok-push_str-in-Ok-clause-part
returns-in_ok-push_str-in-Ok-clause-part c =
    whole_part _ _ _ c.in-Ok.ensures.cases.1
    (c.in_ok-push_str-in-Ok.ensures.bytes ∙ ap (λ t. string_bytes c.args.text.now ++ t) c.in-Ok.ensures.cases.0)

pub returns-in_ok-push-in-Err-clause-part : goal.returns-in_ok-push-in-Err-clause-part
returns-in_ok-push-in-Err-clause-part c =
    front_part _ _ _ _ _ (c.valid_up_to-good.ensures ∙ c.in-Err.ensures.valid_len)
    (omega (arith, c.in-Err.ensures.cases.1.short, c.valid_up_to-good.ensures)) c.in_ok-push_front-in-Err.ensures
    (c.in_ok-push-in-Err.ensures.bytes ∙ ap (λ ch. string_bytes c.push_front.new.text ++ encode_utf8 ch) c.from.ensures)
