use Rattle.std.proofs.Common.{◌≡◌, ◌∙◌, [], ◌∷◌, ◌++◌, ap, sym, true, false, rules}
use Rattle.abc_fields.specs.Bytes.{line_feed}
use Rattle.abc_fields.specs.Tunes.{is_key_line}
use Rattle.abc_fields.proofs.TuneLemmas.{key_comes, line_comes}
use Rattle.abc_fields.proofs.tune_lines.write_line.Goals as goal
use Rattle.abc_fields.proofs.tune_lines.write_line.Goals.{else-not-has_key-via-then-not-has_key+else-is_key_line, else-not-has_key-via-else-not-has_key}

pub returns-then-is_key_line : goal.returns-then-is_key_line
returns-then-is_key_line c =
    let line = c.args.line.now in
    let old = c.args.out.now.items in
    let is : is_key_line line ≡ true = sym c.is_key_line.ensures ∙ c.if-is_key_line.true in
    let before : c.args.has_key ≡ false = search rules in
    λ carried rest put. rw before (key_comes old c.push_line.new.out.items carried rest line is
    (c.in_ok-push_line.ensures ∙ ap (λ t. t ++ (line ++ line_feed ∷ [])) (c.in_ok-extend_from_slice.ensures.items ∙ ap (λ t. old ++ t) (sym put))))

pub returns : goal.returns
returns c =
    let line = c.args.line.now in
    let not_key : c.args.has_key ≡ false → is_key_line line ≡ false = elim c.else-not-has_key.branch [
      | else-not-has_key-via-then-not-has_key+else-is_key_line w ↦ λ before. sym w.is_key_line.ensures ∙ w.if-is_key_line.false
      | else-not-has_key-via-else-not-has_key w ↦ λ before. search rules
    ] in
    λ carried rest put. line_comes c.args.has_key c.args.out.now.items c.push_line-2.new.out.items carried rest line not_key c.in_ok-push_line-2.ensures
