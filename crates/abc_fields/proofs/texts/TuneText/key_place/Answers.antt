use Rattle.std.proofs.Common.{◌∙◌, ap, sym, ⊎_elim}
use Rattle.abc_fields.specs.Tunes.{has_key}
use Rattle.abc_fields.specs.Inside.LinesLeft.{contents_of}
use Rattle.abc_fields.specs.Inside.HeaderEnds.{has_end}
use Rattle.abc_fields.proofs.StoredLaw.{ended, unkeyed}
use Rattle.abc_fields.proofs.texts.TuneText.key_place.Goals as goal

pub unreachable-requires : goal.unreachable-requires
unreachable-requires c =
    let text = c.args.self.now in
    let is = c.of_tune.ensures in
    ⊎_elim
    (λ ends. ended text (sym (ap (λ s. has_end (contents_of s)) is.lines ∙ ap has_end is.contents) ∙ ends) is.tune_text)
    (λ none. unkeyed text (sym (ap (λ s. has_key (contents_of s)) is.lines ∙ ap has_key is.contents) ∙ none) is.tune_text)
    c.in-None-find_key.ensures
