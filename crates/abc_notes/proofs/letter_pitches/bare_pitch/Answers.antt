use Rattle.std.proofs.Common.{◌∙◌, ap, arith, FitsSigned, w8}
use Rattle.std.proofs.lemmas.Int.{ints}
use Rattle.std.proofs.Math.Facts.{to_z-of_z}
use Rattle.abc_items.specs.ItemView.{item_span}
use Rattle.abc_keys.specs.Signatures.{accidental_at}
use Rattle.abc_notes.specs.Pitches.{sounded}
use Rattle.abc_notes.proofs.BareNotes.{bare_written}
use Rattle.abc_notes.proofs.letter_pitches.bare_pitch.Goals as goal

pub returns : goal.returns
returns c = λ s base is.
    let small = c.pitch_of_name.type_inv in
    let fits : FitsSigned w8 c.pitch_of_name.result = grind (arith, ints) in
    to_z-of_z fits ∙ c.pitch_of_name.ensures s is
    ∙ ap (λ n. (sounded n (accidental_at s n.letter)).pitch) (bare_written base (item_span c.args.item) c.requires.one c.requires.bare)
