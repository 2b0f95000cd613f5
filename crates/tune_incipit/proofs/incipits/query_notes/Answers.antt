use Rattle.std.proofs.Common.{ap, ◌∙◌, []}
use Rattle.abc_keys.specs.Keys.{signature_of}
use Rattle.abc_notes.specs.Music.{music_events}
use Rattle.abc_notes.specs.Pitches.{sounded_notes}
use Rattle.tune_incipit.proofs.IncipitLaws.{signature_of-c}
use Rattle.tune_incipit.proofs.incipits.query_notes.Goals as goal

pub returns : goal.returns
returns c =
    c.of_line.ensures.notes
    ∙ ap (λ s. sounded_notes s [] (music_events 0 c.args.query.now)) (ap signature_of c.key_of.ensures.key ∙ signature_of-c)
