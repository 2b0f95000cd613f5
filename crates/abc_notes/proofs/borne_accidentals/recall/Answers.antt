use Rattle.std.proofs.Common.{◌≡◌, ◌∷◌, ◌+◌, ◌-◌, suc, [], arith, sym, ap, ◌∙◌}
use Rattle.abc_notes.specs.Inside.EventView.{event_of}
use Rattle.abc_notes.specs.Pitches.{borne}
use Rattle.abc_notes.proofs.PastLemmas.{borne_nothing}
use Rattle.abc_notes.proofs.BarLemmas.{events_read_on, read_from_start, read_one, read_to_end, read_enough}
use Rattle.abc_notes.proofs.borne_accidentals.recall.Goals as goal

pub loop-turn-init : goal.loop-turn-init
loop-turn-init c =
    let k : c.args.since - 0 ≡ c.args.since = omega arith in (
      [],
      sym (borne_nothing c.args.note.letter c.args.note.octave),
      ap (λ n. events_read_on n c.args.bar_events []) k ∙ read_from_start c.args.since c.args.bar_events,
    )

pub returns-in_default : goal.returns-in_default
returns-in_default c =
    let inv = c.loop-turn.invariant in
    inv.1 ∙ ap (λ p. borne p c.args.note.letter c.args.note.octave)
    (sym (read_to_end (c.args.since - c.loop-turn.turn) c.loop-turn.events inv.0 c.in_default.ensures.steps.0) ∙ inv.2)

pub loop-turn-preserved : goal.loop-turn-preserved
loop-turn-preserved c =
    let inv = c.loop-turn.invariant in
    let k : c.args.since - c.loop-turn.turn ≡ suc (c.args.since - (c.loop-turn.turn + 1)) = omega arith in (
      event_of c.in-Some.event ∷ inv.0,
      c.recalled-found.ensures inv.0 inv.1,
      sym (read_one (c.args.since - c.loop-turn.turn) (c.args.since - (c.loop-turn.turn + 1)) c.loop-turn.events _ inv.0 (event_of c.in-Some.event) k
          c.in-Some.ensures.steps) ∙ inv.2,
    )

pub returns : goal.returns
returns c =
    let inv = c.loop-turn.invariant in
    let k : c.args.since - c.loop-turn.turn ≡ 0 = omega arith in
    inv.1 ∙ ap (λ p. borne p c.args.note.letter c.args.note.octave)
    (sym (read_enough (c.args.since - c.loop-turn.turn) c.loop-turn.events inv.0 k) ∙ inv.2)
