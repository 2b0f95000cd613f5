use Rattle.std.proofs.Common.{◌≡◌, ◌+◌, ◌<◌, length, Option, Some, option_map, ap, sym, ◌∙◌, arith, ℤ, List, subst}
use Rattle.abc_notes.specs.Tokens.{token_note}
use Rattle.abc_notes.specs.Pitches.{SoundedNote}
use Rattle.tune_incipit.specs.Inside.NextSteps.{all_steps, notes_so_far}
use Rattle.tune_incipit.proofs.Growing.{notes_so_far-le, length-steps_and, all_steps-more}
use Rattle.tune_incipit.proofs.Growing.{AllCount, counting_count, all_steps-counting}
use Rattle.tune_incipit.proofs.Growing.{all_steps-full, all_steps-none}
use Rattle.tune_incipit.proofs.incipits.steps_with.Goals as goal

pub loop-token-init : goal.loop-token-init
loop-token-init c =
    let last : Option ℤ = option_map (λ p. p.semitones) c.args.last_so_far in
    let left = c.into_iter-token-iterator.ensures.into_iter_gives ∙ c.counting-token-items.ensures in (
      tt,
      tt,
      c.requires.room,
      ap (all_steps c.args.count last c.args.so_far) left ∙ all_steps-counting c.args.count last c.args.so_far c.args.notes,
      subst AllCount (sym left) (counting_count c.args.notes),
    )

pub returns-then-len-count : goal.returns-then-len-count
returns-then-len-count c =
    let last : Option ℤ = option_map (λ p. p.semitones) c.loop-token.last in
    let left : List SoundedNote = c.next.new.self in
    let counts = subst AllCount c.in-Some.ensures.steps c.loop-token.invariant.4 in
    let room : notes_so_far last c.loop-token.steps < c.args.count = omega (arith, notes_so_far-le last c.loop-token.steps, c.loop-token.invariant.2) in
    let enough : length c.add_note.new.steps + 1 ≡ c.args.count = omega arith in
    let more = all_steps-more c.args.count last c.loop-token.steps (token_note c.in-Some.token) left counts.0 room in
    sym (all_steps-full c.args.count c.in-Some.token.pitch c.add_note.new.steps left enough)
    ∙ ap (λ s. all_steps c.args.count (Some c.in-Some.token.pitch) s left) c.add_note.ensures.steps
    ∙ sym more ∙ ap (all_steps c.args.count last c.loop-token.steps) (sym c.in-Some.ensures.steps) ∙ c.loop-token.invariant.3

pub loop-token-preserved : goal.loop-token-preserved
loop-token-preserved c =
    let last : Option ℤ = option_map (λ p. p.semitones) c.loop-token.last in
    let left : List SoundedNote = c.next.new.self in
    let counts = subst AllCount c.in-Some.ensures.steps c.loop-token.invariant.4 in
    let room : notes_so_far last c.loop-token.steps < c.args.count = omega (arith, notes_so_far-le last c.loop-token.steps, c.loop-token.invariant.2) in
    let long : length c.add_note.new.steps ≡ notes_so_far last c.loop-token.steps =
    ap length c.add_note.ensures.steps ∙ length-steps_and last c.loop-token.steps c.in-Some.token.pitch in
    let more = all_steps-more c.args.count last c.loop-token.steps (token_note c.in-Some.token) left counts.0 room in (
      tt,
      tt,
      omega arith,
      (λ i. all_steps c.args.count (c.add_note.ensures.last i) (c.add_note.ensures.steps i) left)
          ∙ sym more ∙ ap (all_steps c.args.count last c.loop-token.steps) (sym c.in-Some.ensures.steps) ∙ c.loop-token.invariant.3,
      counts.1,
    )

pub returns : goal.returns
returns c =
    let last : Option ℤ = option_map (λ p. p.semitones) c.loop-token.last in
    sym (all_steps-none c.args.count last c.loop-token.steps c.loop-token.token-iterator c.in-None.ensures.steps.0) ∙ c.loop-token.invariant.3

pub overflow_add-len : goal.overflow_add-len
overflow_add-len c =
    let last : Option ℤ = option_map (λ p. p.semitones) c.loop-token.last in
    let long : length c.add_note.new.steps ≡ notes_so_far last c.loop-token.steps =
    ap length c.add_note.ensures.steps ∙ length-steps_and last c.loop-token.steps c.in-Some.token.pitch in
    omega (arith, long, notes_so_far-le last c.loop-token.steps, c.loop-token.invariant.2)
