use Rattle.std.proofs.Common.{◌≡◌, ◌+◌, ◌<◌, length, option_map}
use Rattle.tune_incipit.specs.Inside.NextSteps.{all_steps}
use Rattle.tune_incipit.proofs.Growing.{AllCount}
use Rattle.tune_incipit.proofs.incipits.steps_with.Given as goal

abbrev pub invariant-loop-token : goal.invariant-loop-token
invariant-loop-token l =
    (goal.iterator-loop-token).can_next l.token-iterator ×
    (goal.iterator-loop-token).is_finite l.token-iterator ×
    (length l.steps + 1 < l.count) ×
    (all_steps l.count (option_map (λ p. p.semitones) l.last) l.steps l.token-iterator
    ≡ all_steps l.count (option_map (λ p. p.semitones) l.fn.last_so_far) l.fn.so_far l.fn.notes) ×
    AllCount l.token-iterator
