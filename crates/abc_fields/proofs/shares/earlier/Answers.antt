use Rattle.std.proofs.Common.{arith}
use Rattle.abc_fields.proofs.ShareLemmas.{first_skip, first_stays, first_before, first_found}
use Rattle.abc_fields.proofs.shares.earlier.Goals as goal

pub returns-in_default : goal.returns-in_default
returns-in_default c = λ except shares not first starts.
    first_skip c.args.index except shares c.args.found (λ none. rw c.in_default.is at (starts none)) first

pub returns-in_default-found : goal.returns-in_default-found
returns-in_default-found c = λ except shares not first starts.
    first_found c.args.index except shares c.in-Some.place not (λ none. rw c.in-Some.is at (starts none)) (rw c.in_default-found.is at first)

pub returns-then-turn-place : goal.returns-then-turn-place
returns-then-turn-place c = λ except shares not first starts.
    first_stays c.args.index except shares c.in-Some-found.turn c.in-Some.place (λ none. rw c.in-Some.is at (starts none)) c.if-turn-place.true
    (rw c.in-Some-found.is at first)

pub returns-else-turn-place : goal.returns-else-turn-place
returns-else-turn-place c = λ except shares not first starts.
    first_before c.args.index except shares c.in-Some-found.turn c.in-Some.place not (λ none. rw c.in-Some.is at (starts none)) (omega arith)
    (rw c.in-Some-found.is at first)
