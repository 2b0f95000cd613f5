-- How the tunes and set lists of an entry stand, some time after it was written.
use Rattle.std.specs.Prelude.{ℕ, ◌+◌, List, [], ◌∷◌, length, take, drop, Bool, true, false}
use Rattle.std.specs.Prelude.{◌||◌, ◌&&◌, ◌==◌, if◌then◌else◌, Option, None, Some}
use Rattle.std.specs.List.{list_all}
use Rattle.std.specs.Str.{bytes_eq}
use Rattle.sha2.specs.Sha256.{sha256}
use Rattle.tune_store.specs.State.{State, tune_at}
use Rattle.tune_store.specs.declared.tune.Tune.{Tune}
use Rattle.tune_undo.specs.declared.old_entries.After.{After}
use Rattle.tune_undo.specs.declared.old_entries.After.TheVariants.{Nothing, Text, Revision}
use Rattle.tune_undo.specs.declared.old_entries.Part.{Part}
use Rattle.tune_undo.specs.declared.old_entries.Part.TheVariants as part
use Rattle.tune_changes.specs.Bringing.{common_front}
use Rattle.tune_changes.specs.SubjectTurns.{numbers_at}
use Rattle.tune_changes.specs.declared.judging.PartVerdict.{PartVerdict}
use Rattle.tune_changes.specs.declared.judging.PartVerdict.TheVariants as its
use Rattle.tune_changes.specs.declared.judging.Verdict.{Verdict}
use Rattle.tune_changes.specs.declared.judging.Verdict.TheVariants.{Before, Begun, Changed}

-- TUNES
-- whether a tune is what it was
abbrev pub is_as_before : Option (List ℕ) → Option Tune → Bool
is_as_before None None = true
is_as_before None (Some tune) = false
is_as_before (Some text) None = false
is_as_before (Some text) (Some tune) = bytes_eq tune.text text

-- whether a tune is what it was to be: not there, or of a text with this sum, or of this revision
abbrev pub is_after : After → Option Tune → Bool
is_after Nothing None = true
is_after Nothing (Some tune) = false
is_after (Text sum) None = false
is_after (Text sum) (Some tune) = bytes_eq (sha256 tune.text) sum
is_after (Revision revision) None = false
is_after (Revision revision) (Some tune) = tune.revision == revision

-- how a tune stands, by what it was, what it was to be, and what it is
abbrev pub tune_verdict : Option (List ℕ) → After → Option Tune → PartVerdict
tune_verdict was is now =
    if is_as_before was now then its.Before
    else if is_after is now then its.After
    else its.Changed

-- SET LISTS
-- whether two set lists are the same: not there, or of the same numbers
abbrev pub is_same : Option (List ℕ) → Option (List ℕ) → Bool
is_same None None = true
is_same None (Some other) = false
is_same (Some one) None = false
is_same (Some one) (Some other) = bytes_eq one other

-- whether numbers begin with others
abbrev pub numbers_begin_with : List ℕ → List ℕ → Bool
numbers_begin_with front numbers = bytes_eq front (take (length front) numbers)

-- whether numbers stand at neighbouring places of others
abbrev pub is_run_of : List ℕ → List ℕ → Bool
is_run_of run [] = numbers_begin_with run []
is_run_of run (number ∷ numbers) =
    numbers_begin_with run (number ∷ numbers) || is_run_of run numbers

-- the numbers of a set list; none where there is none
abbrev pub numbers_or_none : Option (List ℕ) → List ℕ
numbers_or_none None = []
numbers_or_none (Some numbers) = numbers

-- Whether a stop may have left numbers on the way from some to others, or back: what stands in
-- front
-- of both, and behind it neighbouring ones of the one or of the other.
abbrev pub is_on_the_way : List ℕ → List ℕ → List ℕ → Bool
is_on_the_way was is now =
    let kept = common_front was is in
    numbers_begin_with (take kept was) now
    && (is_run_of (drop kept now) was || is_run_of (drop kept now) is)

abbrev pub is_between : Option (List ℕ) → Option (List ℕ) → Option (List ℕ) → Bool
is_between was is None = false
is_between was is (Some now) = is_on_the_way (numbers_or_none was) (numbers_or_none is) now

-- how a set list stands, by what it was, what it was to be, and what it is
abbrev pub set_verdict : Option (List ℕ) → Option (List ℕ) → Option (List ℕ) → PartVerdict
set_verdict was is now =
    if is_same was now then its.Before
    else if is_same is now then its.After
    else if is_between was is now then its.Between
    else its.Changed

-- ENTRIES
-- how the tune or the set list of a part stands in a state
abbrev pub part_verdict : Part → State → PartVerdict
part_verdict (part.Tune number was is) state =
    tune_verdict was is (tune_at number state.tunes)
part_verdict (part.Set name was is) state = set_verdict was is (numbers_at name state)

abbrev pub says_changed : PartVerdict → Bool
says_changed its.Changed = true
says_changed other = false

abbrev pub says_before : PartVerdict → Bool
says_before its.Before = true
says_before other = false

-- the place of the first part that was changed meanwhile, if one was; places count from this one on
abbrev pub first_changed : List Part → ℕ → State → Option ℕ
first_changed [] place state = None
first_changed (part ∷ parts) place state =
    if says_changed (part_verdict part state) then Some place
    else first_changed parts (place + 1) state

-- whether each part is what it was
abbrev pub all_before : List Part → State → Bool
all_before parts state = list_all (λ part. says_before (part_verdict part state)) parts

-- where no part was changed
abbrev pub verdict_unless : Option ℕ → Bool → Verdict
verdict_unless (Some place) before = Changed place
verdict_unless None before = if before then Before else Begun

-- How the parts of an entry stand: the first that was changed meanwhile; or none was, and all are
-- what they were; or none was, and the change was begun, or done.
abbrev pub verdict_on : List Part → State → Verdict
verdict_on parts state = verdict_unless (first_changed parts 0 state) (all_before parts state)
