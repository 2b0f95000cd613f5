-- Words that the program's command line takes, and that name a subcommand on a file, have a FILE.
use Rattle.std.proofs.Common.{◌≡◌, ◌≢◌, ◌∙◌, sym, subst, refl, ℕ, zero, suc, Bool, true, false, cond, ◌&&◌, ◌||◌, ◌==◌, inl, inr, ◌⊎◌, List, [], ◌∷◌, Option}
use Rattle.std.proofs.Common.{Some, None, option_map, option_and_then, is_some, codes, find, fold, length}
use Rattle.std.specs.Prelude.{⊤, IfSome, slice_get, unwrap_or, encode_utf8, drop}
use Rattle.std.specs.Option.{option_map_or}
use Rattle.std.specs.Str.{bytes_eq, chars}
use Rattle.clap.specs.Lexer.{long_of, short_of}
use Rattle.clap.specs.Walk.{Held, Outcome, Row, Rule, Step, Text, Waiting, Walk, after_flag, after_step, answers_to, arg_by_long, arg_by_short, bundle}
use Rattle.clap.specs.Walk.{bundle_met, bundle_step, done, first_of, idle, is_pending, long_met, long_or_other, next, nothing_held, option, plain, positional}
use Rattle.clap.specs.Walk.{positional_held, pushed, reacted, refused, rows_after, settled, short_met, short_or_plain, stop_after, subcommand}
use Rattle.clap.specs.Walk.{subcommand_or_other, to_positional, trailing, value, waits, walk, walk_from, walked, walked_from, with_default, word_met}
use Rattle.clap.specs.Simple.{Shape, argument_words, built, built_leaf, entered, inherited, label_of, marked_built, names_of, rows_at, with_leaf_noted}
use Rattle.clap.specs.Simple.{new_rule}
use Rattle.clap.specs.Kinds.{Kinds, or_else}
use Rattle.clap.specs.Faults.{check_fault, entered_fault, level_fault, walk_fault}
use Rattle.clap.specs.declared.parser.matches.ValueSource.TheVariants.{CommandLine}
use Rattle.clap.specs.declared.builder.value_parser.Reading.TheVariants.{AsWritten}
use Rattle.tune_cli.proofs.CommandLineLemmas.{EachIs, found}
use Rattle.tune_cli.specs.CommandLine.{tunes_app, file_app, faults_in, file_in, subcommand_in}

-- a subcommand on a file, as it is built
abbrev pub leaf : Text → Shape
leaf name = built_leaf (inherited (with_leaf_noted (marked_built tunes_app.top)) (file_app name).top)

abbrev rules : List Rule
rules = (leaf []).rules

-- what is found for FILE
abbrev file_row : List Text → Row
file_row values = record {
  id = codes "FILE";
  values = values;
  count = None;
  source = Some CommandLine;
  reading = AsWritten;
}

-- there is nothing yet, or FILE with a value
data FileRows : List Row → Type 0 where
  no_row : FileRows []
  one_row : (v : Text) (vs : List Text) → FileRows (file_row (v ∷ vs) ∷ [])

data FilePending : Option (Text × List Text) → Type 0 where
  none_pending : FilePending None
  one_pending : (v : Text) (vs : List Text) → FilePending (Some (codes "FILE", v ∷ vs))

abbrev HoldsFile : Held → Type 0
HoldsFile h = FileRows h.rows × FilePending h.pending

settled_rows_hold : (rows : List Row) (pending : Option (Text × List Text)) (skip : ℕ) → FileRows rows → FilePending pending
    → FileRows (settled rules (record { rows = rows; pending = pending; skip = skip })).rows
settled_rows_hold rows None skip are none_pending = are
settled_rows_hold _ _ skip no_row (one_pending v vs) = one_row v vs
settled_rows_hold _ _ skip (one_row w ws) (one_pending v vs) = one_row v vs

settled_holds : (h : Held) → HoldsFile h → HoldsFile (settled rules h)
settled_holds h holds = (settled_rows_hold h.rows h.pending h.skip holds.0 holds.1, none_pending)

abbrev help_rule : Rule
help_rule = unwrap_or (slice_get rules 1) (new_rule [])

-- nothing waits for a value of an option: there is none
abbrev NoOption : Waiting → Type 0
NoOption (option id) = ⊥
NoOption _ = ⊤

abbrev NoOptionAfter : Step → Type 0
NoOptionAfter (next waiting) = NoOption waiting
NoOptionAfter _ = ⊤

abbrev NoOptionOf : Outcome → Type 0
NoOptionOf (waits id) = ⊥
NoOptionOf _ = ⊤

-- a word leaves it so
abbrev Leaves : Held × Step → Type 0
Leaves met = HoldsFile met.0 × NoOptionAfter met.1

abbrev LeavesOutcome : Held × Outcome → Type 0
LeavesOutcome met = HoldsFile met.0 × NoOptionOf met.1

after : (waiting : Waiting) (word : Text) (h : Held) (o : Outcome) → NoOption waiting → HoldsFile h → NoOptionOf o → Leaves (after_flag rules waiting word h o)
after waiting word h done free holds of = (holds, tt)
after waiting word h (waits id) free holds of = elim of [ ]
after idle word h plain free holds of = (holds, tt)
after positional word h plain free holds of = (holds, tt)
after (option id) word h plain free holds of = elim free [ ]
after idle word h refused free holds of = (holds, tt)
after positional word h refused free holds of = (holds, tt)
after (option id) word h refused free holds of = elim free [ ]

long_holds : (name : Text) (v : Option Text) (h : Held) → HoldsFile h → LeavesOutcome (long_met rules (arg_by_long rules name) v h)
long_holds name v h holds = go (bytes_eq (codes "help") name) v
  where
    go : (b : Bool) (v : Option Text) → LeavesOutcome (long_met rules (cond (b || false) (Some help_rule) None) v h)
    go true None = (settled_holds h holds, tt)
    go true (Some x) = (holds, tt)
    go false v = (holds, tt)

short_holds : (x : ℕ) (rest : Text) (h : Held) (then : Held → Held × Outcome) → HoldsFile h → ((g : Held) → HoldsFile g → LeavesOutcome (then g))
    → LeavesOutcome (short_met rules (arg_by_short rules x) rest h then)
short_holds x rest h then holds more = go (104 == x)
  where
    go : (b : Bool) → LeavesOutcome (short_met rules (cond (b || false) (Some help_rule) None) rest h then)
    go true = more (reacted rules help_rule [] h) (settled_holds h holds)
    go false = (holds, tt)

bundle_step_holds : (o : Option ℕ) (flags : Text) (skip : ℕ) (so_far : Outcome) (h : Held) (then : Text → ℕ → Outcome → Held → Held × Outcome)
    → HoldsFile h → NoOptionOf so_far
    → ((rest : Text) (k : ℕ) (o : Outcome) (g : Held) → HoldsFile g → NoOptionOf o → LeavesOutcome (then rest k o g))
    → LeavesOutcome (bundle_step rules o flags skip so_far h then)
bundle_step_holds None flags skip so_far h then holds of more = (holds, of)
bundle_step_holds (Some x) flags zero so_far h then holds of more =
    let rest = drop (length (encode_utf8 x)) flags in
    short_holds x rest h (then rest 0 done) holds (λ g fine. more rest 0 done g fine tt)
bundle_step_holds (Some x) flags (suc skip) so_far h then holds of more = more (drop (length (encode_utf8 x)) flags) skip so_far h holds of

bundle_holds : (k : ℕ) (flags : Text) (skip : ℕ) (so_far : Outcome) (h : Held) → HoldsFile h → NoOptionOf so_far
    → LeavesOutcome (bundle_met rules k flags skip so_far h)
unfolding bundle_met
bundle_holds zero flags skip so_far h holds of = (holds, of)
bundle_holds (suc k) flags skip so_far h holds of =
    bundle_step_holds (slice_get (chars flags) 0) flags skip so_far h (bundle_met rules k) holds of (λ rest n o g fine. bundle_holds k rest n o g fine)

short_or_plain_holds : (waiting : Waiting) (word : Text) (flags : Option Text) (h : Held) → NoOption waiting → HoldsFile h
    → Leaves (short_or_plain rules waiting word flags h)
short_or_plain_holds waiting word (Some flags) h free holds =
    let met = bundle_holds (length flags) flags h.skip plain (record h { skip = 0 }) holds tt in
    after waiting word (bundle rules flags h).0 (bundle rules flags h).1 free met.0 met.1
short_or_plain_holds idle word None h free holds = (holds, tt)
short_or_plain_holds positional word None h free holds = (holds, tt)
short_or_plain_holds (option id) word None h free holds = elim free [ ]

long_or_other_holds : (waiting : Waiting) (word : Text) (long : Option (Text × Option Text)) (h : Held) → NoOption waiting → HoldsFile h
    → Leaves (long_or_other rules waiting word long h)
long_or_other_holds waiting word (Some p) h free holds =
    let met = long_holds p.0 p.1 h holds in
    after waiting word (long_met rules (arg_by_long rules p.0) p.1 h).0 (long_met rules (arg_by_long rules p.0) p.1 h).1 free met.0 met.1
long_or_other_holds waiting word None h free holds = short_or_plain_holds waiting word (short_of word) h free holds

other_holds : (waiting : Waiting) (position : ℕ) (word : Text) (h : Held) → NoOption waiting → HoldsFile h
    → Leaves (subcommand_or_other rules None waiting position word h)
other_holds waiting position word h free holds = go (bytes_eq word (45 ∷ 45 ∷ []))
  where
    go : (b : Bool) → Leaves (cond b (h, trailing position) (long_or_other rules waiting word (long_of word) h))
    go true = (holds, tt)
    go false = long_or_other_holds waiting word (long_of word) h free holds

word_holds : (is_trailing : Bool) (waiting : Waiting) (position : ℕ) (word : Text) (h : Held) → NoOption waiting → HoldsFile h
    → Leaves (word_met rules [] is_trailing waiting position word h)
word_holds true waiting position word h free holds = (holds, tt)
word_holds false idle position word h free holds = other_holds idle position word h free holds
word_holds false positional position word h free holds = other_holds positional position word h free holds
word_holds false (option id) position word h free holds = elim free [ ]

-- a walk over words goes on so
abbrev GoesOn : Walk → Type 0
GoesOn w = HoldsFile w.held × NoOption w.waiting

abbrev file_rule : Rule
file_rule = unwrap_or (slice_get rules 0) (new_rule [])

positional_holds : (word : Text) (h : Held) → HoldsFile h → HoldsFile (positional_held rules file_rule word h)
positional_holds word h holds = go (is_pending file_rule h.pending)
  where
    go : (b : Bool) → HoldsFile (pushed (codes "FILE") word (cond (b && false) h (settled rules h)))
    go true = ((settled_holds h holds).0, one_pending word [])
    go false = ((settled_holds h holds).0, one_pending word [])

step_goes_on : (word : Text) (w : Walk) (h : Held) (step : Step) → HoldsFile h → NoOption w.waiting → NoOptionAfter step
    → GoesOn (after_step rules word w h step)
step_goes_on word w h (next waiting) holds free of = (holds, of)
step_goes_on word w h (trailing position) holds free of = (holds, free)
step_goes_on word w h (subcommand name) holds free of = (holds, free)
step_goes_on word w h value holds free of = go (1 == w.position)
  where
    go : (b : Bool) → GoesOn (to_positional rules (cond b (Some file_rule) None) word w h)
    go true = (positional_holds word h holds, tt)
    go false = (holds, free)

walked_goes_on : (w : Walk) (word : Text) → GoesOn w → GoesOn (walked rules [] w word)
unfolding walked
walked_goes_on w word goes = at w.stopped
  where
    at : (stop : Option (Text × List Text)) → GoesOn (walked_from rules [] stop w word)
    at (Some p) = goes
    at None =
        let met = word_holds w.is_trailing w.waiting w.position word w.held goes.1 goes.0 in
        step_goes_on word w (word_met rules [] w.is_trailing w.waiting w.position word w.held).0
        (word_met rules [] w.is_trailing w.waiting w.position word w.held).1 met.0 goes.1 met.1

walks_on : (words : List Text) (w : Walk) → GoesOn w → GoesOn (fold (walked rules []) w words)
walks_on [] w goes = goes
walks_on (word ∷ words) w goes = walks_on words (walked rules [] w word) (walked_goes_on w word goes)

-- what is found at the end of the words: FILE, where the last check lets it through
at_end : (name : Text) (rows : List Row) → FileRows rows → check_fault (leaf name) (fold with_default rows rules) false ≡ []
    → is_some (first_of (codes "FILE") (fold with_default rows rules)) ≡ true
at_end name _ no_row none = cc
at_end name _ (one_row v vs) none = refl

none_else : (first second : Kinds) → or_else first second ≡ [] → (first ≡ []) × (second ≡ [])
none_else [] second none = (refl, none)
none_else (k ∷ ks) second none = cc

-- a level of a subcommand on a file
has_file : (name : Text) (words : List Text) → level_fault (leaf name) [] nothing_held words false [] ≡ []
    → is_some (first_of (codes "FILE") (rows_after rules [] words)) ≡ true
has_file name words none =
    let walks = walks_on words (walk_from nothing_held) ((no_row, none_pending), tt) in
    let end = (walk rules [] nothing_held words).held in
    let a = none_else (walk_fault (leaf name) [] (walk_from nothing_held) words) _ none in
    let b = none_else _ _ a.1 in
    let d = none_else _ _ b.1 in
    at_end name (settled rules end).rows (settled_holds end walks.0).0 d.1

-- the subcommand `list`, or one on a file
abbrev IsKnown : Shape → Type 0
IsKnown s = (s.name ≡ codes "list") ⊎ ((name : Text) × (s ≡ leaf name))

known : EachIs IsKnown (built tunes_app).subs
known = (inl refl, (inr (_, refl), (inr (_, refl), (inr (_, refl), (inr (_, refl), tt)))))

abbrev file_at : Option (Text × List Row) → Option Text
file_at = option_and_then (λ p. first_of (codes "FILE") p.1)

at_shape : (s : Shape) (words : List Text) → IsKnown s → s.name ≢ codes "list" → level_fault s [] nothing_held words false [] ≡ []
    → is_some (first_of (codes "FILE") (rows_after s.rules [] words)) ≡ true
at_shape s words (inl is_list) other none = absurd (other is_list)
at_shape s words (inr on_file) other none =
    let Has : Shape → Type 0 = λ x. level_fault x [] nothing_held words false [] ≡ []
    → is_some (first_of (codes "FILE") (rows_after x.rules [] words)) ≡ true in
    subst Has (sym on_file.1) (has_file on_file.0 words) none

at_found : (o : Option Shape) (words : List Text) (name : Text) → IfSome o IsKnown
    → option_map_or (λ s. level_fault s [] nothing_held words false []) o [] ≡ []
    → option_map (λ p. p.0) (option_map (λ s. rows_at s words) o) ≡ Some name → name ≢ codes "list"
    → is_some (file_at (option_map (λ s. rows_at s words) o)) ≡ true
at_found None words name is none has other = cc
at_found (Some s) words name is none has other =
    let same : s.name ≡ name = cc in
    at_shape s words is (λ list. other (sym same ∙ list)) none

at_stop : (stop : Option (Text × List Text)) (name : Text) → entered_fault (built tunes_app) stop ≡ []
    → option_map (λ p. p.0) (entered (built tunes_app) stop) ≡ Some name → name ≢ codes "list"
    → is_some (file_at (entered (built tunes_app) stop)) ≡ true
at_stop None name none has other = cc
at_stop (Some p) name none has other =
    let test : Shape → Bool = λ s. answers_to p.0 (label_of s) in
    at_found (find test (built tunes_app).subs) p.1 name (found IsKnown test (built tunes_app).subs known) none has other

-- words that parse and name a subcommand on a file have a FILE
pub has_a_file : (words : List Text) (name : Text) → faults_in words ≡ [] → subcommand_in words ≡ Some name → name ≢ codes "list"
    → is_some (file_in words) ≡ true
has_a_file words name none has other =
    let top = (built tunes_app).top in
    let given = argument_words tunes_app words in
    let stop = stop_after top.rules (names_of (built tunes_app)) given in
    let a = none_else (walk_fault top (names_of (built tunes_app)) (walk_from nothing_held) given) _ none in
    let b = none_else (entered_fault (built tunes_app) stop) _ a.1 in
    at_stop stop name b.0 has other
