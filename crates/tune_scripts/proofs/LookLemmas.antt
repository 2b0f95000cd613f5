-- Looks and faults, one part of a run after another.
use Rattle.std.proofs.Common.{◌≡◌, ℕ, suc, ◌+◌, List, [], ◌∷◌, ◌++◌, ◌<◌, length, inl, inr, eqb, Bool, true, false, cond}
use Rattle.std.proofs.Common.{Option, None, Some, Result, refl, sym, ap, ◌∙◌, subst, arith}
use Rattle.std.proofs.lemmas.Bool.{true≢false, eqb-true}
use Rattle.std.proofs.lemmas.List.{append_assoc, append-nil}
use Rattle.std.specs.Io.KnownBytes.{Consumes}
use Rattle.std.specs.List.{AllByRecursion, list_all}
use Rattle.abc_fields.specs.Bytes.{line_feed}
use Rattle.tune_store.specs.Answers.{stays_open}
use Rattle.tune_store.specs.declared.command.Reply.{Reply}
use Rattle.tune_store.specs.declared.command.Refusal.{Refusal}
use Rattle.tune_scripts.specs.declared.script_runs.RunEnd.{RunEnd}
use Rattle.tune_scripts.specs.declared.script_runs.RunEnd.TheVariants.{WriterFault, DeviceFault}
use Rattle.tune_scripts.specs.Inside.Turns.{next_of}
use Rattle.tune_scripts.specs.declared.script_lines.BookUse.{BookUse}
use Rattle.tune_scripts.specs.declared.script_lines.ScriptLine.TheVariants.{Book}
use Rattle.tune_scripts.specs.Consoles.{InputTold, OutputTold, Look, LooksOnce, is_inside}
use Rattle.tune_scripts.specs.InputLines.{before_feed, after_feed, has_feed}
use Rattle.tune_scripts.specs.ScriptLines.{meaning_of_line}
use Rattle.tune_scripts.specs.Scripts.{line_text}
use Rattle.tune_scripts.specs.Inside.Reads.{IsLineRead, TakesLine}
use Rattle.tune_scripts.specs.Looks.{LooksMore, LooksBehind, LooksFlushed, IsPartOfTurn, TellsFaults, reader_faults_of, writer_faults_of}
use Rattle.tune_scripts.specs.Streams.{Input, Streams}

-- an input before and after some looks, and with it an output
abbrev pub from : InputTold → InputTold → Input
from was now = record { was = was; now = now }

abbrev pub both_told : InputTold → InputTold → OutputTold → OutputTold → Streams
both_told i j o p = record { input = from i j; output = record { was = o; now = p } }

-- FAULTS
pub faults_none : (i : InputTold) (o : OutputTold) → TellsFaults (both_told i i o o) None
faults_none i o = record { reader = omega arith; writer = omega arith; flushed = λ _ was. was }

-- a part of a run in which none was counted, and then another
pub faults_then : (i j k : InputTold) (o p q : OutputTold) (end : Option RunEnd) → TellsFaults (both_told i j o p) None → TellsFaults (both_told j k p q) end
    → TellsFaults (both_told i k o q) end
faults_then i j k o p q end h t = record {
  reader = omega (arith, h.reader, t.reader);
  writer = omega (arith, h.writer, t.writer);
  flushed = λ none was. t.flushed none (h.flushed refl was);
}

-- a part that read alone
pub faults_read : (i j : InputTold) (o p : OutputTold) (end : Option RunEnd) → j.faults ≡ i.faults + reader_faults_of end → writer_faults_of end ≡ 0
    → p ≡ o → TellsFaults (both_told i j o p) end
faults_read i j o p end reader none same = record {
  reader = reader;
  writer = ap (λ (t : OutputTold). t.faults) same ∙ omega (arith, none);
  flushed = λ _ was. ap (λ (t : OutputTold). t.flushed) same ∙ was;
}

-- an answer that was written
pub faults_answered : (i j : InputTold) (o p : OutputTold) (next : Option RunEnd) → reader_faults_of next ≡ 0 → writer_faults_of next ≡ 0 → j ≡ i
    → p.faults ≡ o.faults → p.flushed ≡ true → TellsFaults (both_told i j o p) next
faults_answered i j o p next none quiet same kept flushed = record {
  reader = ap (λ (t : InputTold). t.faults) same ∙ omega (arith, none);
  writer = kept ∙ omega (arith, quiet);
  flushed = λ _ _. flushed;
}

-- and one that was not
pub faults_unwritten : (i j : InputTold) (o p : OutputTold) → j ≡ i → p.faults ≡ suc o.faults → TellsFaults (both_told i j o p) (Some WriterFault)
faults_unwritten i j o p same more = record {
  reader = ap (λ (t : InputTold). t.faults) same ∙ omega arith;
  writer = more ∙ omega arith;
  flushed = λ none _. cc;
}

-- after an answer a run goes on, or ends by the device
pub next_is_quiet : (answer : Result Reply Refusal) → (reader_faults_of (next_of answer) ≡ 0) × (writer_faults_of (next_of answer) ≡ 0)
next_is_quiet answer = at (stays_open answer)
  where
    at : (b : Bool) → (reader_faults_of (cond b None (Some DeviceFault)) ≡ 0) × (writer_faults_of (cond b None (Some DeviceFault)) ≡ 0)
    at true = (refl, refl)
    at false = (refl, refl)

-- LOOKS
all_map : {A : Type 0} (P Q : A → Type 0) → ((a : A) → P a → Q a) → (xs : List A) → AllByRecursion P xs → AllByRecursion Q xs
all_map P Q f [] h = tt
all_map P Q f (x ∷ xs) h = (f x h.0, all_map P Q f xs h.1)

all_append : {A : Type 0} (P : A → Type 0) (xs ys : List A) → AllByRecursion P xs → AllByRecursion P ys → AllByRecursion P (xs ++ ys)
all_append P [] ys h k = k
all_append P (x ∷ xs) ys h k = (h.0, all_append P xs ys h.1 k)

pub looks_none : (a b : InputTold) (Each : Look → Type 0) → b ≡ a → LooksMore (from a b) Each
looks_none a b Each same = ([], ap (λ (t : InputTold). t.looks) same ∙ sym (append-nil a.looks), tt)

pub looks_then : (a b c : InputTold) (Each : Look → Type 0) → LooksMore (from a b) Each → LooksMore (from b c) Each → LooksMore (from a c) Each
looks_then a b c Each h k = (
  h.0 ++ k.0,
  k.1 ∙ ap (λ l. l ++ k.0) h.1 ∙ append_assoc a.looks h.0 k.0,
  all_append Each h.0 k.0 h.2 k.2,
)

pub looks_map : (a b : InputTold) (P Q : Look → Type 0) → ((look : Look) → P look → Q look) → LooksMore (from a b) P → LooksMore (from a b) Q
looks_map a b P Q f h = (h.0, h.1, all_map P Q f h.0 h.2)

pub looks_same : (a b c : InputTold) (Each : Look → Type 0) → LooksMore (from a b) Each → c ≡ b → LooksMore (from a c) Each
looks_same a b c Each h same = subst (λ t. LooksMore (from a t) Each) (sym same) h

-- one look more
pub looks_once : (a b : InputTold) (output : OutputTold) (Each : Look → Type 0) → LooksOnce a b output
    → Each (record { left = a.left; output = output }) → LooksMore (from a b) Each
looks_once a b output Each once each = (record { left = a.left; output = output } ∷ [], once, (each, tt))

-- RUNS
pub flushed_none : (i : InputTold) (o p : OutputTold) → LooksFlushed (both_told i i o p)
flushed_none i o p = looks_none i i _ refl

-- one turn more, which looked at the output of those before
pub flushed_more : (i j k : InputTold) (o p q : OutputTold) → TellsFaults (both_told i j o p) None
    → LooksBehind (both_told j k p q) IsPartOfTurn → o.flushed ≡ true → LooksFlushed (both_told i j o p) → LooksFlushed (both_told i k o q)
flushed_more i j k o p q faults looks was before =
    looks_then i j k _ before
    (looks_map j k _ _ (λ look it. ap (λ (t : OutputTold). t.flushed) it.0 ∙ faults.flushed refl was) looks)

-- READS
abbrev InLine : List ℕ → Type 0
InLine taken = list_all is_inside taken ≡ true

-- one look more of a read
pub look_more : (i j k : InputTold) (o p q : OutputTold) (taken : List ℕ) (IsPart : List ℕ → Type 0) → LooksBehind (both_told i j o p) IsPart → p ≡ o
    → LooksOnce j k p → Consumes i.left j.left taken → IsPart taken → LooksBehind (both_told i k o q) IsPart
look_more i j k o p q taken IsPart h same once took part = looks_then i j k _ h (looks_once j k p _ once (same, taken, took, part))

-- the looks of a turn that reads no book
pub line_looks : (i j k : InputTold) (o p q : OutputTold) → LooksBehind (both_told i j o p) InLine → k ≡ j → LooksBehind (both_told i k o q) IsPartOfTurn
line_looks i j k o p q h same = looks_same i j k _ (looks_map i j _ _ (λ look it. (it.0, it.1, it.2, inl it.3)) h) same

is_feed : (b : ℕ) → eqb b line_feed ≡ true → b ≡ line_feed
is_feed b e = eqb-true b line_feed e

split_fed : (input : List ℕ) → has_feed input ≡ true → input ≡ before_feed input ++ line_feed ∷ after_feed input
split_fed [] h = absurd (true≢false (sym h))
split_fed (b ∷ input) h = at (eqb b line_feed) refl h (split_fed input)
  where
    at : (t : Bool) → eqb b line_feed ≡ t → cond t true (has_feed input) ≡ true
        → (has_feed input ≡ true → input ≡ before_feed input ++ line_feed ∷ after_feed input)
        → b ∷ input ≡ cond t [] (b ∷ before_feed input) ++ line_feed ∷ cond t input (after_feed input)
    at true e k rest = ap (λ c. c ∷ input) (is_feed b e)
    at false e k rest = ap (λ l. b ∷ l) (rest k)

split_open : (input : List ℕ) → has_feed input ≡ false → (before_feed input ≡ input) × (after_feed input ≡ [])
split_open [] h = (refl, refl)
split_open (b ∷ input) h = at (eqb b line_feed) h (split_open input)
  where
    at : (t : Bool) → cond t true (has_feed input) ≡ false → (has_feed input ≡ false → (before_feed input ≡ input) × (after_feed input ≡ []))
        → (cond t [] (b ∷ before_feed input) ≡ b ∷ input) × (cond t input (after_feed input) ≡ [])
    at true k rest = absurd (true≢false k)
    at false k rest = (ap (λ l. b ∷ l) (rest k).0, (rest k).1)

inside_before : (input : List ℕ) → list_all is_inside (before_feed input) ≡ true
inside_before [] = refl
inside_before (b ∷ input) = at (eqb b line_feed) refl (inside_before input)
  where
    at : (t : Bool) → eqb b line_feed ≡ t → list_all is_inside (before_feed input) ≡ true → list_all is_inside (cond t [] (b ∷ before_feed input)) ≡ true
    at true e rest = refl
    at false e rest = rw e rest

-- bytes that were taken of the book behind a line
abbrev TakenBehind : Option (List ℕ) → Option (List ℕ) → Type 0
TakenBehind old left = (taken : List ℕ) × Consumes old left taken × IsPartOfTurn taken

taken_fed : (input line rest : List ℕ) (left : Option (List ℕ)) (taken : List ℕ) (book_use : BookUse) (len : ℕ) → IsLineRead input line rest true
    → meaning_of_line (line_text true line) ≡ Book book_use len → Consumes (Some rest) left taken → length taken < len → TakenBehind (Some input) left
taken_fed input line rest None taken book_use len is asks took short = absurd took
taken_fed input line rest (Some l) taken book_use len is asks took short =
    let whole : input ≡ line ++ line_feed ∷ rest =
    split_fed input is.feed ∙ ap (λ b. b ++ line_feed ∷ after_feed input) is.bytes ∙ ap (λ a. line ++ line_feed ∷ a) is.after in (
      line ++ line_feed ∷ taken,
      whole ∙ ap (λ r. line ++ line_feed ∷ r) took ∙ sym (append_assoc line (line_feed ∷ taken) l),
      inr (record { line = line; book = taken; book_use = book_use; len = len; is = refl; asks = asks; short = short }),
    )

taken_open : (input line rest : List ℕ) (left : Option (List ℕ)) (taken : List ℕ) → IsLineRead input line rest false → Consumes (Some rest) left taken
    → TakenBehind (Some input) left
taken_open input line rest None taken is took = absurd took
taken_open input line rest (Some l) taken is took =
    let whole = split_open input is.feed in
    let none : [] ≡ taken ++ l = sym whole.1 ∙ is.after ∙ took in
    let last : l ≡ [] = nothing_behind taken l none in
    let same : line ≡ input = sym is.bytes ∙ whole.0 in (
      line,
      sym (ap (λ r. line ++ r) last ∙ append-nil line ∙ same),
      inl (subst InLine is.bytes (inside_before input)),
    )
  where
    nothing_behind : (xs ys : List ℕ) → [] ≡ xs ++ ys → ys ≡ []
    nothing_behind [] ys e = sym e
    nothing_behind (x ∷ xs) ys e = cc

taken_behind : (old mid left : Option (List ℕ)) (line : List ℕ) (fed : Bool) (taken : List ℕ) (book_use : BookUse) (len : ℕ) → TakesLine old mid line fed
    → meaning_of_line (line_text fed line) ≡ Book book_use len → Consumes mid left taken → length taken < len → TakenBehind old left
taken_behind None mid left line fed taken book_use len takes asks took short = ([], tt, inl refl)
taken_behind (Some input) mid left line true taken book_use len takes asks took short =
    taken_fed input line takes.0 left taken book_use len takes.2 asks (subst (λ m. Consumes m left taken) takes.1 took) short
taken_behind (Some input) mid left line false taken book_use len takes asks took short =
    taken_open input line takes.0 left taken takes.2 (subst (λ m. Consumes m left taken) takes.1 took)

-- the looks of a turn that reads a book
pub book_looks : (i j k : InputTold) (o p q : OutputTold) (line : List ℕ) (fed : Bool) (book_use : BookUse) (len : ℕ) → LooksBehind (both_told i j o p) InLine
    → p ≡ o → TakesLine i.left j.left line fed → meaning_of_line (line_text fed line) ≡ Book book_use len
    → LooksBehind (both_told j k p q) (λ taken. length taken < len) → LooksBehind (both_told i k o q) IsPartOfTurn
book_looks i j k o p q line fed book_use len h same takes asks more =
    looks_then i j k _ (looks_map i j _ _ (λ look it. (it.0, it.1, it.2, inl it.3)) h)
    (looks_map j k _ _
    (λ look it. let part = taken_behind i.left j.left look.left line fed it.1 book_use len takes asks it.2 it.3 in (it.0 ∙ same, part.0, part.1, part.2)) more)
