-- What one line of a script, with its book, comes to.
use Rattle.std.proofs.Common.{◌≡◌, ℕ, suc, ◌+◌, ◌<◌, ◌≤◌, Bool, true, false, cond, List, [], ◌∷◌, ◌++◌, ◌⊎◌, length, drop, Option, None, Some, refl, ap, sym}
use Rattle.std.proofs.Common.{◌∙◌, subst, inl, inr, arith, Result}
use Rattle.std.specs.Io.KnownBytes.{Appends, Consumes, IsAtEnd}
use Rattle.std.proofs.lemmas.List.{append-nil, take_at, drop_at, length-append}
use Rattle.std.proofs.lemmas.Bool.{le-ltb, lt-ltb}
use Rattle.abc_fields.specs.Limits.{longest_book}
use Rattle.tune_store.specs.Answers.{stays_open}
use Rattle.tune_store.specs.Runs.{Answered}
use Rattle.tune_store.specs.declared.command.Command.{Command}
use Rattle.tune_store.specs.declared.command.Reply.{Reply}
use Rattle.tune_store.specs.declared.command.Refusal.{Refusal}
use Rattle.tune_store.specs.declared.command.Refusal.TheVariants.{BookTooLong, OutOfMemory}
use Rattle.tune_store.specs.declared.tune_store.TuneStore as store
use Rattle.tune_scripts.specs.Consoles.{InputTold, OutputTold}
use Rattle.tune_scripts.specs.declared.script_lines.ScriptLine.{ScriptLine}
use Rattle.tune_scripts.specs.declared.script_lines.ScriptLine.TheVariants.{Blank, Bad, Whole, Book}
use Rattle.tune_scripts.specs.declared.script_lines.BookUse.{BookUse}
use Rattle.tune_scripts.specs.declared.script_lines.BookUse.TheVariants as use_of
use Rattle.tune_scripts.specs.declared.script_runs.RunEnd.{RunEnd}
use Rattle.tune_scripts.specs.declared.script_runs.RunEnd.TheVariants.{Ended, LongLine, ReaderFault, WriterFault, DeviceFault}
use Rattle.tune_scripts.specs.Limits.{longest_line}
use Rattle.tune_scripts.specs.ScriptLines.{meaning_of_line, command_of, holds_text, line_holds_text}
use Rattle.tune_scripts.specs.InputLines.{before_feed, after_feed, has_feed}
use Rattle.tune_scripts.specs.Replies.{answer_bytes, refusal_bytes, bad_line_bytes}
use Rattle.tune_scripts.specs.Carried.{Carried, run_of}
use Rattle.tune_scripts.specs.Prefixes.{AreAcknowledged}
use Rattle.tune_scripts.specs.Scripts.{reading_of, reading_of_book, reading_of_meaning, reading_of_line, line_text, long_line, blank_line, bad_line, cut_book}
use Rattle.tune_scripts.specs.Scripts.{long_book, whole_command, Script, ended, device_fault, at_long_line, at_cut_book, after_blank_line, after_bad_line}
use Rattle.tune_scripts.specs.Scripts.{after_long_book, after_no_room, after_answer, reader_fault, writer_fault, writer_fault_after}
use Rattle.tune_scripts.specs.ScriptRuns.{RunWork, work_by, at_other_end, at_device_fault}
use Rattle.tune_scripts.specs.Inside.Reads.{IsLineRead, TakesLine, LosesLongLine, IsCut}
use Rattle.tune_scripts.specs.Inside.Turns.{output_of, GoesOn, TurnOf, Turns, TurnsBook, TurnsOver, GoesBy, WritesOut, IsCarriedOut, next_of}

pub appends_none : (a : Option (List ℕ)) → Appends a a []
appends_none None = tt
appends_none (Some xs) = sym (append-nil xs)

-- no command was carried out
abbrev pub IsQuiet : RunWork → Type 0
IsQuiet work = work.run ≡ []

-- what ends with no command ends so after work without one
ends_where : {n : ℕ} {input out unread : List ℕ} {end : RunEnd} (work : RunWork) → IsQuiet work
    → Script n input out [] end unread → Script n input out work.run end unread
ends_where {n = n} {input = input} {out = out} {unread = unread} {end = end} work quiet k =
    subst (λ run. Script n input out run end unread) (sym quiet) k

-- ONE TURN
-- One command was carried out, and its answer was written, or the writer failed.
pub record IsOne (work : RunWork) (c : Command) (result : Option RunEnd) : Type 0 where
  pub answer : Result Reply Refusal
  pub run : work.run ≡ record { command = c; answer = answer } ∷ []
  pub written : WritesOut work.was work.now (answer_bytes answer) (next_of answer) result

-- after a command, by whether its answer lets the run go on
turn_goes : (input rest : List ℕ) (left : Option (List ℕ)) (work : RunWork) (c : Command) (result : Option RunEnd)
    (h : IsOne work c result) (b : Bool) → reading_of input ≡ whole_command c rest → left ≡ Some rest
    → stays_open h.answer ≡ b → Appends work.was work.now (answer_bytes h.answer) → result ≡ cond b None (Some DeviceFault)
    → TurnOf input left work result
turn_goes input rest left work c result h true r l o w e = rw e (λ n. record {
  rest = rest;
  out = answer_bytes h.answer;
  leaves = l;
  written = w;
  onward = λ tail unread later end k.
      let next : Answered = record { command = c; answer = h.answer } in
      subst (λ run. Script (suc n) input (answer_bytes h.answer ++ tail) (run ++ later) end unread) (sym h.run)
      (after_answer n input rest tail unread next later end r o k);
})
turn_goes input rest left work c result h false r l o w e = rw e (λ n. record {
  unread = rest;
  out = answer_bytes h.answer;
  leaves = l;
  written = w;
  script =
      let next : Answered = record { command = c; answer = h.answer } in
      subst (λ run. Script (suc n) input (answer_bytes h.answer) run DeviceFault rest) (sym h.run)
      (device_fault n input rest next r o);
})

-- after a command whose answer the writer failed to take
turn_unwritten : (input rest : List ℕ) (left : Option (List ℕ)) (work : RunWork) (c : Command) (result : Option RunEnd)
    (h : IsOne work c result) → reading_of input ≡ whole_command c rest → left ≡ Some rest → result ≡ Some WriterFault
    → TurnOf input left work result
turn_unwritten input rest left work c result h r l fault = rw fault (λ n. record {
  unread = rest;
  out = [];
  leaves = l;
  written = tt;
  script =
      let next : Answered = record { command = c; answer = h.answer } in
      subst (λ run. Script (suc n) input [] run WriterFault rest) (sym h.run)
      (writer_fault_after n input rest next r);
})

-- after a command
pub turn_answered : (input rest : List ℕ) (left : Option (List ℕ)) (work : RunWork) (c : Command) (result : Option RunEnd)
    → reading_of input ≡ whole_command c rest → left ≡ Some rest → IsOne work c result → TurnOf input left work result
turn_answered input rest left work c result r l h = elim h.written [
  | inl fault ↦ turn_unwritten input rest left work c result h r l fault
  | inr w ↦ turn_goes input rest left work c result h (stays_open h.answer) r l refl w.1 w.0
]

-- after a line that does not reach the store, whose reply the writer failed to take
quiet_fault : (input rest : List ℕ) (left : Option (List ℕ)) (work : RunWork) (result : Option RunEnd) → left ≡ Some rest → IsQuiet work
    → result ≡ Some WriterFault → TurnOf input left work result
quiet_fault input rest left work result l quiet fault = rw fault (λ n. record {
  unread = rest;
  out = [];
  leaves = l;
  written = tt;
  script = ends_where work quiet (writer_fault n input rest);
})

-- after a fault of the reader
turn_fault : (input : List ℕ) (left : Option (List ℕ)) (work : RunWork) → IsQuiet work → Appends work.was work.now []
    → TurnOf input left work (Some ReaderFault)
turn_fault input left work quiet w = λ n. record {
  unread = input;
  out = [];
  leaves = tt;
  written = w;
  script = ends_where work quiet (reader_fault n input);
}

-- what a turn adds that leaves the store alone: these bytes, and no command
adds_bytes : (lines more : ℕ) (input rest bytes : List ℕ) (left : Option (List ℕ)) (work : RunWork) → left ≡ Some rest → IsQuiet work
    → Appends work.was work.now bytes
    → ((tail unread : List ℕ) (later : List Answered) (end : RunEnd) → Script more rest tail later end unread
    → Script lines input (bytes ++ tail) later end unread)
    → GoesOn lines more input left work
adds_bytes lines more input rest bytes left work l quiet w f = record {
  rest = rest;
  out = bytes;
  leaves = l;
  written = w;
  onward = λ tail unread later end k. subst (λ run. Script lines input (bytes ++ tail) (run ++ later) end unread) (sym quiet) (f tail unread later end k);
}

-- after a line without a word
pub turn_blank : (input rest : List ℕ) (left : Option (List ℕ)) (work : RunWork) → reading_of input ≡ blank_line rest → left ≡ Some rest
    → IsQuiet work → Appends work.was work.now [] → TurnOf input left work None
turn_blank input rest left work r l quiet w = λ n. adds_bytes (suc n) n input rest [] left work l quiet w
    (λ tail unread later end k. after_blank_line n input rest tail unread later end r k)

-- after a bad line
pub turn_bad : (input rest : List ℕ) (left : Option (List ℕ)) (work : RunWork) (result : Option RunEnd) → reading_of input ≡ bad_line rest
    → left ≡ Some rest → IsQuiet work → WritesOut work.was work.now bad_line_bytes None result → TurnOf input left work result
turn_bad input rest left work result r l quiet (inl fault) = quiet_fault input rest left work result l quiet fault
turn_bad input rest left work result r l quiet (inr h) = rw h.0 (λ n. adds_bytes (suc n) n input rest bad_line_bytes left work l quiet h.1
    (λ tail unread later end k. after_bad_line n input rest tail unread later end r k))

-- after a command for whose text there is no memory
turn_no_room : (input rest : List ℕ) (left : Option (List ℕ)) (work : RunWork) (command : Command) (result : Option RunEnd)
    → reading_of input ≡ whole_command command rest → holds_text command ≡ true → left ≡ Some rest → IsQuiet work
    → WritesOut work.was work.now (refusal_bytes OutOfMemory) None result → TurnOf input left work result
turn_no_room input rest left work command result r holds l quiet (inl fault) = quiet_fault input rest left work result l quiet fault
turn_no_room input rest left work command result r holds l quiet (inr h) =
    rw h.0 (λ n. adds_bytes (suc n) n input rest (refusal_bytes OutOfMemory) left work l quiet h.1
    (λ tail unread later end k. after_no_room n input rest tail unread later end command r holds k))

-- the same by what a line asks for
pub turn_no_text : (m : ScriptLine) (input rest : List ℕ) (left : Option (List ℕ)) (work : RunWork) (result : Option RunEnd) → line_holds_text m ≡ true
    → reading_of input ≡ reading_of_meaning m rest → left ≡ Some rest → IsQuiet work
    → WritesOut work.was work.now (refusal_bytes OutOfMemory) None result → TurnOf input left work result
turn_no_text Blank input rest left work result holds r l quiet w = absurd cc
turn_no_text Bad input rest left work result holds r l quiet w = absurd cc
turn_no_text (Whole command) input rest left work result holds r l quiet w = turn_no_room input rest left work command result r holds l quiet w
turn_no_text (Book book_use len) input rest left work result holds r l quiet w = absurd cc

-- a command over a book holds a text
book_is_text : (book_use : BookUse) (book : List ℕ) → holds_text (command_of book_use book) ≡ true
book_is_text use_of.Import book = refl
book_is_text (use_of.Replace number revision) book = refl

-- after a book that is too long
turn_over : (input rest : List ℕ) (left : Option (List ℕ)) (work : RunWork) (result : Option RunEnd) → reading_of input ≡ long_book rest
    → left ≡ Some rest → IsQuiet work → WritesOut work.was work.now (refusal_bytes BookTooLong) None result → TurnOf input left work result
turn_over input rest left work result r l quiet (inl fault) = quiet_fault input rest left work result l quiet fault
turn_over input rest left work result r l quiet (inr h) =
    rw h.0 (λ n. adds_bytes (suc n) n input rest (refusal_bytes BookTooLong) left work l quiet h.1
    (λ tail unread later end k. after_long_book n input rest tail unread later end r k))

-- after a book that was cut
turn_cut : (input : List ℕ) (left : Option (List ℕ)) (work : RunWork) (result : Option RunEnd) → reading_of input ≡ cut_book → left ≡ Some []
    → IsQuiet work → WritesOut work.was work.now bad_line_bytes (Some Ended) result → TurnOf input left work result
turn_cut input left work result r l quiet (inl fault) = quiet_fault input [] left work result l quiet fault
turn_cut input left work result r l quiet (inr h) = rw h.0 (λ n. record {
  unread = [];
  out = bad_line_bytes;
  leaves = l;
  written = h.1;
  script = ends_where work quiet (at_cut_book n input r);
})

-- after a line that is too long
turn_long : (input : List ℕ) (left : Option (List ℕ)) (work : RunWork) (result : Option RunEnd) → reading_of input ≡ long_line
    → left ≡ Some (drop (longest_line + 1) input) → IsQuiet work → WritesOut work.was work.now bad_line_bytes (Some LongLine) result
    → TurnOf input left work result
turn_long input left work result r l quiet (inl fault) = quiet_fault input (drop (longest_line + 1) input) left work result l quiet fault
turn_long input left work result r l quiet (inr h) = rw h.0 (λ n. record {
  unread = drop (longest_line + 1) input;
  out = bad_line_bytes;
  leaves = l;
  written = h.1;
  script = ends_where work quiet (at_long_line n input r);
})

-- BOOKS
reads_cut : (book_use : BookUse) (len : ℕ) (rest : List ℕ) → length rest < len → reading_of_book book_use len rest ≡ cut_book
reads_cut book_use len rest h = rw (lt-ltb (length rest) len h) refl

reads_over : (book_use : BookUse) (len : ℕ) (got rest : List ℕ) → length got ≡ len → longest_book < len
    → reading_of_book book_use len (got ++ rest) ≡ long_book rest
reads_over book_use len got rest e h =
    let enough : len ≤ length (got ++ rest) = omega (arith, length-append got rest) in
    rw (le-ltb (length (got ++ rest)) len enough, lt-ltb longest_book len h, drop_at got rest len e) refl

reads_whole : (book_use : BookUse) (len : ℕ) (got rest : List ℕ) → length got ≡ len → len ≤ longest_book
    → reading_of_book book_use len (got ++ rest) ≡ whole_command (command_of book_use got) rest
reads_whole book_use len got rest e h =
    let enough : len ≤ length (got ++ rest) = omega (arith, length-append got rest) in
    rw (le-ltb (length (got ++ rest)) len enough, le-ltb longest_book len h, drop_at got rest len e, take_at got rest len e) refl

-- a book that the input's end cuts
pub book_cut : (book_use : BookUse) (len : ℕ) (old new : Option (List ℕ)) (work : RunWork) (result : Option RunEnd) → IsCut old new len → IsQuiet work
    → WritesOut work.was work.now bad_line_bytes (Some Ended) result → TurnsBook book_use len old new work result
book_cut book_use len None new work result c quiet w = tt
book_cut book_use len (Some xs) new work result c quiet w =
    λ input r. turn_cut input new work result (r ∙ reads_cut book_use len xs c.0) c.1 quiet w

-- a book that is too long
pub book_over : (book_use : BookUse) (len : ℕ) (old new : Option (List ℕ)) (work : RunWork) (result : Option RunEnd) (got : List ℕ)
    → length got ≡ len → longest_book < len → Consumes old new got → IsQuiet work
    → WritesOut work.was work.now (refusal_bytes BookTooLong) None result → TurnsBook book_use len old new work result
book_over book_use len None new work result got e h c quiet w = tt
book_over book_use len (Some xs) None work result got e h c quiet w = absurd c
book_over book_use len (Some xs) (Some ys) work result got e h c quiet w = λ input r.
    turn_over input ys (Some ys) work result (r ∙ ap (reading_of_book book_use len) c ∙ reads_over book_use len got ys e h) refl quiet w

-- a book for which there is no memory
pub book_no_room : (book_use : BookUse) (len : ℕ) (old new : Option (List ℕ)) (work : RunWork) (result : Option RunEnd) (got : List ℕ)
    → length got ≡ len → len ≤ longest_book → Consumes old new got → IsQuiet work
    → WritesOut work.was work.now (refusal_bytes OutOfMemory) None result → TurnsBook book_use len old new work result
book_no_room book_use len None new work result got e h c quiet w = tt
book_no_room book_use len (Some xs) None work result got e h c quiet w = absurd c
book_no_room book_use len (Some xs) (Some ys) work result got e h c quiet w = λ input r.
    let reads = r ∙ ap (reading_of_book book_use len) c ∙ reads_whole book_use len got ys e h in
    turn_no_room input ys (Some ys) work (command_of book_use got) result reads (book_is_text book_use got) refl quiet w

-- a book that was read, and the command over it carried out
pub book_whole : (book_use : BookUse) (len : ℕ) (old new : Option (List ℕ)) (work : RunWork) (result : Option RunEnd) (got : List ℕ)
    → length got ≡ len → len ≤ longest_book → Consumes old new got → IsOne work (command_of book_use got) result
    → TurnsBook book_use len old new work result
book_whole book_use len None new work result got e h c w = tt
book_whole book_use len (Some xs) None work result got e h c w = absurd c
book_whole book_use len (Some xs) (Some ys) work result got e h c w = λ input r.
    let reads = r ∙ ap (reading_of_book book_use len) c ∙ reads_whole book_use len got ys e h in
    turn_answered input ys (Some ys) work (command_of book_use got) result reads refl w

-- LINES
reading_by_parts : (input : List ℕ) → 0 < length input
    → reading_of input ≡ reading_of_line (before_feed input) (has_feed input) (after_feed input)
reading_by_parts [] h = absurd (omega arith)
reading_by_parts (b ∷ bs) h = refl

parts_short : (line rest : List ℕ) (fed : Bool) → length line ≤ longest_line
    → reading_of_line line fed rest ≡ reading_of_meaning (meaning_of_line (line_text fed line)) rest
parts_short line rest fed h = rw (le-ltb longest_line (length line) h) refl

reading_line : (input line rest : List ℕ) (fed : Bool) (m : ScriptLine) → IsLineRead input line rest fed → length line ≤ longest_line
    → meaning_of_line (line_text fed line) ≡ m → reading_of input ≡ reading_of_meaning m rest
reading_line input line rest fed m h l e =
    reading_by_parts input h.some
    ∙ ap (λ x. reading_of_line x (has_feed input) (after_feed input)) h.bytes
    ∙ ap (λ x. reading_of_line line x (after_feed input)) h.feed
    ∙ ap (λ x. reading_of_line line fed x) h.after
    ∙ parts_short line rest fed l
    ∙ ap (λ x. reading_of_meaning x rest) e

reading_long : (input : List ℕ) → longest_line < length (before_feed input) → reading_of input ≡ long_line
reading_long [] h = absurd (omega arith)
reading_long (b ∷ bs) h = rw (lt-ltb longest_line (length (before_feed (b ∷ bs))) h) refl

-- a line was read, and what follows is a turn for each rest
pub from_line : (old mid new : Option (List ℕ)) (work : RunWork) (result : Option RunEnd) (line : List ℕ) (fed : Bool) (m : ScriptLine)
    → TakesLine old mid line fed → length line ≤ longest_line → meaning_of_line (line_text fed line) ≡ m
    → ((input rest : List ℕ) → reading_of input ≡ reading_of_meaning m rest → mid ≡ Some rest → TurnOf input new work result)
    → Turns old new work result
from_line None mid new work result line fed m h l e f = tt
from_line (Some xs) mid new work result line fed m h l e f = f xs h.0 (reading_line xs line h.0 fed m h.2 l e) h.1

-- a line that is too long was met
pub from_long : (old new : Option (List ℕ)) (work : RunWork) (result : Option RunEnd) → LosesLongLine old new → IsQuiet work
    → WritesOut work.was work.now bad_line_bytes (Some LongLine) result → Turns old new work result
from_long None new work result h quiet w = tt
from_long (Some xs) new work result h quiet w = turn_long xs new work result (reading_long xs h.0) h.1 quiet w

-- the input was at its end
pub from_end : (old new : Option (List ℕ)) (work : RunWork) → IsAtEnd old → Consumes old new [] → IsQuiet work → Appends work.was work.now []
    → Turns old new work (Some Ended)
from_end None new work h k quiet w = tt
from_end (Some xs) None work h k quiet w = absurd k
from_end (Some xs) (Some ys) work h k quiet w = λ n. record {
  unread = [];
  out = [];
  leaves = ap Some (sym k ∙ h);
  written = w;
  script = ends_where work quiet (ended n xs (ap reading_of h));
}

-- a line that asks for a book was read, and then the book
pub from_book : (book_use : BookUse) (len : ℕ) (rest input : List ℕ) (mid new : Option (List ℕ)) (work : RunWork) (result : Option RunEnd)
    → TurnsBook book_use len mid new work result → mid ≡ Some rest → reading_of input ≡ reading_of_book book_use len rest
    → TurnOf input new work result
from_book book_use len rest input mid new work result h e r =
    let Q : Option (List ℕ) → Type 0 = λ m. TurnsBook book_use len m new work result in subst Q e h input r

-- the reader failed in a line
pub from_fault : (old new : Option (List ℕ)) (work : RunWork) → IsQuiet work → Appends work.was work.now [] → Turns old new work (Some ReaderFault)
from_fault None new work quiet w = tt
from_fault (Some xs) new work quiet w = turn_fault xs new work quiet w

-- the reader failed in a book
pub book_fault : (book_use : BookUse) (len : ℕ) (old new : Option (List ℕ)) (work : RunWork) → IsQuiet work → Appends work.was work.now []
    → TurnsBook book_use len old new work (Some ReaderFault)
book_fault book_use len None new work quiet w = tt
book_fault book_use len (Some xs) new work quiet w = λ input r. turn_fault input new work quiet w

-- TURNS OVER ANY READER
-- after an answer the run goes on, or ends as the answer asks
goes_by : (c : Command) (answer : Result Reply Refusal) (b : Bool) (result : Option RunEnd) → stays_open answer ≡ b
    → (result ≡ Some WriterFault) ⊎ (result ≡ cond b None (Some DeviceFault)) → GoesBy result (record { command = c; answer = answer } ∷ [])
goes_by c answer true result go (inl fault) =
    let all : AreAcknowledged (record { command = c; answer = answer } ∷ []) = (go, tt) in rw fault (at_other_end WriterFault _ tt all)
goes_by c answer true result go (inr on) = rw on (go, tt)
goes_by c answer false result shut (inl fault) = rw fault (at_device_fault WriterFault _ [] _ refl tt shut tt)
goes_by c answer false result shut (inr device) = rw device (at_device_fault DeviceFault _ [] _ refl tt shut tt)

module _ {S : Type 0} (s : store.Ghosts S) where
  -- a turn without a command
  pub over_none : (was now : Option (List ℕ)) (here : S) (result : Option RunEnd) (Tells : RunWork → Type 0) → GoesBy result []
      → (IsQuiet (work_by was now []) → Tells (work_by was now [])) → TurnsOver s (output_of was now) here here result Tells
  over_none was now here result Tells goes tells = record { carried = []; carries_out = refl; goes = goes; tells = tells refl }

  -- a turn with a command
  pub over_one : (was now : Option (List ℕ)) (old new : S) (c : Command) (result : Option RunEnd) (Tells : RunWork → Type 0)
      → IsCarriedOut s (output_of was now) old new c result → ((work : RunWork) → IsOne work c result → Tells work)
      → TurnsOver s (output_of was now) old new result Tells
  over_one was now old new c result Tells h tells =
      let one : Carried S = record { command = c; answer = h.answer; after = new } in
      record {
        carried = one ∷ [];
        carries_out = (h.carried, refl);
        goes = goes_by c h.answer (stays_open h.answer) result refl (elim h.written [ inl fault ↦ inl fault | inr w ↦ inr w.0 ]);
        tells = tells (work_by was now (run_of (one ∷ []))) (record { answer = h.answer; run = refl; written = h.written });
      }

  -- a turn of which more is told
  pub over_told : (was now : Option (List ℕ)) (old new : S) (result : Option RunEnd) (Knows Tells : RunWork → Type 0)
      → TurnsOver s (output_of was now) old new result Knows → ((work : RunWork) → Knows work → Tells work)
      → TurnsOver s (output_of was now) old new result Tells
  over_told was now old new result Knows Tells h tells = record {
    carried = h.carried;
    carries_out = h.carries_out;
    goes = h.goes;
    tells = tells (work_by was now (run_of h.carried)) h.tells;
  }

-- what a line without a command that is answered makes of a run
pub goes_quiet : (was now : Option (List ℕ)) (bytes : List ℕ) (next result : Option RunEnd) → GoesBy next [] → WritesOut was now bytes next result
    → GoesBy result []
goes_quiet was now bytes next result goes (inl fault) = rw fault (at_other_end WriterFault [] tt tt)
goes_quiet was now bytes next result goes (inr w) = rw w.0 goes

-- BEHIND A READ
-- What a turn did at the output before its read, and at the input before its answer.
pub turned : {S : Type 0} (kept : store.Ghosts S) (T : Option (List ℕ) → RunWork → Type 0) (was mid now : OutputTold) (at after : InputTold) (old new : S)
    (result : Option RunEnd) → mid ≡ was → after ≡ at → TurnsOver kept (output_of mid.bytes now.bytes) old new result (T at.left)
    → TurnsOver kept (output_of was.bytes now.bytes) old new result (T after.left)
turned kept T was mid now at after old new result same left h =
    subst (λ (o : OutputTold). TurnsOver kept (output_of o.bytes now.bytes) old new result (T after.left)) same
    (subst (λ (i : InputTold). TurnsOver kept (output_of mid.bytes now.bytes) old new result (T i.left)) (sym left) h)
