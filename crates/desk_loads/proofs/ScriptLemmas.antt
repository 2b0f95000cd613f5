-- What a script comes to that is run without a refusal.
use Rattle.std.proofs.Common.{◌≡◌, ℕ, List, [], ◌∷◌, ◌++◌, codes, decimal, length, take, drop, false, refl, sym, ap, ◌∙◌, subst, arith}
use Rattle.std.proofs.Common.{Option, None, Some, is_some, Result, Ok, Err}
use Rattle.std.specs.Prelude.{IsOk}
use Rattle.std.specs.Io.KnownBytes.{Appends}
use Rattle.std.proofs.lemmas.Bool.{and_from, le-leb}
use Rattle.std.proofs.lemmas.List.{append_assoc, length-append, take_at, drop_at}
use Rattle.std.proofs.lemmas.Slice.Eq.{bytes_eq-Decides}
use Rattle.memchr.specs.Find.{OccursAt, FindsNeedle}
use Rattle.memchr.proofs.lemmas.MatchLemmas.{OccursAt-true}
use Rattle.tune_store.specs.State.{Standing}
use Rattle.tune_store.specs.Step.{step}
use Rattle.tune_store.specs.TuneSteps.{Outcome}
use Rattle.tune_store.specs.Answers.{Answers, stepped, no_memory, failed_before, failed_after, is_closed}
use Rattle.tune_store.specs.Runs.{Answered, Runs}
use Rattle.tune_store.specs.declared.command.Command.{Command}
use Rattle.tune_store.specs.declared.command.Reply.{Reply}
use Rattle.tune_store.specs.declared.command.Refusal.{Refusal}
use Rattle.tune_store.specs.declared.command.Refusal.TheVariants.{BookTooLong, NoTune, BadTune, NotOne, Unknown}
use Rattle.tune_store.specs.declared.command.Refusal.TheVariants.{Stale, Worn, ArchiveFull, NumbersSpent, OutOfMemory}
use Rattle.tune_store.specs.declared.command.Refusal.TheVariants.{Device, Closed, Taken, InSet, NoSuchSet, SetTaken, SetFull, SetsFull, NoSuchPlace, BadName}
use Rattle.tune_store.specs.declared.command.Refusal.TheVariants.{BadNumber, BadQuery}
use Rattle.tune_scripts.specs.Limits.{most_lines}
use Rattle.tune_scripts.specs.Replies.{answer_bytes, refusal_bytes, fault_name}
use Rattle.tune_scripts.specs.ScriptRuns.{TellsScript, UnlessWriterFails, work_by}
use Rattle.tune_scripts.specs.Scripts.{Script, ended, line_bound, device_fault, at_long_line, at_cut_book, after_blank_line, after_bad_line}
use Rattle.tune_scripts.specs.Scripts.{after_long_book, after_no_room, after_answer, reader_fault, writer_fault, writer_fault_after}
use Rattle.tune_scripts.specs.declared.script_runs.RunEnd.{RunEnd}
use Rattle.tune_scripts.specs.declared.script_runs.RunEnd.TheVariants.{Ended}
use Rattle.desk_loads.specs.Inside.ScriptConsoles.{HasNoRefusal}
use Rattle.desk_loads.specs.LoadedScripts.{MeansCommands, LeadTo, after_blank, after_command}
use Rattle.desk_loads.specs.LoadedScripts as loaded

-- WHAT IS WRITTEN OF A REFUSAL
refused_begins : (refusal : Refusal) → (rest : List ℕ) × (refusal_bytes refusal ≡ codes "refused " ++ rest)
refused_begins NoTune = (codes "1 NoTune\n", refl)
refused_begins (BadTune place fault) = (codes "2 BadTune " ++ (decimal place ++ (codes " " ++ (fault_name fault ++ codes "\n"))), refl)
refused_begins (NotOne count) = (codes "3 NotOne " ++ (decimal count ++ codes "\n"), refl)
refused_begins (Unknown number) = (codes "4 Unknown " ++ (decimal number ++ codes "\n"), refl)
refused_begins (Stale revision) = (codes "5 Stale " ++ (decimal revision ++ codes "\n"), refl)
refused_begins Worn = (codes "6 Worn\n", refl)
refused_begins (Taken number) = (codes "7 Taken " ++ (decimal number ++ codes "\n"), refl)
refused_begins (InSet name) = (codes "8 InSet " ++ (name ++ codes "\n"), refl)
refused_begins ArchiveFull = (codes "9 ArchiveFull\n", refl)
refused_begins NumbersSpent = (codes "10 NumbersSpent\n", refl)
refused_begins NoSuchSet = (codes "11 NoSuchSet\n", refl)
refused_begins SetTaken = (codes "12 SetTaken\n", refl)
refused_begins SetFull = (codes "13 SetFull\n", refl)
refused_begins SetsFull = (codes "14 SetsFull\n", refl)
refused_begins NoSuchPlace = (codes "15 NoSuchPlace\n", refl)
refused_begins BadName = (codes "16 BadName\n", refl)
refused_begins BadNumber = (codes "17 BadNumber\n", refl)
refused_begins BadQuery = (codes "18 BadQuery\n", refl)
refused_begins BookTooLong = (codes "19 BookTooLong\n", refl)
refused_begins OutOfMemory = (codes "21 OutOfMemory\n", refl)
refused_begins Device = (codes "22 Device\n", refl)
refused_begins Closed = (codes "23 Closed\n", refl)

-- words that stand in a text occur there
occurs_in : (text word before after : List ℕ) → text ≡ before ++ (word ++ after) → OccursAt text word (length before)
occurs_in text word before after e =
    let rest : drop (length before) text ≡ word ++ after = ap (λ l. drop (length before) l) e ∙ drop_at before (word ++ after) (length before) refl in
    let part : take (length word) (drop (length before) text) ≡ word = ap (λ l. take (length word) l) rest ∙ take_at word after (length word) refl in
    let size : length text ≡ length (before ++ (word ++ after)) = ap (λ (l : List ℕ). length l) e in
    OccursAt-true text word (length before) (and_from _ _
    (le-leb _ _ (omega (arith, size, length-append before (word ++ after), length-append word after)))
    ((bytes_eq-Decides (take (length word) (drop (length before) text)) word).1 part))

-- a search that finds none
pub none_found : (replies : List ℕ) → FindsNeedle replies (codes "refused ") 0 None → HasNoRefusal replies
none_found replies none before after e =
    let occurs = occurs_in replies (codes "refused ") before after e in
    none (length before) (omega arith) (omega (arith, occurs.fits)) occurs

pub none_told : (replies : List ℕ) (found : Option ℕ) → FindsNeedle replies (codes "refused ") 0 found → is_some found ≡ false → HasNoRefusal replies
none_told replies None none is = none_found replies none
none_told replies (Some place) one is = absurd cc

-- A SCRIPT WITHOUT A REFUSAL
abbrev pub commands_of : List Answered → List Command
commands_of [] = []
commands_of (next ∷ run) = next.command ∷ commands_of run

abbrev pub AreAccepted : List Answered → Type 0
AreAccepted [] = Unit {0}
AreAccepted (next ∷ run) = IsOk next.answer × AreAccepted run

none_behind : (front out : List ℕ) → HasNoRefusal (front ++ out) → HasNoRefusal out
none_behind front out none before after e =
    none (front ++ before) after (ap (λ l. front ++ l) e ∙ sym (append_assoc front before (codes "refused " ++ after)))

accepted : (answer : Result Reply Refusal) (out : List ℕ) → HasNoRefusal (answer_bytes answer ++ out) → IsOk answer
accepted (Ok reply) out none = refl
accepted (Err refusal) out none =
    let begins = refused_begins refusal in
    absurd (none [] (begins.0 ++ out) (ap (λ l. l ++ out) begins.1 ∙ append_assoc (codes "refused ") begins.0 out))

script_means : (n : ℕ) (input out unread : List ℕ) (run : List Answered) (end : RunEnd) → Script n input out run end unread → end ≡ Ended → HasNoRefusal out
    → MeansCommands input (commands_of run) × AreAccepted run
script_means _ _ _ _ _ _ (line_bound input) e none = absurd cc
script_means _ _ _ _ _ _ (ended n input r) e none = (loaded.ended input r, tt)
script_means _ _ _ _ _ _ (at_long_line n input r) e none = absurd cc
script_means _ _ _ _ _ _ (at_cut_book n input r) e none = absurd (none [] (codes "30 BadLine\n") refl)
script_means _ _ _ _ _ _ (device_fault n input rest next r shut) e none = absurd cc
script_means _ _ _ _ _ _ (reader_fault n input) e none = absurd cc
script_means _ _ _ _ _ _ (writer_fault n input rest) e none = absurd cc
script_means _ _ _ _ _ _ (writer_fault_after n input rest next r) e none = absurd cc
script_means _ _ _ _ _ _ (after_blank_line n input rest out unread run end r k) e none =
    let h = script_means n rest out unread run end k e none in
    (after_blank input rest (commands_of run) r h.0, h.1)
script_means _ _ _ _ _ _ (after_bad_line n input rest out unread run end r k) e none = absurd (none [] (codes "30 BadLine\n" ++ out) refl)
script_means _ _ _ _ _ _ (after_long_book n input rest out unread run end r k) e none = absurd (none [] (codes "19 BookTooLong\n" ++ out) refl)
script_means _ _ _ _ _ _ (after_no_room n input rest out unread run end command r text k) e none =
    absurd (none [] (codes "21 OutOfMemory\n" ++ out) refl)
script_means _ _ _ _ _ _ (after_answer n input rest out unread next run end r goes k) e none =
    let h = script_means n rest out unread run end k e (none_behind (answer_bytes next.answer) out none) in
    (after_command input rest next.command (commands_of run) r h.0, (accepted next.answer out none, h.1))

-- the same of what a run tells of its script
pub told_means : (script replies : List ℕ) (left : Option (List ℕ)) (run : List Answered) (end : RunEnd)
    → TellsScript most_lines (Some script) left (work_by (Some []) (Some replies) run) end → end ≡ Ended → HasNoRefusal replies
    → MeansCommands script (commands_of run) × AreAccepted run
told_means script replies left run end h e none =
    let written : Appends (Some []) (Some replies) h.out = subst (λ x. UnlessWriterFails x (Appends (Some []) (Some replies) h.out)) e h.written in
    script_means most_lines script h.out h.unread run end h.script e (subst HasNoRefusal written none)

-- WHERE ITS COMMANDS LEAD
pub steps : (old new : Standing) (command : Command) (answer : Result Reply Refusal) → Answers old command answer new → IsOk answer
    → IsOk (step old.state command).1 × (new.state ≡ (step old.state command).0) × (new.closed ≡ false)
steps _ _ _ _ (stepped old new command answer e) ok =
    (subst IsOk (sym (ap (λ (o : Outcome). o.1) e)) ok, sym (ap (λ (o : Outcome). o.0) e), refl)
steps _ _ _ _ (no_memory old command) ok = absurd cc
steps _ _ _ _ (failed_before old command) ok = absurd cc
steps _ _ _ _ (failed_after old command) ok = absurd cc
steps _ _ _ _ (is_closed old command) ok = absurd cc

pub runs_lead : (old new : Standing) (run : List Answered) → Runs old run new → AreAccepted run → old.closed ≡ false
    → LeadTo old.state (commands_of run) new.state × (new.closed ≡ false)
runs_lead old new [] e ok is_open = (ap (λ (s : Standing). s.state) e, ap (λ (s : Standing). s.closed) e ∙ is_open)
runs_lead old new (next ∷ run) h ok is_open =
    let one = steps old h.0 next.command next.answer h.1 ok.0 in
    let more = runs_lead h.0 new run h.2 ok.1 one.2 in
    ((one.0, subst (λ s. LeadTo s (commands_of run) new.state) one.1 more.0), more.1)
