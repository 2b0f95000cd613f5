-- A script's turns, one after another, over a writer and a store of any kind.
use Rattle.std.proofs.Common.{◌≡◌, ℕ, suc, ◌+◌, true, false, List, [], ◌++◌, Option, None, Some, refl, sym, ap, ◌∙◌, subst, arith}
use Rattle.std.specs.Prelude.{IfSome}
use Rattle.std.specs.Io.KnownBytes.{Appends, Consumes}
use Rattle.std.proofs.lemmas.List.{append_assoc, append-nil}
use Rattle.tune_store.specs.Runs.{Answered}
use Rattle.tune_store.specs.Stores.{standing_of}
use Rattle.tune_store.specs.declared.tune_store.TuneStore as store
use Rattle.tune_scripts.specs.declared.script_runs.RunEnd.{RunEnd}
use Rattle.tune_scripts.specs.declared.script_runs.RunEnd.TheVariants.{Ended, LineBound, LongLine, ReaderFault, WriterFault, DeviceFault}
use Rattle.tune_scripts.specs.declared.script_runs.RunEnd.TheVariants as run
use Rattle.tune_scripts.specs.Consoles.{InputTold, OutputTold, Look}
use Rattle.tune_scripts.specs.Looks.{IsPrompt, IsPartOfTurn, LooksMore, LooksBehind, LooksPromptly, TellsFaults}
use Rattle.tune_scripts.specs.Carried.{Carried, CarriesAllOut, LeftByRun, run_of}
use Rattle.tune_scripts.specs.Prefixes.{AreAcknowledged}
use Rattle.tune_scripts.specs.Scripts.{Script, line_bound}
use Rattle.tune_scripts.specs.ScriptRuns.{RunWork, work_by, UnlessWriterFails, WritesScript, TellsScript, EndsAfter, at_other_end}
use Rattle.tune_scripts.specs.Inside.Turns.{output_of, GoesOn, Turns, TurnsOver}
use Rattle.tune_scripts.proofs.AppendLemmas.{appends_more}
use Rattle.tune_scripts.proofs.LookLemmas.{from, both_told, looks_none, looks_then, looks_map}
use Rattle.tune_scripts.proofs.TurnLemmas.{appends_none}
use Rattle.tune_scripts.proofs.CarriedLemmas.{acknowledged_more, ends_more, run_more, carries_more, runs_carried}

-- ENDS
-- what holds of the output follows where the writer did not fail
unless_writer_by : (end : RunEnd) (P Q : Type 0) → (P → Q) → UnlessWriterFails end P → UnlessWriterFails end Q
unless_writer_by Ended P Q f h = f h
unless_writer_by LineBound P Q f h = f h
unless_writer_by LongLine P Q f h = f h
unless_writer_by DeviceFault P Q f h = f h
unless_writer_by ReaderFault P Q f h = f h
unless_writer_by WriterFault P Q f h = tt
unless_writer_by run.OutOfMemory P Q f h = f h

-- the work of a part of a run and of the rest
abbrev both : RunWork → RunWork → RunWork
both a b = work_by a.was b.now (a.run ++ b.run)

-- two parts of a run, of which the second begins at the output of the first, are one
joins : (lines mid more : ℕ) (input : List ℕ) (between new : Option (List ℕ)) (a b : RunWork) → a.now ≡ b.was → (h : GoesOn lines mid input between a)
    → GoesOn mid more h.rest new b → GoesOn lines more input new (both a b)
joins lines mid more input between new a b follows h k = record {
  rest = k.rest;
  out = h.out ++ k.out;
  leaves = k.leaves;
  written = appends_more a.was b.was b.now h.out k.out (subst (λ now. Appends a.was now h.out) follows h.written) k.written;
  onward = λ tail unread later end s.
      let whole = h.onward (k.out ++ tail) unread (b.run ++ later) end (k.onward tail unread later end s) in
      rw (append_assoc h.out k.out tail, append_assoc a.run b.run later) whole;
}

-- a part of a run and the run of the rest are one run
joins_end : (lines mid : ℕ) (input : List ℕ) (between new : Option (List ℕ)) (end : RunEnd) (a b : RunWork) → a.now ≡ b.was
    → (h : GoesOn lines mid input between a) → WritesScript mid h.rest new b end → WritesScript lines input new (both a b) end
joins_end lines mid input between new end a b follows h k = record {
  unread = k.unread;
  out = h.out ++ k.out;
  leaves = k.leaves;
  written =
      let first = subst (λ now. Appends a.was now h.out) follows h.written in
      unless_writer_by end _ _ (appends_more a.was b.was b.now h.out k.out first) k.written;
  script = h.onward k.out k.unread b.run end k.script;
}

-- no lines are left: the run ends here, and what the turns so far left is unread
ends_at_bound : (lines : ℕ) (input : List ℕ) (new : Option (List ℕ)) (a : RunWork) → GoesOn lines 0 input new a → WritesScript lines input new a LineBound
ends_at_bound lines input new a h = record {
  unread = h.rest;
  out = h.out;
  leaves = h.leaves;
  written = h.written;
  script =
      subst (λ r. Script lines input h.out r LineBound h.rest) (append-nil a.run)
      (subst (λ out. Script lines input out (a.run ++ []) LineBound h.rest) (append-nil h.out) (h.onward [] h.rest [] LineBound (line_bound h.rest)));
}

-- OF A READER THAT TELLS ITS BYTES
-- a part of a run, and one turn more, at which the run does not end
came_more : (lines more : ℕ) (old_input between_input new_input was between now : Option (List ℕ)) (a b : List Answered)
    → IfSome old_input (λ input. GoesOn lines (suc more) input between_input (work_by was between a))
    → Turns between_input new_input (work_by between now b) None
    → IfSome old_input (λ input. GoesOn lines more input new_input (work_by was now (a ++ b)))
came_more lines more None between_input new_input was between now a b h k = tt
came_more lines more (Some input) between_input new_input was between now a b h k =
    let F : Option (List ℕ) → Type 0 = λ m. Turns m new_input (work_by between now b) None in
    joins lines (suc more) more input between_input new_input (work_by was between a) (work_by between now b) refl h (subst F h.leaves k more)

-- and one at which it ends
came_end : (lines more : ℕ) (end : RunEnd) (old_input between_input new_input was between now : Option (List ℕ)) (a b : List Answered)
    → IfSome old_input (λ input. GoesOn lines (suc more) input between_input (work_by was between a))
    → Turns between_input new_input (work_by between now b) (Some end) → TellsScript lines old_input new_input (work_by was now (a ++ b)) end
came_end lines more end None between_input new_input was between now a b h k = tt
came_end lines more end (Some input) between_input new_input was between now a b h k =
    let F : Option (List ℕ) → Type 0 = λ m. Turns m new_input (work_by between now b) (Some end) in
    joins_end lines (suc more) input between_input new_input end (work_by was between a) (work_by between now b) refl h (subst F h.leaves k more)

-- no lines are left
came_all : (lines : ℕ) (old_input new_input : Option (List ℕ)) (work : RunWork)
    → IfSome old_input (λ input. GoesOn lines 0 input new_input work) → TellsScript lines old_input new_input work LineBound
came_all lines None new_input work h = tt
came_all lines (Some input) new_input work h = ends_at_bound lines input new_input work h

-- THE LOOP
module _ {S : Type 0} (s : store.Ghosts S) where
  -- What the turns so far came to, with at most so many lines from the start and so many from here.
  pub record IsSoFar (lines more : ℕ) (old_input new_input was now : Option (List ℕ)) (old new : S) : Type 0 where
    pub carried : List (Carried S)
    pub carries_out : CarriesAllOut s old carried new
    pub acknowledged : AreAcknowledged (run_of carried)
    pub came : IfSome old_input (λ input. GoesOn lines more input new_input (work_by was now (run_of carried)))

  -- What a run came to, by the bytes of its input and its output.
  pub record HasRun (lines : ℕ) (old_input new_input was now : Option (List ℕ)) (old new : S) (end : RunEnd) : Type 0 where
    pub carried : List (Carried S)
    pub carries_out : CarriesAllOut s old carried new
    pub ends : EndsAfter end (run_of carried)
    pub script : TellsScript lines old_input new_input (work_by was now (run_of carried)) end
    pub stops : s.sound old → s.closed old ≡ false → LeftByRun s old carried new

  -- before the first turn
  pub so_far_none : (lines : ℕ) (input was : Option (List ℕ)) (here : S) → IsSoFar lines lines input input was was here here
  so_far_none lines None was here = record { carried = []; carries_out = refl; acknowledged = tt; came = tt }
  so_far_none lines (Some input) was here = record {
    carried = [];
    carries_out = refl;
    acknowledged = tt;
    came = record {
      rest = input;
      out = [];
      leaves = refl;
      written = appends_none was;
      onward = λ tail unread later end k. k;
    };
  }

  module _ (lines more : ℕ) (new_input was between now : Option (List ℕ)) (old mid new : S) where
    -- after one turn more, at which the run does not end
    pub so_far_more : (old_input between_input : Option (List ℕ)) → IsSoFar lines (suc more) old_input between_input was between old mid
        → TurnsOver s (output_of between now) mid new None (λ work. Turns between_input new_input work None)
        → IsSoFar lines more old_input new_input was now old new
    so_far_more old_input between_input h k = record {
      carried = h.carried ++ k.carried;
      carries_out = carries_more s h.carried k.carried old mid new h.carries_out k.carries_out;
      acknowledged = subst AreAcknowledged (sym (run_more h.carried k.carried))
          (acknowledged_more (run_of h.carried) (run_of k.carried) h.acknowledged k.goes);
      came = subst (λ run. IfSome old_input (λ input. GoesOn lines more input new_input (work_by was now run))) (sym (run_more h.carried k.carried))
          (came_more lines more old_input between_input new_input was between now (run_of h.carried) (run_of k.carried) h.came k.tells);
    }

    -- after one turn more, at which it ends
    pub so_far_end : (end : RunEnd) (old_input between_input : Option (List ℕ)) → IsSoFar lines (suc more) old_input between_input was between old mid
        → TurnsOver s (output_of between now) mid new (Some end) (λ work. Turns between_input new_input work (Some end))
        → ((carried : List (Carried S)) → CarriesAllOut s old carried new → EndsAfter end (run_of carried)
        → s.sound old → s.closed old ≡ false → LeftByRun s old carried new)
        → HasRun lines old_input new_input was now old new end
    so_far_end end old_input between_input h k left =
        let carries_out = carries_more s h.carried k.carried old mid new h.carries_out k.carries_out in
        let ends = subst (EndsAfter end) (sym (run_more h.carried k.carried)) (ends_more end (run_of h.carried) (run_of k.carried) h.acknowledged k.goes) in
        record {
          carried = h.carried ++ k.carried;
          carries_out = carries_out;
          ends = ends;
          script = subst (λ run. TellsScript lines old_input new_input (work_by was now run) end) (sym (run_more h.carried k.carried))
              (came_end lines more end old_input between_input new_input was between now (run_of h.carried) (run_of k.carried) h.came k.tells);
          stops = left (h.carried ++ k.carried) carries_out ends;
        }

  -- no lines are left
  pub so_far_all : (lines : ℕ) (old_input new_input was now : Option (List ℕ)) (old new : S) → IsSoFar lines 0 old_input new_input was now old new
      → ((carried : List (Carried S)) → CarriesAllOut s old carried new → EndsAfter LineBound (run_of carried)
      → s.sound old → s.closed old ≡ false → LeftByRun s old carried new)
      → HasRun lines old_input new_input was now old new LineBound
  so_far_all lines old_input new_input was now old new h left =
      let ends : EndsAfter LineBound (run_of h.carried) = at_other_end LineBound (run_of h.carried) tt h.acknowledged in
      record {
        carried = h.carried;
        carries_out = h.carries_out;
        ends = ends;
        script = came_all lines old_input new_input (work_by was now (run_of h.carried)) h.came;
        stops = left h.carried h.carries_out ends;
      }

  -- LOOKS
  -- At a look behind some turns, and before the next line is whole, these turns were answered.
  pub prompt_behind : (lines : ℕ) (input : List ℕ) (between was : Option (List ℕ)) (at : OutputTold) (old mid : S) (look : Look)
      → IsSoFar (lines + 0) 0 (Some input) between was at.bytes old mid → at.flushed ≡ true → look.output ≡ at → (taken : List ℕ)
      → Consumes between look.left taken → IsPartOfTurn taken → IsPrompt (standing_of s old) input was look
  prompt_behind lines input between was at old mid look h flushed same taken leaves part =
      let came = ends_at_bound (lines + 0) input between (work_by was at.bytes (run_of h.carried)) h.came in record {
        lines = lines + 0;
        out = came.out;
        run = run_of h.carried;
        after = standing_of s mid;
        rest = came.unread;
        so_far = came.script;
        answers = runs_carried s h.carried old mid h.carries_out;
        answered = subst (λ (o : OutputTold). Appends was o.bytes came.out) (sym same) came.written;
        flushed = ap (λ (o : OutputTold). o.flushed) same ∙ flushed;
        taken = taken;
        leaves = subst (λ left. Consumes left look.left taken) came.leaves leaves;
        part = part;
      }

  pub so_far_start : (n : ℕ) (input was : Option (List ℕ)) (here : S) → IsSoFar (0 + n) n input input was was here here
  so_far_start n input was here =
      let none : n ≡ 0 + n = omega arith in
      subst (λ lines. IsSoFar lines n input input was was here here) none (so_far_none n input was here)

  pub prompt_none : (i : InputTold) (o : OutputTold) (here : S) → LooksPromptly (standing_of s here) (both_told i i o o)
  prompt_none i o here = at i.left
    where
      at : (left : Option (List ℕ)) → IfSome left (λ input. LooksMore (from i i) (IsPrompt (standing_of s here) input o.bytes))
      at None = tt
      at (Some input) = looks_none i i _ refl

  -- one turn more, which looked at its line and its book
  pub prompt_more : (lines : ℕ) (i j k : InputTold) (o p q : OutputTold) (old mid : S) → ((IsSoFar (lines + 0) 0 i.left j.left o.bytes p.bytes old mid))
      → TellsFaults (both_told i j o p) None → LooksBehind (both_told j k p q) IsPartOfTurn → o.flushed ≡ true
      → LooksPromptly (standing_of s old) (both_told i j o p) → LooksPromptly (standing_of s old) (both_told i k o q)
  prompt_more lines i j k o p q old mid so_far faults looks flushed before = at i.left so_far before
    where
      at : (left : Option (List ℕ)) → IsSoFar (lines + 0) 0 left j.left o.bytes p.bytes old mid
          → IfSome left (λ input. LooksMore (from i j) (IsPrompt (standing_of s old) input o.bytes))
          → IfSome left (λ input. LooksMore (from i k) (IsPrompt (standing_of s old) input o.bytes))
      at None h b = tt
      at (Some input) h b =
          looks_then i j k _ b
          (looks_map j k _ _
          (λ look it. prompt_behind lines input j.left o.bytes p old mid look h (faults.flushed refl flushed) it.0 it.1 it.2 it.3) looks)
