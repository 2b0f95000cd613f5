-- What the console of a script in memory tells.
use Rattle.std.specs.Prelude.{◌≡◌, ◌≢◌, ℕ, List, [], ◌++◌, codes, length, map, Some}
use Rattle.tune_scripts.specs.Consoles.{InputTold, OutputTold, Look}
use Rattle.desk_loads.specs.declared.script_console.Replies.{Replies}
use Rattle.desk_loads.specs.declared.script_console.ScriptConsole.{ScriptConsole}
use Rattle.desk_loads.specs.declared.script_console.ScriptRest.{ScriptRest}

abbrev pub replies_told : Replies → OutputTold
replies_told replies = record {
  bytes = Some replies.bytes.items;
  faults = length replies.faults.items;
  flushed = replies.is_flushed;
}

abbrev pub script_look_told : (ScriptRest × Replies) → Look
script_look_told look = record { left = Some look.0.bytes.now; output = replies_told look.1 }

abbrev pub script_input_told : ScriptConsole → InputTold
script_input_told console = record {
  left = Some console.rest.bytes.now;
  faults = 0;
  looks = map script_look_told console.looks.items;
}

-- All of a script is left, and there is no reply yet.
pub record HasReadNothing (script : List ℕ) (console : ScriptConsole) : Type 0 where
  pub rest : console.rest.bytes.now ≡ script
  pub none : console.replies.bytes.items ≡ []

-- Nowhere in these bytes is a command said to be refused.
abbrev pub HasNoRefusal : List ℕ → Type 0
HasNoRefusal replies = (before after : List ℕ) → replies ≢ before ++ (codes "refused " ++ after)
