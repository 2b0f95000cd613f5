-- Why words ask for nothing, and what it is that a call gives just what words ask for.
use Rattle.std.specs.Prelude.{◌≡◌, ℕ, Option, Some, None, Result, Ok, Err, MatchOption}
use Rattle.std.specs.Prelude.{string_bytes}
use Rattle.clap.specs.Words.{Text, kind_of}
use Rattle.clap.specs.declared.error.kind.ErrorKind.{ErrorKind}
use Rattle.clap.specs.declared.error.kind.ErrorKind.TheVariants.{DisplayHelp, DisplayVersion}
use Rattle.clap.specs.declared.error.kind.ErrorKind.TheVariants.{OutOfMemory}
use Rattle.desk_words.specs.declared.sought_conditions.SoughtKind.{SoughtKind}
use Rattle.desk_words.specs.declared.asked.OrderFault.{OrderFault}
use Rattle.desk_words.specs.declared.asked.OrderFault.TheVariants as fault

-- why words that parse ask for nothing
pub data WordRefusal : Type 0 where
  missing : WordRefusal
  nothing_asked : WordRefusal
  kind_alone : SoughtKind → WordRefusal
  within_alone : WordRefusal
  key_alone : WordRefusal
  two_forms : WordRefusal
  name_and_tunes : WordRefusal
  no_books : WordRefusal
  new_and_split : WordRefusal
  put_alone : WordRefusal
  list_and_to : WordRefusal
  form_alone : WordRefusal
  no_number : Text → WordRefusal
  no_name : Text → WordRefusal
  empty_file : WordRefusal
  empty_path : WordRefusal

-- the second is asked with the value of the first, where that has one
abbrev pub and_then : {A B : Type 0} → Result A WordRefusal → (A → Result B WordRefusal)
    → Result B WordRefusal
and_then (Ok value) next = next value
and_then (Err refusal) next = Err refusal

-- the refusal that a fault tells; none where the fault is the parser's
abbrev pub refusal_told : OrderFault → Option WordRefusal
refusal_told (fault.Clap error) = None
refusal_told fault.Missing = Some missing
refusal_told fault.NothingAsked = Some nothing_asked
refusal_told (fault.KindAlone kind) = Some (kind_alone kind)
refusal_told fault.WithinAlone = Some within_alone
refusal_told fault.KeyAlone = Some key_alone
refusal_told fault.TwoForms = Some two_forms
refusal_told fault.NameAndTunes = Some name_and_tunes
refusal_told fault.NoBooks = Some no_books
refusal_told fault.NewAndSplit = Some new_and_split
refusal_told fault.PutAlone = Some put_alone
refusal_told fault.ListAndTo = Some list_and_to
refusal_told fault.FormAlone = Some form_alone
refusal_told (fault.NoNumber word) = Some (no_number (string_bytes word))
refusal_told (fault.NoName word) = Some (no_name (string_bytes word))
refusal_told fault.EmptyFile = Some empty_file
refusal_told fault.EmptyPath = Some empty_path

-- out of memory, which the parser reports as its own error
abbrev pub IsFaultOfMemory : OrderFault → Type 0
IsFaultOfMemory (fault.Clap error) = kind_of error ≡ OutOfMemory
IsFaultOfMemory _ = ⊥

-- The fault is the refusal that is wanted, or out of memory.
abbrev pub RefusesWords : {B : Type 0} → Result B WordRefusal → OrderFault → Type 0
RefusesWords wanted fault =
    MatchOption (refusal_told fault) (IsFaultOfMemory fault) (λ refusal. wanted ≡ Err refusal)

-- A call gives the value that is wanted, or refuses as is wanted, or runs out of memory.
abbrev pub GivesWanted : {A B : Type 0} → (A → B) → Result B WordRefusal → Result A OrderFault
    → Type 0
GivesWanted view wanted (Ok value) = wanted ≡ Ok (view value)
GivesWanted view wanted (Err fault) = RefusesWords wanted fault

-- the status that goes with a kind of error
abbrev pub status_of_error_kind : ErrorKind → ℕ
status_of_error_kind DisplayHelp = 0
status_of_error_kind DisplayVersion = 0
status_of_error_kind OutOfMemory = 1
status_of_error_kind _ = 2

abbrev pub status_of_order_fault : OrderFault → ℕ
status_of_order_fault (fault.Clap error) = status_of_error_kind (kind_of error)
status_of_order_fault _ = 2
