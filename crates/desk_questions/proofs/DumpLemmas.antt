-- The bytes of a dump, command by command.
use Rattle.std.proofs.Common.{◌≡◌, ◌≢◌, ℕ, ◌+◌, ◌<◌, ◌≤◌, List, [], ◌∷◌, ◌++◌, length, map, take, get_or}
use Rattle.std.proofs.Common.{Option, Some, None, Result, Ok, Err, refl, sym, ap, ◌∙◌, subst, arith, append_assoc, append-nil, codes, suc, zero, inl, inr}
use Rattle.std.specs.List.{flat_map}
use Rattle.std.proofs.lemmas.Bool.{eq-eqb, ne_eqb, lt-ltb, le-ltb, cases_Bool}
use Rattle.std.proofs.lemmas.List.{map-append, take_more, take_all}
use Rattle.std.proofs.lemmas.List.Concat.{flat_map-append}
use Rattle.tune_books.specs.WrittenBooks.{written_tune, book_header}
use Rattle.std.specs.Str.{bytes_eq}
use Rattle.std.proofs.lemmas.List.{get_or-map, length-map}
use Rattle.tune_sets.specs.Calls.{places_of, places_found, set_rows_of, set_row_of}
use Rattle.tune_sets.proofs.NameOrder.{same_name}
use Rattle.tune_sets.specs.declared.set_rows.SetRow.{SetRow}
use Rattle.tune_sets.specs.Sets.{set_at}
use Rattle.tune_sets.specs.declared.set_lists.TuneSet.{TuneSet}
use Rattle.tune_sets.specs.declared.faults.SetFault.{SetFault}
use Rattle.tune_sets.specs.declared.faults.SetFault.TheVariants.{NoSuchSet}
use Rattle.tune_store.specs.Labels.{labels_of, numbers_of, LabelsRise}
use Rattle.tune_store.specs.Questions.{exported, rows_at, row_found, set_shown}
use Rattle.tune_store.proofs.PlaceLemmas.{tune_at-number}
use Rattle.tune_store.specs.State.{State, tune_at}
use Rattle.tune_store.specs.declared.catalog.Label.{Label}
use Rattle.tune_store.specs.declared.tune.Tune.{Tune}
use Rattle.tune_store.specs.declared.index_rows.IndexRow.{IndexRow}
use Rattle.tune_store.specs.declared.command.Refusal.{Refusal}
use Rattle.tune_store.specs.declared.command.Command.{Command}
use Rattle.tune_store.specs.declared.command.Command.TheVariants.{Import, Renumber, SetNew, SetAdd, SetShow}
use Rattle.tune_store.specs.declared.command.Reply.{Reply}
use Rattle.tune_store.specs.declared.command.Reply.TheVariants.{SetShown}
use Rattle.tune_store.specs.Step.{step}
use Rattle.tune_store.specs.SetSteps.{refusal_of_sets}
use Rattle.desk_questions.specs.Dumps.{piece_size, book_of, imported, tune_dump_commands, set_dump_commands, sets_commands, command_bytes, script_bytes}
use Rattle.desk_questions.specs.Inside.DumpCalls.{Brings, BringsEach, AreDumped, rows_of_set, places_told}
use Rattle.tune_asking.specs.AskingCalls.{tune_told}
use Rattle.desk_questions.specs.Told.{tunes_at}
use Rattle.desk_questions.proofs.TuneLemmas.{written_more, at_more, at_own, all_in}
use Rattle.desk_questions.proofs.FoundLemmas.{rises_of}

-- A PIECE
-- the import of bytes
pub imported_bytes : (book : List ℕ) → 0 < length book → script_bytes (imported book) ≡ command_bytes (Import book)
imported_bytes [] some = absurd (omega arith)
imported_bytes (byte ∷ book) some = append-nil _

pub imported_none : (book old : List ℕ) → length book ≡ 0 → old ≡ old ++ script_bytes (imported book)
imported_none [] old none = sym (append-nil old)
imported_none (byte ∷ book) old some = absurd (omega arith)

-- a tune more at the end of a piece
pub piece_begins : (bytes : List ℕ) (tunes : List Tune) (tune : Tune) → bytes ≡ book_of tunes → length bytes ≡ 0
    → book_of (tunes ++ tune ∷ []) ≡ codes "%abc-2.1\n" ++ (codes "\n" ++ written_tune tune.number tune.text)
piece_begins bytes [] tune are none = ap (λ rest. codes "%abc-2.1\n" ++ rest) (append-nil _)
piece_begins bytes (first ∷ tunes) tune are none = absurd (let e = ap length are in omega arith)

pub piece_more : (bytes : List ℕ) (tunes : List Tune) (tune : Tune) → bytes ≡ book_of tunes → 0 < length bytes
    → book_of (tunes ++ tune ∷ []) ≡ bytes ++ (codes "\n" ++ written_tune tune.number tune.text)
piece_more bytes [] tune are some = absurd (let e = ap length are in omega arith)
piece_more bytes (first ∷ tunes) tune are some =
    ap (λ rest. book_header ++ rest) (written_more (first ∷ tunes) tune) ∙ ap (λ front. front ++ (codes "\n" ++ written_tune tune.number tune.text)) (sym are)

-- A TUNE MORE
joined_bytes : (old : List ℕ) (some more : List Command) → old ++ script_bytes (some ++ more) ≡ (old ++ script_bytes some) ++ script_bytes more
joined_bytes old some more =
    ap (λ bytes. old ++ bytes) (flat_map-append command_bytes some more) ∙ sym (append_assoc old (script_bytes some) (script_bytes more))

-- it goes in with the piece
pub goes_with : (last : ℕ) (tune : Tune) (piece rest : List Tune) → tune.number ≡ last + 1 → length (book_of piece) ≤ piece_size
    → tune_dump_commands last piece (tune ∷ rest) ≡ tune_dump_commands tune.number (piece ++ tune ∷ []) rest
goes_with last tune piece rest next fits = rw (eq-eqb tune.number (last + 1) next, le-ltb piece_size (length (book_of piece)) fits) refl

-- it begins the next
pub goes_next : (last : ℕ) (tune : Tune) (piece rest : List Tune) → tune.number ≡ last + 1 → piece_size < length (book_of piece)
    → tune_dump_commands last piece (tune ∷ rest) ≡ imported (book_of piece) ++ tune_dump_commands tune.number (tune ∷ []) rest
goes_next last tune piece rest next full = rw (eq-eqb tune.number (last + 1) next, lt-ltb piece_size (length (book_of piece)) full) refl

-- it goes in alone
pub goes_alone : (last : ℕ) (tune : Tune) (piece rest : List Tune) → tune.number ≢ last + 1
    → tune_dump_commands last piece (tune ∷ rest)
    ≡ imported (book_of piece) ++ (Import (exported (tune ∷ [])) ∷ Renumber (last + 1) tune.number ∷ tune_dump_commands tune.number [] rest)
goes_alone last tune piece rest gap = rw (ne_eqb tune.number (last + 1) gap) refl

pub brings_with : (last : ℕ) (tune : Tune) (piece : List Tune) (held old : List ℕ) → tune.number ≡ last + 1 → length (book_of piece) ≤ piece_size
    → held ≡ book_of (piece ++ tune ∷ []) → Brings last tune piece held old old
brings_with last tune piece held old next fits are = record {
  next = piece ++ tune ∷ [];
  holds = are;
  same = λ rest. ap (λ commands. old ++ script_bytes commands) (goes_with last tune piece rest next fits);
}

pub brings_next : (last : ℕ) (tune : Tune) (piece : List Tune) (held old new : List ℕ) → tune.number ≡ last + 1 → piece_size < length (book_of piece)
    → held ≡ book_of (tune ∷ []) → new ≡ old ++ script_bytes (imported (book_of piece)) → Brings last tune piece held old new
brings_next last tune piece held old new next full are e = record {
  next = tune ∷ [];
  holds = are;
  same = λ rest. ap (λ commands. old ++ script_bytes commands) (goes_next last tune piece rest next full)
      ∙ joined_bytes old (imported (book_of piece)) (tune_dump_commands tune.number (tune ∷ []) rest)
      ∙ ap (λ bytes. bytes ++ script_bytes (tune_dump_commands tune.number (tune ∷ []) rest)) (sym e);
}

pub brings_alone : (last next : ℕ) (tune : Tune) (piece : List Tune) (held old one two new : List ℕ) → next ≡ last + 1 → tune.number ≢ next
    → held ≡ [] → one ≡ old ++ script_bytes (imported (book_of piece)) → two ≡ one ++ script_bytes (imported (book_of (tune ∷ [])))
    → new ≡ two ++ command_bytes (Renumber next tune.number) → Brings last tune piece held old new
brings_alone last next tune piece held old one two new is gap none e f h = record {
  next = [];
  holds = none;
  same = λ rest.
      let later = tune_dump_commands tune.number [] rest in
      let import_ : List Command = Import (exported (tune ∷ [])) ∷ [] in
      let renumber : List Command = Renumber next tune.number ∷ [] in
      let whole : tune_dump_commands last piece (tune ∷ rest) ≡ imported (book_of piece) ++ (import_ ++ (renumber ++ later)) =
      goes_alone last tune piece rest (λ same. gap (same ∙ sym is))
      ∙ ap (λ n. imported (book_of piece) ++ (Import (exported (tune ∷ [])) ∷ Renumber n tune.number ∷ later)) (sym is) in
      ap (λ commands. old ++ script_bytes commands) whole
      ∙ joined_bytes old (imported (book_of piece)) (import_ ++ (renumber ++ later))
      ∙ ap (λ bytes. bytes ++ script_bytes (import_ ++ (renumber ++ later))) (sym e)
      ∙ joined_bytes one import_ (renumber ++ later)
      ∙ ap (λ bytes. bytes ++ script_bytes (renumber ++ later)) (sym f)
      ∙ joined_bytes two renumber later
      ∙ ap (λ bytes. bytes ++ script_bytes later) (ap (λ bytes. two ++ bytes) (append-nil (command_bytes (Renumber next tune.number))) ∙ sym h);
}

-- ALL TUNES
-- The tunes of these numbers were written behind `old`, but for those of a piece that was begun.
pub record IsBegun (numbers : List ℕ) (last : ℕ) (held old new : List ℕ) (state : State) : Type 0 where
  pub tunes : List Tune
  pub at : tunes_at numbers state.tunes ≡ Ok tunes
  pub piece : List Tune
  pub holds : held ≡ book_of piece
  pub same : (rest : List Tune) → old ++ script_bytes (tune_dump_commands 0 [] (tunes ++ rest)) ≡ new ++ script_bytes (tune_dump_commands last piece rest)

pub begun_none : (old held : List ℕ) (state : State) → held ≡ [] → IsBegun [] 0 held old old state
begun_none old held state none = record { tunes = []; at = refl; piece = []; holds = none; same = λ rest. refl }

pub begun_more : (numbers : List ℕ) (i number last : ℕ) (state : State) (held now_held old now new : List ℕ) (tune : Tune) → i < length numbers
    → number ≡ get_or numbers i 0 → IsBegun (take i numbers) last held old now state → tune_told number state ≡ Ok tune
    → BringsEach last tune held now_held now new → IsBegun (take (i + 1) numbers) tune.number now_held old new state
begun_more numbers i number last state held now_held old now new tune l at was has goes =
    let brings = goes was.piece was.holds in
    record {
      tunes = was.tunes ++ tune ∷ [];
      at = ap (λ some. tunes_at some state.tunes) (take_more numbers i 0 l ∙ ap (λ n. take i numbers ++ n ∷ []) (sym at))
          ∙ at_more (take i numbers) number state.tunes was.tunes tune was.at has;
      piece = brings.next;
      holds = brings.holds;
      same = λ rest. ap (λ (tunes : List Tune). old ++ script_bytes (tune_dump_commands 0 [] tunes)) (append_assoc was.tunes (tune ∷ []) rest)
          ∙ was.same (tune ∷ rest) ∙ brings.same rest;
    }

pub begun_all : (numbers : List ℕ) (i last : ℕ) (state : State) (held old now new : List ℕ) → length numbers ≤ i
    → IsBegun (take i numbers) last held old now state → new ≡ now ++ script_bytes (imported held) → AreDumped numbers old new state
begun_all numbers i last state held old now new le was e = record {
  tunes = was.tunes;
  at = ap (λ some. tunes_at some state.tunes) (sym (take_all i numbers le)) ∙ was.at;
  are = e ∙ ap (λ bytes. now ++ script_bytes (imported bytes)) was.holds ∙ sym (was.same [])
      ∙ ap (λ (tunes : List Tune). old ++ script_bytes (tune_dump_commands 0 [] tunes)) (append-nil was.tunes);
}

-- SET LISTS
-- a place more of a set list
pub set_begins : (name : List ℕ) → script_bytes (set_dump_commands name (Ok [])) ≡ command_bytes (SetNew name)
set_begins name = append-nil _

pub set_more : (name numbers : List ℕ) (number : ℕ) → script_bytes (set_dump_commands name (Ok (numbers ++ number ∷ [])))
    ≡ script_bytes (set_dump_commands name (Ok numbers)) ++ command_bytes (SetAdd name number)
set_more name numbers number =
    ap (λ commands. script_bytes (SetNew name ∷ commands)) (map-append (SetAdd name) numbers (number ∷ []))
    ∙ flat_map-append command_bytes (SetNew name ∷ map (SetAdd name) numbers) (SetAdd name number ∷ [])
    ∙ ap (λ bytes. script_bytes (set_dump_commands name (Ok numbers)) ++ bytes) (append-nil (command_bytes (SetAdd name number)))

-- the commands for the first of these set lists
abbrev pub some_sets : ℕ → List TuneSet → List Command
some_sets i sets = flat_map (λ (set : TuneSet). set_dump_commands set.name (places_of set.name sets)) (take i sets)

name_at : (sets : List TuneSet) (i : ℕ) (rows : List SetRow) (name : List ℕ) (other : SetRow) (d : TuneSet) → i < length rows → rows ≡ set_rows_of sets
    → name ≡ (get_or rows i other).name → name ≡ (get_or sets i d).name
name_at sets i rows name other d l are is =
    let many : length (set_rows_of sets) ≡ length sets = length-map sets set_row_of in
    let long : length rows ≡ length (set_rows_of sets) = ap length are in
    let few : i < length sets = omega arith in
    is ∙ ap (λ (r : SetRow). r.name) (ap (λ (list : List SetRow). get_or list i other) are ∙ get_or-map set_row_of sets i d other few)

pub sets_more : (sets : List TuneSet) (i : ℕ) (rows : List SetRow) (name : List ℕ) (other : SetRow) (old now new : List ℕ) → i < length rows
    → rows ≡ set_rows_of sets
    → name ≡ (get_or rows i other).name → now ≡ old ++ script_bytes (some_sets i sets)
    → new ≡ now ++ script_bytes (set_dump_commands name (places_of name sets)) → new ≡ old ++ script_bytes (some_sets (i + 1) sets)
sets_more sets i rows name other old now new l are is was e =
    let d : TuneSet = record { name = []; numbers = [] } in
    let its = name_at sets i rows name other d l are is in
    let f : TuneSet → List Command = λ (set : TuneSet). set_dump_commands set.name (places_of set.name sets) in
    let many : length (set_rows_of sets) ≡ length sets = length-map sets set_row_of in
    let long : length rows ≡ length (set_rows_of sets) = ap length are in
    let few : i < length sets = omega arith in
    let one : some_sets (i + 1) sets ≡ some_sets i sets ++ f (get_or sets i d) =
    ap (flat_map f) (take_more sets i d few) ∙ flat_map-append f (take i sets) (get_or sets i d ∷ [])
    ∙ ap (λ (more : List Command). some_sets i sets ++ more) (append-nil (f (get_or sets i d))) in
    e ∙ ap (λ bytes. bytes ++ script_bytes (set_dump_commands name (places_of name sets))) was
    ∙ ap (λ name. (old ++ script_bytes (some_sets i sets)) ++ script_bytes (set_dump_commands name (places_of name sets))) its
    ∙ sym (joined_bytes old (some_sets i sets) (f (get_or sets i d)))
    ∙ ap (λ (commands : List Command). old ++ script_bytes commands) (sym one)

pub sets_all : (sets : List TuneSet) (i : ℕ) (rows : List SetRow) (old new : List ℕ) → length rows ≤ i → rows ≡ set_rows_of sets
    → new ≡ old ++ script_bytes (some_sets i sets) → new ≡ old ++ script_bytes (sets_commands sets)
sets_all sets i rows old new le are e =
    let many : length (set_rows_of sets) ≡ length sets = length-map sets set_row_of in
    let long : length rows ≡ length (set_rows_of sets) = ap length are in
    e ∙ ap (λ (some : List TuneSet). old ++ script_bytes (flat_map (λ (set : TuneSet). set_dump_commands set.name (places_of set.name sets)) some))
    (take_all i sets (omega arith))

-- each of them is there
is_there : (sets : List TuneSet) (i : ℕ) (d : TuneSet) → i < length sets → set_at (get_or sets i d).name sets ≡ None → ⊥
is_there [] i d l none = absurd (omega arith)
is_there (set ∷ sets) zero d l none = let own = same_name set.name set.name refl in let e = rw own at none in absurd cc
is_there (set ∷ sets) (suc i) d l none = elim (cases_Bool (bytes_eq set.name (get_or sets i d).name)) [
  | inl same ↦ let e = rw same at none in absurd cc
  | inr other ↦ let later = rw other at none in is_there sets i d (omega arith) later
]

no_places : (found : Option TuneSet) → places_found found ≡ Err NoSuchSet → found ≡ None
no_places None e = refl
no_places (Some set) e = absurd cc

pub set_there : (sets : List TuneSet) (i : ℕ) (rows : List SetRow) (name : List ℕ) (other : SetRow) → i < length rows → rows ≡ set_rows_of sets
    → name ≡ (get_or rows i other).name → places_of name sets ≡ Err NoSuchSet → ⊥
set_there sets i rows name other l are is none =
    let d : TuneSet = record { name = []; numbers = [] } in
    let its = name_at sets i rows name other d l are is in
    let many : length (set_rows_of sets) ≡ length sets = length-map sets set_row_of in
    let long : length rows ≡ length (set_rows_of sets) = ap length are in
    is_there sets i d (omega arith)
    (ap (λ name. set_at name sets) (sym its) ∙ no_places (set_at name sets) none)

-- THE WHOLE
numbers_own : (tunes : List Tune) → numbers_of (labels_of tunes) ≡ map (λ (tune : Tune). tune.number) tunes
numbers_own [] = refl
numbers_own (tune ∷ tunes) = ap (λ numbers. tune.number ∷ numbers) (numbers_own tunes)

pub all_there : (labels : List Label) (state : State) (numbers : List ℕ) → LabelsRise 0 labels → numbers ≡ numbers_of labels
    → labels ≡ labels_of state.tunes → tunes_at numbers state.tunes ≡ Ok state.tunes
all_there labels state numbers rise are same =
    ap (λ some. tunes_at some state.tunes) (are ∙ ap numbers_of same ∙ numbers_own state.tunes)
    ∙ at_own state.tunes state.tunes (all_in 0 state.tunes (rises_of 0 state.tunes (subst (LabelsRise 0) same rise)))

pub dumped_whole : (labels : List Label) (state : State) (numbers none one two : List ℕ) → LabelsRise 0 labels → numbers ≡ numbers_of labels
    → labels ≡ labels_of state.tunes → AreDumped numbers none one state → none ≡ [] → two ≡ one ++ script_bytes (sets_commands state.sets)
    → script_bytes (tune_dump_commands 0 [] state.tunes ++ sets_commands state.sets) ≡ two
dumped_whole labels state numbers none one two rise are same dumped empty e =
    let held = all_there labels state numbers rise are same in
    let their : dumped.tunes ≡ state.tunes = by dumped.tunes state.tunes _ dumped.at held in
    let first : one ≡ script_bytes (tune_dump_commands 0 [] state.tunes) =
    dumped.are ∙ ap (λ bytes. bytes ++ script_bytes (tune_dump_commands 0 [] dumped.tunes)) empty
    ∙ ap (λ (tunes : List Tune). script_bytes (tune_dump_commands 0 [] tunes)) their in
    flat_map-append command_bytes (tune_dump_commands 0 [] state.tunes) (sets_commands state.sets)
    ∙ ap (λ bytes. bytes ++ script_bytes (sets_commands state.sets)) (sym first) ∙ sym e
  where
    by : (a b : List Tune) (r : Result (List Tune) Refusal) → r ≡ Ok a → r ≡ Ok b → a ≡ b
    by a b r e f = let g : Ok a ≡ Ok b = sym e ∙ f in cc

-- a set list's places
pub numbers_shown : (tunes : List Tune) (numbers : List ℕ) → map (λ (row : IndexRow). row.number) (rows_at tunes numbers) ≡ numbers
numbers_shown tunes [] = refl
numbers_shown tunes (number ∷ numbers) =
    ap (λ n. n ∷ map (λ (row : IndexRow). row.number) (rows_at tunes numbers)) (by (tune_at number tunes) refl)
    ∙ ap (λ ns. number ∷ ns) (numbers_shown tunes numbers)
  where
    by : (found : Option Tune) → tune_at number tunes ≡ found → (row_found number found).number ≡ number
    by None none = refl
    by (Some tune) some = tune_at-number number tunes tune some

-- what its question is answered
shown_as : (name : List ℕ) (tunes : List Tune) (found : Result (List ℕ) SetFault) (reply : Reply) → set_shown name tunes found ≡ Ok reply
    → (rows : List IndexRow) × (reply ≡ SetShown name rows) × (rows_of_set tunes found ≡ Ok rows)
shown_as name tunes (Ok numbers) reply e = (rows_at tunes numbers, cc, refl)
shown_as name tunes (Err why) reply e = absurd cc

pub show_is : (name asked shown : List ℕ) (state : State) (reply : Reply) (rows : List IndexRow) → asked ≡ name
    → (step state (SetShow asked)).1 ≡ Ok reply → reply ≡ SetShown shown rows → places_told name state ≡ Ok rows
show_is name asked shown state reply rows same e is =
    let h = shown_as asked state.tunes (places_of asked state.sets) reply e in
    let its : rows ≡ h.0 = cc (h.1, is) in
    ap (λ n. places_told n state) (sym same) ∙ h.2 ∙ ap Ok (sym its)

pub show_other : (asked : List ℕ) (state : State) (reply : Reply) → (step state (SetShow asked)).1 ≡ Ok reply
    → ((shown : List ℕ) (rows : List IndexRow) → reply ≡ SetShown shown rows → ⊥) → ⊥
show_other asked state reply e other = let h = shown_as asked state.tunes (places_of asked state.sets) reply e in other asked h.0 h.1

shown_refused : (name : List ℕ) (tunes : List Tune) (found : Result (List ℕ) SetFault) (refusal : Refusal) → set_shown name tunes found ≡ Err refusal
    → rows_of_set tunes found ≡ Err refusal
shown_refused name tunes (Ok numbers) refusal e = absurd cc
shown_refused name tunes (Err why) refusal e = let same : refusal_of_sets why ≡ refusal = cc in ap Err same

pub show_refused : (name asked : List ℕ) (state : State) (refusal : Refusal) → asked ≡ name → (step state (SetShow asked)).1 ≡ Err refusal
    → places_told name state ≡ Err refusal
show_refused name asked state refusal same e =
    ap (λ n. places_told n state) (sym same) ∙ shown_refused asked state.tunes (places_of asked state.sets) refusal e

no_set : (tunes : List Tune) (found : Option TuneSet) (refusal : Refusal) → rows_of_set tunes (places_found found) ≡ Err refusal
    → places_found found ≡ Err NoSuchSet
no_set tunes None refusal e = refl
no_set tunes (Some set) refusal e = absurd cc

pub no_set_told : (name : List ℕ) (state : State) (refusal : Refusal) → places_told name state ≡ Err refusal → places_of name state.sets ≡ Err NoSuchSet
no_set_told name state refusal e = no_set state.tunes (set_at name state.sets) refusal e

written_as : (name : List ℕ) (tunes : List Tune) (found : Result (List ℕ) SetFault) (rows : List IndexRow) → rows_of_set tunes found ≡ Ok rows
    → set_dump_commands name (Ok (map (λ (row : IndexRow). row.number) rows)) ≡ set_dump_commands name found
written_as name tunes (Ok numbers) rows e =
    let same : rows_at tunes numbers ≡ rows = cc in
    ap (λ some. set_dump_commands name (Ok (map (λ (row : IndexRow). row.number) some))) (sym same)
    ∙ ap (λ some. set_dump_commands name (Ok some)) (numbers_shown tunes numbers)
written_as name tunes (Err why) rows e = absurd cc

pub set_written : (name : List ℕ) (state : State) (rows given : List IndexRow) (old new : List ℕ) → places_told name state ≡ Ok rows → given ≡ rows
    → new ≡ old ++ script_bytes (set_dump_commands name (Ok (map (λ (row : IndexRow). row.number) given)))
    → new ≡ old ++ script_bytes (set_dump_commands name (places_of name state.sets))
set_written name state rows given old new told same e =
    e ∙ ap (λ (some : List IndexRow). old ++ script_bytes (set_dump_commands name (Ok (map (λ (row : IndexRow). row.number) some)))) same
    ∙ ap (λ (commands : List Command). old ++ script_bytes commands) (written_as name state.tunes (places_of name state.sets) rows told)

pub set_next : (name numbers old now new : List ℕ) (number : ℕ) → now ≡ old ++ script_bytes (set_dump_commands name (Ok numbers))
    → new ≡ now ++ command_bytes (SetAdd name number) → new ≡ old ++ script_bytes (set_dump_commands name (Ok (numbers ++ number ∷ [])))
set_next name numbers old now new number was e =
    e ∙ ap (λ bytes. bytes ++ command_bytes (SetAdd name number)) was
    ∙ append_assoc old (script_bytes (set_dump_commands name (Ok numbers))) (command_bytes (SetAdd name number))
    ∙ ap (λ bytes. old ++ bytes) (sym (set_more name numbers number))

abbrev numbers_in : List IndexRow → List ℕ
numbers_in rows = map (λ (row : IndexRow). row.number) rows

pub place_next : (name : List ℕ) (rows : List IndexRow) (i : ℕ) (row : IndexRow) (old now new : List ℕ) → i < length rows → row ≡ get_or rows i row
    → now ≡ old ++ script_bytes (set_dump_commands name (Ok (numbers_in (take i rows)))) → new ≡ now ++ command_bytes (SetAdd name row.number)
    → new ≡ old ++ script_bytes (set_dump_commands name (Ok (numbers_in (take (i + 1) rows))))
place_next name rows i row old now new l is was e =
    let more : numbers_in (take (i + 1) rows) ≡ numbers_in (take i rows) ++ row.number ∷ [] =
    ap numbers_in (take_more rows i row l ∙ ap (λ (one : IndexRow). take i rows ++ one ∷ []) (sym is))
    ∙ map-append (λ (row : IndexRow). row.number) (take i rows) (row ∷ []) in
    set_next name (numbers_in (take i rows)) old now new row.number was e ∙ ap (λ some. old ++ script_bytes (set_dump_commands name (Ok some))) (sym more)

pub places_all : (name : List ℕ) (rows : List IndexRow) (i : ℕ) (old new : List ℕ) → length rows ≤ i
    → new ≡ old ++ script_bytes (set_dump_commands name (Ok (numbers_in (take i rows)))) → new ≡ old
    ++ script_bytes (set_dump_commands name (Ok (numbers_in rows)))
places_all name rows i old new le e =
    e ∙ ap (λ (some : List IndexRow). old ++ script_bytes (set_dump_commands name (Ok (numbers_in some)))) (take_all i rows le)

-- where questions were accepted
pub all_rows : (sets : List TuneSet) (rows : List SetRow) (answer : Result (List SetRow) Refusal) → answer ≡ Ok (set_rows_of sets) → answer ≡ Ok rows
    → rows ≡ set_rows_of sets
all_rows sets rows answer e f = let g : Ok (set_rows_of sets) ≡ Ok rows = sym e ∙ f in cc

pub never_missing : (labels : List Label) (state : State) (numbers : List ℕ) (refusal : Refusal) → LabelsRise 0 labels → numbers ≡ numbers_of labels
    → labels ≡ labels_of state.tunes → tunes_at numbers state.tunes ≡ Err refusal → ⊥
never_missing labels state numbers refusal rise are same refused = let held = all_there labels state numbers rise are same in cc
