-- A tune is brought to a text, or taken out.
use Rattle.std.proofs.Common.{◌≡◌, ◌≢◌, ℕ, ◌+◌, ◌<◌, ◌≤◌, true, false, eqb, ltb, leb, List, [], ◌∷◌, ◌++◌, length, Option, Some, None, Ok}
use Rattle.std.proofs.Common.{refl, sym, ap, ◌∙◌, arith, inl, inr, is_some, codes, length-append}
use Rattle.std.specs.Prelude.{decimal}
use Rattle.std.specs.Str.{bytes_eq}
use Rattle.std.proofs.lemmas.Bool.{cases_Bool, eqb-true, eqb-false, eq-eqb, lt-ltb, le-ltb, ltb-true, leb-true, and_parts}
use Rattle.std.proofs.lemmas.Fmt.{length-decimal-le}
use Rattle.std.proofs.lemmas.Slice.Eq.{bytes_eq-Decides}
use Rattle.abc_fields.specs.Books.{Texts, book_answer}
use Rattle.abc_fields.specs.Limits.{longest_book}
use Rattle.abc_fields.specs.Tunes.{IsTextWithin}
use Rattle.tune_books.specs.WrittenBooks.{written_tune}
use Rattle.tune_books.proofs.ReadBack.{book_gives_back}
use Rattle.tune_sets.specs.Numbers.{is_among}
use Rattle.tune_sets.specs.Sets.{holder, renumbered_sets}
use Rattle.tune_sets.specs.declared.set_lists.TuneSet.{TuneSet}
use Rattle.tune_sets.proofs.PlaceLemmas.{unheld_renumbered}
use Rattle.tune_store.specs.Limits.{longest_text, most_tunes, greatest_number, greatest_revision}
use Rattle.tune_store.specs.State.{State, greatest, tune_at, AreHeld, NameTunes, IsState}
use Rattle.tune_store.specs.Step.{step}
use Rattle.tune_store.specs.TuneSteps.{import_texts, import_book, tunes_step, tune_inserted, with_tune, without_tune, revised, moved, moved_if}
use Rattle.tune_store.specs.TuneSteps.{replace_tune, replace_book, delete_tune, delete_unheld, is_number}
use Rattle.tune_store.specs.declared.layout.Layout.{Layout}
use Rattle.tune_store.specs.declared.layout.Layout.TheVariants.{One, Two}
use Rattle.tune_store.specs.declared.tune.Tune.{Tune}
use Rattle.tune_store.specs.declared.command.Command.{Command}
use Rattle.tune_store.specs.declared.command.Command.TheVariants.{Import, Renumber, Replace, Delete}
use Rattle.tune_store.specs.declared.command.Reply.TheVariants.{Imported, Renumbered, Replaced, Deleted}
use Rattle.tune_store.proofs.LookUpLemmas.{renumber_moves}
use Rattle.tune_store.proofs.PlaceLemmas.{tune_at-number}
use Rattle.tune_changes.specs.SubjectTurns.Subject.{TuneOf}
use Rattle.tune_changes.specs.Bringing.{book_with, renumber_commands, tune_commands, brought}
use Rattle.tune_changes.specs.CommandRuns.{LeadsAccepted}
use Rattle.tune_changes.specs.ChangedStates.{tune_with, with_content}
use Rattle.tune_changes.specs.Undoing.{CanGoIn, CanBeReplaced, CanBeText, CanBe}
use Rattle.tune_changes.proofs.Leading.{leads_none, leads_by, leads_to, leads_with}
use Rattle.tune_changes.proofs.TuneLists.{inserted_last, out_and_in, out_already, with_tune_is, none_above, found_last, without_last, free_still}

-- a state with other tunes
abbrev pub tuned : State → List Tune → State
tuned state tunes = record state { tunes = tunes }

-- NO SET LIST NAMES A TUNE THAT IS NOT THERE
unheld : (number : ℕ) (tunes : List Tune) (numbers : List ℕ) → AreHeld tunes numbers → tune_at number tunes ≡ None → is_among number numbers ≡ false
unheld number tunes [] held none = refl
unheld number tunes (n ∷ numbers) held none = elim (cases_Bool (eqb n number)) [
  | inl same ↦
      let e = eqb-true n number same in
      let gone : is_some (tune_at n tunes) ≡ false = ap (λ m. is_some (tune_at m tunes)) e ∙ ap is_some none in
      let there : is_some (tune_at n tunes) ≡ true = held.0 in
      absurd cc
  | inr other ↦ rw other (unheld number tunes numbers held.1 none)
]

pub unnamed : (number : ℕ) (tunes : List Tune) (sets : List TuneSet) → NameTunes tunes sets → tune_at number tunes ≡ None → holder number sets ≡ None
unnamed number tunes [] held none = refl
unnamed number tunes (set ∷ sets) held none = rw (unheld number tunes set.numbers held.0 none) (unnamed number tunes sets held.1 none)

-- THE BOOK OF ONE TUNE
longest_at_most : (layout : Layout) → longest_text layout ≤ 64000
longest_at_most One = omega arith
longest_at_most Two = omega arith

length_book : (number : ℕ) (text : List ℕ) → number ≤ greatest_number → length text ≤ 64000 → length (book_with number text) ≤ longest_book
length_book number text few short =
    let digits = length-decimal-le 6 number (omega arith) (omega arith) (omega arith) in
    let whole : length (codes "\n" ++ written_tune number text) ≡ 4 + length (decimal number) + length text = simp length-append (omega arith) in
    let all = length-append (codes "\n" ++ written_tune number text) [] in
    omega arith

pub book_read : (layout : Layout) (number : ℕ) (text : List ℕ) → number ≤ greatest_number → IsTextWithin (longest_text layout) text
    → book_answer (longest_text layout) (book_with number text) ≡ Ok (text ∷ [])
book_read layout number text few good =
    let fits = good.fits in
    let most = longest_at_most layout in
    let some : (text ∷ []) ≢ [] = λ none. cc in
    (book_gives_back (number ∷ []) (text ∷ []) refl (omega arith, tt) (good.tune_text, tt)).read (longest_text layout) some
    (length_book number text few (omega arith)) (fits, tt)

number_parts : (number : ℕ) → is_number number ≡ true → (0 < number) × (number ≤ greatest_number)
number_parts number is =
    let parts = and_parts (ltb 0 number) (leb number greatest_number) is in
    (ltb-true 0 number parts.0, leb-true number greatest_number parts.1)

-- A TUNE GOES IN
abbrev new_tune : ℕ → List ℕ → Tune
new_tune number text = record { number = number; revision = 1; text = text }

import_gives : (state : State) (number : ℕ) (text : List ℕ) → CanGoIn number text state
    → step state (Import (book_with number text))
    ≡ (tuned state (state.tunes ++ new_tune (greatest state.tunes + 1) text ∷ []), Ok (Imported (greatest state.tunes + 1) (greatest state.tunes + 1)))
import_gives state number text can =
    let next = can.next in
    let room = can.room in
    let tunes = state.tunes in
    let few : ltb (most_tunes state.layout) (length tunes + 1) ≡ false = le-ltb (most_tunes state.layout) (length tunes + 1) (omega arith) in
    let low : ltb greatest_number (greatest tunes + 1) ≡ false = le-ltb greatest_number (greatest tunes + 1) (omega arith) in
    let given : import_texts state.layout tunes (text ∷ [])
    ≡ (tunes ++ new_tune (greatest tunes + 1) text ∷ [], Ok (Imported (greatest tunes + 1) (greatest tunes + 1))) = rw (few, low) refl in
    ap (λ (answer : Texts). tunes_step state (import_book state.layout tunes answer))
    (book_read state.layout number text (number_parts number can.named).1 can.good)
    ∙ ap (tunes_step state) given

-- and gets its number
renumber_gives : (state : State) (number : ℕ) (text : List ℕ) → IsState state → tune_at number state.tunes ≡ None → is_number number ≡ true
    → greatest state.tunes + 1 ≢ number
    → step (tuned state (state.tunes ++ new_tune (greatest state.tunes + 1) text ∷ [])) (Renumber (greatest state.tunes + 1) number)
    ≡ (tuned state (tune_inserted (new_tune number text) state.tunes), Ok (Renumbered (greatest state.tunes + 1) number))
renumber_gives state number text is none good apart =
    let parts = number_parts number good in
    let tunes = state.tunes in
    let from = greatest tunes + 1 in
    let had = new_tune from text in
    let all = tunes ++ had ∷ [] in
    let has : tune_at from all ≡ Some had = found_last tunes had (omega arith) in
    let free : tune_at number all ≡ None = free_still number tunes had none apart in
    let rest : without_tune from all ≡ tunes = without_last tunes had (omega arith) in
    let whole : moved from number all ≡ tune_inserted (new_tune number text) tunes =
    ap (moved_if number all) has ∙ ap (tune_inserted (new_tune number text)) rest in
    let sets : renumbered_sets from number state.sets ≡ state.sets =
    unheld_renumbered from number state.sets (unnamed from tunes state.sets is.named (none_above from tunes (omega arith))) in
    renumber_moves (tuned state all) from number had parts.0 parts.1 has free
    ∙ ap (λ (some : List Tune). (tuned (record state { sets = renumbered_sets from number state.sets }) some, Ok (Renumbered from number))) whole
    ∙ ap (λ (lists : List TuneSet). (
      record {
        layout = state.layout;
        tunes = tune_inserted (new_tune number text) tunes;
        sets = lists;
      },
      Ok (Renumbered from number),
    )) sets

goes_in : (state : State) (number : ℕ) (text : List ℕ) → IsState state → tune_at number state.tunes ≡ None → CanGoIn number text state
    → LeadsAccepted state (tune_commands (greatest state.tunes) number None (Some text)) (tuned state (tune_inserted (new_tune number text) state.tunes))
goes_in state number text is none can = elim (cases_Bool (eqb (greatest state.tunes + 1) number)) [
  | inl same ↦
      let e = eqb-true (greatest state.tunes + 1) number same in
      let own : renumber_commands (greatest state.tunes + 1) number ≡ [] = rw same refl in
      let mid = tuned state (state.tunes ++ new_tune (greatest state.tunes + 1) text ∷ []) in
      let to = tuned state (tune_inserted (new_tune number text) state.tunes) in
      let last : state.tunes ++ new_tune (greatest state.tunes + 1) text ∷ [] ≡ tune_inserted (new_tune number text) state.tunes =
      ap (λ n. state.tunes ++ new_tune n text ∷ []) e ∙ sym (inserted_last (new_tune number text) state.tunes (omega arith)) in
      leads_with state to (tune_commands (greatest state.tunes) number None (Some text)) (Import (book_with number text) ∷ [])
      (ap (λ (some : List Command). Import (book_with number text) ∷ some) own)
      (leads_by state mid to (Import (book_with number text)) _ [] (import_gives state number text can) (leads_none mid to (ap (tuned state) last)))
  | inr other ↦
      let apart = eqb-false (greatest state.tunes + 1) number other in
      let rest = Renumber (greatest state.tunes + 1) number ∷ [] in
      let another : renumber_commands (greatest state.tunes + 1) number ≡ Renumber (greatest state.tunes + 1) number ∷ [] = rw other refl in
      let mid = tuned state (state.tunes ++ new_tune (greatest state.tunes + 1) text ∷ []) in
      let to = tuned state (tune_inserted (new_tune number text) state.tunes) in
      leads_with state to (tune_commands (greatest state.tunes) number None (Some text)) (Import (book_with number text) ∷ rest)
      (ap (λ (some : List Command). Import (book_with number text) ∷ some) another)
      (leads_by state mid to (Import (book_with number text)) _ rest (import_gives state number text can)
      (leads_by mid to to (Renumber (greatest state.tunes + 1) number) _ [] (renumber_gives state number text is none can.named apart) (leads_none to to refl)))
]

-- A TUNE IS TAKEN OUT
goes_out : (state : State) (number : ℕ) (tune : Tune) → tune_at number state.tunes ≡ Some tune → holder number state.sets ≡ None
    → LeadsAccepted state (Delete number ∷ []) (tuned state (without_tune number state.tunes))
goes_out state number tune found free =
    leads_by state (tuned state (without_tune number state.tunes)) _ (Delete number) (Deleted number) []
    (ap (λ (some : Option Tune). tunes_step state (delete_tune state.tunes number (holder number state.sets) some)) found
    ∙ ap (λ (held : Option (List ℕ)). tunes_step state (delete_unheld state.tunes number held)) free) (leads_none _ _ refl)

-- A TUNE GETS ANOTHER TEXT
replace_gives : (state : State) (number : ℕ) (tune : Tune) (text : List ℕ) → tune_at number state.tunes ≡ Some tune → number ≤ greatest_number
    → CanBeReplaced tune text state
    → step state (Replace number tune.revision (book_with number text))
    ≡ (tuned state (with_tune (revised tune text) state.tunes), Ok (Replaced number (tune.revision + 1)))
replace_gives state number tune text found few can =
    let tested : replace_tune state.tunes number tune.revision text (Some tune)
    ≡ (with_tune (revised tune text) state.tunes, Ok (Replaced number (tune.revision + 1))) =
    rw (eq-eqb tune.revision tune.revision refl, lt-ltb tune.revision greatest_revision can.young) refl in
    ap (λ (answer : Texts). tunes_step state (replace_book state.tunes number tune.revision answer)) (book_read state.layout number text few can.good)
    ∙ ap (λ (some : Option Tune). tunes_step state (replace_tune state.tunes number tune.revision text some)) found
    ∙ ap (tunes_step state) tested

number_within : (number : ℕ) (tunes : List Tune) (tune : Tune) → tune_at number tunes ≡ Some tune → number ≤ greatest tunes
number_within number [] tune found = cc
number_within number (first ∷ tunes) tune found = elim (cases_Bool (eqb first.number number)) [
  | inl same ↦ let e = eqb-true first.number number same in omega arith
  | inr other ↦ let later = rw other at found in let less = number_within number tunes tune later in omega arith
]

changes : (state : State) (number : ℕ) (tune : Tune) (text : List ℕ) → IsState state → tune_at number state.tunes ≡ Some tune
    → CanBeText number (Some tune) (Some text) state
    → LeadsAccepted state (tune_commands (greatest state.tunes) number (Some tune) (Some text))
    (tuned state (tune_inserted (tune_with number (Some tune) text) (without_tune number state.tunes)))
changes state number tune text is found can = elim (cases_Bool (bytes_eq tune.text text)) [
  | inl same ↦
      let it : tune_with number (Some tune) text ≡ tune = rw same refl in
      let none : tune_commands (greatest state.tunes) number (Some tune) (Some text) ≡ [] = rw same refl in
      let whole : tune_inserted (tune_with number (Some tune) text) (without_tune number state.tunes) ≡ state.tunes =
      ap (λ (t : Tune). tune_inserted t (without_tune number state.tunes)) it ∙ out_and_in 0 number tune state.tunes is.tunes.rises found in
      leads_with state _ _ [] none (leads_none _ _ (ap (tuned state) (sym whole)))
  | inr other ↦
      let apart : tune.text ≢ text = λ e. let test = (bytes_eq-Decides tune.text text).1 e in cc in
      let its = tune_at-number number state.tunes tune found in
      let own : tune_at (revised tune text).number state.tunes ≡ Some tune = ap (λ n. tune_at n state.tunes) its ∙ found in
      let it : tune_with number (Some tune) text ≡ revised tune text = rw other refl in
      let one : tune_commands (greatest state.tunes) number (Some tune) (Some text) ≡ Replace number tune.revision (book_with number text) ∷ [] =
      rw other refl in
      let whole : with_tune (revised tune text) state.tunes ≡ tune_inserted (tune_with number (Some tune) text) (without_tune number state.tunes) =
      with_tune_is 0 (revised tune text) tune state.tunes is.tunes.rises own
      ∙ ap (λ n. tune_inserted (revised tune text) (without_tune n state.tunes)) its
      ∙ ap (λ (t : Tune). tune_inserted t (without_tune number state.tunes)) (sym it) in
      let top = is.tunes.numbers in
      let within = number_within number state.tunes tune found in
      leads_with state _ _ (Replace number tune.revision (book_with number text) ∷ []) one
      (leads_by state (tuned state (with_tune (revised tune text) state.tunes)) _ (Replace number tune.revision (book_with number text)) _ []
      (replace_gives state number tune text found (omega arith) (can apart)) (leads_none _ _ (ap (tuned state) whole)))
]

-- EACH
out : (state : State) (number : ℕ) (found : Option Tune) → tune_at number state.tunes ≡ found → CanBeText number found None state
    → LeadsAccepted state (tune_commands (greatest state.tunes) number found None) (tuned state (without_tune number state.tunes))
out state number None e can = leads_none _ _ (ap (tuned state) (sym (out_already number state.tunes e)))
out state number (Some tune) e can = goes_out state number tune e can

into : (state : State) (number : ℕ) (text : List ℕ) (found : Option Tune) → IsState state → tune_at number state.tunes ≡ found
    → CanBeText number found (Some text) state
    → LeadsAccepted state (tune_commands (greatest state.tunes) number found (Some text))
    (tuned state (tune_inserted (tune_with number found text) (without_tune number state.tunes)))
into state number text None is e can =
    leads_to state (tuned state (tune_inserted (new_tune number text) state.tunes))
    (tuned state (tune_inserted (new_tune number text) (without_tune number state.tunes))) (tune_commands (greatest state.tunes) number None (Some text))
    (ap (λ (tunes : List Tune). tuned state (tune_inserted (new_tune number text) tunes)) (sym (out_already number state.tunes e)))
    (goes_in state number text is e can)
into state number text (Some tune) is e can = changes state number tune text is e can

pub tune_brings : (state : State) (number : ℕ) (to : Option (List ℕ)) → IsState state → CanBe (TuneOf number) to state
    → LeadsAccepted state (brought (TuneOf number) to state) (with_content (TuneOf number) to state)
tune_brings state number None is can = out state number (tune_at number state.tunes) refl can
tune_brings state number (Some text) is can = into state number text (tune_at number state.tunes) is refl can
