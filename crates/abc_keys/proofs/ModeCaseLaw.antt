-- What follows a tonic says the mode that `key_after_tonic` takes, or no key.
use Rattle.std.proofs.Common.{◌≡◌, ◌⊎◌, ℕ, ◌<◌, Bool, true, false, cond, List, [], ◌∷◌, ◌++◌}
use Rattle.std.proofs.Common.{length, take, drop, Option, Some, None, refl, ap, sym, ◌∙◌}
use Rattle.std.proofs.Common.{inl, inr, subst, nat_eq, arith}
use Rattle.std.specs.Prelude.{codes}
use Rattle.std.specs.List.{prefix_len, list_all}
use Rattle.std.specs.Option.{option_map_or}
use Rattle.std.specs.Cmp.Lexicographic.{pointwise}
use Rattle.std.specs.Char.{is_ascii_alphabetic}
use Rattle.std.proofs.lemmas.Bool.{and_parts}
use Rattle.std.proofs.lemmas.Bool.Decides.{nat_tests}
use Rattle.std.proofs.lemmas.List.{take-append-drop}
use Rattle.abc_fields.specs.Bytes.{is_blank, is_all_blank, is_one_of, begins}
use Rattle.abc_keys.specs.declared.letters.Letter.{Letter}
use Rattle.abc_keys.specs.declared.scales.Sign.{Sign}
use Rattle.abc_keys.specs.declared.scales.Mode.TheVariants.{Major}
use Rattle.abc_keys.specs.declared.mode_words.ModeWord.{ModeWord}
use Rattle.abc_keys.specs.declared.mode_words.ModeWord.TheVariants.{Mode as AsMode}
use Rattle.abc_keys.specs.declared.keys.Key.{Key}
use Rattle.abc_keys.specs.declared.keys.Key.TheVariants as key
use Rattle.abc_keys.specs.ByteRuns.{IsRun}
use Rattle.abc_keys.specs.Inside.ModeWords.{mode_of}
use Rattle.abc_keys.specs.Inside.KeySteps.{past, key_of_scale, key_of_mode, key_after_tonic}
use Rattle.abc_keys.specs.KeyCases.{IsOtherWord, HasWord, SaysMode, by_word, without_word}
use Rattle.abc_keys.specs.KeyCases.{by_other_word}
use Rattle.abc_keys.proofs.RunLaw.{front_is_run, run_taken, run_past}
use Rattle.abc_keys.proofs.ModeWordLaw.{mode_word_says, said_by_mode_word, no_mode_word}

-- THE WORD THAT IS FOUND
-- letters are no blanks
letter_no_blank : (byte : ℕ) → is_ascii_alphabetic byte ≡ true → is_blank byte ≡ false
letter_no_blank byte letter = grind (arith, nat_tests)

-- the blanks before a word are as many as there are
blanks_run : (blanks word after : List ℕ) → is_all_blank blanks ≡ true → 0 < length word
    → list_all is_ascii_alphabetic word ≡ true
    → IsRun is_blank blanks (word ++ after)
blanks_run blanks [] after blank some letters = absurd (omega arith)
blanks_run blanks (byte ∷ word) after blank some letters = record {
  all = blank;
  ends = letter_no_blank byte
      (and_parts (is_ascii_alphabetic byte) (list_all is_ascii_alphabetic word) letters).0;
}

-- the key after a tonic, from the text past its blanks, the word there and what follows the word
abbrev by_word_found : Letter → Sign → List ℕ → List ℕ → List ℕ → Key
by_word_found tonic sign text word after =
    let major = key_of_scale (record { tonic = tonic; sign = sign; mode = Major }) text in
    cond (pointwise nat_eq word []) major
    (option_map_or (λ mode. key_of_mode tonic sign mode after)
    (cond (begins (is_one_of (codes "=")) after) None (mode_of word))
    (cond (begins is_blank text) major key.Unread))

abbrev by_text : Letter → Sign → List ℕ → List ℕ → Key
by_text tonic sign text word_on =
    by_word_found tonic sign text (take (prefix_len is_ascii_alphabetic word_on) word_on)
    (drop (prefix_len is_ascii_alphabetic word_on) word_on)

by_parts : (tonic : Letter) (sign : Sign) (text : List ℕ)
    → key_after_tonic tonic sign text ≡ by_text tonic sign text (past is_blank text)
by_parts tonic sign text = refl

-- a word that the text has is the one that is found
word_found : (tonic : Letter) (sign : Sign) (blanks word after text : List ℕ)
    → HasWord blanks word after text
    → key_after_tonic tonic sign text ≡ by_word_found tonic sign text word after
word_found tonic sign blanks word after text has =
    let blanks_end =
    run_past is_blank blanks (word ++ after)
    (blanks_run blanks word after has.blank has.some has.letters.all) in
    let on : past is_blank text ≡ word ++ after = ap (past is_blank) has.whole ∙ blanks_end in
    let taken = run_taken is_ascii_alphabetic word after has.letters in
    let rest = run_past is_ascii_alphabetic word after has.letters in
    ap (by_text tonic sign text) on ∙ (λ i. by_word_found tonic sign text (taken i) (rest i))

-- A MODE THAT IS SAID IS TAKEN
-- a word with a letter is not empty
not_empty : (word : List ℕ) → 0 < length word → pointwise nat_eq word [] ≡ false
not_empty [] some = absurd (omega arith)
not_empty (byte ∷ word) some = refl

-- blanks at the front of a text
begins_with_blank : (text blanks rest : List ℕ) → text ≡ blanks ++ rest → 0 < length blanks
    → is_all_blank blanks ≡ true → begins is_blank text ≡ true
begins_with_blank text [] rest whole some blank = absurd (omega arith)
begins_with_blank text (byte ∷ blanks) rest whole some blank = ap (begins is_blank) whole
    ∙ (and_parts (is_blank byte) (list_all is_blank blanks) blank).0

-- another word names no mode
names_none : (word after : List ℕ) → IsOtherWord word after → (equals : Bool)
    → begins (is_one_of (codes "=")) after ≡ equals
    → cond equals None (mode_of word) ≡ None
names_none word after other true is = refl
names_none word after (inl before) false is = absurd (cc)
names_none word after (inr none) false is = no_mode (mode_of word) refl
  where
    no_mode : (mode : Option ModeWord) → mode_of word ≡ mode → mode ≡ None
    no_mode None says = refl
    no_mode (Some said) says = absurd (none said (said_by_mode_word word said says))

pub mode_taken : (tonic : Letter) (sign : Sign) (text : List ℕ) (said : ModeWord) (after : List ℕ)
    → SaysMode text said after
    → key_after_tonic tonic sign text ≡ key_of_mode tonic sign said after
mode_taken tonic sign _ _ _ (by_word text blanks word after said has plain is) =
    word_found tonic sign blanks word after text has
    ∙ rw (not_empty word has.some, plain, mode_word_says word said is) refl
mode_taken tonic sign _ _ _ (without_word text blanks after run no_letter whole) =
    let on : past is_blank text ≡ after = ap (past is_blank) whole
    ∙ run_past is_blank blanks after run in
    let taken = run_taken is_ascii_alphabetic [] after (record { all = refl; ends = no_letter }) in
    let rest = run_past is_ascii_alphabetic [] after (record { all = refl; ends = no_letter }) in
    ap (by_text tonic sign text) on ∙ (λ i. by_word_found tonic sign text (taken i) (rest i))
mode_taken tonic sign _ _ _ (by_other_word text blanks word after has some other) =
    word_found tonic sign blanks word after text has
    ∙ rw (
      not_empty word has.some,
      names_none word after other _ refl,
      begins_with_blank text blanks
          (word ++ after) has.whole some has.blank,
    ) refl

-- A MODE THAT IS TAKEN IS SAID
-- what a text says of the mode after a tonic, or that the text says no key
abbrev pub ModeOrNone : List ℕ → Type 0
ModeOrNone text =
    ((said : ModeWord) × (after : List ℕ) × SaysMode text said after)
    ⊎ ((tonic : Letter) (sign : Sign) → key_after_tonic tonic sign text ≡ key.Unread)

-- blanks before what is not blank, in a text that begins with a blank
some_blanks : (blanks rest text : List ℕ) → text ≡ blanks ++ rest → begins is_blank rest ≡ false
    → begins is_blank text ≡ true → 0 < length blanks
some_blanks [] rest text whole no_blank is = absurd (cc)
some_blanks (byte ∷ blanks) rest text whole no_blank is = omega arith

-- a word that says no mode, with a blank before it or without
by_blank : (text blanks word after : List ℕ) → HasWord blanks word after text
    → IsOtherWord word after → (blank : Bool) → begins is_blank text ≡ blank
    → ModeOrNone text
by_blank text blanks word after has other true is =
    let run = blanks_run blanks word after has.blank has.some has.letters.all in
    inl (
      AsMode Major,
      text,
      by_other_word text blanks word after has
          (some_blanks blanks (word ++ after) text has.whole run.ends is) other,
    )
by_blank text blanks word after has other false is =
    inr (λ tonic sign. word_found tonic sign blanks word after text has
    ∙ rw (not_empty word has.some, names_none word after other _ refl, is) refl)

-- a word, whether it stands before `=`, and what it says
by_its_mode : (text blanks word after : List ℕ) → HasWord blanks word after text
    → (equals : Bool) (mode : Option ModeWord)
    → begins (is_one_of (codes "=")) after ≡ equals → mode_of word ≡ mode → ModeOrNone text
by_its_mode text blanks word after has true mode is says =
    by_blank text blanks word after has (inl is) _ refl
by_its_mode text blanks word after has false None is says =
    by_blank text blanks word after has (inr (no_mode_word word says)) _ refl
by_its_mode text blanks word after has false (Some said) is says =
    inl (said, after, by_word text blanks word after said has is (said_by_mode_word word said says))

-- a text of blanks, letters and the rest
by_its_parts : (text blanks word after : List ℕ) → IsRun is_blank blanks (word ++ after)
    → IsRun is_ascii_alphabetic word after
    → text ≡ blanks ++ (word ++ after) → ModeOrNone text
by_its_parts text blanks [] after run letters whole =
    inl (AsMode Major, text, without_word text blanks after run letters.ends whole)
by_its_parts text blanks (byte ∷ word) after run letters whole =
    by_its_mode text blanks (byte ∷ word) after
    (record { blank = run.all; some = omega arith; letters = letters; whole = whole }) _ _ refl
    refl

pub mode_said : (text : List ℕ) → ModeOrNone text
mode_said text =
    let word_on = past is_blank text in
    let word = take (prefix_len is_ascii_alphabetic word_on) word_on in
    let after = drop (prefix_len is_ascii_alphabetic word_on) word_on in
    let on : word ++ after ≡ word_on =
    take-append-drop (prefix_len is_ascii_alphabetic word_on) word_on in
    let blanks = take (prefix_len is_blank text) text in
    by_its_parts text blanks word after
    (subst (λ (rest : List ℕ). IsRun is_blank blanks rest) (sym on)
    (front_is_run is_blank text))
    (front_is_run is_ascii_alphabetic word_on)
    (sym (take-append-drop (prefix_len is_blank text) text)
    ∙ ap (λ rest. blanks ++ rest) (sym on))
