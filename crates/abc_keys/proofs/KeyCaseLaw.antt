-- A key text says one key by its cases: the one that is read step by step.
use Rattle.std.proofs.Common.{◌≡◌, ◌⊎◌, ℕ, ℤ, Bool, true, false, cond, List, [], ◌∷◌, ◌++◌, map}
use Rattle.std.proofs.Common.{Option, Some, None, refl, ap, sym, ◌∙◌, inl, inr}
use Rattle.std.proofs.Common.{subst, nat_eq, not, ⊎_elim, arith}
use Rattle.std.specs.Prelude.{codes}
use Rattle.std.specs.List.{prefix_len, take_while, list_all}
use Rattle.std.specs.Option.{option_map_or}
use Rattle.std.specs.Cmp.Lexicographic.{pointwise}
use Rattle.std.specs.Char.{to_ascii_lowercase}
use Rattle.std.proofs.lemmas.Bool.{or_cases, or_right, and_parts, and_from, not_from_true}
use Rattle.std.proofs.lemmas.Bool.{not_from_false}
use Rattle.std.proofs.lemmas.Bool.Decides.{nat_tests}
use Rattle.std.proofs.lemmas.List.{take-append-drop}
use Rattle.std.proofs.lemmas.List.Sums.{take_while-cons}
use Rattle.std.proofs.lemmas.Slice.Eq.{bytes_eq-Decides}
use Rattle.abc_fields.specs.Bytes.{is_blank, begins}
use Rattle.abc_fields.specs.Words.{ends_part, trimmed}
use Rattle.abc_fields.proofs.TrimLaw.{is_trimmed}
use Rattle.abc_keys.specs.declared.letters.Letter.{Letter}
use Rattle.abc_keys.specs.declared.letters.Letter.TheVariants.{C, D, E, F, G, A, B}
use Rattle.abc_keys.specs.declared.scales.Sign.{Sign}
use Rattle.abc_keys.specs.declared.scales.Scale.{Scale}
use Rattle.abc_keys.specs.declared.mode_words.ModeWord.{ModeWord}
use Rattle.abc_keys.specs.declared.mode_words.ModeWord.TheVariants.{Mode as AsMode, Explicit}
use Rattle.abc_keys.specs.declared.keys.Key.{Key}
use Rattle.abc_keys.specs.declared.keys.Key.TheVariants as key
use Rattle.abc_keys.specs.Signatures.{no_accidentals, of_count}
use Rattle.abc_keys.specs.Fifths.{listed_count}
use Rattle.abc_keys.specs.Accidentals.{with_words}
use Rattle.abc_keys.proofs.PairLaw.{are_left, only_are_left}
use Rattle.abc_keys.specs.Keys.{key_of_text}
use Rattle.abc_keys.specs.Inside.ModeWords.{is_word}
use Rattle.abc_keys.specs.ByteRuns.{IsRun}
use Rattle.abc_keys.specs.Inside.KeySteps.{is_ink, past, pipes_signature, is_none, key_of_scale}
use Rattle.abc_keys.specs.Inside.KeySteps.{key_after_tonic, key_with_tonic, key_of_trimmed}
use Rattle.abc_keys.specs.KeyCases.{tonic_text, sign_text, HasTonic, SaysMode, SaysKey, empty}
use Rattle.abc_keys.specs.KeyCases.{none_first, pipes, pipes_with_sharps, modal, explicit}
use Rattle.abc_keys.specs.KeyCases.{ReadsAs, by_case, unread, IsKeyText}
use Rattle.abc_keys.proofs.RunLaw.{front_is_run, run_taken, run_past}
use Rattle.abc_keys.proofs.ModeCaseLaw.{mode_taken, mode_said}
use Rattle.abc_keys.proofs.TonicLaw.{TonicOrNone, tonic_taken, tonic_said}

-- THE FIRST WORD
-- the key of a text, from its first word and what is past it
abbrev by_first : List ℕ → List ℕ → List ℕ → Key
by_first text first after =
    cond (is_none first) (key.Bare (with_words no_accidentals after))
    (option_map_or (λ s. key.Highland s) (pipes_signature first) (key_with_tonic text))

by_parts : (text : List ℕ)
    → key_of_trimmed text ≡ by_first text (take_while is_ink text) (past is_ink text)
by_parts text = refl

-- a word ends where a blank comes or nothing
word_ends : (after : List ℕ) → ends_part is_blank after ≡ true → begins is_ink after ≡ false
word_ends [] ends = refl
word_ends (byte ∷ after) ends = not_from_true (is_blank byte) ends

ends_word : (after : List ℕ) → begins is_ink after ≡ false → ends_part is_blank after ≡ true
ends_word [] ends = refl
ends_word (byte ∷ after) ends = by_test (is_blank byte) ends
  where
    by_test : (blank : Bool) → not blank ≡ false → blank ≡ true
    by_test true is = refl
    by_test false is = absurd (cc)

-- a first word is the one that is found
first_found : (text word after : List ℕ) → list_all is_ink word ≡ true
    → ends_part is_blank after ≡ true → text ≡ word ++ after
    → key_of_trimmed text ≡ by_first text word after
first_found text word after ink ends whole =
    let run : IsRun is_ink word after = record { all = ink; ends = word_ends after ends } in
    let taken = run_taken is_ink word after run in
    let rest = run_past is_ink word after run in
    let first : take_while is_ink text ≡ word = ap (take_while is_ink) whole ∙ taken in
    let later : past is_ink text ≡ after = ap (past is_ink) whole ∙ rest in
    λ i. by_first text (first i) (later i)

-- NO BLANK IN SMALL LETTERS
small_ink : (byte : ℕ) → is_ink (to_ascii_lowercase byte) ≡ true → is_ink byte ≡ true
small_ink byte ink = grind (arith, nat_tests)

small_word_ink : (word : List ℕ) → list_all is_ink (map to_ascii_lowercase word) ≡ true
    → list_all is_ink word ≡ true
small_word_ink [] ink = refl
small_word_ink (byte ∷ word) ink =
    let parts =
    and_parts (is_ink (to_ascii_lowercase byte))
    (list_all is_ink (map to_ascii_lowercase word)) ink in
    and_from (is_ink byte) (list_all is_ink word) (small_ink byte parts.0)
    (small_word_ink word parts.1)

-- THE KEY THAT A CASE SAYS
none_is_none : (word : List ℕ) → map to_ascii_lowercase word ≡ codes "none" → is_none word ≡ true
none_is_none word is =
    or_right (pointwise nat_eq word []) (is_word word (codes "none"))
    (ap (λ small. pointwise nat_eq small (codes "none")) is)

-- by the first byte
with_first : (byte : ℕ) (text : List ℕ)
    → key_of_trimmed (byte ∷ text) ≡ by_first (byte ∷ text)
    (cond (is_ink byte) (byte ∷ take_while is_ink text) []) (past is_ink (byte ∷ text))
with_first byte text =
    ap (λ first. by_first (byte ∷ text) first (past is_ink (byte ∷ text)))
    (take_while-cons is_ink byte text)

-- a word that begins with a tonic is neither `none` nor the pipes
with_letter : (tonic : Letter) (text : List ℕ)
    → key_of_trimmed (tonic_text tonic ++ text) ≡ key_with_tonic (tonic_text tonic ++ text)
with_letter C text = with_first 67 text
with_letter D text = with_first 68 text
with_letter E text = with_first 69 text
with_letter F text = with_first 70 text
with_letter G text = with_first 71 text
with_letter A text = with_first 65 text
with_letter B text = with_first 66 text

with_tonic : (tonic : Letter) (sign : Sign) (rest text : List ℕ) → HasTonic tonic sign rest text
    → key_of_trimmed text ≡ key_after_tonic tonic sign rest
with_tonic tonic sign rest text has =
    ap key_of_trimmed has.whole ∙ with_letter tonic (sign_text sign ++ rest)
    ∙ sym (ap key_with_tonic has.whole) ∙ tonic_taken tonic sign rest text has

-- a scale, by its count
scale_key : (scale : Scale) (after : List ℕ) (count : Option ℤ) → listed_count scale ≡ count
    → key_of_scale scale after ≡ option_map_or
    (λ c. key.Modal scale (with_words (of_count c) after)) count key.Unread
scale_key scale after count is =
    ap (λ c. option_map_or (λ n. key.Modal scale (with_words (of_count n) after)) c key.Unread) is

only_key : (text : List ℕ) (said : Key) → SaysKey text said → said ≡ key_of_trimmed text
only_key _ _ empty = refl
only_key _ _ (none_first text word after s is ends whole leave) =
    ap (λ t. key.Bare t) (only_are_left no_accidentals s after leave)
    ∙ sym (first_found text word after (small_word_ink word (ap (list_all is_ink) is)) ends whole
    ∙ rw (none_is_none word is) refl)
only_key _ _ (pipes text after ends whole) =
    sym (first_found text (codes "HP") after refl ends whole)
only_key _ _ (pipes_with_sharps text after ends whole) =
    sym (first_found text (codes "Hp") after refl ends whole)
only_key _ _ (modal text rest after scale count s has says listed leave) =
    ap (λ t. key.Modal scale t) (only_are_left (of_count count) s after leave)
    ∙ sym (with_tonic scale.tonic scale.sign rest text has
    ∙ mode_taken scale.tonic scale.sign rest (AsMode scale.mode) after says
    ∙ scale_key scale after (Some count) listed)
only_key _ _ (explicit text rest after tonic sign s has says leave) =
    ap (λ t. key.Explicit t) (only_are_left no_accidentals s after leave)
    ∙ sym (with_tonic tonic sign rest text has ∙ mode_taken tonic sign rest Explicit after says)

-- THE CASE OF A KEY
-- the key of the text is said by a case, or the text is unread
abbrev SaysOrNone : List ℕ → Type 0
SaysOrNone text = SaysKey text (key_of_trimmed text) ⊎ (key_of_trimmed text ≡ key.Unread)

found : (text : List ℕ) (said : Key) → SaysKey text said → SaysOrNone text
found text said says = inl (subst (λ k. SaysKey text k) (only_key text said says) says)

by_mode : (tonic : Letter) (sign : Sign) (rest after text : List ℕ) (said : ModeWord)
    → HasTonic tonic sign rest text → SaysMode rest said after
    → SaysOrNone text
by_mode tonic sign rest after text (AsMode mode) has says =
    by_count (listed_count (record { tonic = tonic; sign = sign; mode = mode })) refl
  where
    by_count : (count : Option ℤ)
        → listed_count (record { tonic = tonic; sign = sign; mode = mode }) ≡ count
        → SaysOrNone text
    by_count (Some count) listed =
        found text _
        (modal text rest after (record { tonic = tonic; sign = sign; mode = mode }) count _ has says
        listed (are_left (of_count count) after))
    by_count None none =
        inr (with_tonic tonic sign rest text has
        ∙ mode_taken tonic sign rest (AsMode mode) after says ∙ scale_key _ after None none)
by_mode tonic sign rest after text Explicit has says =
    found text _
    (explicit text rest after tonic sign _ has says (are_left no_accidentals after))

by_tonic : (text : List ℕ) → key_of_trimmed text ≡ key_with_tonic text → TonicOrNone text
    → SaysOrNone text
by_tonic text is (inl (tonic, sign, rest, has)) = ⊎_elim
    (λ mode. by_mode tonic sign rest mode.1 text mode.0 has mode.2)
    (λ none. inr (with_tonic tonic sign rest text has ∙ none tonic sign))
    (mode_said rest)
by_tonic text is (inr none) = inr (is ∙ none)

-- the pipes, or neither `none` nor the pipes
by_pipes : (text first after : List ℕ) → text ≡ first ++ after → ends_part is_blank after ≡ true
    → key_of_trimmed text ≡ by_first text first after
    → is_none first ≡ false → (plain sharps : Bool) → pointwise nat_eq first (codes "HP") ≡ plain
    → pointwise nat_eq first (codes "Hp") ≡ sharps
    → SaysOrNone text
by_pipes text first after whole ends is other true sharps p s =
    found text _
    (pipes text after ends
    (whole ∙ ap (λ word. word ++ after) ((bytes_eq-Decides first (codes "HP")).0 p)))
by_pipes text first after whole ends is other false true p s =
    found text _
    (pipes_with_sharps text after ends
    (whole ∙ ap (λ word. word ++ after) ((bytes_eq-Decides first (codes "Hp")).0 s)))
by_pipes text first after whole ends is other false false p s =
    by_tonic text (is ∙ rw (other, p, s) refl) (tonic_said text)

-- `none`, or another word
by_word : (text first after : List ℕ) → text ≡ first ++ after → ends_part is_blank after ≡ true
    → key_of_trimmed text ≡ by_first text first after
    → pointwise nat_eq first [] ≡ false → (is_it : Bool) → is_none first ≡ is_it → SaysOrNone text
by_word text first after whole ends is some true none = ⊎_elim
    (λ empty_word. absurd (cc))
    (λ said.
    found text _
    (none_first text first after _
    ((bytes_eq-Decides (map to_ascii_lowercase first) (codes "none")).0 said) ends whole
    (are_left no_accidentals after)))
    (or_cases (pointwise nat_eq first []) (is_word first (codes "none")) none)
by_word text first after whole ends is some false other =
    by_pipes text first after whole ends is other _ _ refl refl

says_or_none : (text : List ℕ)
    → ((byte : ℕ) (later : List ℕ) → byte ∷ later ≡ text → is_blank byte ≡ false) → SaysOrNone text
says_or_none [] no_blank = found [] _ empty
says_or_none (byte ∷ text) no_blank =
    let all = byte ∷ text in
    let ink : is_ink byte ≡ true = not_from_false (is_blank byte) (no_blank byte text refl) in
    let some : pointwise nat_eq (take_while is_ink all) [] ≡ false =
    ap (λ first. pointwise nat_eq first []) (take_while-cons is_ink byte text) ∙ rw ink refl in
    by_word all (take_while is_ink all) (past is_ink all)
    (sym (take-append-drop (prefix_len is_ink all) all))
    (ends_word (past is_ink all) (front_is_run is_ink all).ends) refl some _ refl

-- THE LAW
never_unread : (text : List ℕ) (said : Key) → SaysKey text said → said ≡ key.Unread → ⊥
never_unread _ _ empty is = cc
never_unread _ _ (none_first text word after s _ _ _ _) is = cc
never_unread _ _ (pipes text after _ _) is = cc
never_unread _ _ (pipes_with_sharps text after _ _) is = cc
never_unread _ _ (modal text rest after scale count s _ _ _ _) is = cc
never_unread _ _ (explicit text rest after tonic sign s _ _ _) is = cc

reads : (text : List ℕ) → SaysOrNone text → ReadsAs text (key_of_trimmed text)
reads text (inl says) = by_case text (key_of_trimmed text) says
reads text (inr none) =
    subst (λ k. ReadsAs text k) (sym none)
    (unread text (λ said says. never_unread text said says (only_key text said says ∙ none)))

reads_only : (text : List ℕ) (said : Key) → ReadsAs text said → SaysOrNone text
    → said ≡ key_of_trimmed text
reads_only _ _ (by_case text said says) known = only_key text said says
reads_only _ _ (unread text none) (inl says) = absurd (none (key_of_trimmed text) says)
reads_only _ _ (unread text none) (inr is) = sym is

-- a text says the key that is read
pub is_key_text : (text : List ℕ) → IsKeyText text (key_of_text text)
unfolding key_of_text
is_key_text text = reads (trimmed text) (says_or_none (trimmed text) (is_trimmed text).first)

-- and no other
pub no_other_key : (text : List ℕ) (said : Key) → IsKeyText text said → said ≡ key_of_text text
unfolding key_of_text
no_other_key text said is =
    reads_only (trimmed text) said is (says_or_none (trimmed text) (is_trimmed text).first)

-- so there is a key that a text says
abbrev pub said_key : (text : List ℕ) → (said : Key) × IsKeyText text said
said_key text = (key_of_text text, is_key_text text)
