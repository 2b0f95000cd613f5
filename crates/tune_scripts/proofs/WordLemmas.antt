-- The words of a line, taken one after another.
use Rattle.std.proofs.Common.{◌≡◌, ℕ, suc, ◌<◌, true, false, List, [], ◌∷◌, length, get_or, refl, ap, sym, ◌∙◌, ⊎_elim, arith}
use Rattle.std.specs.List.{list_all, onto_first}
use Rattle.std.proofs.lemmas.Bool.{false_from_ne_true, cases_Bool, cases_lt, cond-true, cond-false, and_parts}
use Rattle.abc_fields.specs.Bytes.{is_blank}
use Rattle.abc_fields.specs.Words.{ends_part, words_of, trimmed, trimmed_front, trimmed_back}
use Rattle.abc_fields.proofs.TrimLaw.{is_trimmed}
use Rattle.tune_titles.specs.Articles.{first_word, from_blank}
use Rattle.tune_titles.proofs.ArticleLaw.{trimmed_again}
use Rattle.tune_scripts.specs.declared.script_lines.ScriptLine.TheVariants.{Bad}
use Rattle.tune_scripts.specs.ScriptLines.{word_of, rest_of, meaning_of}

-- a text without a blank is one word
pub one_word : (text : List ℕ) → ((j : ℕ) → j < length text → is_blank (get_or text j 0) ≡ true → ⊥) → first_word text ≡ text
one_word [] none = refl
one_word (byte ∷ text) none =
    rw (false_from_ne_true (is_blank byte) (none 0 (omega arith))) (ap (λ t. byte ∷ t) (one_word text (λ j lt. none (suc j) (omega arith))))

-- A TEXT THAT BEGINS WITH A WORD
onto_word : (byte : ℕ) (text : List ℕ) → is_blank byte ≡ false
    → (byte ∷ first_word text) ∷ words_of (from_blank text) ≡ first_word (byte ∷ text) ∷ words_of (from_blank (byte ∷ text))
onto_word byte text bare =
    ap (λ (word : List ℕ). word ∷ words_of (from_blank text)) (sym (cond-false _ _ _ bare))
    ∙ ap (λ (rest : List ℕ). first_word (byte ∷ text) ∷ words_of rest) (sym (cond-false _ _ _ bare))

words_from : (byte : ℕ) (text : List ℕ) → is_blank byte ≡ false → words_of (byte ∷ text) ≡ (byte ∷ first_word text) ∷ words_of (from_blank text)
words_from byte [] bare = cond-false _ _ _ bare
words_from byte (next ∷ text) bare = ⊎_elim
    (λ is. cond-false _ _ _ bare ∙ cond-true _ _ _ is
    ∙ ap (λ (word : List ℕ). (byte ∷ word) ∷ words_of (next ∷ text)) (sym (cond-true _ _ _ is))
    ∙ ap (λ (rest : List ℕ). (byte ∷ first_word (next ∷ text)) ∷ words_of rest) (sym (cond-true _ _ _ is)))
    (λ fails. cond-false _ _ _ bare ∙ cond-false _ _ _ fails
    ∙ ap (onto_first byte) (words_from next text fails ∙ onto_word next text fails))
    (cases_Bool (is_blank next))

-- BLANKS AT THE ENDS
words_front : (text : List ℕ) → words_of (trimmed_front is_blank text) ≡ words_of text
words_front [] = refl
words_front (byte ∷ text) = ⊎_elim
    (λ is. ap words_of (cond-true _ _ _ is) ∙ words_front text ∙ sym (cond-true _ _ _ is))
    (λ bare. ap words_of (cond-false _ _ _ bare))
    (cases_Bool (is_blank byte))

words_blank : (text : List ℕ) → list_all is_blank text ≡ true → words_of text ≡ []
words_blank [] all = refl
words_blank (byte ∷ text) all = let parts = and_parts _ _ all in cond-true _ _ _ parts.0 ∙ words_blank text parts.1

ends_back : (text : List ℕ) → ends_part is_blank (trimmed_back is_blank text) ≡ ends_part is_blank text
ends_back [] = refl
ends_back (byte ∷ text) = ⊎_elim
    (λ all. ap (ends_part is_blank) (cond-true _ _ _ all) ∙ sym (and_parts _ _ all).0)
    (λ some. ap (ends_part is_blank) (cond-false _ _ _ some))
    (cases_Bool (list_all is_blank (byte ∷ text)))

words_back : (text : List ℕ) → words_of (trimmed_back is_blank text) ≡ words_of text
words_back [] = refl
words_back (byte ∷ text) = ⊎_elim
    (λ all. ap words_of (cond-true _ _ _ all) ∙ sym (words_blank (byte ∷ text) all))
    (λ some. ap words_of (cond-false _ _ _ some) ∙ rw (ends_back text, words_back text) refl)
    (cases_Bool (list_all is_blank (byte ∷ text)))

words_trimmed : (text : List ℕ) → words_of (trimmed text) ≡ words_of text
words_trimmed text = words_back (trimmed_front is_blank text) ∙ words_front text

-- THE FIRST WORD OF A LINE
first_from : (text : List ℕ) → ((byte : ℕ) (later : List ℕ) → byte ∷ later ≡ text → is_blank byte ≡ false) → 0 < length text
    → (0 < length (first_word text)) × (words_of text ≡ first_word text ∷ words_of (from_blank text))
first_from [] begins some = absurd (omega arith)
first_from (byte ∷ text) begins some =
    let bare = begins byte text refl in
    (rw bare (omega arith), words_from byte text bare ∙ onto_word byte text bare)

some_word : (line : List ℕ) → 0 < length (trimmed line)
    → (0 < length (word_of line)) × (words_of line ≡ word_of line ∷ words_of (rest_of line))
some_word line some =
    let first = first_from (trimmed line) (is_trimmed line).first some in
    (first.0, sym (words_trimmed line) ∙ first.1 ∙ ap (λ words. word_of line ∷ words) (sym (words_trimmed (from_blank (trimmed line)))))

no_words : (text : List ℕ) → length text ≡ 0 → words_of text ≡ []
no_words [] none = refl
no_words (byte ∷ text) none = absurd (omega arith)

some_first : (text : List ℕ) → 0 < length (first_word text) → 0 < length text
some_first [] some = absurd (omega arith)
some_first (byte ∷ text) some = omega arith

-- a line whose first word is empty has none
pub no_word : (line word : List ℕ) → word ≡ word_of line → length word ≡ 0 → words_of line ≡ []
no_word line word is none = ⊎_elim
    (λ some. let first = (some_word line some).0 in absurd (omega (arith, ap length is)))
    (λ empty. sym (words_trimmed line) ∙ no_words (trimmed line) (omega (arith, empty)))
    (cases_lt 0 (length (trimmed line)))

-- otherwise its words are this one, and those behind it
pub next_word : (line word rest : List ℕ) → word ≡ word_of line → rest ≡ rest_of line → 0 < length word → words_of line ≡ word ∷ words_of rest
next_word line word rest is_word is_rest some =
    (some_word line (some_first (trimmed line) (omega (arith, ap length is_word)))).1
    ∙ ap (λ (w : List ℕ). w ∷ words_of (rest_of line)) (sym is_word) ∙ ap (λ (r : List ℕ). word ∷ words_of r) (sym is_rest)

-- what is behind a word begins with a word, where it is not empty
pub later_word : (line rest word : List ℕ) → rest ≡ rest_of line → word ≡ word_of rest → 0 < length rest → 0 < length word
later_word line rest word is_rest is_word some =
    let again : trimmed rest ≡ rest = ap trimmed is_rest ∙ trimmed_again (from_blank (trimmed line)) ∙ sym is_rest in
    omega (arith, ap length is_word, ap length again, (some_word rest (omega (arith, ap length again))).0)

-- no command has more than four words
pub many_words : (name first second third rest : List ℕ) → 0 < length (word_of rest) → meaning_of (name ∷ first ∷ second ∷ third ∷ words_of rest) ≡ Bad
many_words name first second third rest some =
    ap (λ words. meaning_of (name ∷ first ∷ second ∷ third ∷ words)) (next_word rest (word_of rest) (rest_of rest) refl refl some)
