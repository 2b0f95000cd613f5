-- With which byte a title ends that has a trailing article.
use Rattle.std.proofs.Common.{◌≡◌, ℕ, ◌+◌, ◌-◌, ◌≤◌, ◌<◌, Bool, true, false, List, [], ◌∷◌, ◌++◌, length, get_or, codes, Option, Some, None}
use Rattle.std.proofs.Common.{refl, ap, sym, ◌∙◌, arith, ⊎_elim, ◌⊎◌, inl, inr}
use Rattle.std.specs.Prelude.{◌&&◌}
use Rattle.std.specs.Str.{bytes_eq}
use Rattle.std.specs.Char.{to_ascii_lowercase}
use Rattle.std.proofs.lemmas.Bool.{cases_lt, and_parts, true≢false, or_cases, eqb-true}
use Rattle.std.proofs.lemmas.Slice.Eq.{bytes_eq-Decides}
use Rattle.std.proofs.lemmas.List.{append-nil}
use Rattle.std.proofs.lemmas.Str.Ascii.{lowercase_is}
use Rattle.abc_fields.specs.Bytes.{is_blank, is_all_blank, is_one_of, begins}
use Rattle.abc_fields.specs.Fields.{has_bytes}
use Rattle.abc_fields.specs.Words.{trimmed}
use Rattle.abc_fields.proofs.TrimLaw.{is_trimmed}
use Rattle.tune_titles.specs.Articles.{small_letters, comma, is_article, Parts, last_cut, trailing_at, trailing}
use Rattle.tune_titles.specs.Inside.ArticleBytes.{ends_article}
use Rattle.tune_titles.proofs.ArticleLaw.{parts_some, both_parts, cut_whole, none_found}

-- THE LAST BYTE
-- whether the last byte of a text passes, which begins with this byte
abbrev ends_at : (ℕ → Bool) → ℕ → List ℕ → Bool
ends_at test byte [] = test byte
ends_at test byte (next ∷ text) = ends_at test next text

abbrev ends : (ℕ → Bool) → List ℕ → Bool
ends test [] = false
ends test (byte ∷ text) = ends_at test byte text

last_is : (test : ℕ → Bool) (byte : ℕ) (text : List ℕ) → ends_at test byte text ≡ test (get_or (byte ∷ text) (length text) 0)
last_is test byte [] = refl
last_is test byte (next ∷ text) = last_is test next text

ends-more : (test : ℕ → Bool) (byte : ℕ) (text : List ℕ) → ends test text ≡ true → ends test (byte ∷ text) ≡ true
ends-more test byte [] is = absurd (true≢false (sym is))
ends-more test byte (next ∷ text) is = is

ends-after : (test : ℕ → Bool) (front text : List ℕ) → ends test text ≡ true → ends test (front ++ text) ≡ true
ends-after test [] text is = is
ends-after test (byte ∷ front) text is = ends-more test byte (front ++ text) (ends-after test front text is)

-- BLANKS
blanks-end : (byte : ℕ) (text : List ℕ) → is_all_blank (byte ∷ text) ≡ true → ends_at ends_article byte text ≡ true
blanks-end byte [] blank = rw (and_parts (is_blank byte) true blank).0 refl
blanks-end byte (next ∷ text) blank = blanks-end next text (and_parts (is_blank byte) (is_all_blank (next ∷ text)) blank).1

ends-before : (text back : List ℕ) → ends ends_article text ≡ true → is_all_blank back ≡ true → ends ends_article (text ++ back) ≡ true
ends-before text [] is blank = ap (ends ends_article) (append-nil text) ∙ is
ends-before text (byte ∷ back) is blank = ends-after ends_article text (byte ∷ back) (blanks-end byte back blank)

-- ARTICLES
abbrev small_end : ℕ → Bool
small_end byte = is_one_of (codes "aen") byte

lower_of : (byte small : ℕ) → to_ascii_lowercase byte ≡ small → (byte ≡ small) ⊎ (byte + 32 ≡ small)
lower_of byte small is =
    let law = lowercase_is byte in
    ⊎_elim (λ below. inl (sym (law.1 below) ∙ is))
    (λ (from : 65 ≤ byte). ⊎_elim (λ (below : byte < 91). inr (sym (law.0 (from, omega (arith, below))) ∙ is))
    (λ (above : 91 ≤ byte). inl (sym (law.2 (omega (arith, above))) ∙ is))
    (cases_lt byte 91))
    (cases_lt byte 65)

ends_of : (byte small capital : ℕ) → to_ascii_lowercase byte ≡ small → capital + 32 ≡ small → ends_article small ≡ true → ends_article capital ≡ true
    → ends_article byte ≡ true
ends_of byte small capital is apart at_small at_capital = ⊎_elim
    (λ (e : byte ≡ small). ap ends_article e ∙ at_small)
    (λ (e : byte + 32 ≡ small). let same : byte ≡ capital = omega (arith, e, apart) in ap ends_article same ∙ at_capital)
    (lower_of byte small is)

small-end : (byte : ℕ) → small_end (to_ascii_lowercase byte) ≡ true → ends_article byte ≡ true
small-end byte is =
    let small = to_ascii_lowercase byte in
    ⊎_elim (λ a. ends_of byte 97 65 (eqb-true small 97 a) refl refl refl)
    (λ later. ⊎_elim (λ e. ends_of byte 101 69 (eqb-true small 101 e) refl refl refl)
    (λ last. ⊎_elim (λ n. ends_of byte 110 78 (eqb-true small 110 n) refl refl refl) (λ none. absurd (true≢false (sym none)))
    (or_cases _ _ last))
    (or_cases _ _ later))
    (or_cases _ _ is)

small-ends : (byte : ℕ) (text : List ℕ) → ends_at small_end (to_ascii_lowercase byte) (small_letters text) ≡ true → ends_at ends_article byte text ≡ true
small-ends byte [] is = small-end byte is
small-ends byte (next ∷ text) is = small-ends next text is

word-ends : (word small : List ℕ) → small_letters word ≡ small → ends small_end small ≡ true → ends ends_article word ≡ true
word-ends [] small same is = absurd (true≢false (sym (ap (ends small_end) same ∙ is)))
word-ends (byte ∷ word) small same is = small-ends byte word (ap (ends small_end) same ∙ is)

article-ends : (word : List ℕ) → is_article word ≡ true → ends ends_article word ≡ true
article-ends word is =
    let same = λ (small : List ℕ) (e : bytes_eq (small_letters word) small ≡ true). (bytes_eq-Decides (small_letters word) small).0 e in
    ⊎_elim (λ the. word-ends word (codes "the") (same (codes "the") the) refl)
    (λ other. ⊎_elim (λ a. word-ends word (codes "a") (same (codes "a") a) refl) (λ an. word-ends word (codes "an") (same (codes "an") an) refl)
    (or_cases (bytes_eq (small_letters word) (codes "a")) (bytes_eq (small_letters word) (codes "an")) other))
    (or_cases (bytes_eq (small_letters word) (codes "the")) _ is)

-- TITLES
found-ends : (title : List ℕ) (cut : Option (List ℕ × List ℕ)) → last_cut title ≡ cut → (p : Parts) → trailing_at cut ≡ Some p → ends ends_article title ≡ true
found-ends title None is p found = cc
found-ends title (Some cut) is p found =
    let tail = cut.1 in
    let parts = parts_some (begins is_blank tail && (is_article (trimmed tail) && has_bytes (trimmed cut.0))) (trimmed tail) (trimmed cut.0) p found in
    let tests = both_parts (begins is_blank tail) (is_article (trimmed tail)) (has_bytes (trimmed cut.0)) parts.0 in
    let law = is_trimmed tail in
    let word = ends-before (trimmed tail) law.back (article-ends (trimmed tail) tests.1) law.back_blank in
    let end : ends ends_article tail ≡ true =
    ap (ends ends_article) (sym law.whole) ∙ ends-after ends_article law.front (trimmed tail ++ law.back) word in
    ap (ends ends_article) (sym (cut_whole title cut is)) ∙ ends-after ends_article cut.0 (comma ∷ tail) (ends-more ends_article comma tail end)

-- a title that ends with another byte has no trailing article
pub no_trailing_end : (title : List ℕ) → 1 ≤ length title → ends_article (get_or title (length title - 1) 0) ≡ false → trailing title ≡ None
no_trailing_end [] some other = absurd (omega arith)
no_trailing_end (byte ∷ title) some other =
    let at : length (byte ∷ title) - 1 ≡ length title = omega arith in
    let last : ends_article (get_or (byte ∷ title) (length title) 0) ≡ false = ap (λ n. ends_article (get_or (byte ∷ title) n 0)) (sym at) ∙ other in
    none_found (trailing (byte ∷ title)) (λ p found.
    true≢false (sym (found-ends (byte ∷ title) (last_cut (byte ∷ title)) refl p found) ∙ last_is ends_article byte title ∙ last))
