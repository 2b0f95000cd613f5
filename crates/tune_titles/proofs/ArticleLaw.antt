-- Where the cuts find an article, in a reader's words.
use Rattle.std.proofs.Common.{◌≡◌, ℕ, ◌≤◌, Bool, true, false, eqb, List, [], ◌∷◌, ◌++◌, length, codes, Option, Some, None, refl, ap, sym, ◌∙◌, arith}
use Rattle.std.proofs.Common.{⊎_elim, ◌⊎◌, inl, inr, subst}
use Rattle.std.specs.Prelude.{◌&&◌, not}
use Rattle.std.specs.Str.{bytes_eq}
use Rattle.std.specs.Char.{to_ascii_lowercase}
use Rattle.std.specs.List.{list_all}
use Rattle.std.proofs.lemmas.Bool.{cases_Bool, and_parts, true≢false, cond-true, cond-false, eqb-true}
use Rattle.std.proofs.lemmas.Slice.Eq.{bytes_eq-Decides}
use Rattle.std.proofs.lemmas.List.{append-nil, append_assoc, length-append}
use Rattle.abc_fields.specs.Bytes.{is_blank, is_all_blank, begins}
use Rattle.abc_fields.specs.Fields.{has_bytes}
use Rattle.abc_fields.specs.Words.{trimmed, trimmed_front, trimmed_back}
use Rattle.abc_fields.proofs.TrimLaw.{is_trimmed, trimmed-blanks}
use Rattle.tune_titles.specs.Articles.{small_letters, comma, is_article, Parts, parts_if, first_word, from_blank, leading_at, leading, onto_cut, last_cut}
use Rattle.tune_titles.specs.Articles.{trailing_at, trailing}
use Rattle.tune_titles.specs.Articles.{rest_or, rest_after, AreBlanks, HasLeading, HasTrailing}
use Rattle.tune_titles.specs.Titles.{shown_after, LawOfArticles, LawOfTitles}

-- TEXTS WITHOUT BLANKS AT THEIR ENDS
pub trimmed_again : (text : List ℕ) → trimmed (trimmed text) ≡ trimmed text
trimmed_again text =
    let law = is_trimmed text in
    sym (trimmed-blanks (trimmed text) law.front law.back law.front_blank law.back_blank) ∙ ap trimmed law.whole

trimmed_fits : (text : List ℕ) → length (trimmed text) ≤ length text
trimmed_fits text =
    let law = is_trimmed text in
    let long : length (law.front ++ (trimmed text ++ law.back)) ≡ length text = ap length law.whole in
    omega (arith, long, length-append law.front (trimmed text ++ law.back), length-append (trimmed text) law.back)

nothing_long : (text : List ℕ) → length text ≡ 0 → text ≡ []
nothing_long [] e = refl
nothing_long (x ∷ text) e = absurd (omega arith)

-- blanks after a text are trimmed, so a trimmed text has none
no_blanks_after : (text back : List ℕ) → is_all_blank back ≡ true → trimmed (text ++ back) ≡ text ++ back → back ≡ []
no_blanks_after text back blank bare =
    let same : text ++ back ≡ trimmed text = sym bare ∙ trimmed-blanks text [] back refl blank in
    let long : length (text ++ back) ≡ length (trimmed text) = ap length same in
    nothing_long back (omega (arith, long, length-append text back, trimmed_fits text))

no_blanks_before : (front text : List ℕ) → is_all_blank front ≡ true → trimmed (front ++ text) ≡ front ++ text → front ≡ []
no_blanks_before front text blank bare =
    let same : front ++ text ≡ trimmed text = sym bare ∙ ap (λ t. trimmed (front ++ t)) (sym (append-nil text)) ∙ trimmed-blanks text front [] blank refl in
    let long : length (front ++ text) ≡ length (trimmed text) = ap length same in
    nothing_long front (omega (arith, long, length-append front text, trimmed_fits text))

trimmed-after : (text back : List ℕ) → is_all_blank back ≡ true → trimmed (text ++ back) ≡ trimmed text
trimmed-after text back blank = trimmed-blanks text [] back refl blank

trimmed-before : (front text : List ℕ) → is_all_blank front ≡ true → trimmed (front ++ text) ≡ trimmed text
trimmed-before front text blank = ap (λ t. trimmed (front ++ t)) (sym (append-nil text)) ∙ trimmed-blanks text front [] blank refl

-- a text that begins with a blank is not its own trimmed text
begins_unblank : (text : List ℕ) → begins is_blank text ≡ true → trimmed text ≡ text → ⊥
begins_unblank [] blank bare = absurd (true≢false (sym blank))
begins_unblank (x ∷ text) blank bare = let law = is_trimmed (x ∷ text) in true≢false (sym blank ∙ law.first x text (sym bare))

-- where there are blanks before a bare text, there is one
are_blanks : (front text : List ℕ) → begins is_blank (front ++ text) ≡ true → trimmed text ≡ text → is_all_blank front ≡ true → AreBlanks front
are_blanks [] text begin bare blank = absurd (begins_unblank text begin bare)
are_blanks (x ∷ front) text begin bare blank = record { some = refl; blank = blank }

blanks_begin : (blanks text : List ℕ) → AreBlanks blanks → begins is_blank (blanks ++ text) ≡ true
blanks_begin [] text are = absurd (true≢false (sym are.some))
blanks_begin (x ∷ blanks) text are = (and_parts (is_blank x) (is_all_blank blanks) are.blank).0

-- ARTICLES HAVE NO BLANK AND NO COMMA
abbrev no_comma : ℕ → Bool
no_comma byte = not (eqb byte comma)

abbrev plain : ℕ → Bool
plain byte = not (is_blank byte) && no_comma byte

blank_is : (byte : ℕ) → is_blank byte ≡ true → (byte ≡ 32) ⊎ (byte ≡ 9)
blank_is byte blank = ⊎_elim (λ is. inl (eqb-true byte 32 is)) (λ no. let tab : eqb byte 9 ≡ true = rw no at blank in inr (eqb-true byte 9 tab))
    (cases_Bool (eqb byte 32))

at_small : (byte value : ℕ) → byte ≡ value → plain (to_ascii_lowercase byte) ≡ true → plain (to_ascii_lowercase value) ≡ true
at_small byte value same is = subst (λ (b : ℕ). plain (to_ascii_lowercase b) ≡ true) same is

small-plain : (byte : ℕ) → plain (to_ascii_lowercase byte) ≡ true → plain byte ≡ true
small-plain byte is = ⊎_elim
    (λ blank. ⊎_elim (λ e. absurd (true≢false (sym (at_small byte 32 e is)))) (λ e. absurd (true≢false (sym (at_small byte 9 e is)))) (blank_is byte blank))
    (λ (ink : is_blank byte ≡ false). ⊎_elim (λ e. absurd (true≢false (sym (at_small byte 44 (eqb-true byte 44 e) is))))
    (λ (other : eqb byte comma ≡ false). rw (ink, other) refl)
    (cases_Bool (eqb byte comma)))
    (cases_Bool (is_blank byte))

all-small-plain : (word : List ℕ) → list_all plain (small_letters word) ≡ true → list_all plain word ≡ true
all-small-plain [] is = refl
all-small-plain (x ∷ word) is =
    let both = and_parts (plain (to_ascii_lowercase x)) (list_all plain (small_letters word)) is in
    rw (small-plain x both.0) (all-small-plain word both.1)

word-plain : (word small : List ℕ) → bytes_eq (small_letters word) small ≡ true → list_all plain small ≡ true → list_all plain word ≡ true
word-plain word small same is = all-small-plain word (ap (list_all plain) ((bytes_eq-Decides (small_letters word) small).0 same) ∙ is)

article-plain : (word : List ℕ) → is_article word ≡ true → list_all plain word ≡ true
article-plain word is = ⊎_elim
    (λ the. word-plain word (codes "the") the refl)
    (λ (other : bytes_eq (small_letters word) (codes "the") ≡ false). ⊎_elim
    (λ a. word-plain word (codes "a") a refl)
    (λ (neither : bytes_eq (small_letters word) (codes "a") ≡ false).
    let an : bytes_eq (small_letters word) (codes "an") ≡ true = rw (other, neither) at is in
    word-plain word (codes "an") an refl)
    (cases_Bool (bytes_eq (small_letters word) (codes "a"))))
    (cases_Bool (bytes_eq (small_letters word) (codes "the")))

plain_ink : (byte : ℕ) → plain byte ≡ true → is_blank byte ≡ false
plain_ink byte is = ⊎_elim (λ blank. absurd (true≢false (sym is ∙ rw blank refl))) (λ ink. ink) (cases_Bool (is_blank byte))

all-no_comma : (word : List ℕ) → list_all plain word ≡ true → list_all no_comma word ≡ true
all-no_comma [] is = refl
all-no_comma (x ∷ word) is =
    let both = and_parts (plain x) (list_all plain word) is in
    let first = and_parts (not (is_blank x)) (no_comma x) both.0 in
    rw first.1 (all-no_comma word both.1)

blank-no_comma : (byte : ℕ) → is_blank byte ≡ true → no_comma byte ≡ true
blank-no_comma byte blank = ⊎_elim (λ e. ap no_comma e) (λ e. ap no_comma e) (blank_is byte blank)

blanks-no_comma : (text : List ℕ) → is_all_blank text ≡ true → list_all no_comma text ≡ true
blanks-no_comma [] blank = refl
blanks-no_comma (x ∷ text) blank =
    let both = and_parts (is_blank x) (is_all_blank text) blank in
    rw (blank-no_comma x both.0) (blanks-no_comma text both.1)

all-append : (test : ℕ → Bool) (xs ys : List ℕ) → list_all test xs ≡ true → list_all test ys ≡ true → list_all test (xs ++ ys) ≡ true
all-append test [] ys p q = q
all-append test (x ∷ xs) ys p q = let both = and_parts (test x) (list_all test xs) p in rw both.0 (all-append test xs ys both.1 q)

-- a text without blanks is trimmed
trimmed_back-plain : (text : List ℕ) → list_all plain text ≡ true → trimmed_back is_blank text ≡ text
trimmed_back-plain [] is = refl
trimmed_back-plain (x ∷ text) is =
    let both = and_parts (plain x) (list_all plain text) is in
    rw (plain_ink x both.0) (ap (λ t. x ∷ t) (trimmed_back-plain text both.1))

trimmed-plain : (text : List ℕ) → list_all plain text ≡ true → trimmed text ≡ text
trimmed-plain [] is = refl
trimmed-plain (x ∷ text) is =
    let both = and_parts (plain x) (list_all plain text) is in
    ap (trimmed_back is_blank) (cond-false (is_blank x) (trimmed_front is_blank text) (x ∷ text) (plain_ink x both.0)) ∙ trimmed_back-plain (x ∷ text) is

-- A LEADING ARTICLE
first_whole : (text : List ℕ) → first_word text ++ from_blank text ≡ text
first_whole [] = refl
first_whole (x ∷ text) = ⊎_elim (λ is. rw is refl) (λ no. rw no (ap (λ t. x ∷ t) (first_whole text))) (cases_Bool (is_blank x))

from_begins : (text : List ℕ) → (from_blank text ≡ []) ⊎ (begins is_blank (from_blank text) ≡ true)
from_begins [] = inl refl
from_begins (x ∷ text) = ⊎_elim (λ is. inr (rw is is)) (λ no. rw no (from_begins text)) (cases_Bool (is_blank x))

word_before : (word later : List ℕ) → list_all plain word ≡ true → begins is_blank later ≡ true
    → (first_word (word ++ later) ≡ word) × (from_blank (word ++ later) ≡ later)
word_before [] [] is blank = absurd (true≢false (sym blank))
word_before [] (x ∷ later) is blank = (rw blank refl, rw blank refl)
word_before (x ∷ word) later is blank =
    let both = and_parts (plain x) (list_all plain word) is in
    let ink = plain_ink x both.0 in
    let more = word_before word later both.1 blank in
    (rw ink (ap (λ t. x ∷ t) more.0), rw ink more.1)

pub parts_some : (is : Bool) (article rest : List ℕ) (p : Parts) → parts_if is article rest ≡ Some p
    → (is ≡ true) × (record { article = article; rest = rest } ≡ p)
parts_some true article rest p e = (refl, cc)
parts_some false article rest p e = cc

both_true : (a b : Bool) → a ≡ true → b ≡ true → (a && b) ≡ true
both_true a b p q = rw (p, q) refl

leading_at-is : (word later rest : List ℕ) → is_article word ≡ true → trimmed later ≡ rest → has_bytes rest ≡ true
    → leading_at word later ≡ Some (record { article = word; rest = rest })
leading_at-is word later rest is same some =
    ap (λ t. parts_if (is_article word && has_bytes t) word t) same ∙ ap (λ b. parts_if b word rest) (both_true _ _ is some)

leading_is : (title article rest : List ℕ) → HasLeading title article rest → leading title ≡ Some (record { article = article; rest = rest })
leading_is title article rest has =
    let parts = word_before article (has.blanks ++ rest) (article-plain article has.is) (blanks_begin has.blanks rest has.apart) in
    let word : first_word title ≡ article = ap first_word (sym has.whole) ∙ parts.0 in
    let later : from_blank title ≡ has.blanks ++ rest = ap from_blank (sym has.whole) ∙ parts.1 in
    ap (λ w. leading_at w (from_blank title)) word ∙ ap (leading_at article) later
    ∙ leading_at-is article (has.blanks ++ rest) rest has.is (trimmed-before has.blanks rest has.apart.blank ∙ has.more.bare) has.more.some

leading_has : (title : List ℕ) → trimmed title ≡ title → (p : Parts) → leading title ≡ Some p → HasLeading title p.article p.rest
leading_has title bare p found =
    let word = first_word title in
    let later = from_blank title in
    let parts = parts_some (is_article word && has_bytes (trimmed later)) word (trimmed later) p found in
    let tests = and_parts (is_article word) (has_bytes (trimmed later)) parts.0 in
    let law = is_trimmed later in
    let whole : (word ++ (law.front ++ trimmed later)) ++ law.back ≡ title =
    append_assoc word (law.front ++ trimmed later) law.back
    ∙ ap (λ t. word ++ t) (append_assoc law.front (trimmed later) law.back ∙ law.whole) ∙ first_whole title in
    let none : law.back ≡ [] =
    no_blanks_after (word ++ (law.front ++ trimmed later)) law.back law.back_blank (subst (λ (t : List ℕ). trimmed t ≡ t) (sym whole) bare) in
    let rest_on : law.front ++ trimmed later ≡ later =
    ap (λ t. law.front ++ t) (sym (append-nil (trimmed later)) ∙ ap (λ t. trimmed later ++ t) (sym none)) ∙ law.whole in
    let begin : begins is_blank later ≡ true =
    ⊎_elim (λ (e : later ≡ []). absurd (true≢false (sym tests.1 ∙ ap (λ t. has_bytes (trimmed t)) e))) (λ b. b) (from_begins title) in
    let has : HasLeading title word (trimmed later) = record {
      blanks = law.front;
      whole = ap (λ t. word ++ t) rest_on ∙ first_whole title;
      is = tests.0;
      apart = are_blanks law.front (trimmed later) (ap (begins is_blank) rest_on ∙ begin) (trimmed_again later) law.front_blank;
      more = record { some = tests.1; bare = trimmed_again later };
    } in
    subst (λ (q : Parts). HasLeading title q.article q.rest) parts.1 has

-- A TRAILING ARTICLE
no_cut : (text : List ℕ) → list_all no_comma text ≡ true → last_cut text ≡ None
no_cut [] is = refl
no_cut (x ∷ text) is =
    let both = and_parts (no_comma x) (list_all no_comma text) is in
    ap (onto_cut x text) (no_cut text both.1) ∙ ⊎_elim (λ e. absurd (true≢false (sym both.0 ∙ rw e refl))) (λ no. rw no refl) (cases_Bool (eqb x comma))

cut_at_last : (before tail : List ℕ) → list_all no_comma tail ≡ true → last_cut (before ++ (comma ∷ tail)) ≡ Some (before, tail)
cut_at_last [] tail is = ap (onto_cut comma tail) (no_cut tail is)
cut_at_last (x ∷ before) tail is = ap (onto_cut x (before ++ (comma ∷ tail))) (cut_at_last before tail is)

cut_onto : (x : ℕ) (text : List ℕ) (more : Option (List ℕ × List ℕ)) → ((c : List ℕ × List ℕ) → more ≡ Some c → c.0 ++ (comma ∷ c.1) ≡ text)
    → (c : List ℕ × List ℕ) → onto_cut x text more ≡ Some c → c.0 ++ (comma ∷ c.1) ≡ x ∷ text
cut_onto x text (Some m) later c e =
    let same : Some (x ∷ m.0, m.1) ≡ Some c = e in
    let parts : (x ∷ m.0, m.1) ≡ c = cc in
    subst (λ (p : List ℕ × List ℕ). p.0 ++ (comma ∷ p.1) ≡ x ∷ text) parts (ap (λ t. x ∷ t) (later m refl))
cut_onto x text None later c e = ⊎_elim
    (λ at.
    let same : Some ([], text) ≡ Some c = sym (cond-true (eqb x comma) (Some ([], text)) None at) ∙ e in
    let parts : ([], text) ≡ c = cc in
    subst (λ (p : List ℕ × List ℕ). p.0 ++ (comma ∷ p.1) ≡ x ∷ text) parts (ap (λ b. b ∷ text) (sym (eqb-true x comma at))))
    (λ other. let nothing : None ≡ Some c = sym (cond-false (eqb x comma) (Some ([], text)) None other) ∙ e in cc)
    (cases_Bool (eqb x comma))

pub cut_whole : (text : List ℕ) (c : List ℕ × List ℕ) → last_cut text ≡ Some c → c.0 ++ (comma ∷ c.1) ≡ text
cut_whole [] c e = cc
cut_whole (x ∷ text) c e = cut_onto x text (last_cut text) (cut_whole text) c e

pub both_parts : (a b c : Bool) → (a && (b && c)) ≡ true → (a ≡ true) × (b ≡ true) × (c ≡ true)
both_parts a b c e = let first = and_parts a (b && c) e in let later = and_parts b c first.1 in (first.0, later.0, later.1)

trailing_at-is : (before tail article rest : List ℕ) → begins is_blank tail ≡ true → trimmed tail ≡ article → trimmed before ≡ rest → is_article article ≡ true
    → has_bytes rest ≡ true → trailing_at (Some (before, tail)) ≡ Some (record { article = article; rest = rest })
trailing_at-is before tail article rest blank word more is some =
    ap (λ w. parts_if (begins is_blank tail && (is_article w && has_bytes (trimmed before))) w (trimmed before)) word
    ∙ ap (λ r. parts_if (begins is_blank tail && (is_article article && has_bytes r)) article r) more
    ∙ ap (λ b. parts_if b article rest) (both_true _ _ blank (both_true _ _ is some))

trailing_is : (title article rest : List ℕ) → HasTrailing title article rest → trailing title ≡ Some (record { article = article; rest = rest })
trailing_is title article rest has =
    let tail = has.blanks ++ article in
    let plain_word = article-plain article has.is in
    let whole : (rest ++ has.gap) ++ (comma ∷ tail) ≡ title = append_assoc rest has.gap (comma ∷ tail) ∙ has.whole in
    let cut : last_cut title ≡ Some (rest ++ has.gap, tail) =
    ap last_cut (sym whole)
    ∙ cut_at_last (rest ++ has.gap) tail
    (all-append no_comma has.blanks article (blanks-no_comma has.blanks has.apart.blank) (all-no_comma article plain_word)) in
    ap trailing_at cut
    ∙ trailing_at-is (rest ++ has.gap) tail article rest (blanks_begin has.blanks article has.apart)
    (trimmed-before has.blanks article has.apart.blank ∙ trimmed-plain article plain_word)
    (trimmed-after rest has.gap has.before ∙ has.more.bare) has.is has.more.some

trailing_found : (title : List ℕ) → trimmed title ≡ title → (cut : Option (List ℕ × List ℕ)) → last_cut title ≡ cut → (p : Parts) → trailing_at cut ≡ Some p
    → HasTrailing title p.article p.rest
trailing_found title bare None is p found = cc
trailing_found title bare (Some cut) is p found =
    let before = cut.0 in
    let tail = cut.1 in
    let parts = parts_some (begins is_blank tail && (is_article (trimmed tail) && has_bytes (trimmed before))) (trimmed tail) (trimmed before) p found in
    let tests = both_parts (begins is_blank tail) (is_article (trimmed tail)) (has_bytes (trimmed before)) parts.0 in
    let whole : before ++ (comma ∷ tail) ≡ title = cut_whole title cut is in
    let end = is_trimmed tail in
    let start = is_trimmed before in
    let to_end : (before ++ (comma ∷ (end.front ++ trimmed tail))) ++ end.back ≡ title =
    append_assoc before (comma ∷ (end.front ++ trimmed tail)) end.back
    ∙ ap (λ t. before ++ (comma ∷ t)) (append_assoc end.front (trimmed tail) end.back ∙ end.whole) ∙ whole in
    let none_after : end.back ≡ [] =
    no_blanks_after (before ++ (comma ∷ (end.front ++ trimmed tail))) end.back end.back_blank (subst (λ (t : List ℕ). trimmed t ≡ t) (sym to_end) bare) in
    let tail_is : end.front ++ trimmed tail ≡ tail =
    ap (λ t. end.front ++ t) (sym (append-nil (trimmed tail)) ∙ ap (λ t. trimmed tail ++ t) (sym none_after)) ∙ end.whole in
    let from_start : start.front ++ ((trimmed before ++ start.back) ++ (comma ∷ tail)) ≡ title =
    sym (append_assoc start.front (trimmed before ++ start.back) (comma ∷ tail)) ∙ ap (λ t. t ++ (comma ∷ tail)) start.whole ∙ whole in
    let none_before : start.front ≡ [] =
    no_blanks_before start.front ((trimmed before ++ start.back) ++ (comma ∷ tail)) start.front_blank
    (subst (λ (t : List ℕ). trimmed t ≡ t) (sym from_start) bare) in
    let before_is : trimmed before ++ start.back ≡ before = ap (λ t. t ++ (trimmed before ++ start.back)) (sym none_before) ∙ start.whole in
    let has : HasTrailing title (trimmed tail) (trimmed before) = record {
      gap = start.back;
      blanks = end.front;
      whole = sym (append_assoc (trimmed before) start.back (comma ∷ (end.front ++ trimmed tail)))
          ∙ ap (λ t. t ++ (comma ∷ (end.front ++ trimmed tail))) before_is ∙ ap (λ t. before ++ (comma ∷ t)) tail_is ∙ whole;
      is = tests.1;
      apart = are_blanks end.front (trimmed tail) (ap (begins is_blank) tail_is ∙ tests.0) (trimmed_again tail) end.front_blank;
      before = start.back_blank;
      more = record { some = tests.2; bare = trimmed_again before };
    } in
    subst (λ (q : Parts). HasTrailing title q.article q.rest) parts.1 has

trailing_has : (title : List ℕ) → trimmed title ≡ title → (p : Parts) → trailing title ≡ Some p → HasTrailing title p.article p.rest
trailing_has title bare p found = trailing_found title bare (last_cut title) refl p found

-- THE LAWS
pub law_of_articles : (text : List ℕ) → LawOfArticles (trimmed text)
law_of_articles text = record {
  leading = λ article rest. (
    λ found. leading_has (trimmed text) (trimmed_again text) (record { article = article; rest = rest }) found,
    λ has. leading_is (trimmed text) article rest has,
  );
  trailing = λ article rest. (
    λ found. trailing_has (trimmed text) (trimmed_again text) (record { article = article; rest = rest }) found,
    λ has. trailing_is (trimmed text) article rest has,
  );
}

pub none_found : (o : Option Parts) → ((p : Parts) → o ≡ Some p → ⊥) → o ≡ None
none_found None never = refl
none_found (Some p) never = absurd (never p refl)

no_leading : (text : List ℕ) → ((article rest : List ℕ) → HasLeading (trimmed text) article rest → ⊥) → leading (trimmed text) ≡ None
no_leading text never = none_found (leading (trimmed text)) (λ p found. never p.article p.rest (leading_has (trimmed text) (trimmed_again text) p found))

no_trailing : (text : List ℕ) → ((article rest : List ℕ) → HasTrailing (trimmed text) article rest → ⊥) → trailing (trimmed text) ≡ None
no_trailing text never = none_found (trailing (trimmed text)) (λ p found. never p.article p.rest (trailing_has (trimmed text) (trimmed_again text) p found))

pub law_of_titles : (text : List ℕ) → LawOfTitles text
law_of_titles text =
    let title = trimmed text in
    record {
      leading = λ article rest has.
          let found = leading_is title article rest has in
          (ap (λ o. small_letters (rest_after title o)) found, ap (shown_after title) found);
      trailing = λ article rest has no.
          ap (λ o. small_letters (rest_after title o)) (no_leading text no) ∙ ap (λ o. small_letters (rest_or title o)) (trailing_is title article rest has);
      other = λ no none.
          ap (λ o. small_letters (rest_after title o)) (no_leading text no) ∙ ap (λ o. small_letters (rest_or title o)) (no_trailing text none);
      shown = λ no. ap (shown_after title) (no_leading text no);
    }
