-- Where a search finds the first blank and the last comma of a title.
use Rattle.std.proofs.Common.{◌≡◌, ℕ, zero, suc, ◌<◌, true, false, eqb, List, [], ◌∷◌, length, take, drop, get_or, Some, None, refl, ap, arith}
use Rattle.std.proofs.lemmas.Bool.{false_from_ne_true}
use Rattle.abc_fields.specs.Bytes.{is_blank}
use Rattle.tune_titles.specs.Articles.{first_word, from_blank, onto_cut, last_cut, comma}

-- THE FIRST BLANK
pub word_at : (text : List ℕ) (k : ℕ) → ((j : ℕ) → j < k → is_blank (get_or text j 0) ≡ true → ⊥) → k < length text → is_blank (get_or text k 0) ≡ true
    → (first_word text ≡ take k text) × (from_blank text ≡ drop k text)
word_at [] k none within is = absurd (omega arith)
word_at (byte ∷ text) zero none within is = (rw is refl, rw is refl)
word_at (byte ∷ text) (suc k) none within is =
    let not : is_blank byte ≡ false = false_from_ne_true (is_blank byte) (none 0 (omega arith)) in
    let later = word_at text k (λ j lt. none (suc j) (omega arith)) (omega arith) is in
    (rw not (ap (λ t. byte ∷ t) later.0), rw not later.1)

pub no_blank : (text : List ℕ) → ((j : ℕ) → j < length text → is_blank (get_or text j 0) ≡ true → ⊥) → from_blank text ≡ []
no_blank [] none = refl
no_blank (byte ∷ text) none = rw (false_from_ne_true (is_blank byte) (none 0 (omega arith))) (no_blank text (λ j lt. none (suc j) (omega arith)))

-- THE LAST COMMA
pub no_cut : (text : List ℕ) → ((j : ℕ) → j < length text → eqb (get_or text j 0) comma ≡ true → ⊥) → last_cut text ≡ None
no_cut [] none = refl
no_cut (byte ∷ text) none = rw (no_cut text (λ j lt. none (suc j) (omega arith)), false_from_ne_true (eqb byte comma) (none 0 (omega arith))) refl

pub cut_at : (text : List ℕ) (k : ℕ) → ((j : ℕ) → k < j → j < length text → eqb (get_or text j 0) comma ≡ true → ⊥)
    → k < length text → eqb (get_or text k 0) comma ≡ true
    → last_cut text ≡ Some (take k text, drop (suc k) text)
cut_at [] k none within is = absurd (omega arith)
cut_at (byte ∷ text) zero none within is = rw (no_cut text (λ j lt. none (suc j) (omega arith) (omega arith)), is) refl
cut_at (byte ∷ text) (suc k) none within is = ap (onto_cut byte text) (cut_at text k (λ j lt l. none (suc j) (omega arith) (omega arith)) (omega arith) is)
