-- Where words stand in texts.
use Rattle.std.proofs.Common.{◌≡◌, ℕ, zero, suc, ◌+◌, ◌<◌, ◌≤◌, Bool, true, false, List, [], ◌∷◌, length, take, drop, refl, sym, ap, ◌∙◌, arith, Option, None}
use Rattle.std.proofs.Common.{Some, is_some, ◌++◌, subst, inl, inr}
use Rattle.std.proofs.lemmas.Bool.{and_from, or_left, or_right, or_cases, false_from_ne_true, le-leb}
use Rattle.std.specs.Prelude.{◌↔◌}
use Rattle.std.proofs.lemmas.Bool.Decides.{Decides-eqb}
use Rattle.std.proofs.lemmas.Slice.Eq.{bytes_eq-Decides, starts_is}
use Rattle.std.proofs.lemmas.List.{length-take, length-drop}
use Rattle.memchr.specs.Find.{OccursAt, FindsNeedle}
use Rattle.memchr.proofs.lemmas.MatchLemmas.{OccursAt-true, OccursAt-part}
use Rattle.desk_lists.specs.FoldedWords.{BeginsWithWord, StandsIn, begins_with_word, stands_in}

stands_at : (word text : List ℕ) (k : ℕ) → begins_with_word word (drop k text) ≡ true → stands_in word text ≡ true
stands_at word [] zero is = is
stands_at word [] (suc k) is = is
stands_at word (byte ∷ text) zero is = or_left _ _ is
stands_at word (byte ∷ text) (suc k) is = or_right (begins_with_word word (byte ∷ text)) (stands_in word text) (stands_at word text k is)

stands_nowhere : (word text : List ℕ) → ((k : ℕ) → k ≤ length text → begins_with_word word (drop k text) ≡ false) → stands_in word text ≡ false
stands_nowhere word [] none = none 0 (omega arith)
stands_nowhere word (byte ∷ text) none =
    let first : begins_with_word word (byte ∷ text) ≡ false = none 0 (omega arith) in
    let later : stands_in word text ≡ false = stands_nowhere word text (λ k within. none (suc k) (omega arith)) in
    rw (first, later)

occurs_begins : (word text : List ℕ) (k : ℕ) → OccursAt text word k → begins_with_word word (drop k text) ≡ true
occurs_begins word text k occurs = (bytes_eq-Decides word (take (length word) (drop k text))).1 (sym (OccursAt-part text word k occurs))

begins_occurs : (word text : List ℕ) (k : ℕ) → k ≤ length text → begins_with_word word (drop k text) ≡ true → OccursAt text word k
begins_occurs word text k within is =
    let same : word ≡ take (length word) (drop k text) = (bytes_eq-Decides word (take (length word) (drop k text))).0 is in
    let long : length word ≡ length (take (length word) (drop k text)) = ap length same in
    OccursAt-true text word k (and_from _ _
    (le-leb _ _ (omega (arith, length-take (length word) (drop k text), length-drop k text)))
    ((bytes_eq-Decides (take (length word) (drop k text)) word).1 (sym same)))

-- what a search for a word says
pub found_stands : (text word : List ℕ) (r : Option ℕ) → FindsNeedle text word 0 r → is_some r ≡ stands_in word text
found_stands text word None none =
    sym (stands_nowhere word text (λ k within. false_from_ne_true _ (λ is. none k (omega arith) (omega arith) (begins_occurs word text k within is))))
found_stands text word (Some k) found = sym (stands_at word text k (occurs_begins word text k found.1))

-- the same by fronts and rests
pub begins_is : (word text : List ℕ) → (begins_with_word word text ≡ true) ↔ BeginsWithWord word text
begins_is word text =
    let is = starts_is Decides-eqb text word (begins_with_word word text) refl in
    (λ yes. (drop (length word) text, is.0 yes), λ (b : BeginsWithWord word text). is.1 b.0 b.1)

stands_after : (word front rest : List ℕ) → stands_in word (front ++ (word ++ rest)) ≡ true
stands_after word [] rest = stands_at word (word ++ rest) 0 ((begins_is word (word ++ rest)).1 (rest, refl))
stands_after word (byte ∷ front) rest = or_right (begins_with_word word (byte ∷ (front ++ (word ++ rest)))) (stands_in word (front ++ (word ++ rest)))
    (stands_after word front rest)

stands_from : (word text : List ℕ) → stands_in word text ≡ true → StandsIn word text
stands_from word [] is = let b = (begins_is word []).0 is in ([], b.0, b.1)
stands_from word (byte ∷ text) is = elim (or_cases (begins_with_word word (byte ∷ text)) (stands_in word text) is) [
  | inl first ↦ let b = (begins_is word (byte ∷ text)).0 first in ([], b.0, b.1)
  | inr later ↦ let s = stands_from word text later in (byte ∷ s.0, s.1, ap (λ t. byte ∷ t) s.2)
]

pub stands_is : (word text : List ℕ) → (stands_in word text ≡ true) ↔ StandsIn word text
stands_is word text = (
  stands_from word text,
  λ (s : StandsIn word text). subst (λ t. stands_in word t ≡ true) (sym s.2) (stands_after word s.0 s.1),
)
