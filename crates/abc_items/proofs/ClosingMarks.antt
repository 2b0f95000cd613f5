-- What a search for a closing mark finds.
use Rattle.std.proofs.Common.{◌≡◌, ℕ, zero, suc, ◌+◌, ◌<◌, Bool, true, false, not, ◌||◌, cond, eqb, List, [], ◌∷◌, ◌++◌, length, take, drop, get_or, Option}
use Rattle.std.proofs.Common.{Some, None, refl, ap, sym, ◌∙◌, arith, inl, inr}
use Rattle.std.specs.Prelude.{⊤}
use Rattle.std.specs.Option.{is_some, unwrap_or}
use Rattle.memchr.specs.Find.{IsFirstByte, is_byte, is_byte3}
use Rattle.std.proofs.lemmas.List.Sums.{prefix_len_is}
use Rattle.std.specs.List.{prefix_len}
use Rattle.std.proofs.lemmas.Bool.{eqb-true, eq-eqb, and_parts, and_from, not-true, not_from_false, false_from_ne_true, cases_Bool}
use Rattle.abc_items.specs.Marks.{closing_brace, closing_bracket, has_no, is_chord_byte, bar_mark, opening_bracket}
use Rattle.abc_items.specs.Inside.ItemRows.{up_to, longer}
use Rattle.abc_items.specs.declared.item_rows.Misses.{Misses}
use Rattle.abc_items.specs.Inside.Misses.{AreMissing}

-- no byte below this index is the mark
abbrev pub NoneBelow : ℕ → List ℕ → ℕ → Type 0
NoneBelow mark text n = (j : ℕ) → j < n → eqb (get_or text j 0) mark ≡ true → ⊥

-- the first byte that is the mark is where the search ends
pub up_to_first : (mark : ℕ) (text : List ℕ) (n : ℕ) → NoneBelow mark text n → n < length text → eqb (get_or text n 0) mark ≡ true
    → up_to mark text ≡ Some (n + 1)
up_to_first mark [] n none within here = absurd (omega arith)
up_to_first mark (byte ∷ text) zero none within here = rw here refl
up_to_first mark (byte ∷ text) (suc n) none within here =
    let one : (n + 1) + 1 ≡ suc n + 1 = omega arith in
    rw (false_from_ne_true (eqb byte mark) (none 0 (omega arith)))
    (ap (longer 1) (up_to_first mark text n (λ j low. none (suc j) (omega arith)) (omega arith) here) ∙ ap Some one)

-- where no byte is the mark, it is found nowhere
pub up_to_nowhere : (mark : ℕ) (text : List ℕ) → NoneBelow mark text (length text) → up_to mark text ≡ None
up_to_nowhere mark [] none = refl
up_to_nowhere mark (byte ∷ text) none =
    rw (false_from_ne_true (eqb byte mark) (none 0 (omega arith))) (ap (longer 1) (up_to_nowhere mark text (λ j low. none (suc j) (omega arith))))

-- a text without the mark, byte by byte
other_byte : (mark byte : ℕ) (text : List ℕ) → has_no mark (byte ∷ text) ≡ true → (eqb byte mark ≡ false) × (has_no mark text ≡ true)
other_byte mark byte text none = let parts = and_parts (not (eqb byte mark)) (has_no mark text) none in (not-true (eqb byte mark) parts.0, parts.1)

-- a mark that is missing is not found
pub missing_not_found : (mark : ℕ) (text : List ℕ) → has_no mark text ≡ true → up_to mark text ≡ None
missing_not_found mark [] none = refl
missing_not_found mark (byte ∷ text) none = let parts = other_byte mark byte text none in rw (parts.0) (ap (longer 1) (missing_not_found mark text parts.1))

-- a length is not none
some_not_none : (n : ℕ) → Some n ≡ None → ⊥
some_not_none n same = absurd (cc)

-- no length comes of none
longer_none : (more : ℕ) (found : Option ℕ) → longer more found ≡ None → found ≡ None
longer_none more None is = refl
longer_none more (Some n) is = absurd (some_not_none (n + more) is)

-- a mark that is not found is missing
pub not_found_missing : (mark : ℕ) (text : List ℕ) → up_to mark text ≡ None → has_no mark text ≡ true
not_found_missing mark [] none = refl
not_found_missing mark (byte ∷ text) none = elim (cases_Bool (eqb byte mark)) [
  | inl same ↦ absurd (some_not_none 1 (rw same at none))
  | inr other ↦
      let later : longer 1 (up_to mark text) ≡ None = rw other at none in
      rw other (not_found_missing mark text (longer_none 1 (up_to mark text) later))
]

-- what is missing from a text is missing from its rest
pub missing_from_rest : (mark n : ℕ) (text : List ℕ) → has_no mark text ≡ true → has_no mark (drop n text) ≡ true
missing_from_rest mark zero text none = none
missing_from_rest mark (suc n) [] none = refl
missing_from_rest mark (suc n) (byte ∷ text) none = missing_from_rest mark n text ((other_byte mark byte text none).1)

-- bytes other than the mark, and the mark, are what a search passes over
pub search_passes : (mark : ℕ) (inside rest : List ℕ) → has_no mark inside ≡ true → up_to mark (inside ++ (mark ∷ rest)) ≡ Some (length inside + 1)
search_passes mark [] rest none = rw (eq-eqb mark mark refl) refl
search_passes mark (byte ∷ inside) rest none =
    let parts = other_byte mark byte inside none in
    let one : (length inside + 1) + 1 ≡ suc (length inside) + 1 = omega arith in
    rw (parts.0) (ap (longer 1) (search_passes mark inside rest parts.1) ∙ ap Some one)

-- what a search found: bytes other than the mark, and the mark
pub record IsClosed (mark : ℕ) (text : List ℕ) (n : ℕ) : Type 0 where
  pub inside : List ℕ
  pub plain : has_no mark inside ≡ true
  pub whole : take n text ≡ inside ++ mark ∷ []

-- the answer of a search, if there is one, is such a length
abbrev pub FindsMark : ℕ → List ℕ → Option ℕ → Type 0
FindsMark mark text None = ⊤
FindsMark mark text (Some n) = IsClosed mark text n

-- one byte before a text that was searched
finds_more : (mark byte : ℕ) (text : List ℕ) (c : Bool) (found : Option ℕ) → eqb byte mark ≡ c → FindsMark mark text found
    → FindsMark mark (byte ∷ text) (cond c (Some 1) (longer 1 found))
finds_more mark byte text true found same finds = record { inside = []; plain = refl; whole = ap (λ b. b ∷ []) (eqb-true byte mark same) }
finds_more mark byte text false None same finds = tt
finds_more mark byte text false (Some n) same finds =
    let one : n + 1 ≡ suc n = omega arith in record {
      inside = byte ∷ finds.inside;
      plain = and_from (not (eqb byte mark)) (has_no mark finds.inside) (not_from_false (eqb byte mark) same) finds.plain;
      whole = ap (λ k. take k (byte ∷ text)) one ∙ ap (λ t. byte ∷ t) finds.whole;
    }

-- what a search finds is bytes other than the mark, and the mark
pub search_finds : (mark : ℕ) (text : List ℕ) → FindsMark mark text (up_to mark text)
search_finds mark [] = tt
search_finds mark (byte ∷ text) = finds_more mark byte text (eqb byte mark) (up_to mark text) refl (search_finds mark text)

-- WHAT THE CODE'S SEARCHES FIND
-- one byte more than a search's answer
pub search_is : (mark : ℕ) (text : List ℕ) (found : Option ℕ) → IsFirstByte (is_byte mark) text found → up_to mark text ≡ longer 1 found
search_is mark text None none = up_to_nowhere mark text (λ j low. none j (omega arith) low)
search_is mark text (Some n) here = up_to_first mark text n (λ j low. here.0.before j (omega arith) low) here.0.high here.1

-- where a search finds nothing, the mark is missing
pub none_is_missing : (mark : ℕ) (text : List ℕ) (found : Option ℕ) (none : Bool) → is_some found ≡ not none → found ≡ up_to mark text → none ≡ true
    → has_no mark text ≡ true
none_is_missing mark text None none is value true_is = not_found_missing mark text (sym value)
none_is_missing mark text (Some n) none is value true_is = let no : true ≡ not none = is in absurd (cc (ap not true_is))

-- a byte that ends the inside of a chord
chord_test : (x y z : Bool) → not (x || (y || (z || false))) ≡ not ((x || y) || z)
chord_test true y z = refl
chord_test false true z = refl
chord_test false false true = refl
chord_test false false false = refl

-- the bytes of a chord are those that the search for its end passes over
chord_byte_is : (byte : ℕ) → is_chord_byte byte ≡ not (is_byte3 opening_bracket closing_bracket bar_mark byte)
chord_byte_is byte = chord_test (eqb byte opening_bracket) (eqb byte closing_bracket) (eqb byte bar_mark)

-- the inside of a chord is searched to the first such byte
pub chord_search_is : (text : List ℕ) (found : Option ℕ) → IsFirstByte (is_byte3 opening_bracket closing_bracket bar_mark) text found
    → prefix_len is_chord_byte text ≡ unwrap_or found (length text)
chord_search_is text None none = prefix_len_is is_chord_byte text (length text) 0 (omega arith)
    (λ k low. chord_byte_is (get_or text k 0)
    ∙ ap not (false_from_ne_true (is_byte3 opening_bracket closing_bracket bar_mark (get_or text k 0)) (none k (omega arith) low)))
    (λ past. absurd (omega arith))
chord_search_is text (Some n) here = prefix_len_is is_chord_byte text n 0 (omega (arith, here.0.high))
    (λ k low. chord_byte_is (get_or text k 0)
    ∙ ap not (false_from_ne_true (is_byte3 opening_bracket closing_bracket bar_mark (get_or text k 0)) (here.0.before k (omega arith) low)))
    (λ _. chord_byte_is (get_or text n 0) ∙ ap not here.1)

-- what is remembered of a text holds of its rest
pub missing_later : (misses : Misses) (n : ℕ) (text : List ℕ) → AreMissing misses text → AreMissing misses (drop n text)
missing_later misses n text are = record {
  brace = λ known. missing_from_rest closing_brace n text (are.brace known);
  bracket = λ known. missing_from_rest closing_bracket n text (are.bracket known);
}
