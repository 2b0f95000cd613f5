-- The row of tuplets.
use Rattle.std.proofs.Common.{◌≡◌, ℕ, zero, suc, ◌+◌, ◌<◌, ◌≤◌, Bool, true, false, ◌&&◌, cond, eqb, nat_lt, List, [], ◌∷◌, ◌++◌, length, take, drop, Some}
use Rattle.std.proofs.Common.{None, refl, ap, sym, ◌∙◌, arith, inl, inr, subst}
use Rattle.std.specs.List.{prefix_len}
use Rattle.std.specs.Char.{is_ascii_digit}
use Rattle.std.proofs.lemmas.Bool.{eqb-true, ltb-true, lt-ltb, cases_Bool}
use Rattle.std.proofs.lemmas.List.{length-take-le, append_assoc, length-append, drop-drop}
use Rattle.std.proofs.lemmas.List.Sums.{prefix_len-le-length}
use Rattle.std.proofs.Math.Seq.{take-add, drop-append_seam}
use Rattle.abc_fields.specs.Bytes.{colon, begins}
use Rattle.abc_items.specs.Marks.{is_colon, opening_parenthesis}
use Rattle.abc_keys.specs.ByteRuns.{IsRun}
use Rattle.abc_items.specs.Grammar.{AreColonParts, IsTuplet}
use Rattle.abc_items.specs.Inside.ItemRows.{colon_part, colon_parts, tuplet}
use Rattle.abc_keys.proofs.RunLaw.{front_is_run, run_is_longest, run_before}
use Rattle.abc_items.proofs.RowLengths.{IsOfRow, GivesEach}

-- COLONS AND DIGITS
-- no part begins without a colon
no_part : (text : List ℕ) → begins is_colon text ≡ false → colon_part text ≡ 0
no_part [] none = refl
no_part (byte ∷ text) none = rw none refl

-- where no colon comes, no part comes
no_parts : (most : ℕ) (text : List ℕ) → begins is_colon text ≡ false → colon_parts most text ≡ 0
no_parts zero text none = refl
no_parts (suc most) text none = rw (no_part text none) (omega (arith, no_parts most text none))

-- a colon, digits, and what follows them
one_part : (most : ℕ) (digits tail : List ℕ) → IsRun is_ascii_digit digits tail
    → colon_parts (suc most) (colon ∷ (digits ++ tail)) ≡ (1 + length digits) + colon_parts most tail
one_part most digits tail run =
    let one : 1 + length digits ≡ suc (length digits) = omega arith in
    let rest : drop (1 + length digits) (colon ∷ (digits ++ tail)) ≡ tail = ap (λ k. drop k (colon ∷ (digits ++ tail))) one ∙ drop-append_seam digits tail in
    rw (run_is_longest is_ascii_digit digits tail run) (ap (λ t. (1 + length digits) + colon_parts most t) rest)

-- parts have the length that the row gives them
parts_give : (most : ℕ) (text rest : List ℕ) → AreColonParts most text rest → colon_parts most (text ++ rest) ≡ length text
parts_give zero text rest are = sym (ap length are)
parts_give (suc most) text rest (inl none) = ap (λ t. colon_parts (suc most) (t ++ rest)) none.0 ∙ no_parts (suc most) rest none.1 ∙ sym (ap length none.0)
parts_give (suc most) text rest (inr some) =
    let digits = some.0 in
    let later = some.1 in
    let line : text ++ rest ≡ colon ∷ (digits ++ (later ++ rest)) = ap (λ t. t ++ rest) some.4 ∙ ap (λ t. colon ∷ t) (append_assoc digits later rest) in
    let long : length text ≡ suc (length digits + length later) = ap length some.4 ∙ simp length-append refl in
    let sum : (1 + length digits) + length later ≡ length text = omega arith in
    ap (colon_parts (suc most)) line ∙ one_part most digits (later ++ rest) some.2 ∙ ap (λ k. (1 + length digits) + k) (parts_give most later rest some.3) ∙ sum

-- parts of no length
empty_parts : (most n : ℕ) (text : List ℕ) → n ≡ 0 → begins is_colon text ≡ false → AreColonParts (suc most) (take n text) (drop n text)
empty_parts most n text none other =
    let P : ℕ → Type 0 = λ k. AreColonParts (suc most) (take k text) (drop k text) in
    subst P (sym none) (inl (refl, other))

-- a first part, and the parts after it
more_parts : (most byte : ℕ) (text : List ℕ) (k j : ℕ) → eqb byte colon ≡ true → IsRun is_ascii_digit (take k text) (drop k text)
    → AreColonParts most (take j (drop k text)) (drop j (drop k text))
    → AreColonParts (suc most) (take ((1 + k) + j) (byte ∷ text)) (drop ((1 + k) + j) (byte ∷ text))
more_parts most byte text k j same run parts =
    let all : (1 + k) + j ≡ suc (k + j) = omega arith in
    let front : take ((1 + k) + j) (byte ∷ text) ≡ colon ∷ (take k text ++ take j (drop k text)) =
    ap (λ n. take n (byte ∷ text)) all ∙ (λ i. eqb-true byte colon same i ∷ take-add k j text i) in
    let rest : drop ((1 + k) + j) (byte ∷ text) ≡ drop j (drop k text) = ap (λ n. drop n (byte ∷ text)) all ∙ sym (drop-drop j k text) in
    let run_there = run_before is_ascii_digit (take k text) (drop k text) j run in
    let P : List ℕ → Type 0 = λ r. AreColonParts (suc most) (take ((1 + k) + j) (byte ∷ text)) r in
    subst P (sym rest) (inr (take k text, take j (drop k text), run_there, parts, front))

-- a part at the front, and the parts after it
next_parts : (most byte : ℕ) (text : List ℕ) → eqb byte colon ≡ true
    → ((line : List ℕ) → AreColonParts most (take (colon_parts most line) line) (drop (colon_parts most line) line))
    → AreColonParts (suc most) (take (colon_parts (suc most) (byte ∷ text)) (byte ∷ text)) (drop (colon_parts (suc most) (byte ∷ text)) (byte ∷ text))
next_parts most byte text same later =
    let k = prefix_len is_ascii_digit text in
    let j = colon_parts most (drop k text) in
    let one : 1 + k ≡ suc k = omega arith in
    let rest : drop (1 + k) (byte ∷ text) ≡ drop k text = ap (λ n. drop n (byte ∷ text)) one in
    let sum : colon_parts (suc most) (byte ∷ text) ≡ (1 + k) + j = rw same (ap (λ t. (1 + k) + colon_parts most t) rest) in
    let P : ℕ → Type 0 = λ n. AreColonParts (suc most) (take n (byte ∷ text)) (drop n (byte ∷ text)) in
    subst P (sym sum) (more_parts most byte text k j same (front_is_run is_ascii_digit text) (later (drop k text)))

-- the length that the row gives is that of parts
parts_are : (most : ℕ) (line : List ℕ) → AreColonParts most (take (colon_parts most line) line) (drop (colon_parts most line) line)
parts_are zero line = refl
parts_are (suc most) [] = empty_parts most (colon_parts (suc most) []) [] (no_parts (suc most) [] refl) refl
parts_are (suc most) (byte ∷ text) = elim (cases_Bool (eqb byte colon)) [
  | inl same ↦ next_parts most byte text same (parts_are most)
  | inr other ↦ empty_parts most (colon_parts (suc most) (byte ∷ text)) (byte ∷ text) (no_parts (suc most) (byte ∷ text) other) other
]

-- TUPLETS
-- where each test of the row passes, it gives a length
tuplet_tests : (x : Bool) (n m k j : ℕ) → x ≡ true → n ≡ m → k ≡ j → cond (true && x) (Some (1 + n + k)) None ≡ Some (1 + m + j)
tuplet_tests true n m k j p same also = λ i. Some (1 + same i + also i)
tuplet_tests false n m k j p same also = absurd (cc)

-- the row gives a tuplet its length
tuplet_line : (digits later rest : List ℕ) → 0 < length digits → IsRun is_ascii_digit digits (later ++ rest) → AreColonParts 2 later rest
    → tuplet (opening_parenthesis ∷ (digits ++ (later ++ rest))) ≡ Some (1 + length digits + length later)
unfolding tuplet
tuplet_line digits later rest some run parts =
    let line = digits ++ (later ++ rest) in
    let long : prefix_len is_ascii_digit line ≡ length digits = run_is_longest is_ascii_digit digits (later ++ rest) run in
    tuplet_tests (nat_lt 0 (prefix_len is_ascii_digit line)) (prefix_len is_ascii_digit line) (length digits)
    (colon_parts 2 (drop (prefix_len is_ascii_digit line) line)) (length later)
    (lt-ltb 0 (prefix_len is_ascii_digit line) (omega arith)) long
    (ap (λ k. colon_parts 2 (drop k line)) long ∙ ap (colon_parts 2) (drop-append_seam digits (later ++ rest)) ∙ parts_give 2 later rest parts)

-- each tuplet has the length that the row gives
pub tuplet_gives : GivesEach IsTuplet tuplet
tuplet_gives text rest is =
    let line : text ++ rest ≡ opening_parenthesis ∷ (is.digits ++ (is.later ++ rest)) =
    ap (λ t. t ++ rest) is.whole ∙ ap (λ t. opening_parenthesis ∷ t) (append_assoc is.digits is.later rest) in
    let long : length text ≡ suc (length is.digits + length is.later) = ap length is.whole ∙ simp length-append refl in
    let sum : 1 + length is.digits + length is.later ≡ length text = omega arith in
    ap tuplet line ∙ tuplet_line is.digits is.later rest is.some is.run is.parts ∙ ap Some sum

-- by the tests of the row
tuplet_cases : (byte : ℕ) (text : List ℕ) (x y : Bool) → eqb byte opening_parenthesis ≡ x → nat_lt 0 (prefix_len is_ascii_digit text) ≡ y
    → IsOfRow IsTuplet (byte ∷ text)
    (cond (x && y) (Some (1 + prefix_len is_ascii_digit text + colon_parts 2 (drop (prefix_len is_ascii_digit text) text))) None)
tuplet_cases byte text false y p q = tt
tuplet_cases byte text true false p q = tt
tuplet_cases byte text true true p q =
    let k = prefix_len is_ascii_digit text in
    let j = colon_parts 2 (drop k text) in
    let all : (1 + k) + j ≡ suc (k + j) = omega arith in
    let within : k ≤ length text = prefix_len-le-length is_ascii_digit text in
    let long : length (take k text) ≡ k = length-take-le k text within in
    let some : 0 < k = ltb-true 0 k q in
    let rest : drop ((1 + k) + j) (byte ∷ text) ≡ drop j (drop k text) = ap (λ n. drop n (byte ∷ text)) all ∙ sym (drop-drop j k text) in
    let P : List ℕ → Type 0 = λ r. IsTuplet (take ((1 + k) + j) (byte ∷ text)) r in
    subst P (sym rest) (record {
      digits = take k text;
      later = take j (drop k text);
      some = omega arith;
      run = run_before is_ascii_digit (take k text) (drop k text) j (front_is_run is_ascii_digit text);
      parts = parts_are 2 (drop k text);
      whole = ap (λ n. take n (byte ∷ text)) all ∙ (λ i. eqb-true byte opening_parenthesis p i ∷ take-add k j text i);
    })

-- each length that the row gives is that of a tuplet
pub tuplet_is : (line : List ℕ) → IsOfRow IsTuplet line (tuplet line)
unfolding tuplet
tuplet_is [] = tt
tuplet_is (byte ∷ text) = tuplet_cases byte text (eqb byte opening_parenthesis) (nat_lt 0 (prefix_len is_ascii_digit text)) refl refl
