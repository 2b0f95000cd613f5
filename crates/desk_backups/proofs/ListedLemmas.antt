-- Names that are COPY.N, and their numbers.
use Rattle.std.proofs.Common.{◌≡◌, ◌≢◌, ℕ, ◌+◌, ◌^◌, ◌≤◌, ◌<◌, List, [], ◌∷◌, ◌++◌, Option, Some, None, Result, Ok, Err, codes, refl, ap, sym, ◌∙◌}
use Rattle.std.proofs.Common.{subst, arith, length, get_or, inl, inr, lit<, drop, map, take}
use Rattle.std.proofs.lemmas.List.{append_cancel_left, map-append, take_more}
use Rattle.std.proofs.lemmas.List.Elements.{Contains-append_left, Contains-push, Contains-push_cases}
use Rattle.std.proofs.lemmas.List.Sorted.{Contains-permutation, IsPermutation-sym}
use Rattle.std.proofs.lemmas.List.Elements.{All-from_get_or}
use Rattle.std.proofs.lemmas.Fmt.{decimal-digits_value, decimal_digit, digits_decimal, first_decimal, length-decimal-le, parse-decimal}
use Rattle.std.proofs.lemmas.Str.Parse.{IsNumeralModel, digits_value_short, numerals_by_value, parse_digits, tells_by_index}
use Rattle.std.specs.Char.{IsAsciiDigit}
use Rattle.std.specs.Int.{IsInRange}
use Rattle.std.specs.List.{All, Contains}
use Rattle.std.specs.Prelude.{IfSome}
use Rattle.std.specs.Result.{OkIff, result_ok}
use Rattle.std.specs.Str.Parse.{ParsesUnsigned, digits_value}
use Rattle.std.specs.List.Sorted.{IsPermutation}
use Rattle.std.specs.Path.{path_file_name}
use Rattle.std.specs.Prelude.{decimal}
use Rattle.desk_backups.specs.Inside.Numbering.{AreListedCopies, AreNumbered, IsCopyNumber}
use Rattle.desk_backups.specs.NextCopies.{IsCopyName}

pub contains_none : {X : Type 0} (x : X) → Contains [] x → ⊥
contains_none x h = let within = h.1 in omega arith

-- DIGITS
abbrev AreDigits : List ℕ → Type 0
AreDigits ds = (i : ℕ) → i < length ds → IsInRange 48 57 (get_or ds i 0)

own : IsNumeralModel AreDigits (digits_value 10)
own = numerals_by_value AreDigits tells_by_index

-- what the number of a copy is written by
module _ (digits : List ℕ) (number : ℕ) (h : IsCopyNumber digits number) where
  small : number < 2 ^ 64
  small = let short = h.short in omega arith

  pub copy_digits_short : length digits ≤ 9
  copy_digits_short = subst (λ l. length l ≤ 9) (sym h.written) (length-decimal-le 9 number (lit< tt) h.short small)

  pub copy_digits_first : get_or digits 0 0 ≢ 48
  copy_digits_first =
      let above : 48 < get_or digits 0 0 = subst (λ l. 48 < get_or l 0 0) (sym h.written) (first_decimal number h.some small) in
      λ is. absurd (omega arith)

  pub copy_digits_each : All IsAsciiDigit digits
  copy_digits_each = All-from_get_or IsAsciiDigit digits 0 (subst AreDigits (sym h.written) (digits_decimal own number small))

-- and how it is read
module _ {E : Type 0} (digits : List ℕ) (r : Result ℕ E) (reads : ParsesUnsigned 32 10 digits r) where
  pub copy_number_read : (number : ℕ) → IsCopyNumber digits number → r ≡ Ok number
  copy_number_read number h = let short = h.short in parse-decimal 32 number digits r (omega arith) (omega arith) h.written reads

  pub copy_number_by : length digits ≤ 9 → get_or digits 0 0 ≢ 48 → All IsAsciiDigit digits → (number : ℕ) → r ≡ Ok number
      → IsCopyNumber digits number
  copy_number_by short first each number is =
      let are : AreDigits digits = λ i low. each i 0 low in
      let value = digits_value 10 digits in
      let told : ((0 < length digits) × (value < 2 ^ 32)) × (number ≡ value) =
      subst (λ r. OkIff r ((0 < length digits) × (value < 2 ^ 32)) value) is (parse_digits own 32 digits r reads are) in
      let fits : value < 2 ^ 32 = told.0.1 in
      let same : number ≡ value = told.1 in
      let written : decimal value ≡ digits = decimal-digits_value own digits are told.0.0 (λ e. absurd (first e)) (omega arith) in
      let low : value < 10 ^ 9 = digits_value_short own digits 9 are short in
      let some : number ≢ 0 = λ none.
      first (ap (λ l. get_or l 0 0) (sym written ∙ ap (λ n. decimal n) (sym same ∙ none) ∙ decimal_digit 0 (lit< tt))) in
      record { some = omega arith; short = omega arith; written = sym written ∙ ap (λ n. decimal n) (sym same) }

-- what was read, as a number or none
pub copy_number_told : {E : Type 0} (digits : List ℕ) (r : Result ℕ E) → ParsesUnsigned 32 10 digits r → (found : Option ℕ) → found ≡ result_ok r
    → length digits ≤ 9 → get_or digits 0 0 ≢ 48 → All IsAsciiDigit digits → IfSome found (IsCopyNumber digits)
copy_number_told {E} digits (Ok number) reads found e short first each =
    subst (λ f. IfSome f (IsCopyNumber digits)) (sym e) (copy_number_by {E = E} digits (Ok number) reads short first each number (same number))
  where
    same : (number : ℕ) → ◌≡◌ {A = Result ℕ E} (Ok number) (Ok number)
    same number = refl
copy_number_told {E} digits (Err why) reads found e short first each = subst (λ f. IfSome f (IsCopyNumber digits)) (sym e) tt

-- NAMES
pub front_of : (last name rest : List ℕ) (count : ℕ) → rest ≡ drop count name → name ≡ last ++ drop count name → name ≡ last ++ rest
front_of last name rest count cut front = front ∙ ap (λ l. last ++ l) (sym cut)

module _ (last name rest digits : List ℕ) (front : name ≡ last ++ rest) (back : rest ≡ codes "." ++ digits) (number : ℕ) where
  pub named_by : IsCopyNumber digits number → IsCopyName last name number
  named_by h = record {
    some = h.some;
    short = h.short;
    is = front ∙ ap (λ l. last ++ l) back ∙ ap (λ l. last ++ (codes "." ++ l)) h.written;
  }

  pub number_by : IsCopyName last name number → IsCopyNumber digits number
  number_by h = record {
    some = h.some;
    short = h.short;
    written = append_cancel_left (codes ".") digits (decimal number)
        (append_cancel_left last (codes "." ++ digits) (codes "." ++ decimal number) (sym (front ∙ ap (λ l. last ++ l) back) ∙ h.is));
  }

pub no_front : (last name : List ℕ) → ((rest : List ℕ) → name ≢ last ++ rest) → (number : ℕ) → IsCopyName last name number → ⊥
no_front last name none number h = none _ h.is

pub no_dot : (last name rest : List ℕ) → name ≡ last ++ rest → ((digits : List ℕ) → rest ≢ 46 ∷ digits) → (number : ℕ) → IsCopyName last name number → ⊥
no_dot last name rest front none number h =
    none (decimal number) (append_cancel_left last rest (codes "." ++ decimal number) (sym front ∙ h.is))

-- THEIR NUMBERS
pub numbered_none : (last : List ℕ) (numbers : List ℕ) → numbers ≡ [] → AreNumbered last [] numbers
numbered_none last numbers none = record {
  each = λ number has. absurd (contains_none number (subst (λ l. Contains l number) none has));
  all = λ name number has is. absurd (contains_none name has);
}

module _ (last name : List ℕ) (names more : List (List ℕ)) (numbers : List ℕ) (h : AreNumbered last names numbers) (e : more ≡ names ++ name ∷ []) where
  earlier : (each : List ℕ) → Contains names each → Contains more each
  earlier each has = subst (λ l. Contains l each) (sym e) (Contains-append_left names (name ∷ []) each has)

  here : Contains more name
  here = subst (λ l. Contains l name) (sym e) (Contains-push names name)

  pub numbered_more : (number : ℕ) → IsCopyName last name number → ((other : ℕ) → IsCopyName last name other → Some number ≡ Some other)
      → AreNumbered last more (numbers ++ number ∷ [])
  numbered_more number is one = record { each = each; all = all }
    where
      each : (n : ℕ) → Contains (numbers ++ number ∷ []) n → (m : List ℕ) × Contains more m × IsCopyName last m n
      each n has = elim (Contains-push_cases numbers number n has) [
        | inl k ↦ let found = h.each n k in (found.0, earlier found.0 found.1, found.2)
        | inr same ↦ (name, here, subst (IsCopyName last name) same is)
      ]

      all : (m : List ℕ) (n : ℕ) → Contains more m → IsCopyName last m n → Contains (numbers ++ number ∷ []) n
      all m n has k = elim (Contains-push_cases names name m (subst (λ l. Contains l m) e has)) [
        | inl old ↦ Contains-append_left numbers (number ∷ []) n (h.all m n old k)
        | inr same ↦
            let found : Some number ≡ Some n = one n (subst (λ l. IsCopyName last l n) (sym same) k) in
            let at : number ≡ n = cc in
            subst (Contains (numbers ++ number ∷ [])) at (Contains-push numbers number)
      ]

  pub numbered_same : ((other : ℕ) → IsCopyName last name other → ⊥) → AreNumbered last more numbers
  numbered_same none = record {
    each = λ n has. let found = h.each n has in (found.0, earlier found.0 found.1, found.2);
    all = all;
  }
    where
      all : (m : List ℕ) (n : ℕ) → Contains more m → IsCopyName last m n → Contains numbers n
      all m n has k = elim (Contains-push_cases names name m (subst (λ l. Contains l m) e has)) [
        | inl old ↦ h.all m n old k
        | inr same ↦ absurd (none n (subst (λ l. IsCopyName last l n) (sym same) k))
      ]

pub more_names : {X : Type 0} (f : X → List ℕ) (xs : List X) (i : ℕ) (x : X) → i < length xs → x ≡ get_or xs i x
    → map f (take (i + 1) xs) ≡ map f (take i xs) ++ f x ∷ []
more_names f xs i x low is = ap (map f) (take_more xs i x low) ∙ map-append f (take i xs) (get_or xs i x ∷ [])
    ∙ ap (λ y. map f (take i xs) ++ f y ∷ []) (sym is)

-- and those of COPY
pub listed_by : (copy last : List ℕ) (names : List (List ℕ)) (numbers sorted : List ℕ) → path_file_name copy ≡ Some last
    → AreNumbered last names numbers → IsPermutation numbers sorted → AreListedCopies copy names sorted
listed_by copy last names numbers sorted e h moved = record {
  each = λ number has. let found = h.each number (Contains-permutation sorted numbers number (IsPermutation-sym numbers sorted moved) has) in
      record { last = last; name = found.0; of_copy = e; among = found.1; numbered = found.2 };
  all = λ number at. let same : last ≡ at.last = let k = at.of_copy in cc in
      Contains-permutation numbers sorted number moved
      (h.all at.name number at.among (subst (λ l. IsCopyName l at.name number) (sym same) at.numbered));
}

pub listed_none : (copy : List ℕ) (names : List (List ℕ)) (numbers : List ℕ) → path_file_name copy ≡ None → numbers ≡ [] → AreListedCopies copy names numbers
listed_none copy names numbers e none = record {
  each = λ number has. absurd (contains_none number (subst (λ l. Contains l number) none has));
  all = λ number at. let k = at.of_copy in absurd (cc);
}
