-- What a query finds has a key in the range of the query: the parts of this law that all kinds of keys have.
use Rattle.std.proofs.Common.{Decides, ◌≡◌, ◌∙◌, inl, inr, ℕ, ◌<◌, List, [], ◌∷◌, Bool, true, nat_eq, map, length, sym, subst, append-nil, arith}
use Rattle.std.proofs.lemmas.Bool.{cases_Bool, true≢false}
use Rattle.std.proofs.lemmas.Slice.Eq.{bytes_eq-Decides}
use Rattle.std.specs.List.{list_any, starts_with, flat_map, Contains}
use Rattle.std.specs.Str.{bytes_eq}
use Rattle.index_keys.specs.Cuts.{cut_number, LiesWithin}
use Rattle.index_keys.specs.KeyLists.{KeysRise, HasKeyWithin, rising_keys}
use Rattle.index_keys.proofs.CutLaw.{cut_within, begun_within, begun_list_within}
use Rattle.index_keys.proofs.KeyOrder.{rising_has}
use Rattle.index_keys.proofs.Members.{contains_first, contains_later}

-- one key alone rises
pub one_rises : (key : ℕ) → KeysRise 0 (key ∷ [])
one_rises key = (omega arith, tt)

-- it is in the range of what is the same
pub one_is_within : (key other : ℕ) → key ≡ other → HasKeyWithin (other ∷ []) key key
one_is_within key other same = record { key = other; among = contains_first other []; from = omega (arith, same); to = omega (arith, same) }

-- and in a range that has it
pub one_within : (width : ℕ) (front whole : List ℕ) → LiesWithin width front whole
    → HasKeyWithin (cut_number width 0 whole ∷ []) (cut_number width 0 front) (cut_number width 255 front)
one_within width front whole range = record { key = cut_number width 0 whole; among = contains_first _ []; from = range.from; to = range.to }

-- the key of the same text is in the text's range
pub same_found : (width : ℕ) (front whole : List ℕ) → bytes_eq front whole ≡ true
    → HasKeyWithin (cut_number width 0 whole ∷ []) (cut_number width 0 front) (cut_number width 255 front)
same_found width front whole is =
    let same : front ≡ whole = (bytes_eq-Decides front whole).0 is in
    one_within width front whole (subst (LiesWithin width front) (append-nil front ∙ same) (cut_within width front []))

-- one of a list's elements passes a test, where any does
some_passes : {X : Type 0} (test : X → Bool) (xs : List X) → list_any test xs ≡ true → (x : X) × Contains xs x × (test x ≡ true)
some_passes test [] is = absurd (true≢false (sym is))
some_passes test (x ∷ xs) is = elim (cases_Bool (test x)) [
  | inl passes ↦ (x, contains_first x xs, passes)
  | inr other ↦ let rest = some_passes test xs (rw other at is) in (rest.0, contains_later x xs rest.0 rest.1, rest.2)
]

-- where one of some texts begins with a front, a key of theirs is in the front's range
pub begun_found : {X : Type 0} (width : ℕ) (text_of : X → List ℕ) (front : List ℕ) (xs : List X)
    → list_any (λ x. starts_with nat_eq (text_of x) front) xs ≡ true
    → HasKeyWithin (rising_keys (map (λ x. cut_number width 0 (text_of x)) xs)) (cut_number width 0 front) (cut_number width 255 front)
begun_found width text_of front xs is =
    let some = some_passes (λ x. starts_with nat_eq (text_of x) front) xs is in
    let range = begun_within width (text_of some.0) front some.2 in
    record {
      key = cut_number width 0 (text_of some.0);
      among = rising_has (λ x. cut_number width 0 (text_of x)) xs some.0 some.1;
      from = range.from;
      to = range.to;
    }

-- Of a list of what is written as bytes, one after another, there is one key, but of an empty one there may be none. Where such a
-- list begins with one that is not empty, the key is in the range of that one.
pub begun_list_found : {X : Type 0} (same : X → X → Bool) → ((x y : X) → Decides (same x y) (x ≡ y))
    → (bytes_of : X → List ℕ) (width : ℕ) (keys_of : List X → List ℕ)
    → ((x : X) (xs : List X) → keys_of (x ∷ xs) ≡ cut_number width 0 (flat_map bytes_of (x ∷ xs)) ∷ [])
    → (whole front : List X) → 0 < length front → starts_with same whole front ≡ true
    → HasKeyWithin (keys_of whole) (cut_number width 0 (flat_map bytes_of front)) (cut_number width 255 (flat_map bytes_of front))
begun_list_found same decides bytes_of width keys_of key whole [] some is = absurd (omega (arith, some))
begun_list_found same decides bytes_of width keys_of key [] (y ∷ front) some is = absurd (true≢false (sym is))
begun_list_found same decides bytes_of width keys_of key (x ∷ whole) (y ∷ front) some is =
    rw (key x whole)
    (one_within width (flat_map bytes_of (y ∷ front)) (flat_map bytes_of (x ∷ whole))
    (begun_list_within same decides bytes_of width (x ∷ whole) (y ∷ front) is))
