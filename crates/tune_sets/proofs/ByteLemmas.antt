-- The bytes of set lists tell the lists.
use Rattle.std.proofs.Common.{◌≡◌, ℕ, ◌+◌, ◌*◌, ◌^◌, ◌/◌, ◌%◌, ◌<◌, ◌≤◌, true, List, [], ◌∷◌, ◌++◌, length, take, drop, slice_index, refl, ap, sym, ◌∙◌}
use Rattle.std.proofs.Common.{subst, arith, append_assoc, append-nil, length-append, length-drop}
use Rattle.std.proofs.Math.Seq.{take-append_seam, take-add}
use Rattle.std.proofs.lemmas.List.{get_or-drop}
use Rattle.std.specs.List.{AllByRecursion}
use Rattle.byteorder.specs.Endian.{big_bytes, big_number}
use Rattle.byteorder.specs.Numbers.{big_number-reads_back}
use Rattle.tune_sets.specs.Names.{is_before}
use Rattle.tune_sets.specs.SetBytes.{written_numbers}
use Rattle.tune_sets.specs.Sets.{IsTuneSet, NamesRiseFrom, AreSetLists}
use Rattle.tune_sets.specs.Inside.Search.{last_name}
use Rattle.tune_sets.specs.SetBytes.{written_name, stored_set, written_sets}
use Rattle.tune_sets.specs.declared.set_lists.TuneSet.{TuneSet}
use Rattle.tune_sets.specs.Limits.{most_places}
use Rattle.tune_sets.proofs.ChangeLemmas.{Narrow}

-- LISTS CUT IN TWO
-- two parts of one text with equal fronts by length are equal
pub cut : (a b x y : List ℕ) → length a ≡ length b → a ++ x ≡ b ++ y → (a ≡ b) × (x ≡ y)
cut [] [] x y same e = (refl, e)
cut [] (c ∷ b) x y same e = absurd (omega arith)
cut (c ∷ a) [] x y same e = absurd (omega arith)
cut (c ∷ a) (d ∷ b) x y same e =
    let first : c ≡ d = cc in
    let later : a ++ x ≡ b ++ y = cc in
    let rest = cut a b x y (omega arith) later in
    (rw (first, rest.0) refl, rest.1)

-- NUMBERS
-- four bytes are those of the number that they make
pub four_again : (a b c d : ℕ) (rest : List ℕ) → a < 256 → b < 256 → c < 256 → d < 256 → big_bytes 4 (big_number 4 (a ∷ b ∷ c ∷ d ∷ rest)) ≡ a ∷ b ∷ c ∷ d ∷ []
four_again a b c d rest la lb lc ld =
    let n = a * 256 ^ 3 + (b * 256 ^ 2 + (c * 256 ^ 1 + (d * 256 ^ 0 + 0))) in
    let first : n / 256 ^ 3 % 256 ≡ a = omega arith in
    let second : n / 256 ^ 2 % 256 ≡ b = omega arith in
    let third : n / 256 ^ 1 % 256 ≡ c = omega arith in
    let fourth : n % 256 ≡ d = omega arith in
    rw (first, second, third, fourth) refl

pub two_again : (a b : ℕ) (rest : List ℕ) → a < 256 → b < 256 → big_bytes 2 (big_number 2 (a ∷ b ∷ rest)) ≡ a ∷ b ∷ []
two_again a b rest la lb =
    let n = a * 256 ^ 1 + (b * 256 ^ 0 + 0) in
    let first : n / 256 ^ 1 % 256 ≡ a = omega arith in
    let second : n % 256 ≡ b = omega arith in
    rw (first, second) refl

pub written_numbers-append : (xs ys : List ℕ) → written_numbers (xs ++ ys) ≡ written_numbers xs ++ written_numbers ys
written_numbers-append [] ys = refl
written_numbers-append (x ∷ xs) ys = ap (λ t. big_bytes 4 x ++ t) (written_numbers-append xs ys)

pub length-written_numbers : (xs : List ℕ) → length (written_numbers xs) ≡ 4 * length xs
length-written_numbers [] = refl
length-written_numbers (x ∷ xs) = omega (arith, length-written_numbers xs)

-- numbers with equal bytes are equal
pub numbers_same : (xs ys : List ℕ) → Narrow xs → Narrow ys → written_numbers xs ≡ written_numbers ys → xs ≡ ys
numbers_same [] [] p q e = refl
numbers_same [] (y ∷ ys) p q e = absurd (let l = ap length e in omega arith)
numbers_same (x ∷ xs) [] p q e = absurd (let l = ap length e in omega arith)
numbers_same (x ∷ xs) (y ∷ ys) p q e =
    let parts = cut (big_bytes 4 x) (big_bytes 4 y) (written_numbers xs) (written_numbers ys) refl e in
    let first : x ≡ y = sym (big_number-reads_back 4 x [] (omega (arith, p.0))) ∙ ap (λ t. big_number 4 (t ++ [])) parts.0
    ∙ big_number-reads_back 4 y [] (omega (arith, q.0)) in
    rw (first, numbers_same xs ys p.1 q.1 parts.1) refl

pub counts_same : (n m : ℕ) → n < 2 ^ 16 → m < 2 ^ 16 → big_bytes 2 n ≡ big_bytes 2 m → n ≡ m
counts_same n m small less e = sym (big_number-reads_back 2 n [] (omega arith)) ∙ ap (λ t. big_number 2 (t ++ [])) e
    ∙ big_number-reads_back 2 m [] (omega arith)

-- SETS
-- a name at the front of bytes is the only one
pub name_same : (n m x y : List ℕ) → written_name n ++ x ≡ written_name m ++ y → (n ≡ m) × (x ≡ y)
name_same n m x y e =
    let same : length n ≡ length m = cc in
    let later : n ++ x ≡ m ++ y = cc in
    cut n m x y same later

-- so are the numbers after it
pub places_same : (n m : ℕ) (a b x y : List ℕ) → n ≤ most_places → m ≤ most_places → length a ≡ 4 * n → length b ≡ 4 * m
    → big_bytes 2 n ++ (a ++ x) ≡ big_bytes 2 m ++ (b ++ y) → (n ≡ m) × ((a ≡ b) × (x ≡ y))
places_same n m a b x y few less la lb e =
    let front = cut (big_bytes 2 n) (big_bytes 2 m) (a ++ x) (b ++ y) refl e in
    let count : n ≡ m = counts_same n m (omega arith) (omega arith) front.0 in
    (count, cut a b x y (omega arith) front.1)

pub set_parts : (set : TuneSet) (later : List ℕ) → stored_set set ++ later ≡ written_name set.name ++ (big_bytes 2 (length set.numbers) ++
    (written_numbers set.numbers ++ later))
set_parts set later = ap (λ t. length set.name ∷ t) (append_assoc set.name (big_bytes 2 (length set.numbers) ++ written_numbers set.numbers) later)

-- a set at the front of bytes is the only one
pub set_same : (s t : TuneSet) (x y : List ℕ) → IsTuneSet s → IsTuneSet t → stored_set s ++ x ≡ stored_set t ++ y → (s ≡ t) × (x ≡ y)
set_same s t x y is other e =
    let name = name_same s.name t.name _ _ (sym (set_parts s x) ∙ e ∙ set_parts t y) in
    let places = places_same (length s.numbers) (length t.numbers) (written_numbers s.numbers) (written_numbers t.numbers) x y is.places other.places
    (length-written_numbers s.numbers) (length-written_numbers t.numbers) name.1 in
    let numbers = numbers_same s.numbers t.numbers is.numbers other.numbers places.1.0 in
    (ap (λ n. record { name = n; numbers = s.numbers }) name.0 ∙ ap (λ l. record { name = t.name; numbers = l }) numbers, places.1.1)

-- the bytes of sets tell the sets
pub sets_same : (ss ts : List TuneSet) → AllByRecursion IsTuneSet ss → AllByRecursion IsTuneSet ts → written_sets ss ≡ written_sets ts → ss ≡ ts
sets_same [] [] p q e = refl
sets_same [] (t ∷ ts) p q e = cc
sets_same (s ∷ ss) [] p q e = cc
sets_same (s ∷ ss) (t ∷ ts) p q e =
    let first = set_same s t (written_sets ss) (written_sets ts) p.0 q.0 e in
    rw (first.0, sets_same ss ts p.1 q.1 first.1) refl

pub written_sets-append : (ss ts : List TuneSet) → written_sets (ss ++ ts) ≡ written_sets ss ++ written_sets ts
written_sets-append [] ts = refl
written_sets-append (s ∷ ss) ts = ap (λ t. stored_set s ++ t) (written_sets-append ss ts)
    ∙ sym (append_assoc (stored_set s) (written_sets ss) (written_sets ts))

-- NAMES IN ORDER
pub rises-push : (low : List ℕ) (sets : List TuneSet) (set : TuneSet) → NamesRiseFrom low sets → is_before (last_name low sets) set.name ≡ true
    → NamesRiseFrom low (sets ++ set ∷ [])
rises-push low [] set rises above = (above, tt)
rises-push low (s ∷ sets) set rises above = (rises.0, rises-push s.name sets set rises.1 above)

pub rises-last : (low : List ℕ) (sets more : List TuneSet) (set : TuneSet) → NamesRiseFrom low (sets ++ (set ∷ more))
    → is_before (last_name low sets) set.name ≡ true
rises-last low [] more set rises = rises.0
rises-last low (s ∷ sets) more set rises = rises-last s.name sets more set rises.1

pub each-push : (sets : List TuneSet) (set : TuneSet) → AllByRecursion IsTuneSet sets → IsTuneSet set → AllByRecursion IsTuneSet (sets ++ set ∷ [])
each-push [] set each is = (is, tt)
each-push (s ∷ sets) set each is = (each.0, each-push sets set each.1 is)

-- READING
-- sets that begin with these, and go on as these bytes say
pub record GoOn (lists : List TuneSet) (rest : List ℕ) (sets : List TuneSet) : Type 0 where
  pub more : List TuneSet
  pub whole : lists ++ more ≡ sets
  pub written : written_sets more ≡ rest

each-after : (lists more : List TuneSet) → AllByRecursion IsTuneSet (lists ++ more) → AllByRecursion IsTuneSet more
each-after [] more each = each
each-after (s ∷ lists) more each = each-after lists more each.1

-- one set more is read
go_on : (lists more : List TuneSet) (set : TuneSet) (rest later : List ℕ) (sets : List TuneSet) → IsTuneSet set → stored_set set ++ later ≡ rest
    → (0 < length rest) → AreSetLists sets → lists ++ more ≡ sets → written_sets more ≡ rest
    → GoOn (lists ++ set ∷ []) later sets
go_on lists [] set rest later sets is read some are whole written = absurd (let l = ap length written in omega arith)
go_on lists (s ∷ more) set rest later sets is read some are whole written =
    let each = each-after lists (s ∷ more) (subst (AllByRecursion IsTuneSet) (sym whole) are.each) in
    let same = set_same s set (written_sets more) later each.0 is (written ∙ sym read) in
    record { more = more; whole = append_assoc lists (set ∷ []) more ∙ ap (λ t. lists ++ (t ∷ more)) (sym same.0) ∙ whole; written = same.1 }

pub goes_on : (lists : List TuneSet) (set : TuneSet) (rest later : List ℕ) (sets : List TuneSet) → IsTuneSet set → stored_set set ++ later ≡ rest
    → 0 < length rest → AreSetLists sets → GoOn lists rest sets → GoOn (lists ++ set ∷ []) later sets
goes_on lists set rest later sets is read some are on = go_on lists on.more set rest later sets is read some are on.whole on.written

-- no set is read
pub stops_at : (lists : List TuneSet) (rest : List ℕ) (sets : List TuneSet) → ((set : TuneSet) (later : List ℕ) → IsTuneSet set
    → stored_set set ++ later ≡ rest → ⊥) → 0 < length rest → AreSetLists sets → GoOn lists rest sets → ⊥
stops_at lists rest sets none some are on = stops_by lists on.more rest sets none some are on.whole on.written
  where
    stops_by : (lists more : List TuneSet) (rest : List ℕ) (sets : List TuneSet) → ((set : TuneSet) (later : List ℕ) → IsTuneSet set
        → stored_set set ++ later ≡ rest → ⊥) → 0 < length rest → AreSetLists sets → lists ++ more ≡ sets → written_sets more ≡ rest → ⊥
    stops_by lists [] rest sets none some are whole written = absurd (let l = ap length written in omega arith)
    stops_by lists (s ∷ more) rest sets none some are whole written =
        let each = each-after lists (s ∷ more) (subst (AllByRecursion IsTuneSet) (sym whole) are.each) in
        none s (written_sets more) each.0 written

-- a set is read that may not stand there
pub refused_at : (lists : List TuneSet) (set : TuneSet) (sets : List TuneSet) → ((more : List TuneSet) → AreSetLists (lists ++ (set ∷ more)) → ⊥)
    → (later : List ℕ) → AreSetLists sets → GoOn (lists ++ set ∷ []) later sets → ⊥
refused_at lists set sets none later are on = none on.more (subst AreSetLists (sym on.whole ∙ append_assoc lists (set ∷ []) on.more) are)

-- all is read
pub done_at : (lists sets : List TuneSet) → AreSetLists sets → GoOn lists [] sets → sets ≡ lists
done_at lists sets are on = done_by on.more on.whole on.written
  where
    done_by : (more : List TuneSet) → lists ++ more ≡ sets → written_sets more ≡ [] → sets ≡ lists
    done_by [] whole written = sym whole ∙ append-nil lists
    done_by (s ∷ more) whole written = cc

-- BYTES AT THE FRONT
-- a name at the front of these bytes
pub name_front : (b : ℕ) (rest name later : List ℕ) → written_name name ++ later ≡ b ∷ rest → (b ≤ length rest) × (take b rest ≡ name)
name_front b rest name later e =
    let size : length name ≡ b = cc in
    let whole : name ++ later ≡ rest = cc in
    let lengths = ap length whole in
    (omega (arith, length-append name later), ap (λ n. take n rest) (sym size) ∙ ap (take (length name)) (sym whole) ∙ take-append_seam name later)

-- the number of places, and the places, at the front of these bytes
pub places_front : (bytes : List ℕ) (count : ℕ) (places later : List ℕ) → count ≤ most_places → length places ≡ 4 * count
    → big_bytes 2 count ++ (places ++ later) ≡ bytes
    → (2 + 4 * count ≤ length bytes) × (big_number 2 bytes ≡ count)
places_front bytes count places later few size e =
    let lengths = ap length e in
    (omega (arith, length-append places later), ap (big_number 2) (sym e) ∙ big_number-reads_back 2 count (places ++ later) (omega arith))

-- bytes, each below 256
abbrev pub AreBytes : List ℕ → Type 0
AreBytes bytes = (i : ℕ) → slice_index bytes i < 256

pub two_front : (bytes : List ℕ) → 2 ≤ length bytes → AreBytes bytes → big_bytes 2 (big_number 2 bytes) ++ drop 2 bytes ≡ bytes
two_front [] some are = absurd (omega arith)
two_front (a ∷ []) some are = absurd (omega arith)
two_front (a ∷ b ∷ rest) some are = ap (λ t. t ++ rest) (two_again a b rest (are 0) (are 1))

pub four_front : (bytes : List ℕ) → 4 ≤ length bytes → AreBytes bytes → big_bytes 4 (big_number 4 bytes) ≡ take 4 bytes
four_front [] some are = absurd (omega arith)
four_front (a ∷ []) some are = absurd (omega arith)
four_front (a ∷ b ∷ []) some are = absurd (omega arith)
four_front (a ∷ b ∷ c ∷ []) some are = absurd (omega arith)
four_front (a ∷ b ∷ c ∷ d ∷ rest) some are = four_again a b c d rest (are 0) (are 1) (are 2) (are 3)

-- one number more is read
pub numbers_more : (numbers bytes : List ℕ) (i n : ℕ) → written_numbers numbers ≡ take (4 * i) bytes → 4 * (i + 1) ≤ length bytes → AreBytes bytes
    → n ≡ big_number 4 (drop (4 * i) bytes) → written_numbers (numbers ++ n ∷ []) ≡ take (4 * (i + 1)) bytes
numbers_more numbers bytes i n read fits are is =
    let more : 4 * (i + 1) ≡ 4 * i + 4 = omega arith in
    let bytes_there : AreBytes (drop (4 * i) bytes) = λ k. rw (get_or-drop) (are (4 * i + k)) in
    written_numbers-append numbers (n ∷ []) ∙ ap (λ t. t ++ (big_bytes 4 n ++ [])) read
    ∙ ap (λ t. take (4 * i) bytes ++ t) (append-nil (big_bytes 4 n) ∙ ap (big_bytes 4) is
    ∙ four_front (drop (4 * i) bytes) (omega (arith, length-drop (4 * i) bytes)) bytes_there)
    ∙ sym (ap (λ k. take k bytes) more ∙ take-add (4 * i) 4 bytes)

pub same_more : (lists : List TuneSet) (set : TuneSet) (rest later bytes : List ℕ) → written_sets lists ++ rest ≡ bytes → stored_set set ++ later ≡ rest
    → written_sets (lists ++ set ∷ []) ++ later ≡ bytes
same_more lists set rest later bytes same read =
    ap (λ t. t ++ later) (written_sets-append lists (set ∷ []) ∙ ap (λ t. written_sets lists ++ t) (append-nil (stored_set set)))
    ∙ append_assoc (written_sets lists) (stored_set set) later ∙ ap (λ t. written_sets lists ++ t) read ∙ same

-- the set that was read of its parts
pub set_read : (set : TuneSet) (name places later rest bytes : List ℕ) (count : ℕ) → set.name ≡ name → written_numbers set.numbers ≡ places
    → length places ≡ 4 * count → big_bytes 2 count ++ (places ++ later) ≡ rest → written_name name ++ rest ≡ bytes
    → (length set.numbers ≡ count) × (stored_set set ++ later ≡ bytes)
set_read set name places later rest bytes count named numbers size front whole =
    let lengths = ap length numbers in
    let counted : length set.numbers ≡ count = omega (arith, length-written_numbers set.numbers) in (
      counted,
      set_parts set later ∙ (λ i. written_name (named i) ++ (big_bytes 2 (counted i) ++ (numbers i ++ later)))
          ∙ ap (λ t. written_name name ++ t) front ∙ whole,
    )
