-- The bytes of a leaf, read and written.
use Rattle.std.proofs.Common.{◌≡◌, ℕ, zero, suc, ◌+◌, ◌-◌, ◌/◌, ◌*◌, ◌^◌, ◌<◌, ◌≤◌, List, [], ◌∷◌, ◌++◌, length, take, drop, refl, ap, ◌∙◌, arith}
use Rattle.std.proofs.Common.{append_assoc, length-append, length-drop}
use Rattle.std.proofs.Math.Nat.{add-mul, div-mul-le_self, mul-le-mul_right}
use Rattle.std.proofs.lemmas.List.{take_all}
use Rattle.byteorder.specs.Endian.{big_number, big_bytes}
use Rattle.byteorder.specs.Numbers.{big_number-reads_back, length-bytes_high_first}
use Rattle.index_keys.specs.Entries.{Entry, FitsLeaf, AllFit}
use Rattle.tune_index.specs.Leaves.{capacity, value_in, value_bytes, count_in, count_bytes, entry_in, entries_in, leaf_in, leaf_entry_bytes}

pub leaf_in_is : (width : ℕ) (image : List ℕ) → leaf_in width image ≡ entries_in width (count_in image) (drop 2 image)
unfolding leaf_in
leaf_in_is width image = refl

-- a number and a count, written and read
pub length-value_bytes : (value : ℕ) → length (value_bytes value) ≡ 4
unfolding value_bytes
length-value_bytes value = length-bytes_high_first 4 value

pub length-count_bytes : (count : ℕ) → length (count_bytes count) ≡ 2
unfolding count_bytes
length-count_bytes count = length-bytes_high_first 2 count

value_back : (value : ℕ) (rest : List ℕ) → value < 2 ^ 32 → value_in (value_bytes value ++ rest) ≡ value
unfolding value_in value_bytes
value_back value rest h = big_number-reads_back 4 value rest h

pub count_back : (count : ℕ) (rest : List ℕ) → count < 256 ^ 2 → count_in (count_bytes count ++ rest) ≡ count
unfolding count_in count_bytes
count_back count rest h = big_number-reads_back 2 count rest h

-- what stands after the first of two lists
pub drop_front : (n : ℕ) (xs ys : List ℕ) → length xs ≡ n → drop n (xs ++ ys) ≡ ys
drop_front zero [] ys e = refl
drop_front zero (x ∷ xs) ys e = absurd (omega arith)
drop_front (suc n) [] ys e = absurd (omega arith)
drop_front (suc n) (x ∷ xs) ys e = drop_front n xs ys (omega arith)

-- the bytes of an entry
pub length-entry_bytes : (width : ℕ) (e : Entry) → length (leaf_entry_bytes width e) ≡ width + 4
length-entry_bytes width e =
    let a = length-append (big_bytes width e.0) (value_bytes e.1) in
    let b = length-bytes_high_first width e.0 in
    let d = length-value_bytes e.1 in
    omega (arith, a, b, d)

-- the entry that was written is the one that is read
pub entry_back : (width : ℕ) (e : Entry) (rest : List ℕ) → FitsLeaf width e → entry_in width (leaf_entry_bytes width e ++ rest) ≡ e
entry_back width e rest fits =
    let s : leaf_entry_bytes width e ++ rest ≡ big_bytes width e.0 ++ (value_bytes e.1 ++ rest) = append_assoc (big_bytes width e.0) (value_bytes e.1) rest in
    let k : big_number width (big_bytes width e.0 ++ (value_bytes e.1 ++ rest)) ≡ e.0 = big_number-reads_back width e.0 (value_bytes e.1 ++ rest) fits.key in
    let d : drop width (big_bytes width e.0 ++ (value_bytes e.1 ++ rest)) ≡ value_bytes e.1 ++ rest =
    drop_front width (big_bytes width e.0) (value_bytes e.1 ++ rest) (length-bytes_high_first width e.0) in
    let v : value_in (value_bytes e.1 ++ rest) ≡ e.1 = value_back e.1 rest fits.value in
    ap (entry_in width) s ∙ rw (k, d, v) refl

pub AllFit-push : (width : ℕ) (es : List Entry) (e : Entry) → AllFit width es → FitsLeaf width e → AllFit width (es ++ e ∷ [])
AllFit-push width [] e h k = (k, tt)
AllFit-push width (x ∷ xs) e h k = (h.0, AllFit-push width xs e h.1 k)

-- entries that go into a page
pub room_for : (width n : ℕ) → n ≤ capacity width → n * (width + 4) ≤ 4094
unfolding capacity
room_for width n h =
    let a : n * (width + 4) ≤ 4094 / (width + 4) * (width + 4) = mul-le-mul_right (width + 4) h in
    let b = div-mul-le_self 4094 (width + 4) in
    omega arith

-- one entry fewer
pub room_more : (width n m k : ℕ) → n ≡ suc m → n * (width + 4) ≤ k → (width + 4 ≤ k) × (m * (width + 4) ≤ k - (width + 4))
room_more width n m k e h =
    let s : n * (width + 4) ≡ (m + 1) * (width + 4) = ap (λ (x : ℕ). x * (width + 4)) (omega arith) in
    let a : (m + 1) * (width + 4) ≡ m * (width + 4) + 1 * (width + 4) = add-mul m 1 (width + 4) in
    (omega arith, omega arith)

-- what `&s[n..]` is
pub to_end : (n : ℕ) (xs : List ℕ) → take (length xs - n) (drop n xs) ≡ drop n xs
to_end n xs = take_all (length xs - n) (drop n xs) (omega (arith, length-drop n xs))

-- as many entries as were read
pub length-entries_in : (width n : ℕ) (bytes : List ℕ) → length (entries_in width n bytes) ≡ n
length-entries_in width zero bytes = refl
length-entries_in width (suc n) bytes = let e = length-entries_in width n (drop (width + 4) bytes) in omega arith

pub length-leaf_in : (width : ℕ) (image : List ℕ) → length (leaf_in width image) ≡ count_in image
unfolding leaf_in
length-leaf_in width image = length-entries_in width (count_in image) (drop 2 image)
