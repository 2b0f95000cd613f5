-- Leaves with an entry more or less, in the bytes of a page.
use Rattle.std.proofs.Common.{◌≡◌, ℕ, zero, suc, ◌+◌, ◌-◌, ◌*◌, ◌^◌, ◌<◌, ◌≤◌, List, [], ◌∷◌, ◌++◌, length, take, drop, refl, sym, ap, ◌∙◌, arith}
use Rattle.std.proofs.Common.{append_assoc, append-nil, drop-drop, length-append, length-drop, length-take-le}
use Rattle.std.proofs.Math.Nat.{add-mul, mul-le-mul_right, zero-mul}
use Rattle.std.proofs.lemmas.List.Edits.{insert_end}
use Rattle.std.proofs.lemmas.List.{drop-append-le, drop-take, drop_all, drop_at, take-append-drop, take-append-le, take-take, take_all, take_at}
use Rattle.std.specs.List.{insert, remove}
use Rattle.byteorder.specs.Endian.{big_number}
use Rattle.byteorder.specs.Numbers.{big_from-append}
use Rattle.index_keys.specs.Entries.{Entry, FitsLeaf}
use Rattle.tune_index.specs.Leaves.{count_bytes, count_in, entries_in, leaf_entry_bytes, entry_in, leaf_in, value_in}
use Rattle.tune_index.proofs.Codec.{count_back, drop_front, entry_back, leaf_in_is, length-count_bytes}
use Rattle.tune_index.proofs.Codec.{length-entries_in, length-entry_bytes, length-leaf_in, to_end}

-- ENTRIES IN A FRONT OF BYTES
-- the first entry is the same whatever follows it
entry_in-append : (width : ℕ) (xs ys : List ℕ) → width + 4 ≤ length xs → entry_in width (xs ++ ys) ≡ entry_in width xs
unfolding value_in
entry_in-append width xs ys l =
    let k : big_number width (xs ++ ys) ≡ big_number width xs = big_from-append width xs ys (omega arith) in
    let d : drop width (xs ++ ys) ≡ drop width xs ++ ys = drop-append-le width xs ys (omega arith) in
    let v : value_in (drop width (xs ++ ys)) ≡ value_in (drop width xs) =
    ap value_in d ∙ big_from-append 4 (drop width xs) ys (omega (arith, length-drop width xs)) in
    rw (k, v) refl

-- the bytes of some entries, and then those of others
entries_two : (width i m : ℕ) (xs ys : List ℕ) → length xs ≡ i * (width + 4)
    → entries_in width (i + m) (xs ++ ys) ≡ entries_in width i xs ++ entries_in width m ys
entries_two width zero m [] ys e = ap (λ (k : ℕ). entries_in width k ys) (omega arith)
entries_two width zero m (x ∷ xs) ys e = absurd (omega arith)
entries_two width (suc i) m xs ys e =
    let s : (i + 1) * (width + 4) ≡ i * (width + 4) + 1 * (width + 4) = add-mul i 1 (width + 4) in
    let first = entry_in-append width xs ys (omega (arith, e, s)) in
    let rest : drop (width + 4) (xs ++ ys) ≡ drop (width + 4) xs ++ ys = drop-append-le (width + 4) xs ys (omega (arith, e, s)) in
    let more = entries_two width i m (drop (width + 4) xs) ys (omega (arith, e, s, length-drop (width + 4) xs)) in
    let n : suc i + m ≡ suc (i + m) = omega arith in
    ap (λ (k : ℕ). entries_in width k (xs ++ ys)) n
    ∙ ap (λ (x : Entry). x ∷ entries_in width (i + m) (drop (width + 4) (xs ++ ys))) first
    ∙ ap (λ (x : List Entry). entry_in width xs ∷ x) (ap (entries_in width (i + m)) rest ∙ more)

-- the entries of a front, whatever follows it
entries_front : (width n : ℕ) (xs ys : List ℕ) → length xs ≡ n * (width + 4) → entries_in width n (xs ++ ys) ≡ entries_in width n xs
entries_front width n xs ys e =
    let z : n ≡ n + 0 = omega arith in
    ap (λ (k : ℕ). entries_in width k (xs ++ ys)) z ∙ entries_two width n 0 xs ys e ∙ append-nil (entries_in width n xs)

-- two parts of a leaf
parts : (width n i m : ℕ) (front mid rest : List ℕ) → n ≡ i + m → length front ≡ i * (width + 4) → length mid ≡ m * (width + 4)
    → entries_in width n (front ++ (mid ++ rest)) ≡ entries_in width i front ++ entries_in width m mid
parts width n i m front mid rest s f l =
    ap (λ (k : ℕ). entries_in width k (front ++ (mid ++ rest))) s ∙ entries_two width i m front (mid ++ rest) f
    ∙ ap (λ (x : List Entry). entries_in width i front ++ x) (entries_front width m mid rest l)

-- as many bytes as they have
length-front : (width n i : ℕ) (bytes : List ℕ) → i ≤ n → n * (width + 4) ≤ length bytes → length (take (i * (width + 4)) bytes) ≡ i * (width + 4)
length-front width n i bytes l room =
    let a : i * (width + 4) ≤ n * (width + 4) = mul-le-mul_right (width + 4) l in
    length-take-le (i * (width + 4)) bytes (omega arith)

length-behind : (width n i m : ℕ) (bytes : List ℕ) → n ≡ i + m → n * (width + 4) ≤ length bytes
    → length (take (m * (width + 4)) (drop (i * (width + 4)) bytes)) ≡ m * (width + 4)
length-behind width n i m bytes s room =
    let a : (i + m) * (width + 4) ≡ i * (width + 4) + m * (width + 4) = add-mul i m (width + 4) in
    let b : n * (width + 4) ≡ (i + m) * (width + 4) = ap (λ (k : ℕ). k * (width + 4)) s in
    length-take-le (m * (width + 4)) (drop (i * (width + 4)) bytes) (omega (arith, length-drop (i * (width + 4)) bytes))

-- a leaf in two parts
halves : (width n i m : ℕ) (bytes : List ℕ) → n ≡ i + m → n * (width + 4) ≤ length bytes
    → entries_in width n bytes
    ≡ entries_in width i (take (i * (width + 4)) bytes) ++ entries_in width m (take (m * (width + 4)) (drop (i * (width + 4)) bytes))
halves width n i m bytes s room =
    let front = take (i * (width + 4)) bytes in
    let back = drop (i * (width + 4)) bytes in
    let whole : bytes ≡ front ++ (take (m * (width + 4)) back ++ drop (m * (width + 4)) back) =
    sym (take-append-drop (i * (width + 4)) bytes) ∙ ap (λ (x : List ℕ). front ++ x) (sym (take-append-drop (m * (width + 4)) back)) in
    ap (entries_in width n) whole
    ∙ parts width n i m front (take (m * (width + 4)) back) (drop (m * (width + 4)) back) s (length-front width n i bytes (omega arith) room)
    (length-behind width n i m bytes s room)

-- AN ENTRY MORE
pub put_entries : (width n i m : ℕ) (e : Entry) (old new rest : List ℕ) → n ≡ i + m → n * (width + 4) ≤ length old → FitsLeaf width e
    → new ≡ take (i * (width + 4)) old ++ ((leaf_entry_bytes width e ++ take (m * (width + 4)) (drop (i * (width + 4)) old)) ++ rest)
    → entries_in width (n + 1) new ≡ insert (entries_in width n old) i e
put_entries width n i m e old new rest s room fits is =
    let front = take (i * (width + 4)) old in
    let mid = take (m * (width + 4)) (drop (i * (width + 4)) old) in
    let A = entries_in width i front in
    let B = entries_in width m mid in
    let f : length front ≡ i * (width + 4) = length-front width n i old (omega arith) room in
    let l : length mid ≡ m * (width + 4) = length-behind width n i m old s room in
    let a : (m + 1) * (width + 4) ≡ m * (width + 4) + 1 * (width + 4) = add-mul m 1 (width + 4) in
    let both : length (leaf_entry_bytes width e ++ mid) ≡ suc m * (width + 4) =
    omega (arith, length-append (leaf_entry_bytes width e) mid, length-entry_bytes width e, l, a) in
    let first = entry_back width e mid fits in
    let later : drop (width + 4) (leaf_entry_bytes width e ++ mid) ≡ mid = drop_front (width + 4) (leaf_entry_bytes width e) mid (length-entry_bytes width e) in
    let added : entries_in width (suc m) (leaf_entry_bytes width e ++ mid) ≡ e ∷ B =
    ap (λ (x : Entry). x ∷ entries_in width m (drop (width + 4) (leaf_entry_bytes width e ++ mid))) first
    ∙ ap (λ (x : List ℕ). e ∷ entries_in width m x) later in
    let made : entries_in width (n + 1) new ≡ A ++ (e ∷ B) =
    ap (entries_in width (n + 1)) is ∙ parts width (n + 1) i (suc m) front (leaf_entry_bytes width e ++ mid) rest (omega arith) f both
    ∙ ap (λ (x : List Entry). A ++ x) added in
    let count : length A ≡ i = length-entries_in width i front in
    let before : take i (A ++ B) ≡ A = take_at A B i count in
    let after : drop i (A ++ B) ≡ B = drop_at A B i count in
    made ∙ sym (ap (λ (x : List Entry). insert x i e) (halves width n i m old s room)
    ∙ ap (λ (x : List Entry). x ++ e ∷ drop i (A ++ B)) before ∙ ap (λ (x : List Entry). A ++ e ∷ x) after)

-- an entry that is written behind some
pub next_entry : (width i : ℕ) (e : Entry) (es : List Entry) (old new rest : List ℕ) → (i + 1) * (width + 4) ≤ length old → FitsLeaf width e
    → entries_in width i old ≡ es → new ≡ take (i * (width + 4)) old ++ (leaf_entry_bytes width e ++ rest) → entries_in width (i + 1) new ≡ es ++ e ∷ []
next_entry width i e es old new rest room fits so_far is =
    let a : (i + 1) * (width + 4) ≡ i * (width + 4) + 1 * (width + 4) = add-mul i 1 (width + 4) in
    let z : 0 * (width + 4) ≡ 0 = zero-mul (width + 4) in
    let n : i ≡ i + 0 = omega arith in
    let none : leaf_entry_bytes width e ++ take (0 * (width + 4)) (drop (i * (width + 4)) old) ≡ leaf_entry_bytes width e =
    ap (λ (k : ℕ). leaf_entry_bytes width e ++ take k (drop (i * (width + 4)) old)) z ∙ append-nil (leaf_entry_bytes width e) in
    let made = put_entries width i i 0 e old new rest n (omega (arith, a)) fits
    (is ∙ ap (λ (x : List ℕ). take (i * (width + 4)) old ++ (x ++ rest)) (sym none)) in
    let count : length es ≡ i = sym (ap length so_far) ∙ length-entries_in width i old in
    made ∙ ap (λ (x : List Entry). insert x i e) so_far ∙ sym (ap (λ (k : ℕ). insert es k e) count) ∙ insert_end es e

-- AN ENTRY LESS
pub take_entries : (width n i m : ℕ) (old new rest : List ℕ) → n ≡ i + (m + 1) → n * (width + 4) ≤ length old
    → new ≡ take (i * (width + 4)) old ++ (take (m * (width + 4)) (drop ((i + 1) * (width + 4)) old) ++ rest)
    → entries_in width (n - 1) new ≡ remove (entries_in width n old) i
take_entries width n i m old new rest s room is =
    let front = take (i * (width + 4)) old in
    let back = drop (i * (width + 4)) old in
    let mid = take (m * (width + 4)) (drop ((i + 1) * (width + 4)) old) in
    let A = entries_in width i front in
    let B = entries_in width m mid in
    let a : (m + 1) * (width + 4) ≡ m * (width + 4) + 1 * (width + 4) = add-mul m 1 (width + 4) in
    let b : (i + 1) * (width + 4) ≡ i * (width + 4) + 1 * (width + 4) = add-mul i 1 (width + 4) in
    let f : length front ≡ i * (width + 4) = length-front width n i old (omega arith) room in
    let l : length mid ≡ m * (width + 4) = length-behind width n (i + 1) m old (omega arith) room in
    let x : Entry = entry_in width (take (suc m * (width + 4)) back) in
    let q : suc m * (width + 4) ≡ (width + 4) + m * (width + 4) = omega (arith, a) in
    let r : i * (width + 4) + (width + 4) ≡ (i + 1) * (width + 4) = omega (arith, b) in
    let later : drop (width + 4) (take (suc m * (width + 4)) back) ≡ mid =
    ap (λ (k : ℕ). drop (width + 4) (take k back)) q ∙ drop-take (width + 4) (m * (width + 4)) back
    ∙ ap (take (m * (width + 4))) (drop-drop (width + 4) (i * (width + 4)) old ∙ ap (λ (k : ℕ). drop k old) r) in
    let was : entries_in width n old ≡ A ++ (x ∷ B) =
    halves width n i (suc m) old (omega arith) room ∙ ap (λ (y : List ℕ). A ++ (x ∷ entries_in width m y)) later in
    let made : entries_in width (n - 1) new ≡ A ++ B =
    ap (entries_in width (n - 1)) is ∙ parts width (n - 1) i m front mid rest (omega arith) f l in
    let count : length A ≡ i = length-entries_in width i front in
    let before : take i (A ++ (x ∷ B)) ≡ A = take_at A (x ∷ B) i count in
    let split : A ++ (x ∷ B) ≡ (A ++ x ∷ []) ++ B = sym (append_assoc A (x ∷ []) B) in
    let after : drop (suc i) (A ++ (x ∷ B)) ≡ B =
    ap (drop (suc i)) split ∙ drop_at (A ++ x ∷ []) B (suc i) (omega (arith, length-append A (x ∷ []), count)) in
    made ∙ sym (ap (λ (y : List Entry). remove y i) was
    ∙ ap (λ (y : List Entry). y ++ drop (suc i) (A ++ (x ∷ B))) before ∙ ap (λ (y : List Entry). A ++ y) after)

-- WHAT THE WRITES LEAVE
-- an entry that is written in two parts
pub entry_written : (F w E : ℕ) (old kb vb X buf : List ℕ) → length kb ≡ w → length vb ≡ 4 → E ≡ F + w + 4 → E ≤ length old
    → X ≡ take F old ++ (kb ++ drop w (drop F old)) → buf ≡ vb ++ drop 4 (take (length X - (F + w)) (drop (F + w) X))
    → take (F + w) X ++ (buf ++ drop (length X - (F + w)) (drop (F + w) X)) ≡ take F old ++ ((kb ++ vb) ++ drop E old)
entry_written F w E old kb vb X buf lk lv e room is wrote =
    let f : length (take F old) ≡ F = length-take-le F old (omega arith) in
    let head : length (take F old ++ kb) ≡ F + w = omega (arith, length-append (take F old) kb, f, lk) in
    let two : X ≡ (take F old ++ kb) ++ drop w (drop F old) = is ∙ sym (append_assoc (take F old) kb (drop w (drop F old))) in
    let front : take (F + w) X ≡ take F old ++ kb = ap (take (F + w)) two ∙ take_at (take F old ++ kb) (drop w (drop F old)) (F + w) head in
    let back : drop (F + w) X ≡ drop w (drop F old) = ap (drop (F + w)) two ∙ drop_at (take F old ++ kb) (drop w (drop F old)) (F + w) head in
    let all : take (length X - (F + w)) (drop (F + w) X) ≡ drop (F + w) X = to_end (F + w) X in
    let end : drop 4 (drop w (drop F old)) ≡ drop E old =
    ap (drop 4) (drop-drop w F old) ∙ drop-drop 4 (F + w) old ∙ ap (λ (k : ℕ). drop k old) (sym e) in
    let none : drop (length X - (F + w)) (drop (F + w) X) ≡ [] =
    drop_all (length X - (F + w)) (drop (F + w) X) (omega (arith, length-drop (F + w) X)) in
    let b : buf ++ drop (length X - (F + w)) (drop (F + w) X) ≡ vb ++ drop E old =
    ap (λ (x : List ℕ). buf ++ x) none ∙ append-nil buf ∙ wrote ∙ ap (λ (x : List ℕ). vb ++ drop 4 x) (all ∙ back)
    ∙ ap (λ (x : List ℕ). vb ++ x) end in
    ap (λ (x : List ℕ). x ++ (buf ++ drop (length X - (F + w)) (drop (F + w) X))) front
    ∙ ap (λ (x : List ℕ). (take F old ++ kb) ++ x) b
    ∙ append_assoc (take F old) kb (vb ++ drop E old) ∙ ap (λ (x : List ℕ). take F old ++ x) (sym (append_assoc kb vb (drop E old)))

-- entries that are moved up, and one that is written below them
pub moved_up : (S T k m : ℕ) (one old moved new : List ℕ) → S ≤ T → T ≤ length old → k ≡ m
    → moved ≡ (take T old ++ take k (drop S old)) ++ drop (T + k) old → new ≡ take S moved ++ (one ++ drop T moved)
    → new ≡ take S old ++ ((one ++ take m (drop S old)) ++ drop (T + k) old)
moved_up S T k m one old moved new below room same moves wrote =
    let mid = take k (drop S old) in
    let tail = drop (T + k) old in
    let t : length (take T old) ≡ T = length-take-le T old room in
    let two : moved ≡ take T old ++ (mid ++ tail) = moves ∙ append_assoc (take T old) mid tail in
    let front : take S moved ≡ take S old =
    ap (take S) two ∙ take-append-le S (take T old) (mid ++ tail) (omega arith) ∙ take-take S T old below in
    let back : drop T moved ≡ mid ++ tail = ap (drop T) two ∙ drop_at (take T old) (mid ++ tail) T t in
    wrote ∙ ap (λ (x : List ℕ). x ++ (one ++ drop T moved)) front ∙ ap (λ (x : List ℕ). take S old ++ (one ++ x)) back
    ∙ ap (λ (x : List ℕ). take S old ++ x) (sym (append_assoc one mid tail))
    ∙ ap (λ (j : ℕ). take S old ++ ((one ++ take j (drop S old)) ++ tail)) same

-- entries that are moved down, and bytes that are written behind them
pub moved_down : (S T k m N : ℕ) (old moved new rest : List ℕ) → S ≤ length old → T + k ≤ length old → N ≡ S + k → k ≡ m
    → moved ≡ (take S old ++ take k (drop T old)) ++ drop (S + k) old → new ≡ take N moved ++ rest
    → new ≡ take S old ++ (take m (drop T old) ++ rest)
moved_down S T k m N old moved new rest low room whole same moves wrote =
    let mid = take k (drop T old) in
    let s : length (take S old) ≡ S = length-take-le S old low in
    let l : length mid ≡ k = length-take-le k (drop T old) (omega (arith, length-drop T old)) in
    let front : take N moved ≡ take S old ++ mid =
    ap (take N) moves ∙ take_at (take S old ++ mid) (drop (S + k) old) N (omega (arith, length-append (take S old) mid, s, l)) in
    wrote ∙ ap (λ (x : List ℕ). x ++ rest) front ∙ append_assoc (take S old) mid rest
    ∙ ap (λ (j : ℕ). take S old ++ (take j (drop T old) ++ rest)) same

-- A PAGE
-- the entries in the bytes behind the count are those of the leaf
pub image_leaf : (width n : ℕ) (image : List ℕ) → length image ≡ 4096 → n ≡ length (leaf_in width image)
    → entries_in width n (take 4094 (drop 2 image)) ≡ leaf_in width image
image_leaf width n image whole is =
    let count : n ≡ count_in image = is ∙ length-leaf_in width image in
    ap (λ (x : List ℕ). entries_in width n x) (take_all 4094 (drop 2 image) (omega (arith, length-drop 2 image)))
    ∙ ap (λ (k : ℕ). entries_in width k (drop 2 image)) count ∙ sym (leaf_in_is width image)

-- what a page says whose entries and then whose count were written
pub image_written : (width n : ℕ) (old entries new : List ℕ) → length old ≡ 4096 → n < 256 ^ 2
    → new ≡ count_bytes n ++ drop 2 (take 2 old ++ (entries ++ drop 4094 (drop 2 old)))
    → (count_in new ≡ n) × (leaf_in width new ≡ entries_in width n entries)
image_written width n old entries new whole small is =
    let two : length (take 2 old) ≡ 2 = length-take-le 2 old (omega arith) in
    let none : drop 4094 (drop 2 old) ≡ [] = drop_all 4094 (drop 2 old) (omega (arith, length-drop 2 old)) in
    let back : drop 2 (take 2 old ++ (entries ++ drop 4094 (drop 2 old))) ≡ entries =
    drop_at (take 2 old) (entries ++ drop 4094 (drop 2 old)) 2 two ∙ ap (λ (x : List ℕ). entries ++ x) none ∙ append-nil entries in
    let same : new ≡ count_bytes n ++ entries = is ∙ ap (λ (x : List ℕ). count_bytes n ++ x) back in
    let count : count_in new ≡ n = ap count_in same ∙ count_back n entries small in
    let behind : drop 2 new ≡ entries = ap (drop 2) same ∙ drop_front 2 (count_bytes n) entries (length-count_bytes n) in (
      count,
      leaf_in_is width new ∙ ap (λ (k : ℕ). entries_in width k (drop 2 new)) count ∙ ap (entries_in width n) behind,
    )
