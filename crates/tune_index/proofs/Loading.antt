-- Leaves that are read one after another.
use Rattle.std.proofs.Common.{◌≡◌, ℕ, zero, suc, ◌+◌, ◌*◌, ◌^◌, ◌<◌, ◌≤◌, List, [], ◌∷◌, ◌++◌, Bool, true, All, length, drop, set, slice_index}
use Rattle.std.proofs.Common.{append_assoc, refl, sym, ap, ◌∙◌, subst, arith}
use Rattle.std.proofs.lemmas.List.{drop-drop, length-append, length-set}
use Rattle.std.proofs.Math.Seq.{drop-append_seam}
use Rattle.byteorder.specs.Numbers.{big_number-reads_back, length-bytes_high_first}
use Rattle.tune_journal.specs.FileOffsets.{block_bytes}
use Rattle.tune_journal.specs.Pages.{page_at}
use Rattle.tune_pages.specs.Claim.{Claimable, IsClaimableWithin}
use Rattle.tune_pages.specs.Faults.{pages_for}
use Rattle.tune_pages.specs.Frame.{image_at}
use Rattle.tune_pages.specs.Stand.{Stand, IsFree, AllFree, marked}
use Rattle.tune_pages.proofs.Chains.{chain_once, free_middle}
use Rattle.tune_pages.proofs.FreePages.{chain_count}
use Rattle.tune_pages.proofs.Marks.{free_in}
use Rattle.index_keys.proofs.KeyNumbers.{bytes_back}
use Rattle.index_keys.proofs.KeyNumbers.{AreBytes}
use Rattle.index_keys.specs.Entries.{Entry, IsRising, AllFit}
use Rattle.index_keys.proofs.RisingEntries.{rises_front}
use Rattle.tune_index.specs.Indexes.{AllLeaves, Shape, entries_of, heads_of}
use Rattle.tune_index.specs.Inside.Loading.{LoadsLeaf}
use Rattle.tune_index.specs.Leaves.{slice_entry, leaf_in, value_bytes, value_in, IsLeaf}
use Rattle.tune_index.specs.ListedLeaves.{StoredIndex, IsStored, index_with, listed_bytes, numbers_in, pages_claimed, stand_of_pages}
use Rattle.tune_index.proofs.Puts.{leaves_within}
use Rattle.tune_index.proofs.Storing.{length-listed}
use Rattle.tune_index.proofs.Ranges.{entries_of-push}
use Rattle.tune_index.proofs.Splits.{entries_of-append}

-- LISTS OF NUMBERS IN BYTES
numbers-push : (i : ℕ) (bytes : List ℕ) → numbers_in (suc i) bytes ≡ numbers_in i bytes ++ value_in (drop (4 * i) bytes) ∷ []
numbers-push zero bytes = refl
numbers-push (suc i) bytes =
    let e : 4 * i + 4 ≡ 4 * suc i = omega arith in
    let d : drop (4 * i) (drop 4 bytes) ≡ drop (4 * suc i) bytes = drop-drop (4 * i) 4 bytes ∙ ap (λ (k : ℕ). drop k bytes) (omega arith) in
    ap (λ (x : List ℕ). value_in bytes ∷ x) (numbers-push i (drop 4 bytes))
    ∙ ap (λ (x : List ℕ). value_in bytes ∷ (numbers_in i (drop 4 bytes) ++ value_in x ∷ [])) d

pub length-numbers : (n : ℕ) (bytes : List ℕ) → length (numbers_in n bytes) ≡ n
length-numbers zero bytes = refl
length-numbers (suc n) bytes = let e = length-numbers n (drop 4 bytes) in omega arith

-- the number at a place, with those before it and behind
numbers-split : (i n : ℕ) (bytes : List ℕ) → i < n → (rest : List ℕ) × (numbers_in n bytes ≡ numbers_in i bytes ++ value_in (drop (4 * i) bytes) ∷ rest)
numbers-split i zero bytes l = absurd (omega arith)
numbers-split zero (suc n) bytes l = (numbers_in n (drop 4 bytes), refl)
numbers-split (suc i) (suc n) bytes l =
    let r = numbers-split i n (drop 4 bytes) (omega arith) in
    let d : drop (4 * i) (drop 4 bytes) ≡ drop (4 * suc i) bytes = drop-drop (4 * i) 4 bytes ∙ ap (λ (k : ℕ). drop k bytes) (omega arith) in
    (r.0, ap (λ (x : List ℕ). value_in bytes ∷ x) r.1 ∙ ap (λ (x : List ℕ). value_in bytes ∷ (numbers_in i (drop 4 bytes) ++ value_in x ∷ r.0)) d)

-- LEAVES, ONE MORE
form-push : (width : ℕ) (s : Stand) (ps : List ℕ) (p : ℕ) → AllLeaves width s ps → IsLeaf width (image_at s p) → AllLeaves width s (ps ++ p ∷ [])
form-push width s [] p f k = (k, tt)
form-push width s (q ∷ ps) p f k = (f.0, form-push width s ps p f.1 k)

heads-push : (width : ℕ) (s : Stand) (ps : List ℕ) (p : ℕ)
    → heads_of width s (ps ++ p ∷ []) ≡ heads_of width s ps ++ slice_entry (leaf_in width (image_at s p)) 0 ∷ []
heads-push width s [] p = refl
heads-push width s (q ∷ ps) p = ap (λ (x : List Entry). slice_entry (leaf_in width (image_at s q)) 0 ∷ x) (heads-push width s ps p)

form_middle : (width : ℕ) (s : Stand) (ps : List ℕ) (p : ℕ) (rest : List ℕ) → AllLeaves width s (ps ++ p ∷ rest) → IsLeaf width (image_at s p)
form_middle width s [] p rest f = f.0
form_middle width s (q ∷ ps) p rest f = form_middle width s ps p rest f.1

fit_join : (width : ℕ) (xs ys : List Entry) → AllFit width xs → AllFit width ys → AllFit width (xs ++ ys)
fit_join width [] ys f h = h
fit_join width (x ∷ xs) ys f h = (f.0, fit_join width xs ys f.1 h)

-- what was loaded so far: the first leaves of the list
pub record LoadedSoFar (width : ℕ) (pages : List (List ℕ)) (bytes : List ℕ) (first i : ℕ) (shape : Shape) (es : List Entry) : Type 0 where
  pub leaves : shape.pages ≡ numbers_in i bytes
  pub form : AllLeaves width (stand_of_pages pages) shape.pages
  pub entries : es ≡ entries_of width (stand_of_pages pages) shape.pages
  pub heads : shape.heads ≡ heads_of width (stand_of_pages pages) shape.pages
  pub first_is : shape.first ≡ first
  pub listed : shape.listed ≡ true
  pub fit : AllFit width es

pub loaded_more : (width : ℕ) (pages : List (List ℕ)) (bytes : List ℕ) (first i page : ℕ) (was is : Shape) (old new : List Entry)
    → LoadedSoFar width pages bytes first i was old
    → page ≡ value_in (drop (4 * i) bytes) → LoadsLeaf width pages page (index_with was old) (index_with is new)
    → LoadedSoFar width pages bytes first (suc i) is new
loaded_more width pages bytes first i page was is old new so at leaf =
    let s = stand_of_pages pages in
    let e : is.pages ≡ was.pages ++ page ∷ [] = leaf.pages_are in
    record {
      leaves = e ∙ ap (λ (x : List ℕ). x ++ page ∷ []) so.leaves ∙ ap (λ (p : ℕ). numbers_in i bytes ++ p ∷ []) at ∙ sym (numbers-push i bytes);
      form = subst (λ (x : List ℕ). AllLeaves width s x) (sym e) (form-push width s was.pages page so.form leaf.form);
      entries = leaf.entries ∙ ap (λ (x : List Entry). x ++ leaf_in width (page_at pages page)) so.entries ∙ sym (entries_of-push width s was.pages page)
          ∙ sym (ap (entries_of width s) e);
      heads = leaf.heads_are ∙ ap (λ (x : List Entry). x ++ slice_entry (leaf_in width (page_at pages page)) 0 ∷ []) so.heads
          ∙ sym (heads-push width s was.pages page) ∙ sym (ap (heads_of width s) e);
      first_is = leaf.first ∙ so.first_is;
      listed = leaf.listed ∙ so.listed;
      fit = subst (λ (x : List Entry). AllFit width x) (sym leaf.entries) (fit_join width old (leaf_in width (page_at pages page)) so.fit leaf.fit);
    }

-- NUMBERS AND THEIR BYTES
-- the bytes of the numbers in bytes are those bytes
pub listed-numbers : (n : ℕ) (bytes : List ℕ) → ((k : ℕ) → slice_index bytes k < 256) → length bytes ≡ n * 4 → listed_bytes (numbers_in n bytes) ≡ bytes
unfolding value_in value_bytes
listed-numbers zero [] small size = refl
listed-numbers zero (b ∷ bytes) small size = absurd (omega (arith, size))
listed-numbers (suc n) [] small size = absurd (omega (arith, size))
listed-numbers (suc n) (b0 ∷ []) small size = absurd (omega (arith, size))
listed-numbers (suc n) (b0 ∷ b1 ∷ []) small size = absurd (omega (arith, size))
listed-numbers (suc n) (b0 ∷ b1 ∷ b2 ∷ []) small size = absurd (omega (arith, size))
listed-numbers (suc n) (b0 ∷ b1 ∷ b2 ∷ b3 ∷ bytes) small size =
    let four : AreBytes 4 (b0 ∷ b1 ∷ b2 ∷ b3 ∷ []) = record { size = refl; small = λ k. small_front b0 b1 b2 b3 bytes k small } in
    let back = bytes_back 4 (b0 ∷ b1 ∷ b2 ∷ b3 ∷ []) four in
    let rest = listed-numbers n bytes (λ k. small (suc (suc (suc (suc k))))) (omega (arith, size)) in
    ap (λ (x : List ℕ). x ++ listed_bytes (numbers_in n bytes)) back ∙ ap (λ (x : List ℕ). b0 ∷ b1 ∷ b2 ∷ b3 ∷ x) rest
  where
    small_front : (b0 b1 b2 b3 : ℕ) (bytes : List ℕ) (k : ℕ) → ((i : ℕ) → slice_index (b0 ∷ b1 ∷ b2 ∷ b3 ∷ bytes) i < 256)
        → slice_index (b0 ∷ b1 ∷ b2 ∷ b3 ∷ []) k < 256
    small_front b0 b1 b2 b3 bytes zero small = small 0
    small_front b0 b1 b2 b3 bytes (suc zero) small = small 1
    small_front b0 b1 b2 b3 bytes (suc (suc zero)) small = small 2
    small_front b0 b1 b2 b3 bytes (suc (suc (suc zero))) small = small 3
    small_front b0 b1 b2 b3 bytes (suc (suc (suc (suc k)))) small = omega arith

-- each is a number of four bytes
abbrev AllSmall : List ℕ → Type 0
AllSmall [] = Unit {0}
AllSmall (n ∷ numbers) = (n < 256 ^ 4) × AllSmall numbers

-- the numbers in the bytes of numbers are those numbers
numbers-listed : (numbers : List ℕ) → AllSmall numbers → numbers_in (length numbers) (listed_bytes numbers) ≡ numbers
unfolding value_in value_bytes
numbers-listed [] small = refl
numbers-listed (n ∷ numbers) small =
    let head : value_in (value_bytes n ++ listed_bytes numbers) ≡ n = big_number-reads_back 4 n (listed_bytes numbers) small.0 in
    let size : length (value_bytes n) ≡ 4 = length-bytes_high_first 4 n in
    let behind : drop 4 (value_bytes n ++ listed_bytes numbers) ≡ listed_bytes numbers =
    subst (λ (k : ℕ). drop k (value_bytes n ++ listed_bytes numbers) ≡ listed_bytes numbers) size (drop-append_seam (value_bytes n) (listed_bytes numbers)) in
    ap (λ (x : ℕ). x ∷ numbers_in (length numbers) (drop 4 (value_bytes n ++ listed_bytes numbers))) head
    ∙ ap (λ (x : List ℕ). n ∷ numbers_in (length numbers) x) behind ∙ ap (λ (x : List ℕ). n ∷ x) (numbers-listed numbers small.1)

-- pages that are marked are below the count of marks
free_small : (ps : List ℕ) (m : List Bool) → AllFree ps m → length m < 256 ^ 4 → AllSmall ps
free_small [] m free few = tt
free_small (p ∷ ps) m free few =
    let inside = free_in m p free.0 in (
      omega (arith, inside, few),
      free_small ps (set m p true) free.1 (let same : length (set m p true) ≡ length m = length-set m p true in omega (arith, same, few)),
    )

length-marked : (t : List ℕ) (m : List Bool) → length (marked true t m) ≡ length m
length-marked [] m = refl
length-marked (p ∷ t) m = length-marked t (set m p true) ∙ length-set m p true

-- THE INDEX THAT IS STORED
-- it has the leaves that this chain lists
pub stored_bytes : (width most : ℕ) (pages : List (List ℕ)) (claimed : List Bool) (first : ℕ) (trail bytes t leaves : List ℕ) → length claimed < 256 ^ 4
    → Claimable pages claimed first trail bytes
    → StoredIndex width most (pages_claimed pages claimed) first t leaves
    → (trail ≡ t) × (length bytes ≡ length leaves * 4) × (leaves ≡ numbers_in (length leaves) bytes)
stored_bytes width most pages claimed first trail bytes t leaves few list stored =
    let same = chain_once pages first trail t bytes (listed_bytes leaves) list.chain stored.list.chain in
    let size = length-listed leaves in
    let marks : length (marked true t claimed) < 256 ^ 4 = (let n = length-marked t claimed in omega (arith, n, few)) in
    let small = free_small leaves (marked true t claimed) stored.free marks in
    let bytes_are = ap length same.1 in
    (same.0, omega (arith, bytes_are, size), sym (numbers-listed leaves small) ∙ ap (numbers_in (length leaves)) (sym same.1))

-- the chain of its list is within that of the most entries
pub stored_within : (width most : ℕ) (pages : List (List ℕ)) (claimed : List Bool) (first : ℕ) → All (λ page. length page ≡ block_bytes) pages
    → IsStored width most pages claimed first → IsClaimableWithin (pages_for (most * 4)) pages claimed first
stored_within width most pages claimed first sized (trail, leaves, stored) =
    let count = chain_count pages first trail (listed_bytes leaves) sized stored.list.chain in
    let size = length-listed leaves in
    let few = leaves_within width (stand_of_pages pages) leaves stored.form in
    let more = pages_more (length (listed_bytes leaves)) (most * 4) (let m = stored.few in omega (arith, size, few, m)) in
    (trail, listed_bytes leaves, stored.list, omega (arith, count, more))
  where
    pages_more : (n m : ℕ) → n ≤ m → pages_for n ≤ pages_for m
    pages_more n m le = omega (arith, le)

-- so the next leaf could be loaded
pub stored_next : (width most : ℕ) (pages : List (List ℕ)) (claimed now : List Bool) (first i page : ℕ) (trail bytes : List ℕ) (was : Shape) (old : List Entry)
    → length claimed < 256 ^ 4
    → Claimable pages claimed first trail bytes
    → LoadedSoFar width pages bytes first i was old → now ≡ marked true was.pages (marked true trail claimed) → i * 4 + 4 ≤ length bytes
    → page ≡ value_in (drop (4 * i) bytes)
    → IsStored width most pages claimed first
    → IsFree now page × IsLeaf width (page_at pages page) × IsRising (old ++ leaf_in width (page_at pages page))
    × (length (old ++ leaf_in width (page_at pages page)) ≤ most)
stored_next width most pages claimed now first i page trail bytes was old small list so after room at (t, leaves, stored) =
    let is = stored_bytes width most pages claimed first trail bytes t leaves small list stored in
    let s = stand_of_pages pages in
    let split = numbers-split i (length leaves) bytes (omega (arith, is.1, room)) in
    let whole : leaves ≡ was.pages ++ page ∷ split.0 = is.2 ∙ split.1 ∙ ap (λ (p : ℕ). numbers_in i bytes ++ p ∷ split.0) (sym at)
    ∙ ap (λ (x : List ℕ). x ++ page ∷ split.0) (sym so.leaves) in
    let marks : marked true t claimed ≡ marked true trail claimed = ap (λ (x : List ℕ). marked true x claimed) (sym is.0) in
    let free : AllFree (was.pages ++ page ∷ split.0) (marked true trail claimed) = subst (λ (m : List Bool). AllFree (was.pages ++ page ∷ split.0) m) marks
    (subst (λ (x : List ℕ). AllFree x (marked true t claimed)) whole stored.free) in
    let up : IsRising (entries_of width s (was.pages ++ page ∷ split.0)) = subst (λ (x : List ℕ). IsRising (entries_of width s x)) whole stored.rising in
    let parts : entries_of width s (was.pages ++ page ∷ split.0) ≡ (old ++ leaf_in width (page_at pages page)) ++ entries_of width s split.0 =
    entries_of-append width s was.pages (page ∷ split.0)
    ∙ sym (append_assoc (entries_of width s was.pages) (leaf_in width (page_at pages page)) (entries_of width s split.0))
    ∙ ap (λ (x : List Entry). (x ++ leaf_in width (page_at pages page)) ++ entries_of width s split.0) (sym so.entries) in
    let few : length (entries_of width s (was.pages ++ page ∷ split.0)) ≤ most =
    subst (λ (x : List ℕ). length (entries_of width s x) ≤ most) whole stored.few in
    let sum = length-append (old ++ leaf_in width (page_at pages page)) (entries_of width s split.0) in
    let all = ap length parts in (
      subst (λ (m : List Bool). IsFree m page) (sym after) (free_middle was.pages page split.0 (marked true trail claimed) free),
      form_middle width s was.pages page split.0 (subst (λ (x : List ℕ). AllLeaves width s x) whole stored.form),
      rises_front 0 (old ++ leaf_in width (page_at pages page)) (entries_of width s split.0) (subst (λ (x : List Entry). IsRising x) parts up),
      omega (arith, few, sum, all),
    )
