-- The two loops of a commit.
use Rattle.std.proofs.Common.{◌≡◌, ◌≢◌, ◌⊎◌, inl, inr, ℕ, zero, suc, ◌+◌, ◌-◌, ◌*◌, ◌<◌, ◌≤◌, List, [], ◌∷◌, ◌++◌, length, get_or, set, map, take, All, refl}
use Rattle.std.proofs.Common.{sym, ◌∙◌, subst, arith}
use Rattle.byteorder.specs.Endian.{big_bytes}
use Rattle.std.proofs.lemmas.List.{same_lists, get_or-set_same, get_or-set_other, length-set, length-map, take_more}
use Rattle.std.proofs.lemmas.List.Elements.{All-get_or}
use Rattle.std.specs.List.Sorted.{IsStrictlyIncreasing}
use Rattle.std.proofs.lemmas.List.FromFn.{length-map-range_with_len, get_or-map-range_with_len}
use Rattle.std.proofs.lemmas.Bool.{cases_eq, cases_lt}
use Rattle.tune_disk.specs.Disk.{Written}
use Rattle.tune_disk.proofs.Writes.{written_long}
use Rattle.tune_journal.specs.ChangeList.{change_at}
use Rattle.tune_journal.specs.Image.{window, pages_of, page_offset}
use Rattle.tune_journal.specs.Inside.Phases.{HoldsLogEntries, IsInNoPage, IsNoLog, IsOutside}
use Rattle.tune_journal.specs.FileOffsets.{block_bytes, descriptor_offset, log_entry_bytes}
use Rattle.tune_journal.specs.Pages.{changed_pages}
use Rattle.tune_journal.proofs.Windows.{written_window, written_other}

-- one entry more
pub entries_more : (base i : ℕ) (log : List (ℕ × List ℕ)) (bytes old new : List ℕ) → HoldsLogEntries base log i old → length bytes ≡ log_entry_bytes
    → bytes ≡ big_bytes 4 (change_at log i).0 ++ (change_at log i).1 → Written (base + log_entry_bytes * i) bytes old new → HoldsLogEntries base log (i + 1) new
entries_more base i log bytes old new held size is w k lt = elim (cases_eq k i) [
  | inl same ↦ (
    subst (λ (j : ℕ). window (base + log_entry_bytes * j) log_entry_bytes new ≡ big_bytes 4 (change_at log j).0 ++ (change_at log j).1) (sym same)
        (subst (λ (n : ℕ). window (base + log_entry_bytes * i) n new ≡ big_bytes 4 (change_at log i).0 ++ (change_at log i).1) size
        (written_window (base + log_entry_bytes * i) bytes old new (omega arith) w ∙ is)),
    omega (arith, written_long (base + log_entry_bytes * i) bytes old new w (omega arith)),
  )
  | inr other ↦ (
      let h = held k (omega arith) in (
        written_other (base + log_entry_bytes * i) bytes old new (omega arith) w (base + log_entry_bytes * k) log_entry_bytes (omega (arith, h.1))
            (inl (omega arith))
            ∙ h.0,
        omega (arith, h.1, written_long (base + log_entry_bytes * i) bytes old new w (omega arith)),
      )
      )
]

-- One write of an image to the offset of its page changes that page alone.
pub image_more : (n page : ℕ) (image old new : List ℕ) → length image ≡ block_bytes → page < n → page_offset n ≤ length old
    → Written (page_offset page) image old new → pages_of n new ≡ set (pages_of n old) page image
unfolding pages_of
image_more n page image old new size below long w =
    same_lists (pages_of n new) (set (pages_of n old) page image) sizes
    (λ k d lt. each k d (omega (arith, length-map-range_with_len (λ p. window (page_offset p) block_bytes new) 0 n)))
  where
    sizes : length (pages_of n new) ≡ length (set (pages_of n old) page image)
    sizes =
        length-map-range_with_len (λ p. window (page_offset p) block_bytes new) 0 n
        ∙ sym (length-set (pages_of n old) page image ∙ length-map-range_with_len (λ p. window (page_offset p) block_bytes old) 0 n)

    old_size : length (pages_of n old) ≡ n
    old_size = length-map-range_with_len (λ p. window (page_offset p) block_bytes old) 0 n

    here : (d : List ℕ) → get_or (pages_of n new) page d ≡ get_or (set (pages_of n old) page image) page d
    here d =
        get_or-map-range_with_len (λ p. window (page_offset p) block_bytes new) 0 n page page d below (omega arith)
        ∙ subst (λ (m : ℕ). window (page_offset page) m new ≡ image) size (written_window (page_offset page) image old new (omega arith) w)
        ∙ sym (get_or-set_same (pages_of n old) page image d (omega (arith, old_size)))

    there : (k : ℕ) (d : List ℕ) → k < n → k ≢ page → get_or (pages_of n new) k d ≡ get_or (set (pages_of n old) page image) k d
    there k d lt ne =
        get_or-map-range_with_len (λ p. window (page_offset p) block_bytes new) 0 n k k d lt (omega arith)
        ∙ written_other (page_offset page) image old new (omega arith) w (page_offset k) block_bytes (omega arith) (apart (cases_lt k page))
        ∙ sym (get_or-map-range_with_len (λ p. window (page_offset p) block_bytes old) 0 n k k d lt (omega arith))
        ∙ sym (get_or-set_other (pages_of n old) page k image d ne)
      where
        apart : (k < page) ⊎ (page ≤ k) → (page_offset k + block_bytes ≤ page_offset page) ⊎ (page_offset page + length image ≤ page_offset k)
        apart (inl lt) = inl (omega arith)
        apart (inr le) = inr (omega arith)

    each : (k : ℕ) (d : List ℕ) → k < n → get_or (pages_of n new) k d ≡ get_or (set (pages_of n old) page image) k d
    each k d lt = elim (cases_eq k page) [
      | inl same ↦ subst (λ (j : ℕ). get_or (pages_of n new) j d ≡ get_or (set (pages_of n old) page image) j d) (sym same) (here d)
      | inr other ↦ there k d lt other
    ]

pub changed-push : (pages : List (List ℕ)) (log : List (ℕ × List ℕ)) (e : ℕ × List ℕ) → changed_pages pages (log ++ e ∷ [])
    ≡ set (changed_pages pages log) e.0 e.1
changed-push pages [] e = refl
changed-push pages (x ∷ log) e = changed-push (set pages x.0 x.1) log e

-- an offset in no page of a list is outside each of its pages
pub outside_page : (log : List (ℕ × List ℕ)) (k i : ℕ) → k < length log → IsInNoPage log i
    → (i < page_offset (change_at log k).0) ⊎ (page_offset (change_at log k).0 + block_bytes ≤ i)
outside_page [] k i lt out = absurd (omega arith)
outside_page (e ∷ log) zero i lt out = out.0
outside_page (e ∷ log) (suc k) i lt out = outside_page log k i (omega arith) out.1

-- a write in front of the entries leaves them
pub entries_kept : (base : ℕ) (log : List (ℕ × List ℕ)) (n at : ℕ) (bytes old new : List ℕ) → 0 < length bytes → at + length bytes ≤ base
    → HoldsLogEntries base log n old → Written at bytes old new → HoldsLogEntries base log n new
entries_kept base log n at bytes old new some before held w k lt =
    let h = held k lt in (
      written_other at bytes old new some w (base + log_entry_bytes * k) log_entry_bytes (omega (arith, h.1)) (inr (omega arith))
          ∙ h.0,
      omega (arith, h.1, written_long at bytes old new w some),
    )

pub below_log : (m b i : ℕ) → b ≡ page_offset m → IsNoLog m i → i < b
below_log m b i is (inl lt) = omega arith
below_log m b i is (inr out) = omega (arith, out.1)

pub off_descriptor : (m n i : ℕ) → n ≡ 8 → IsNoLog m i → IsOutside descriptor_offset n i
off_descriptor m n i is (inl lt) = inl lt
off_descriptor m n i is (inr out) = inr (omega (arith, out.0))

-- nor is such an offset in the image that is written for one of the entries
pub outside_image : (log : List (ℕ × List ℕ)) (k page i : ℕ) (image : List ℕ) → k < length log → page ≡ (change_at log k).0 → length image ≡ block_bytes
    → IsInNoPage log i → (i < page_offset page) ⊎ (page_offset page + length image ≤ i)
outside_image log k page i image lt is size out = by_cases (outside_page log k i lt out)
  where
    by_cases : (i < page_offset (change_at log k).0) ⊎ (page_offset (change_at log k).0 + block_bytes ≤ i)
        → (i < page_offset page) ⊎ (page_offset page + length image ≤ i)
    by_cases (inl below) = inl (omega (arith, is))
    by_cases (inr above) = inr (omega (arith, is, size))

-- the front of a log, with one entry more
pub take_entry : (log : List (ℕ × List ℕ)) (k page : ℕ) (image : List ℕ) → k < length log → page ≡ (change_at log k).0 → image ≡ (change_at log k).1
    → take (k + 1) log ≡ take k log ++ (page, image) ∷ []
take_entry log k page image lt is_page is_image = take_more log k (0, []) lt ∙ (λ t. take k log ++ (sym is_page t, sym is_image t) ∷ [])

pub entry_below : (log : List (ℕ × List ℕ)) (n k page : ℕ) → All (λ e. e.0 < n) log → k < length log → page ≡ (change_at log k).0 → page < n
entry_below log n k page all lt is =
    (let below : (change_at log k).0 < n = All-get_or (λ (e : ℕ × List ℕ). e.0 < n) log k (0, []) lt all in omega (arith, below, is))

numbers_at : (xs : List (ℕ × List ℕ)) (i : ℕ) → get_or (map (λ e. e.0) xs) i 0 ≡ (get_or xs i (0, [])).0
numbers_at [] i = refl
numbers_at (x ∷ xs) zero = refl
numbers_at (x ∷ xs) (suc i) = numbers_at xs i

-- numbers that rise are at least their places
climb : (xs : List ℕ) → IsStrictlyIncreasing xs → (i : ℕ) → i < length xs → i ≤ get_or xs i 0
climb xs rising zero lt = omega arith
climb xs rising (suc i) lt = (let up : get_or xs i 0 < get_or xs (i + 1) 0 = rising i (omega arith) in
    let same : i + 1 ≡ suc i = omega arith in
    omega (arith, climb xs rising i (omega arith), subst (λ (j : ℕ). get_or xs i 0 < get_or xs j 0) same up))

-- Entries that name pages below m, each above the last, are m at most.
pub rising_few : (m : ℕ) (log : List (ℕ × List ℕ)) → IsStrictlyIncreasing (map (λ e. e.0) log) → 0 < length log → All (λ e. e.0 < m) log → length log ≤ m
rising_few m log rising some below =
    let last : (change_at log (length log - 1)).0 < m = All-get_or (λ (e : ℕ × List ℕ). e.0 < m) log (length log - 1) (0, []) (omega (arith, some)) below in
    let high : length log - 1 ≤ get_or (map (λ e. e.0) log) (length log - 1) 0 =
    climb (map (λ e. e.0) log) rising (length log - 1) (omega (arith, some, length-map log (λ (e : ℕ × List ℕ). e.0))) in
    omega (arith, last, high, numbers_at log (length log - 1), some)
