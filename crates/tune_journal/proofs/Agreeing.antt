-- Files that agree but for some bytes: the numbers, pages and entries in them.
use Rattle.std.proofs.Common.{◌≡◌, ℕ, ◌+◌, ◌^◌, ◌<◌, ◌≤◌, List, [], ◌∷◌, length, All, get_or, take, drop}
use Rattle.std.proofs.Common.{sym, ◌∙◌, ap, subst, arith}
use Rattle.byteorder.specs.Endian.{big_bytes, big_number}
use Rattle.std.proofs.lemmas.List.{take-take, drop-take, drop-drop, same_lists}
use Rattle.std.proofs.lemmas.List.FromFn.{length-map-range_with_len, get_or-map-range_with_len}
use Rattle.byteorder.specs.Numbers.{big_number-reads_back}
use Rattle.tune_disk.specs.Disk.{Written, Shows}
use Rattle.tune_disk.specs.Inside.Spares.{Agrees}
use Rattle.tune_disk.proofs.Writes.{written_long}
use Rattle.tune_journal.specs.Image.{window, number, page_offset, entry_offset, pages_of, entries, gate_of, IsLog, IsHeaded}
use Rattle.tune_journal.specs.Image.{HasPageCount, HasLog}
use Rattle.tune_journal.specs.Inside.Phases.{IsOutside}
use Rattle.tune_journal.specs.FileOffsets.{block_bytes, gate_offset, pages_offset, log_entry_bytes}
use Rattle.tune_journal.proofs.Windows.{same_window, shows_window, length-window}

-- Numbers.
pub number_same : (at : ℕ) (file other : List ℕ) → window at 4 other ≡ window at 4 file → number at other ≡ number at file
unfolding number
number_same at file other is = ap (big_number 4) is

pub number_is : (at n : ℕ) (file : List ℕ) → n < 2 ^ 32 → window at 4 file ≡ big_bytes 4 n → number at file ≡ n
unfolding number
number_is at n file fits is = ap (big_number 4) is ∙ big_number-reads_back 4 n [] (omega arith)

-- Parts that are kept.
module _ (Kept : ℕ → Type 0) (f c : List ℕ) (agrees : Agrees Kept f c) where
  pub agree_window : (at n : ℕ) → at + n ≤ length f → ((i : ℕ) → at ≤ i → i < at + n → Kept i) → window at n c ≡ window at n f
  agree_window at n long kept = same_window at n f c long (omega (arith, long, agrees.longer)) (λ i le lt. agrees.same i (omega arith) (kept i le lt))

  pub agree_number : (at : ℕ) → at + 4 ≤ length f → ((i : ℕ) → at ≤ i → i < at + 4 → Kept i) → number at c ≡ number at f
  agree_number at long kept = number_same at f c (agree_window at 4 long kept)

  pub agree_page : (n p : ℕ) (d : List ℕ) → p < n → page_offset n ≤ length f → ((i : ℕ) → page_offset p ≤ i → i < page_offset p + block_bytes → Kept i)
      → get_or (pages_of n c) p d ≡ get_or (pages_of n f) p d
  unfolding pages_of
  agree_page n p d lt long kept =
      get_or-map-range_with_len (λ q. window (page_offset q) block_bytes c) 0 n p p d lt (omega arith)
      ∙ agree_window (page_offset p) block_bytes (omega arith) kept
      ∙ sym (get_or-map-range_with_len (λ q. window (page_offset q) block_bytes f) 0 n p p d lt (omega arith))

-- Pages and entries, one by one.
pub length-pages_of : (n : ℕ) (f : List ℕ) → length (pages_of n f) ≡ n
unfolding pages_of
length-pages_of n f = length-map-range_with_len (λ q. window (page_offset q) block_bytes f) 0 n

pub pages_of_at : (n p : ℕ) (f : List ℕ) (d : List ℕ) → p < n → get_or (pages_of n f) p d ≡ window (page_offset p) block_bytes f
unfolding pages_of
pages_of_at n p f d lt = get_or-map-range_with_len (λ q. window (page_offset q) block_bytes f) 0 n p p d lt (omega arith)

-- each has the bytes of a page
pub sized_pages : (n : ℕ) (f : List ℕ) → page_offset n ≤ length f → All (λ page. length page ≡ block_bytes) (pages_of n f)
sized_pages n f long = λ p d lt.
    (let within : p < n = omega (arith, lt, length-pages_of n f) in
    ap length (pages_of_at n p f d within) ∙ length-window (page_offset p) block_bytes f (omega (arith, within, long)))

pub length-entries : (m k : ℕ) (f : List ℕ) → length (entries m k f) ≡ k
unfolding entries
length-entries m k f = length-map-range_with_len (λ i. (number (entry_offset m i) f, window (entry_offset m i + 4) block_bytes f)) 0 k

pub entries_at : (m k i : ℕ) (f : List ℕ) (d : ℕ × List ℕ) → i < k
    → get_or (entries m k f) i d ≡ (number (entry_offset m i) f, window (entry_offset m i + 4) block_bytes f)
unfolding entries
entries_at m k i f d lt = get_or-map-range_with_len (λ i. (number (entry_offset m i) f, window (entry_offset m i + 4) block_bytes f)) 0 k i i d lt (omega arith)

-- The same of all pages, all entries, and what they are said to be.
module _ (Kept : ℕ → Type 0) (f c : List ℕ) (agrees : Agrees Kept f c) where
  pub agree_pages_of : (n : ℕ) → page_offset n ≤ length f → ((i : ℕ) → pages_offset ≤ i → i < page_offset n → Kept i) → pages_of n c ≡ pages_of n f
  agree_pages_of n long kept = same_lists (pages_of n c) (pages_of n f) (length-pages_of n c ∙ sym (length-pages_of n f))
      (λ p d lt. agree_page Kept f c agrees n p d (omega (arith, length-pages_of n c)) long
      (λ i le lt'. kept i (omega arith) (omega (arith, lt, length-pages_of n c))))

  pub agree_entries : (m k : ℕ) → entry_offset m k ≤ length f → ((i : ℕ) → entry_offset m 0 ≤ i → i < entry_offset m k → Kept i) → entries m k c ≡ entries m k f
  agree_entries m k long kept =
      same_lists (entries m k c) (entries m k f) (length-entries m k c ∙ sym (length-entries m k f)) (λ i d lt. each i d (omega (arith, length-entries m k c)))
    where
      each : (i : ℕ) (d : ℕ × List ℕ) → i < k → get_or (entries m k c) i d ≡ get_or (entries m k f) i d
      each i d lt =
          let page = agree_number Kept f c agrees (entry_offset m i) (omega arith) (λ j le lt'. kept j (omega arith) (omega arith)) in
          let image = agree_window Kept f c agrees (entry_offset m i + 4) block_bytes (omega arith) (λ j le lt'. kept j (omega arith) (omega arith)) in
          entries_at m k i c d lt ∙ (λ t. (page t, image t)) ∙ sym (entries_at m k i f d lt)

  pub agree_headed : IsHeaded f → ((i : ℕ) → i < 8 → Kept i) → IsHeaded c
  agree_headed headed kept = record {
    magic = agree_window Kept f c agrees 0 8 (omega (arith, headed.long)) (λ i le lt. kept i lt) ∙ headed.magic;
    long = omega (arith, headed.long, agrees.longer);
  }

  pub agree_count : (n : ℕ) → HasPageCount n f → HasPageCount n c
  agree_count n has = record { least = has.least; most = has.most; long = omega (arith, has.long, agrees.longer) }

  pub agree_gate : IsHeaded f → Kept gate_offset → gate_of c ≡ gate_of f
  agree_gate headed kept = agrees.same gate_offset (omega (arith, headed.long)) kept

  pub agree_log : (m k : ℕ) → HasLog m k f → ((i : ℕ) → entry_offset m 0 ≤ i → i < entry_offset m k → Kept i) → HasLog m k c
  agree_log m k has kept = record {
    count = agree_count m has.count;
    long = omega (arith, has.long, agrees.longer);
    log = subst (IsLog m) (sym (agree_entries m k has.long kept)) has.log;
  }

-- After a write.
pub written_agrees : (at : ℕ) (bytes old new : List ℕ) → 0 < length bytes → Written at bytes old new → Agrees (IsOutside at (length bytes)) old new
written_agrees at bytes old new some w = record { longer = omega (arith, written_long at bytes old new w some); same = λ i lt out. w.outside i out }

pub gate_written : (gate : ℕ) (old new : List ℕ) → Written gate_offset (gate ∷ []) old new → gate_of new ≡ gate
gate_written gate old new w = w.inside 0 (omega arith)

-- What a read showed.
pub number_shown : (at n : ℕ) (bytes file : List ℕ) → length bytes ≡ 4 → Shows file at bytes → at + 4 ≤ length file → n ≡ big_number 4 bytes
    → n ≡ number at file
unfolding number
number_shown at n bytes file size shows long is =
    is ∙ ap (big_number 4) (shows_window at bytes file shows (omega arith) ∙ ap (λ (k : ℕ). window at k file) size)

-- an entry that was read, by its parts
pub entry_shown : (at : ℕ) (bytes file : List ℕ) → length bytes ≡ log_entry_bytes → Shows file at bytes → at + log_entry_bytes ≤ length file
    → bytes ≡ window at (4 + block_bytes) file
entry_shown at bytes file size shows long = shows_window at bytes file shows (omega arith) ∙ ap (λ (k : ℕ). window at k file) size

pub number_of_entry : (at n : ℕ) (bytes file : List ℕ) → length bytes ≡ log_entry_bytes → Shows file at bytes → at + log_entry_bytes ≤ length file
    → n ≡ big_number 4 (take 4 bytes) → n ≡ number at file
unfolding number
number_of_entry at n bytes file size shows long is =
    is ∙ ap (big_number 4)
    (ap (λ (l : List ℕ). take 4 l) (entry_shown at bytes file size shows long) ∙ take-take 4 (4 + block_bytes) (drop at file) (omega arith))

pub image_of_entry : (at : ℕ) (bytes file : List ℕ) → length bytes ≡ log_entry_bytes → Shows file at bytes → at + log_entry_bytes ≤ length file
    → drop 4 bytes ≡ window (at + 4) block_bytes file
image_of_entry at bytes file size shows long =
    ap (λ (l : List ℕ). drop 4 l) (entry_shown at bytes file size shows long) ∙ drop-take 4 block_bytes (drop at file)
    ∙ ap (λ (l : List ℕ). take block_bytes l) (drop-drop 4 at file)
