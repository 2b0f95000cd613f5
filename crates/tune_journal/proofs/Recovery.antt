-- One entry of a log is copied into its page.
use Rattle.std.proofs.Common.{◌≡◌, ◌⊎◌, ◌↔◌, Bool, true, false, IsTrue, ◌≢◌, inl, inr, ℕ, zero, suc, ◌+◌, ◌<◌, ◌≤◌, List, [], ◌∷◌, ◌++◌, length, get_or, set}
use Rattle.std.proofs.Common.{map, All, refl, sym, ◌∙◌, ap, subst, arith, Result}
use Rattle.std.proofs.lemmas.List.{length-map}
use Rattle.std.proofs.lemmas.List.FromFn.{map-range_with_len_more}
use Rattle.tune_disk.specs.Disk.{DiskState, Written, Writes}
use Rattle.tune_disk.specs.Inside.Spares.{Agrees, SparesOffsets}
use Rattle.tune_disk.proofs.Moments.{spares_then, spares_write}
use Rattle.tune_journal.specs.ChangeList.{change_at}
use Rattle.tune_journal.specs.Image.{window, number, page_offset, entry_offset, pages_of, entries, IsLog, HasLog, entry_count_of}
use Rattle.tune_journal.specs.Inside.Looking.{HasEntries, HasEntry, Climbs, least_of}
use Rattle.tune_journal.specs.Inside.Phases.{IsInNoPage}
use Rattle.tune_journal.specs.FileOffsets.{block_bytes, entry_count_offset, least_length, most_pages}
use Rattle.tune_journal.specs.Pages.{changed_pages}
use Rattle.tune_journal.proofs.Windows.{length-window}
use Rattle.tune_journal.proofs.Loops.{image_more, changed-push, outside_page}
use Rattle.tune_journal.proofs.Agreeing.{agree_number, agree_window, entries_at, length-entries}
use Rattle.tune_journal.proofs.Standing.{in_no_page}

-- The entries of a log, one more at a time.
pub spares_agrees : (Kept : ℕ → Type 0) (a b : DiskState) → SparesOffsets Kept a b → Agrees Kept a.seen b.seen
spares_agrees Kept a b s = record { longer = s.longer; same = λ i lt kept. s.seen i kept }

pub entries_none : (m : ℕ) (f : List ℕ) → entries m 0 f ≡ []
unfolding entries
entries_none m f = refl

pub entries_more : (m k : ℕ) (f : List ℕ)
    → entries m (k + 1) f ≡ entries m k f ++ (number (entry_offset m k) f, window (entry_offset m k + 4) block_bytes f) ∷ []
unfolding entries
entries_more m k f = map-range_with_len_more (λ i. (number (entry_offset m i) f, window (entry_offset m i + 4) block_bytes f)) 0 k k (omega arith)

pub all_below : (m k : ℕ) (f : List ℕ) → HasEntries m k f → All (λ e. e.0 < m) (entries m k f)
all_below m k f has i d lt =
    let low : i < k = omega (arith, length-entries m k f) in
    subst (λ (e : ℕ × List ℕ). e.0 < m) (sym (entries_at m k i f d low)) (has.climbs i low).1

-- One of them, while those before it are in their pages.
module _ (m k i : ℕ) (start now : DiskState) (has : HasEntries m k start.seen) (lt : i < k)
    (so_far : SparesOffsets (IsInNoPage (entries m k start.seen)) start now) where
  abbrev log : List (ℕ × List ℕ)
  log = entries m k start.seen

  agrees : Agrees (IsInNoPage log) start.seen now.seen
  agrees = spares_agrees (IsInNoPage log) start now so_far

  behind : (j : ℕ) → page_offset m ≤ j → IsInNoPage log j
  behind j le = in_no_page m j log (all_below m k start.seen has) (inr le)

  long : entry_offset m (i + 1) ≤ length start.seen
  long = omega (arith, has.long)

  pub page_same : number (entry_offset m i) now.seen ≡ number (entry_offset m i) start.seen
  page_same = agree_number (IsInNoPage log) start.seen now.seen agrees (entry_offset m i) (omega (arith, long)) (λ j le lt'. behind j (omega arith))

  pub image_same : window (entry_offset m i + 4) block_bytes now.seen ≡ window (entry_offset m i + 4) block_bytes start.seen
  image_same =
      agree_window (IsInNoPage log) start.seen now.seen agrees (entry_offset m i + 4) block_bytes (omega (arith, long)) (λ j le lt'. behind j (omega arith))

  pub within : entry_offset m (i + 1) ≤ length now.seen
  within = omega (arith, long, so_far.longer)

  pub low : number (entry_offset m i) now.seen < m
  low = omega (arith, page_same, (has.climbs i lt).1)

  pub has_entry : (least : ℕ) → least ≡ least_of m i start.seen → HasEntry m i least now.seen
  has_entry least is = record { long = within; climbs = omega (arith, is, page_same, (has.climbs i lt).0); below = low }

  -- the least page of the next entry
  pub next_least : (least : ℕ) → least ≡ number (entry_offset m i) now.seen + 1 → least ≡ least_of m (i + 1) start.seen
  next_least least is =
      let same : suc i ≡ i + 1 = omega arith in
      subst (λ (j : ℕ). least ≡ least_of m j start.seen) same (omega (arith, is, page_same))

  pub image_size : length (window (entry_offset m i + 4) block_bytes now.seen) ≡ block_bytes
  image_size = length-window (entry_offset m i + 4) block_bytes now.seen (omega (arith, within))

  pub copy_spares : {T E : Type 0} (r : Result T E) (next : DiskState)
      → Writes (page_offset (number (entry_offset m i) now.seen)) (window (entry_offset m i + 4) block_bytes now.seen) r now next
      → SparesOffsets (IsInNoPage log) start next
  copy_spares r next w = spares_then (IsInNoPage log) start now next so_far
      (spares_write (IsInNoPage log) (page_offset (number (entry_offset m i) now.seen)) (window (entry_offset m i + 4) block_bytes now.seen) r now next w
      (λ j out. apart j (outside_page log i j (omega (arith, lt, length-entries m k start.seen)) out)))
    where
      named : (change_at log i).0 ≡ number (entry_offset m i) now.seen
      named = ap (λ (e : ℕ × List ℕ). e.0) (entries_at m k i start.seen (0, []) lt) ∙ sym page_same

      apart : (j : ℕ) → (j < page_offset (change_at log i).0) ⊎ (page_offset (change_at log i).0 + block_bytes ≤ j)
          → (j < page_offset (number (entry_offset m i) now.seen))
          ⊎ (page_offset (number (entry_offset m i) now.seen) + length (window (entry_offset m i + 4) block_bytes now.seen) ≤ j)
      apart j (inl below) = inl (omega (arith, named, below))
      apart j (inr above) = inr (omega (arith, named, above, image_size))

  pub copy_image : (next : DiskState)
      → Written (page_offset (number (entry_offset m i) now.seen)) (window (entry_offset m i + 4) block_bytes now.seen) now.seen next.seen
      → pages_of m now.seen ≡ changed_pages (pages_of m start.seen) (entries m i start.seen)
      → pages_of m next.seen ≡ changed_pages (pages_of m start.seen) (entries m (i + 1) start.seen)
  copy_image next w before =
      image_more m (number (entry_offset m i) now.seen) (window (entry_offset m i + 4) block_bytes now.seen) now.seen next.seen image_size low
      (omega (arith, within)) w
      ∙ (λ t. set (before t) (page_same t) (image_same t))
      ∙ sym (changed-push (pages_of m start.seen) (entries m i start.seen)
      (number (entry_offset m i) start.seen, window (entry_offset m i + 4) block_bytes start.seen))
      ∙ ap (changed_pages (pages_of m start.seen)) (sym (entries_more m i start.seen))

-- What the test of a log comes to.
numbers_at : (xs : List (ℕ × List ℕ)) (i : ℕ) → get_or (map (λ e. e.0) xs) i 0 ≡ (get_or xs i (0, [])).0
numbers_at [] i = refl
numbers_at (x ∷ xs) zero = refl
numbers_at (x ∷ xs) (suc i) = numbers_at xs i

module _ (m k : ℕ) (f : List ℕ) where
  number_at : (i : ℕ) → i < k → get_or (map (λ e. e.0) (entries m k f)) i 0 ≡ number (entry_offset m i) f
  number_at i lt = numbers_at (entries m k f) i ∙ ap (λ (e : ℕ × List ℕ). e.0) (entries_at m k i f (0, []) lt)

  length-numbers : length (map (λ e. e.0) (entries m k f)) ≡ k
  length-numbers = length-map (entries m k f) (λ e. e.0) ∙ length-entries m k f

  pub climbs_log : 0 < k → k ≤ m → Climbs m k f → IsLog m (entries m k f)
  climbs_log some few climbs = record {
    some = omega (arith, some, length-entries m k f);
    few = omega (arith, few, length-entries m k f);
    rising =
        λ i lt. (let lt' : i + 1 < k = omega (arith, lt, length-numbers) in omega (arith, number_at i (omega (arith, lt')), number_at (i + 1) lt', next i lt'));
    below =
        λ i d lt. (let lt' : i < k = omega (arith, lt, length-entries m k f) in subst (λ (e : ℕ × List ℕ). e.0 < m) (sym (entries_at m k i f d lt'))
        (climbs i lt').1);
  }
    where
      next : (i : ℕ) → i + 1 < k → number (entry_offset m i) f + 1 ≤ number (entry_offset m (i + 1)) f
      next i lt = least (i + 1) lt i (omega arith)
        where
          least : (j : ℕ) → j < k → (i : ℕ) → j ≡ suc i → number (entry_offset m i) f + 1 ≤ number (entry_offset m j) f
          least zero lt i is = absurd (omega arith)
          least (suc j) lt i is =
              (let same : j ≡ i = omega arith in subst (λ (x : ℕ). number (entry_offset m x) f + 1 ≤ number (entry_offset m (suc j)) f) same
              (climbs (suc j) lt).0)

  pub log_climbs : IsLog m (entries m k f) → Climbs m k f
  log_climbs log i lt = (least i lt, below)
    where
      below : number (entry_offset m i) f < m
      below = subst (λ (e : ℕ × List ℕ). e.0 < m) (entries_at m k i f (0, []) lt) (log.below i (0, []) (omega (arith, lt, length-entries m k f)))

      least : (i : ℕ) → i < k → least_of m i f ≤ number (entry_offset m i) f
      least zero lt = omega arith
      least (suc i) lt = (let up = log.rising i (omega (arith, lt, length-numbers)) in
          let same : i + 1 ≡ suc i = omega arith in
          omega (
            arith,
            up,
            number_at i (omega (arith, lt)),
            subst (λ (x : ℕ). get_or (map (λ e. e.0) (entries m k f)) x 0 ≡ number (entry_offset m (suc i)) f)
                (sym same) (number_at (suc i) lt),
          ))

-- What a look found of the log.

-- the second number of a descriptor, on a disk that a read left as it was
pub second_number : (a b : DiskState) (n : ℕ) → b ≡ a → least_length ≤ length a.seen → (entry_count_offset + 4 ≤ length b.seen → n ≡ entry_count_of b.seen)
    → n ≡ entry_count_of a.seen
second_number a b n same long is =
    (let same_seen : b.seen ≡ a.seen = ap (λ (s : DiskState). s.seen) same in is (omega (arith, ap length same_seen, long)) ∙ ap entry_count_of same_seen)

-- what the test of a log says
pub tested : (m k : ℕ) (a b : DiskState) (said : Bool) → b ≡ a → entry_offset m k ≤ length a.seen
    → (entry_offset m k ≤ length b.seen → IsTrue said ↔ Climbs m k b.seen) → IsTrue said ↔ Climbs m k a.seen
tested m k a b said same long says =
    let same_seen : b.seen ≡ a.seen = ap (λ (s : DiskState). s.seen) same in
    subst (λ (f : List ℕ). IsTrue said ↔ Climbs m k f) same_seen (says (omega (arith, ap length same_seen, long)))

pub has_log : (m k : ℕ) (f : List ℕ) → m ≤ most_pages → 0 < k → k ≤ m → entry_offset m k ≤ length f → Climbs m k f → HasLog m k f
has_log m k f most some few long climbs = record {
  count = record { least = omega (arith, some, few); most = most; long = omega (arith, long) };
  long = long;
  log = climbs_log m k f some few climbs;
}

pub not_log : (m k m' k' : ℕ) (f : List ℕ) → m ≡ m' → k ≡ k' → HasLog m' k' f
    → (most_pages < m) ⊎ ((m ≤ most_pages × (k ≡ 0)) ⊎ (m ≤ most_pages × (k ≢ 0) × (m < k))) → ⊥
not_log m k m' k' f is is' log (inl over) = omega (arith, is, over, log.count.most)
not_log m k m' k' f is is' log (inr (inl none)) = omega (arith, is', none.1, log.log.some, length-entries m' k' f)
not_log m k m' k' f is is' log (inr (inr many)) = omega (arith, is, is', many.2, log.log.few, length-entries m' k' f)

pub true_gives : (b : Bool) (P : Type 0) → b ≡ true → IsTrue b ↔ P → P
true_gives b P is iff = (subst (λ (x : Bool). IsTrue x ↔ P) is iff).0 refl

pub false_gives : (b : Bool) (P : Type 0) → b ≡ false → IsTrue b ↔ P → P → ⊥
false_gives b P is iff p = let t : b ≡ true = iff.1 p in cc
