-- The disk after each part of a commit.
use Rattle.std.proofs.Common.{◌≡◌, inl, inr, ℕ, ◌+◌, ◌-◌, ◌*◌, ◌<◌, ◌≤◌, List, [], ◌++◌, length, get_or, replicate, All}
use Rattle.std.proofs.Common.{refl, sym, ◌∙◌, ap, subst, arith}
use Rattle.byteorder.specs.Endian.{big_bytes}
use Rattle.std.proofs.lemmas.List.{same_lists, get_or_default, length-append, length-replicate, get_or_append_left}
use Rattle.std.proofs.lemmas.List.Elements.{All-get_or}
use Rattle.std.proofs.lemmas.Bool.{cases_lt}
use Rattle.tune_disk.specs.Disk.{DiskState}
use Rattle.tune_disk.specs.Inside.Spares.{Agrees}
use Rattle.tune_journal.specs.ChangeList.{change_at}
use Rattle.tune_journal.specs.Image.{window, number, entry_offset, pages_of, entries, count_of, new_count_of, log_of, gate_of, IsLog}
use Rattle.tune_journal.specs.Image.{HasLog, entry_count_of}
use Rattle.tune_journal.specs.Inside.Phases.{KeepsBoth, IsNoLog, IsOutside, HoldsLogEntries, HoldsDescriptor, Settles}
use Rattle.tune_journal.specs.Inside.Rest.{IsAtRest, IsLogged, IsOpened, IsApplied}
use Rattle.tune_journal.specs.FileOffsets.{block_bytes, gate_offset, gate_open, gate_closed, descriptor_offset, entry_count_offset, count_offset}
use Rattle.tune_journal.specs.FileOffsets.{log_entry_bytes}
use Rattle.tune_journal.specs.FileOffsets.{most_pages}
use Rattle.tune_journal.specs.Pages.{changed_pages, NamesAll}
use Rattle.tune_journal.proofs.Windows.{front_window, back_window}
use Rattle.tune_journal.proofs.Changed.{Unnamed, changed_same, changed-changed}
use Rattle.tune_journal.proofs.CallRuns.{settles_settled, settles_agrees}
use Rattle.tune_journal.proofs.Agreeing.{number_is, agree_number, length-pages_of, pages_of_at, length-entries, entries_at, agree_pages_of, agree_entries}
use Rattle.tune_journal.proofs.Agreeing.{agree_headed, agree_count, agree_gate, agree_log}
use Rattle.tune_journal.proofs.Standing.{applying_headed, applying_gate, applying_new_count, applying_size, applying_log, applying_entries, log_same}

-- The log.

-- what stands in the log is what was written there
pub entries_written : (m : ℕ) (log : List (ℕ × List ℕ)) (f : List ℕ) → m ≤ most_pages → All (λ e. e.0 < m) log
    → HoldsLogEntries (entry_offset m 0) log (length log) f → entries m (length log) f ≡ log
entries_written m log f most below held =
    same_lists (entries m (length log) f) log (length-entries m (length log) f) (λ i d lt. each i d (omega (arith, length-entries m (length log) f)))
  where
    each : (i : ℕ) (d : ℕ × List ℕ) → i < length log → get_or (entries m (length log) f) i d ≡ get_or log i d
    each i d lt =
        let h = held i lt in
        let e : ℕ × List ℕ = change_at log i in
        let at : entry_offset m 0 + log_entry_bytes * i ≡ entry_offset m i = omega arith in
        let both : window (entry_offset m i) log_entry_bytes f ≡ big_bytes 4 e.0 ++ e.1 =
        subst (λ (a : ℕ). window a log_entry_bytes f ≡ big_bytes 4 e.0 ++ e.1) at h.0 in
        let low : e.0 < m = All-get_or (λ (x : ℕ × List ℕ). x.0 < m) log i (0, []) lt below in
        let page : number (entry_offset m i) f ≡ e.0 =
        number_is (entry_offset m i) e.0 f (omega arith) (front_window (entry_offset m i) 4 block_bytes f (big_bytes 4 e.0) e.1 both refl) in
        let image : window (entry_offset m i + 4) block_bytes f ≡ e.1 = back_window (entry_offset m i) 4 block_bytes f (big_bytes 4 e.0) e.1 both refl in
        entries_at m (length log) i f d lt ∙ (λ t. (page t, image t)) ∙ get_or_default log i (0, []) d lt

module _ (m : ℕ) (log : List (ℕ × List ℕ)) (most : m ≤ most_pages) (is_log : IsLog m log) (new : DiskState)
    (held : HoldsLogEntries (entry_offset m 0) log (length log) new.seen) (descriptor : HoldsDescriptor m (length log) new.seen) where
  logged_count : new_count_of new.seen ≡ m
  logged_count =
      number_is descriptor_offset m new.seen (omega arith)
      (front_window descriptor_offset 4 4 new.seen (big_bytes 4 m) (big_bytes 4 (length log)) descriptor.0 refl)

  logged_size : entry_count_of new.seen ≡ length log
  logged_size =
      number_is entry_count_offset (length log) new.seen (omega (arith, is_log.few))
      (back_window descriptor_offset 4 4 new.seen (big_bytes 4 m) (big_bytes 4 (length log)) descriptor.0 refl)

  logged_entries : entries m (length log) new.seen ≡ log
  logged_entries = entries_written m log new.seen most is_log.below held

  pub logged_log : log_of new.seen ≡ log
  logged_log = (λ t. entries (logged_count t) (logged_size t) new.seen) ∙ logged_entries

  logged_long : entry_offset m (length log) ≤ length new.seen
  logged_long = let h = held (length log - 1) (omega (arith, is_log.some)) in omega (arith, is_log.some, h.1)

  logged_has : HasLog m (entry_count_of new.seen) new.seen
  logged_has = subst (λ (k : ℕ). HasLog m k new.seen) (sym logged_size) (record {
    count = record { least = omega (arith, is_log.some, is_log.few); most = most; long = omega (arith, logged_long) };
    long = logged_long;
    log = subst (IsLog m) (sym logged_entries) is_log;
  })

module _ (n m : ℕ) (old new : DiskState) (rest : IsAtRest n old) (le : n ≤ m) (ran : Settles (IsNoLog m) old new) where
  agrees : Agrees (IsNoLog m) old.seen new.seen
  agrees = settles_agrees (IsNoLog m) old new ran

  pub logged_pages : pages_of n new.seen ≡ pages_of n old.seen
  logged_pages = agree_pages_of (IsNoLog m) old.seen new.seen agrees n rest.pages.long (λ i le' lt. inr (omega arith, omega arith))

  logged_rest : IsAtRest n new
  logged_rest = record {
    settled = settles_settled (IsNoLog m) old new ran;
    headed = agree_headed (IsNoLog m) old.seen new.seen agrees rest.headed (λ i lt. inl (omega arith));
    gate = λ is. rest.gate (sym (agree_gate (IsNoLog m) old.seen new.seen agrees rest.headed (inl (omega arith))) ∙ is);
    count =
        agree_number (IsNoLog m) old.seen new.seen agrees count_offset (omega (arith, rest.headed.long)) (λ i le' lt. inr (omega arith, omega arith))
        ∙ rest.count;
    pages = agree_count (IsNoLog m) old.seen new.seen agrees n rest.pages;
  }

  pub logged_after : (log : List (ℕ × List ℕ)) → m ≤ most_pages → IsLog m log → HoldsLogEntries (entry_offset m 0) log (length log) new.seen
      → HoldsDescriptor m (length log) new.seen → IsLogged n m new
  logged_after log most is_log held descriptor = record {
    rest = logged_rest;
    new_count = logged_count m log most is_log new held descriptor;
    log = logged_has m log most is_log new held descriptor;
  }

-- The gate.
module _ (n m : ℕ) (old new : DiskState) (logged : IsLogged n m old) (ran : Settles (IsOutside gate_offset 1) old new) where
  off_gate : Agrees (IsOutside gate_offset 1) old.seen new.seen
  off_gate = settles_agrees (IsOutside gate_offset 1) old new ran

  opened_size : entry_count_of new.seen ≡ entry_count_of old.seen
  opened_size =
      agree_number (IsOutside gate_offset 1) old.seen new.seen off_gate entry_count_offset (omega (arith, logged.rest.headed.long))
      (λ i le lt. inr (omega arith))

  opened_count : new_count_of new.seen ≡ m
  opened_count =
      agree_number (IsOutside gate_offset 1) old.seen new.seen off_gate descriptor_offset (omega (arith, logged.rest.headed.long))
      (λ i le lt. inr (omega arith))
      ∙ logged.new_count

  pub opened_log : log_of new.seen ≡ log_of old.seen
  opened_log =
      (λ t. entries (opened_count t) (opened_size t) new.seen)
      ∙ agree_entries (IsOutside gate_offset 1) old.seen new.seen off_gate m (entry_count_of old.seen) logged.log.long (λ i le lt. inr (omega arith))
      ∙ sym (log_same m old.seen logged.new_count)

  pub opened_pages : pages_of m new.seen ≡ pages_of m old.seen
  opened_pages = agree_pages_of (IsOutside gate_offset 1) old.seen new.seen off_gate m logged.log.count.long (λ i le lt. inr (omega arith))

  pub opened_after : gate_of new.seen ≡ gate_open → IsOpened m new
  opened_after is = record {
    settled = settles_settled (IsOutside gate_offset 1) old new ran;
    headed = agree_headed (IsOutside gate_offset 1) old.seen new.seen off_gate logged.rest.headed (λ i lt. inl (omega arith));
    gate = is;
    new_count = opened_count;
    log =
        subst (λ (j : ℕ). HasLog m j new.seen) (sym opened_size)
        (agree_log (IsOutside gate_offset 1) old.seen new.seen off_gate m (entry_count_of old.seen) logged.log (λ i le lt. inr (omega arith)));
  }

-- The images.
pub applied_after : (m : ℕ) (old new : DiskState) → (opened : IsOpened m old) → Settles (KeepsBoth (entries m (entry_count_of old.seen) old.seen)) old new
    → count_of new.seen ≡ m
    → pages_of m new.seen ≡ changed_pages (pages_of m old.seen) (log_of old.seen) → IsApplied m new
applied_after m old new opened ran count pages =
    let Kept = KeepsBoth (entries m (entry_count_of old.seen) old.seen) in
    let agrees = settles_agrees Kept old new ran in
    let new_count = applying_new_count m old opened new.seen agrees in
    let size = applying_size m old opened new.seen agrees in
    let same : log_of new.seen ≡ log_of old.seen =
    (λ t. entries (new_count t) (size t) new.seen) ∙ applying_entries m old opened new.seen agrees ∙ sym (log_same m old.seen opened.new_count) in
    record {
      opened = record {
        settled = settles_settled Kept old new ran;
        headed = applying_headed m old opened new.seen agrees;
        gate = applying_gate m old opened new.seen agrees;
        new_count = new_count;
        log = subst (λ (j : ℕ). HasLog m j new.seen) (sym size) (applying_log m old opened new.seen agrees);
      };
      count = count;
      pages = pages ∙ sym (changed-changed (pages_of m old.seen) (log_of old.seen)) ∙ (λ t. changed_pages (sym pages t) (sym same t));
    }

-- The gate again.
module _ (m : ℕ) (old new : DiskState) (applied : IsApplied m old) (ran : Settles (IsOutside gate_offset 1) old new) where
  off_closed : Agrees (IsOutside gate_offset 1) old.seen new.seen
  off_closed = settles_agrees (IsOutside gate_offset 1) old new ran

  pub closed_pages : pages_of m new.seen ≡ pages_of m old.seen
  closed_pages = agree_pages_of (IsOutside gate_offset 1) old.seen new.seen off_closed m applied.opened.log.count.long (λ i le lt. inr (omega arith))

  pub closed_after : gate_of new.seen ≡ gate_closed → IsAtRest m new
  closed_after is = record {
    settled = settles_settled (IsOutside gate_offset 1) old new ran;
    headed = agree_headed (IsOutside gate_offset 1) old.seen new.seen off_closed applied.opened.headed (λ i lt. inl (omega arith));
    gate = λ it. absurd (omega (arith, is, it));
    count =
        agree_number (IsOutside gate_offset 1) old.seen new.seen off_closed count_offset (omega (arith, applied.opened.headed.long))
        (λ i le lt. inr (omega arith))
        ∙ applied.count;
    pages = agree_count (IsOutside gate_offset 1) old.seen new.seen off_closed m applied.opened.log.count;
  }

-- The pages from after a commit.

-- new pages are all named, so what stood at their offsets does not count
pub after_same : (n m : ℕ) (old new : List ℕ) (log : List (ℕ × List ℕ)) → n ≤ m → NamesAll n m log → pages_of n new ≡ pages_of n old
    → changed_pages (pages_of m new) log ≡ changed_pages (pages_of n old ++ replicate (m - length (pages_of n old)) []) log
after_same n m old new log le names same = changed_same (pages_of m new) (before ++ replicate (m - length before) []) log sizes each
  where
    before : List (List ℕ)
    before = pages_of n old

    size : length before ≡ n
    size = length-pages_of n old

    sizes : length (pages_of m new) ≡ length (before ++ replicate (m - length before) [])
    sizes = omega (arith, length-pages_of m new, size, length-append before (replicate (m - length before) []), length-replicate {A = List ℕ})

    front : (p : ℕ) (d : List ℕ) → p < n → get_or (pages_of m new) p d ≡ get_or (pages_of n old) p d
    front p d lt = pages_of_at m p new d (omega arith) ∙ sym (pages_of_at n p new d lt) ∙ ap (λ (l : List (List ℕ)). get_or l p d) same

    each : (p : ℕ) (d : List ℕ) → p < length (pages_of m new) → Unnamed log p
        → get_or (pages_of m new) p d ≡ get_or (before ++ replicate (m - length before) []) p d
    each p d lt un = elim (cases_lt p n) [
      | inl low ↦ front p d low ∙ sym (get_or_append_left before (replicate (m - length before) []) d p (omega (arith, size)))
      | inr high ↦ (let it = names p high (omega (arith, length-pages_of m new)) in absurd (un it.0 it.1 it.2))
    ]
