-- What files stand for that agree with a disk between two parts of a commit.
use Rattle.std.proofs.Common.{◌≡◌, ◌≢◌, ◌⊎◌, inl, inr, ℕ, suc, ◌+◌, ◌<◌, ◌≤◌, List, [], ◌∷◌, All}
use Rattle.std.proofs.Common.{sym, ◌∙◌, ap, subst, arith}
use Rattle.std.proofs.lemmas.List.Elements.{All-get_or, All-tail}
use Rattle.std.proofs.lemmas.Bool.{cases_eq, cases_lt}
use Rattle.tune_disk.specs.Disk.{DiskState}
use Rattle.tune_disk.specs.Inside.Spares.{Agrees}
use Rattle.tune_journal.specs.Image.{page_offset, entry_offset, pages_of, entries, count_of, new_count_of, log_of, gate_of, IsHeaded}
use Rattle.tune_journal.specs.Image.{HasPageCount, HasLog, StandsFor, StandsForEither, entry_count_of}
use Rattle.tune_journal.specs.Inside.Phases.{KeepsBoth, IsNoLog, IsOutside, IsInNoPage}
use Rattle.tune_journal.specs.Inside.Rest.{IsAtRest, IsLogged, IsOpened, IsApplied}
use Rattle.tune_journal.specs.FileOffsets.{block_bytes, gate_offset, gate_open, descriptor_offset, entry_count_offset, count_offset, pages_offset}
use Rattle.tune_journal.specs.Pages.{changed_pages}
use Rattle.tune_journal.proofs.Changed.{Unnamed, changed_same}
use Rattle.tune_journal.proofs.Agreeing.{agree_number, agree_page, length-pages_of, agree_pages_of, agree_entries, agree_headed, agree_count, agree_gate}
use Rattle.tune_journal.proofs.Agreeing.{agree_log}

-- Pages and counts as a file's gate has them.
pub stands_closed : (n : ℕ) (f c : List ℕ) → IsHeaded c → gate_of c ≢ gate_open → count_of c ≡ n → HasPageCount n c → pages_of n c ≡ pages_of n f
    → StandsFor (pages_of n f) c
stands_closed n f c headed shut count has pages = record {
  headed = headed;
  is_closed = λ _. (subst (λ (m : ℕ). HasPageCount m c) (sym count) has, sym pages ∙ ap (λ (m : ℕ). pages_of m c) (sym count));
  is_open = λ is. absurd (shut is);
}

stands_open : (pages : List (List ℕ)) (m k : ℕ) (c : List ℕ) → IsHeaded c → gate_of c ≡ gate_open → new_count_of c ≡ m → entry_count_of c ≡ k → HasLog m k c
    → pages ≡ changed_pages (pages_of m c) (entries m k c) → StandsFor pages c
stands_open pages m k c headed is new_count size has are = record {
  headed = headed;
  is_closed = λ shut. absurd (shut is);
  is_open = λ _. (
    subst (λ (k' : ℕ). HasLog (new_count_of c) k' c) (sym size) (subst (λ (m' : ℕ). HasLog m' k c) (sym new_count) has),
    are ∙ (λ t. changed_pages (pages_of (sym new_count t) c) (entries (sym new_count t) (sym size t) c)),
  );
}

-- while the log is written
pub stands_logging : (n m : ℕ) (s : DiskState) → IsAtRest n s → n ≤ m → (c : List ℕ) → Agrees (IsNoLog m) s.seen c → StandsFor (pages_of n s.seen) c
stands_logging n m s rest le c agrees =
    let f = s.seen in
    stands_closed n f c
    (agree_headed (IsNoLog m) f c agrees rest.headed (λ i lt. inl (omega arith)))
    (λ is. rest.gate (sym (agree_gate (IsNoLog m) f c agrees rest.headed (inl (omega arith))) ∙ is))
    (agree_number (IsNoLog m) f c agrees count_offset (omega (arith, rest.headed.long)) (λ i le' lt. inr (omega arith, omega arith)) ∙ rest.count)
    (agree_count (IsNoLog m) f c agrees n rest.pages)
    (agree_pages_of (IsNoLog m) f c agrees n rest.pages.long (λ i le' lt. inr (omega arith, omega arith)))

-- while the gate is opened
pub stands_opening : (n m : ℕ) (s : DiskState) → IsLogged n m s → (c : List ℕ) → Agrees (IsOutside gate_offset 1) s.seen c
    → StandsForEither (pages_of n s.seen) (changed_pages (pages_of m s.seen) (log_of s.seen)) c
stands_opening n m s logged c agrees = elim (cases_eq (gate_of c) gate_open) [
  | inl is ↦ inr (stands_open _ m k c headed is
      (agree_number (IsOutside gate_offset 1) f c agrees descriptor_offset (omega (arith, rest.headed.long)) (λ i le lt. inr (omega arith)) ∙ logged.new_count)
      (agree_number (IsOutside gate_offset 1) f c agrees entry_count_offset (omega (arith, rest.headed.long)) (λ i le lt. inr (omega arith)))
      (agree_log (IsOutside gate_offset 1) f c agrees m k logged.log (λ i le lt. inr (omega arith)))
      (λ t. changed_pages (sym (agree_pages_of (IsOutside gate_offset 1) f c agrees m logged.log.count.long (λ i le lt. inr (omega arith))) t) (log_is t)))
  | inr shut ↦ inl (stands_closed n f c headed shut
      (agree_number (IsOutside gate_offset 1) f c agrees count_offset (omega (arith, rest.headed.long)) (λ i le lt. inr (omega arith)) ∙ rest.count)
      (agree_count (IsOutside gate_offset 1) f c agrees n rest.pages)
      (agree_pages_of (IsOutside gate_offset 1) f c agrees n rest.pages.long (λ i le lt. inr (omega arith))))
]
  where
    f : List ℕ
    f = s.seen

    k : ℕ
    k = entry_count_of s.seen

    rest : IsAtRest n s
    rest = logged.rest

    headed : IsHeaded c
    headed = agree_headed (IsOutside gate_offset 1) s.seen c agrees logged.rest.headed (λ i lt. inl (omega arith))

    log_is : log_of s.seen ≡ entries m (entry_count_of s.seen) c
    log_is =
        ap (λ (m' : ℕ). entries m' (entry_count_of s.seen) s.seen) logged.new_count
        ∙ sym (agree_entries (IsOutside gate_offset 1) s.seen c agrees m (entry_count_of s.seen) logged.log.long (λ i le lt. inr (omega arith)))

-- offsets in front of the pages and behind m of them are in no page that a log below m names
pub in_no_page : (m i : ℕ) (log : List (ℕ × List ℕ)) → All (λ e. e.0 < m) log → (i < pages_offset) ⊎ (page_offset m ≤ i) → IsInNoPage log i
in_no_page m i [] below out = tt
in_no_page m i (e ∷ log) below out = (apart out, in_no_page m i log (All-tail (λ (x : ℕ × List ℕ). x.0 < m) e log below) out)
  where
    first : e.0 < m
    first = All-get_or (λ (x : ℕ × List ℕ). x.0 < m) (e ∷ log) 0 e (omega arith) below

    apart : (i < pages_offset) ⊎ (page_offset m ≤ i) → (i < page_offset e.0) ⊎ (page_offset e.0 + block_bytes ≤ i)
    apart (inl lt) = inl (omega arith)
    apart (inr le) = inr (omega (arith, first))

-- nor are the offsets of a page that it does not name
unnamed_outside : (p i : ℕ) (log : List (ℕ × List ℕ)) → Unnamed log p → page_offset p ≤ i → i < page_offset p + block_bytes → IsInNoPage log i
unnamed_outside p i [] un le lt = tt
unnamed_outside p i (e ∷ log) un le lt = (apart (cases_lt e.0 p), unnamed_outside p i log (λ k k_lt. un (suc k) (omega arith)) le lt)
  where
    ne : e.0 ≢ p
    ne = un 0 (omega arith)

    apart : (e.0 < p) ⊎ (p ≤ e.0) → (i < page_offset e.0) ⊎ (page_offset e.0 + block_bytes ≤ i)
    apart (inl below) = inr (omega arith)
    apart (inr above) = inl (omega (arith, ne))

-- The images: what is kept while they are put into their pages.
module _ (m : ℕ) (s : DiskState) (opened : IsOpened m s) (c : List ℕ) (agrees : Agrees (KeepsBoth (entries m (entry_count_of s.seen) s.seen)) s.seen c) where
  abbrev log : List (ℕ × List ℕ)
  log = entries m (entry_count_of s.seen) s.seen

  abbrev Kept : ℕ → Type 0
  Kept = KeepsBoth log

  off : (i : ℕ) → (i < pages_offset) ⊎ (page_offset m ≤ i) → (i < count_offset) ⊎ (count_offset + 4 ≤ i) → Kept i
  off i out far = (in_no_page m i log opened.log.log.below out, far)

  pub applying_headed : IsHeaded c
  applying_headed = agree_headed Kept s.seen c agrees opened.headed (λ i lt. off i (inl (omega arith)) (inl (omega arith)))

  pub applying_gate : gate_of c ≡ gate_open
  applying_gate = agree_gate Kept s.seen c agrees opened.headed (off gate_offset (inl (omega arith)) (inl (omega arith))) ∙ opened.gate

  pub applying_new_count : new_count_of c ≡ m
  applying_new_count =
      agree_number Kept s.seen c agrees descriptor_offset (omega (arith, opened.headed.long)) (λ i le lt. off i (inl (omega arith)) (inl (omega arith)))
      ∙ opened.new_count

  pub applying_size : entry_count_of c ≡ entry_count_of s.seen
  applying_size =
      agree_number Kept s.seen c agrees entry_count_offset (omega (arith, opened.headed.long)) (λ i le lt. off i (inl (omega arith)) (inl (omega arith)))

  behind : (i : ℕ) → entry_offset m 0 ≤ i → Kept i
  behind i le = off i (inr (omega arith)) (inr (omega arith))

  pub applying_log : HasLog m (entry_count_of s.seen) c
  applying_log = agree_log Kept s.seen c agrees m (entry_count_of s.seen) opened.log (λ i le lt. behind i le)

  pub applying_entries : entries m (entry_count_of s.seen) c ≡ log
  applying_entries = agree_entries Kept s.seen c agrees m (entry_count_of s.seen) opened.log.long (λ i le lt. behind i le)

  -- the pages that the log does not name are those that stood there
  pub applying_pages : changed_pages (pages_of m c) log ≡ changed_pages (pages_of m s.seen) log
  applying_pages = changed_same (pages_of m c) (pages_of m s.seen) log (length-pages_of m c ∙ sym (length-pages_of m s.seen))
      (λ p d lt un. agree_page Kept s.seen c agrees m p d (omega (arith, length-pages_of m c)) opened.log.count.long
      (λ i le lt'. (unnamed_outside p i log un le lt', inr (omega arith))))

  -- while the images are put into their pages
  pub stands_applying : StandsFor (changed_pages (pages_of m s.seen) log) c
  stands_applying =
      stands_open (changed_pages (pages_of m s.seen) log) m
      (entry_count_of s.seen) c applying_headed applying_gate applying_new_count applying_size applying_log
      (sym applying_pages ∙ ap (changed_pages (pages_of m c)) (sym applying_entries))

pub log_same : (m : ℕ) (f : List ℕ) → new_count_of f ≡ m → log_of f ≡ entries m (entry_count_of f) f
log_same m f is = ap (λ (m' : ℕ). entries m' (entry_count_of f) f) is

-- while the gate is closed
pub stands_closing : (m : ℕ) (s : DiskState) → IsApplied m s → (c : List ℕ) → Agrees (IsOutside gate_offset 1) s.seen c → StandsFor (pages_of m s.seen) c
stands_closing m s applied c agrees = elim (cases_eq (gate_of c) gate_open) [
  | inl is ↦ stands_open (pages_of m s.seen) m (entry_count_of s.seen) c headed is
      (agree_number (IsOutside gate_offset 1) s.seen c agrees descriptor_offset (omega (arith, opened.headed.long)) (λ i le lt. inr (omega arith))
      ∙ opened.new_count)
      (agree_number (IsOutside gate_offset 1) s.seen c agrees entry_count_offset (omega (arith, opened.headed.long)) (λ i le lt. inr (omega arith)))
      (agree_log (IsOutside gate_offset 1) s.seen c agrees m (entry_count_of s.seen) opened.log (λ i le lt. inr (omega arith)))
      (applied.pages ∙ (λ t. changed_pages (sym pages t) (log_is t)))
  | inr shut ↦ stands_closed m s.seen c headed shut
      (agree_number (IsOutside gate_offset 1) s.seen c agrees count_offset (omega (arith, opened.headed.long)) (λ i le lt. inr (omega arith)) ∙ applied.count)
      (agree_count (IsOutside gate_offset 1) s.seen c agrees m opened.log.count)
      pages
]
  where
    opened : IsOpened m s
    opened = applied.opened

    headed : IsHeaded c
    headed = agree_headed (IsOutside gate_offset 1) s.seen c agrees applied.opened.headed (λ i lt. inl (omega arith))

    pages : pages_of m c ≡ pages_of m s.seen
    pages = agree_pages_of (IsOutside gate_offset 1) s.seen c agrees m applied.opened.log.count.long (λ i le lt. inr (omega arith))

    log_is : log_of s.seen ≡ entries m (entry_count_of s.seen) c
    log_is =
        log_same m s.seen applied.opened.new_count
        ∙ sym (agree_entries (IsOutside gate_offset 1) s.seen c agrees m (entry_count_of s.seen) applied.opened.log.long (λ i le lt. inr (omega arith)))
