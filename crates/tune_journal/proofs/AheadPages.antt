-- Pages that were read ahead.
use Rattle.std.proofs.Common.{◌≡◌, ℕ, ◌+◌, ◌-◌, ◌*◌, ◌<◌, ◌≤◌, List, [], length, take, drop, ap, sym, subst, ◌∙◌, zero-add, arith}
use Rattle.std.proofs.lemmas.List.{take-take, drop-take, drop-drop}
use Rattle.tune_disk.specs.Disk.{DiskState}
use Rattle.tune_journal.specs.FileOffsets.{block_bytes}
use Rattle.tune_journal.specs.Image.{page_offset, window, pages_of}
use Rattle.tune_journal.specs.Inside.ReadAhead.{AheadPages, HasNone, HoldsPage, IsAhead}
use Rattle.tune_journal.specs.Inside.Rest.{IsAtRest}
use Rattle.tune_journal.specs.Inside.Seen.{IsSound}
use Rattle.tune_journal.specs.Pages.{page_at}
use Rattle.tune_journal.proofs.Agreeing.{pages_of_at}
use Rattle.tune_journal.proofs.Windows.{length-window}

-- a part of a part
pub window_in : (at n from size : ℕ) (file : List ℕ) → from + size ≤ n → window from size (window at n file) ≡ window (at + from) size file
window_in at n from size file within =
    let rest = n - from in
    let sum : from + rest ≡ n = omega arith in
    ap (λ (k : ℕ). take size (drop from (take k (drop at file)))) (sym sum)
    ∙ ap (λ (l : List ℕ). take size l) (drop-take from rest (drop at file))
    ∙ take-take size rest (drop from (drop at file)) (omega arith)
    ∙ ap (λ (l : List ℕ). take size l) (drop-drop from at file)

-- The page at this place of a run, which stands at the front of a buffer.
pub page_in_run : (first place count : ℕ) (buffer bytes : List ℕ) → place < count → block_bytes * count ≤ length buffer
    → bytes ≡ window (block_bytes * place) block_bytes buffer
    → HoldsPage (record { first = first; count = count; bytes = take (block_bytes * count) buffer }) (first + place) bytes
page_in_run first place count buffer bytes few long is = record {
  first = omega arith;
  last = omega arith;
  is = is ∙ sym (ap (λ (k : ℕ). window (block_bytes * k) block_bytes (take (block_bytes * count) buffer)) same
      ∙ in_front);
  size = ap length is ∙ length-window (block_bytes * place) block_bytes buffer (omega arith);
}
  where
    in_front : window (block_bytes * place) block_bytes (take (block_bytes * count) buffer) ≡ window (block_bytes * place) block_bytes buffer
    in_front = window_in 0 (block_bytes * count) (block_bytes * place) block_bytes buffer (omega arith)
        ∙ ap (λ (k : ℕ). window k block_bytes buffer) (zero-add (block_bytes * place))

    same : first + place - first ≡ place
    same = omega arith

-- A page that was read ahead is the page of the list.
pub ahead_page : (pages : ℕ) (file : List ℕ) (ahead : AheadPages) (page : ℕ) (bytes : List ℕ) → page < pages → HoldsPage ahead page bytes
    → ahead.bytes ≡ window (page_offset ahead.first) (block_bytes * ahead.count) file
    → bytes ≡ page_at (pages_of pages file) page
ahead_page pages file ahead page bytes below holds shows =
    let place = page - ahead.first in
    let at : page_offset ahead.first + block_bytes * place ≡ page_offset page = omega (arith, holds.first) in
    holds.is ∙ ap (λ (l : List ℕ). window (block_bytes * place) block_bytes l) shows
    ∙ window_in (page_offset ahead.first) (block_bytes * ahead.count) (block_bytes * place) block_bytes file (omega (arith, holds.first, holds.last))
    ∙ ap (λ (k : ℕ). window k block_bytes file) at
    ∙ sym (pages_of_at pages page file [] below)

module _ {D : Type 0} (honest : D → Type 0) (state : D → DiskState) where
  -- where there are none
  pub none_ahead : (disk : D) (n : ℕ) (ahead : AheadPages) → HasNone ahead → IsAhead honest state disk n ahead
  none_ahead disk n ahead none = record {
    within = λ some. absurd (omega (arith, some, none.0));
    shows = λ h. none.1 ∙ sym (ap (λ (k : ℕ). window (page_offset ahead.first) (block_bytes * k) (state disk).seen) none.0);
  }

  -- each is one of the list
  pub ahead_below : (disk : D) (n : ℕ) (ahead : AheadPages) (page : ℕ) (bytes : List ℕ) → IsAhead honest state disk n ahead
      → HoldsPage ahead page bytes → page < n
  ahead_below disk n ahead page bytes is holds = omega (arith, holds.first, holds.last, is.within (omega (arith, holds.first, holds.last)))

  -- what a run showed, of a disk that stayed as it was
  pub run_ahead : (old new : D) (n page count : ℕ) (ahead : AheadPages) → (ahead.first ≡ page) × (ahead.count ≡ count) → page + count ≤ n
      → (honest new → state new ≡ state old)
      → (honest new → ahead.bytes ≡ window (page_offset page) (block_bytes * count) (state old).seen) → IsAhead honest state new n ahead
  run_ahead old new n page count ahead run within same shows = record {
    within = λ some. omega (arith, run.0, run.1, within);
    shows = λ h. shows h ∙ (λ t. window (page_offset (sym run.0 t)) (block_bytes * sym run.1 t) (sym (same h) t).seen);
  }

  -- a journal whose disk stayed as it was
  pub still_sound : (old new : D) (n : ℕ) (before after : AheadPages) → IsSound honest state old n before → (honest new → honest old)
      → (honest new → state new ≡ state old) → IsAhead honest state new n after → IsSound honest state new n after
  still_sound old new n before after sound back same is = record {
    least = sound.least;
    most = sound.most;
    rest = λ h. subst (IsAtRest n) (sym (same h)) (sound.rest (back h));
    ahead = is;
  }
