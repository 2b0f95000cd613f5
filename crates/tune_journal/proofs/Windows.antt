-- Parts of a file.
use Rattle.std.proofs.Common.{◌≡◌, ◌⊎◌, inl, inr, ℕ, ◌+◌, ◌<◌, ◌≤◌, List, ◌++◌, length, get_or, take, drop, sym, ◌∙◌, ap, arith}
use Rattle.std.proofs.lemmas.List.{ext_get_or, get_or-take, get_or-drop, length-take, length-drop, take_at, drop_at, take-take, drop-drop, drop-take}
use Rattle.tune_disk.specs.Disk.{Written, Shows}
use Rattle.tune_disk.proofs.Writes.{written_long}
use Rattle.tune_journal.specs.Image.{window}

pub length-window : (at n : ℕ) (file : List ℕ) → at + n ≤ length file → length (window at n file) ≡ n
length-window at n file long = omega (arith, length-take n (drop at file), length-drop at file)

pub get_or-window : (at n : ℕ) (file : List ℕ) (i : ℕ) → i < n → get_or (window at n file) i 0 ≡ get_or file (at + i) 0
get_or-window at n file i lt = get_or-take n (drop at file) i 0 lt ∙ get_or-drop at file i 0

-- the same bytes there
pub same_window : (at n : ℕ) (file other : List ℕ) → at + n ≤ length file → at + n ≤ length other
    → ((i : ℕ) → at ≤ i → i < at + n → get_or other i 0 ≡ get_or file i 0) → window at n other ≡ window at n file
same_window at n file other long long' same =
    ext_get_or 0 (window at n other) (window at n file) (length-window at n other long' ∙ sym (length-window at n file long))
    (λ i lt. each i (omega (arith, length-window at n other long')))
  where
    each : (i : ℕ) → i < n → get_or (window at n other) i 0 ≡ get_or (window at n file) i 0
    each i lt = get_or-window at n other i lt ∙ same (at + i) (omega arith) (omega arith) ∙ sym (get_or-window at n file i lt)

pub length-written : (at : ℕ) (bytes old new : List ℕ) → Written at bytes old new → 0 < length bytes → length old ≤ length new
length-written at bytes old new w some = omega (arith, written_long at bytes old new w some)

pub written_window : (at : ℕ) (bytes old new : List ℕ) → 0 < length bytes → Written at bytes old new → window at (length bytes) new ≡ bytes
written_window at bytes old new some w = ext_get_or 0 (window at (length bytes) new) bytes size (λ i lt. each i (omega (arith, size)))
  where
    size : length (window at (length bytes) new) ≡ length bytes
    size = length-window at (length bytes) new (omega (arith, written_long at bytes old new w some))

    each : (i : ℕ) → i < length bytes → get_or (window at (length bytes) new) i 0 ≡ get_or bytes i 0
    each i lt = get_or-window at (length bytes) new i lt ∙ w.inside i lt

-- another part stays
pub written_other : (at : ℕ) (bytes old new : List ℕ) → 0 < length bytes → Written at bytes old new → (a n : ℕ) → a + n ≤ length old
    → (a + n ≤ at) ⊎ (at + length bytes ≤ a) → window a n new ≡ window a n old
written_other at bytes old new some w a n long apart = same_window a n old new long (omega (arith, written_long at bytes old new w some)) (each apart)
  where
    each : (a + n ≤ at) ⊎ (at + length bytes ≤ a) → (i : ℕ) → a ≤ i → i < a + n → get_or new i 0 ≡ get_or old i 0
    each (inl below) i le lt = w.outside i (inl (omega arith))
    each (inr above) i le lt = w.outside i (inr (omega arith))

-- what a read shows within the file
pub shows_window : (at : ℕ) (bytes file : List ℕ) → Shows file at bytes → at + length bytes ≤ length file → bytes ≡ window at (length bytes) file
shows_window at bytes file shows long =
    ext_get_or 0 bytes (window at (length bytes) file) (sym (length-window at (length bytes) file long))
    (λ i lt. shows i lt ∙ sym (get_or-window at (length bytes) file i lt))

-- two parts of a part
pub front_window : (at m n : ℕ) (file x y : List ℕ) → window at (m + n) file ≡ x ++ y → length x ≡ m → window at m file ≡ x
front_window at m n file x y is size =
    sym (take-take m (m + n) (drop at file) (omega arith)) ∙ ap (λ (l : List ℕ). take m l) is ∙ take_at x y m size

pub back_window : (at m n : ℕ) (file x y : List ℕ) → window at (m + n) file ≡ x ++ y → length x ≡ m → window (at + m) n file ≡ y
back_window at m n file x y is size =
    ap (λ (l : List ℕ). take n l) (sym (drop-drop m at file)) ∙ sym (drop-take m n (drop at file)) ∙ ap (λ (l : List ℕ). drop m l) is ∙ drop_at x y m size
