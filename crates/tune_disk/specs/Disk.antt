-- A disk as contracts see it: what a read gives, and which files a stop (a crash or power loss) may
-- leave.
use Rattle.std.specs.Prelude.{◌≡◌, ◌⊎◌, ℕ, zero, suc, ◌+◌, ◌-◌, ◌^◌, ◌<◌, ◌≤◌, max, List, [], ◌∷◌}
use Rattle.std.specs.Prelude.{length, slice_index, Result, MatchResult}

-- What may be on the disk: what the last sync left, the ranges written since as (offset, length),
-- and the greatest length since.
pub record Medium : Type 0 where
  pub stable : List ℕ
  pub written : List (ℕ × ℕ)
  pub reach : ℕ

-- no range holds this offset
abbrev pub Untouched : List (ℕ × ℕ) → ℕ → Type 0
Untouched [] i = Unit {0}
Untouched (range ∷ ranges) i =
    ((i < range.0) ⊎ (range.0 + range.1 ≤ i)) × Untouched ranges i

-- A stop may leave this file: as what the last sync left, but for any bytes in the ranges written
-- since and past its end.
pub record MayLeave (m : Medium) (file : List ℕ) : Type 0 where
  pub no_shorter : length m.stable ≤ length file
  pub no_longer : length file ≤ m.reach
  pub same : (i : ℕ) → i < length m.stable → Untouched m.written i
      → slice_index file i ≡ slice_index m.stable i

-- how long a file is after a write of n bytes at this offset; none are no write
abbrev pub length_after : ℕ → ℕ → ℕ → ℕ
length_after at zero long = long
length_after at (suc n) long = max long (at + suc n)

-- after a write of n bytes at this offset, whole or not
abbrev pub touched : ℕ → ℕ → Medium → Medium
touched at n m = record {
  stable = m.stable;
  written = (at, n) ∷ m.written;
  reach = length_after at n m.reach;
}

-- after a sync
abbrev pub settled : List ℕ → Medium
settled file = record { stable = file; written = []; reach = length file }

-- A disk: what a read gives, what a stop may leave now, and what it might have left before, the
-- newest first.
pub record DiskState : Type 0 where
  pub seen : List ℕ
  pub now : Medium
  pub past : List Medium

-- This file has never been written: it is all on the disk.
abbrev pub fresh : List ℕ → DiskState
fresh file = record { seen = file; now = settled file; past = [] }

-- new is old with these bytes at this offset; a gap before them is zeros, as is all past the end
pub record Written (at : ℕ) (bytes old new : List ℕ) : Type 0 where
  pub long : length new ≡ length_after at (length bytes) (length old)
  pub inside : (k : ℕ) → k < length bytes → slice_index new (at + k) ≡ slice_index bytes k
  pub outside : (i : ℕ) → (i < at) ⊎ (at + length bytes ≤ i)
      → slice_index new i ≡ slice_index old i

-- the same with any bytes, and any length between
pub record Torn (at n : ℕ) (old new : List ℕ) : Type 0 where
  pub no_shorter : length old ≤ length new
  pub no_longer : length new ≤ length_after at n (length old)
  pub outside : (i : ℕ) → (i < at) ⊎ (at + n ≤ i) → slice_index new i ≡ slice_index old i

-- time goes on, to this medium
pub record GoesTo (m : Medium) (old new : DiskState) : Type 0 where
  pub now : new.now ≡ m
  pub past : new.past ≡ old.now ∷ old.past

-- A write that failed changed nothing, or counts as written with any bytes.
abbrev pub Writes : {T E : Type 0}
    → ℕ → List ℕ → Result T E → DiskState → DiskState → Type 0
Writes at bytes result old new =
    let written = GoesTo (touched at (length bytes) old.now) old new in
    MatchResult result
    (λ _. Written at bytes old.seen new.seen × written)
    (λ _. (new ≡ old) ⊎ (Torn at (length bytes) old.seen new.seen × written))

-- A sync that failed made nothing stable.
abbrev pub Syncs : {T E : Type 0} → Result T E → DiskState → DiskState → Type 0
Syncs result old new = MatchResult result
    (λ _. (new.seen ≡ old.seen) × GoesTo (settled old.seen) old new)
    (λ _. new ≡ old)

-- these are the bytes from there on; past the end there are zeros
abbrev pub Shows : List ℕ → ℕ → List ℕ → Type 0
Shows file at bytes =
    (k : ℕ) → k < length bytes → slice_index bytes k ≡ slice_index file (at + k)

-- A count of failures goes up by one, and stays at the top of a u64.
abbrev pub CountsUp : ℕ → ℕ → Type 0
CountsUp old new = (new ≡ old + 1) ⊎ ((2 ^ 64 - 1 ≤ old) × (new ≡ old))

-- Each failure is counted, and nothing else is.
abbrev pub CountsFailure : {T E : Type 0} → Result T E → ℕ → ℕ → Type 0
CountsFailure result old new = MatchResult result (λ _. new ≡ old) (λ _. CountsUp old new)

-- What each call of a disk keeps, whatever it answers.
pub record Calls {S T E : Type 0} (honest : S → Type 0) (failures : S → ℕ)
    (result : Result T E) (old new : S) : Type 0 where
  -- honesty is known only after the answers, so it is kept backwards
  pub was_honest : honest new → honest old
  pub counted : CountsFailure result (failures old) (failures new)

-- A call that only looks: it leaves the state as it was.
pub record Looks {S T E : Type 0} (honest : S → Type 0) (failures : S → ℕ)
    (state : S → DiskState) (result : Result T E) (old new : S) : Type 0 where
  pub calls : Calls honest failures result old new
  pub same : honest new → state new ≡ state old
