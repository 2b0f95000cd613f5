-- Parts of a write.
use Rattle.std.proofs.Common.{◌⊎◌, inl, inr, ℕ, zero, suc, ◌+◌, ◌<◌, ◌≤◌, List, arith}
use Rattle.tune_disk.specs.Disk.{Medium, MayLeave, length_after, touched}
use Rattle.tune_disk.specs.Stops.{IsWithinRange}
use Rattle.tune_disk.proofs.Overwrites.{longer_after}

part_reaches : (part_at part at n long : ℕ) → at ≤ part_at → part_at + part ≤ at + n → length_after part_at part long ≤ length_after at n long
part_reaches part_at zero at n long from to = longer_after at n long
part_reaches part_at (suc part) at zero long from to = absurd (omega arith)
part_reaches part_at (suc part) at (suc n) long from to = omega arith

pub within_write : (m : Medium) (at n part_at part : ℕ) → IsWithinRange part_at part at n → (file : List ℕ)
    → MayLeave (touched part_at part m) file → MayLeave (touched at n m) file
within_write m at n part_at part within file left = record {
  no_shorter = left.no_shorter;
  no_longer = omega (arith, left.no_longer, part_reaches part_at part at n m.reach within.0 within.1);
  same = λ i lt out. left.same i lt (apart i out.0, out.1);
}
  where
    apart : (i : ℕ) → (i < at) ⊎ (at + n ≤ i) → (i < part_at) ⊎ (part_at + part ≤ i)
    apart i (inl lt) = inl (omega (arith, within.0))
    apart i (inr ge) = inr (omega (arith, within.1))

pub before_write : (m : Medium) (at n : ℕ) (file : List ℕ) → MayLeave m file → MayLeave (touched at n m) file
before_write m at n file left = record {
  no_shorter = left.no_shorter;
  no_longer = omega (arith, left.no_longer, longer_after at n m.reach);
  same = λ i lt out. left.same i lt out.1;
}
