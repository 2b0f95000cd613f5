-- How many free pages a change of the index of numbers takes.
use Rattle.std.proofs.Common.{ℕ, ◌+◌, ◌*◌, ◌≤◌, List, length, Result, Ok, Err, arith}
use Rattle.tune_index.specs.Indexes.{KeepsBalance}
use Rattle.tune_pages.specs.Faults.{pages_for}
use Rattle.tune_pages.specs.FreePages.{TakesAtMost}
use Rattle.tune_pages.specs.Stand.{Stand}
use Rattle.tune_pages.specs.declared.fault.Fault.{Fault}

pub pages_more : (n m : ℕ) → n ≤ m → pages_for n ≤ pages_for m
pages_more n m le = omega (arith, le)

-- pages are taken for leaves, as many as these become more, and for the list of them
pub leaves_take : {T : Type 0} (result : Result T Fault) (s0 s1 s2 s3 : Stand) (p0 p1 p2 : List ℕ) (count : ℕ) → KeepsBalance s0 s1 p0 p1
    → KeepsBalance s1 s2 p1 p2 → length p2 ≤ count → TakesAtMost (pages_for (4 * length p2)) result s2 s3
    → TakesAtMost (count + pages_for (4 * count)) result s0 s3
leaves_take (Ok x) s0 s1 s2 s3 p0 p1 p2 count one two few takes =
    let more = pages_more (4 * length p2) (4 * count) (omega (arith, few)) in
    omega (arith, one, two, few, more, takes)
leaves_take (Err fault) s0 s1 s2 s3 p0 p1 p2 count one two few takes = λ full.
    (let more = pages_more (4 * length p2) (4 * count) (omega (arith, few)) in
    let less = takes full in
    omega (arith, one, two, few, more, less))
