use Rattle.std.proofs.Common.{ℕ, zero, suc, ◌<◌, ◌≤◌, ltb, List, [], ◌∷◌, length, get_or, arith, rules}
use Rattle.std.specs.List.Sorted.{IsPartitionedBy}
use Rattle.std.proofs.lemmas.Fn.{always_returns_same}
use Rattle.std.proofs.lemmas.Bool.{ltb-true, ltb-false, lt-ltb}
use Rattle.tune_pages.specs.Work.{Falls}
use Rattle.tune_pages.proofs.work.place_in.Goals as goal

falls_down : (l : List ℕ) (i j d : ℕ) → Falls l → i ≤ j → j < length l → get_or l j d ≤ get_or l i d
falls_down [] i j d falls le lt = absurd (omega arith)
falls_down (x ∷ l) zero zero d falls le lt = omega arith
falls_down (x ∷ l) zero (suc j) d falls le lt = (let below = falls.0 j d (omega arith) in omega (arith, below))
falls_down (x ∷ l) (suc i) zero d falls le lt = absurd (omega arith)
falls_down (x ∷ l) (suc i) (suc j) d falls le lt = falls_down l i j d falls.1 (omega arith) (omega arith)

parts : (page : ℕ) (l : List ℕ) → Falls l → IsPartitionedBy (λ q. ltb page q) l
parts page l falls = λ i j d le lt e. (
    let a = falls_down l i j d falls le lt in
    let b = ltb-true page (get_or l j d) e in
    lt-ltb page (get_or l i d) (omega (arith, a, b)))

pub returns-clause-above : goal.returns-clause-above
returns-clause-above c =
    let falling = parts c.args.page c.args.freed.now.items c.requires in
    let point = c.partition_point.ensures.partitioned (λ q. ltb c.args.page q) (search (rules, always_returns_same)) falling in
    λ k lt. ltb-true c.args.page (get_or c.args.freed.now.items k 0) (point.0 k 0 (omega arith) lt)

pub returns-clause-below : goal.returns-clause-below
returns-clause-below c =
    let falling = parts c.args.page c.args.freed.now.items c.requires in
    let point = c.partition_point.ensures.partitioned (λ q. ltb c.args.page q) (search (rules, always_returns_same)) falling in
    λ lt. ltb-false c.args.page (get_or c.args.freed.now.items c.partition_point.result 0) (point.1 c.partition_point.result 0 (omega arith) lt)
