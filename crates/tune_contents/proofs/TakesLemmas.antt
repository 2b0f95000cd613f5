-- How many free pages a change takes.
use Rattle.std.proofs.Common.{◌≡◌, ℕ, ◌+◌, ◌<◌, ◌≤◌, List, [], ◌∷◌, ◌++◌, length, Bool, ap, arith}
use Rattle.std.proofs.Common.{Result, Ok, Err, IfOk}
use Rattle.tune_pages.specs.Editing.{AnswersEdit}
use Rattle.tune_pages.specs.Faults.{free_pages, pages_for}
use Rattle.tune_pages.specs.Stand.{Stand, PutsChain, HasChain, HasSomeChain, without_pages}
use Rattle.tune_pages.specs.declared.fault.Fault.{Fault}
use Rattle.tune_pages.specs.declared.fault.Fault.TheVariants.{FileFull, OutOfMemory, Device, Closed}
use Rattle.tune_pages.proofs.Counting.{marked_less}
use Rattle.tune_pages.proofs.FreePages.{freed_more}
use Rattle.tune_pages.specs.FreePages.{TakesAtMost}
use Rattle.tune_contents.specs.Inside.Takes.{text_pages}

-- a chain takes as many pages as its bytes want
pub put_count : (old new : Stand) (first : ℕ) (trail bytes : List ℕ) → PutsChain old new first trail bytes
    → free_pages new.used + pages_for (length bytes) ≡ free_pages old.used
put_count old new first trail bytes put =
    let less = marked_less trail old.used put.free in
    let same : free_pages new.used ≡ _ = ap free_pages put.used in
    omega (arith, less, same, put.count)

-- and one that is freed gives pages back
pub freed_count : (old mid : Stand) (first : ℕ) → HasSomeChain old first
    → ((trail all : List ℕ) → HasChain old first trail all → mid ≡ without_pages trail old) → free_pages old.used ≤ free_pages mid.used
freed_count old mid first (trail, all, has) freed =
    let more = freed_more trail old.used has.used in
    let same : free_pages mid.used ≡ _ = ap (λ (s : Stand). free_pages s.used) (freed trail all has) in
    omega (arith, more, same)

-- of the answer of a chain that is put
pub put_takes : (r : Result ℕ Fault) (old new : Stand) (bytes : List ℕ) (lived lives : Bool)
    → IfOk r (λ first. (trail : List ℕ) × PutsChain old new first trail bytes)
    → AnswersEdit r (free_pages old.used < pages_for (length bytes)) ⊥ lived lives → TakesAtMost (pages_for (length bytes)) r old new
put_takes (Ok first) old new bytes lived lives put answer = let e = put_count old new first put.0 bytes put.1 in omega (arith, e)
put_takes (Err FileFull) old new bytes lived lives put answer = λ _. answer.0
put_takes (Err OutOfMemory) old new bytes lived lives put answer = λ e. cc
put_takes (Err Device) old new bytes lived lives put answer = λ e. cc
put_takes (Err Closed) old new bytes lived lives put answer = λ e. cc

-- behind a call that took none
pub takes_behind : {T : Type 0} (m : ℕ) (r : Result T Fault) (old mid new : Stand) → free_pages old.used ≤ free_pages mid.used
    → TakesAtMost m r mid new → TakesAtMost m r old new
takes_behind m (Ok x) old mid new le takes = omega (arith, le, takes)
takes_behind m (Err fault) old mid new le takes = λ e. (let lt = takes e in omega (arith, le, lt))

pub text_pages_more : (texts others : List (List ℕ)) → text_pages (texts ++ others) ≡ text_pages texts + text_pages others
text_pages_more [] others = omega arith
text_pages_more (text ∷ texts) others = let more = text_pages_more texts others in omega (arith, more)

-- texts so far, the next one, and those behind
pub text_pages_next : (all so_far : List (List ℕ)) (text : List ℕ) (rest : List (List ℕ)) → so_far ++ text ∷ rest ≡ all
    → text_pages so_far + pages_for (length text + 2) ≤ text_pages all
text_pages_next all so_far text rest is =
    let more = text_pages_more so_far (text ∷ rest) in
    let same : text_pages (so_far ++ text ∷ rest) ≡ text_pages all = ap text_pages is in
    omega (arith, more, same)
