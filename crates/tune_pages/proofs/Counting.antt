-- How many pages are free, and where they are too few.
use Rattle.std.proofs.Common.{◌≡◌, ℕ, ◌+◌, ◌<◌, ◌≤◌, List, [], ◌∷◌, ◌++◌, length, get_or, set, Bool, true, not, cond}
use Rattle.std.proofs.Common.{sym, ap, subst, arith, length-append}
use Rattle.std.specs.Prelude.{Result, Ok, Err, IfOk}
use Rattle.std.proofs.lemmas.List.Sums.{sum_by-set, sum_by-le}
use Rattle.tune_pages.specs.Faults.{IsWorkFault, AnswersWork, free_pages, pages_for}
use Rattle.tune_pages.specs.LinkOffsets.{piece_room}
use Rattle.tune_pages.specs.Stand.{Stand, IsFree, IsFull, AllFree, marked}
use Rattle.tune_pages.specs.declared.fault.Fault.{Fault}
use Rattle.tune_pages.specs.declared.fault.Fault.TheVariants.{FileFull, OutOfMemory, Device, Closed}
use Rattle.tune_pages.proofs.Putting.{Laid, free_within}
use Rattle.tune_pages.proofs.Wants.{wants_more}

abbrev pub worth : Bool → ℕ
worth b = cond (not b) 1 0

-- Where every page is in use, none is free.
pub full_none : (m : List Bool) → IsFull m → free_pages m ≡ 0
full_none m all = let le = sum_by-le worth 0 m (λ k d lt. subst (λ (b : Bool). worth b ≤ 0) (sym (all k d lt)) (omega arith)) in omega (arith, le)

-- a page that is taken is one free page less
pub taken_less : (m : List Bool) (p : ℕ) → IsFree m p → free_pages (set m p true) + 1 ≡ free_pages m
taken_less m p free =
    let one : worth (get_or m p true) ≡ 1 = ap worth free in
    let both = sum_by-set worth m p true true (free_within m p free) in
    omega (arith, one, both)

pub marked_less : (t : List ℕ) (m : List Bool) → AllFree t m → free_pages (marked true t m) + length t ≡ free_pages m
marked_less [] m all = omega arith
marked_less (p ∷ t) m all = (let more = marked_less t (set m p true) all.1 in let here = taken_less m p all.0 in omega (arith, more, here))

-- No page was free at the start: one is wanted.
pub none_at_first : (old : Stand) (n : ℕ) → 0 < n → IsFull old.used → free_pages old.used < pages_for n
none_at_first old n some full = (let none = full_none old.used full in let wanted = wants_more 0 n (omega (arith, some)) in omega (arith, none, wanted))

-- None is left after these: more are wanted.
pub none_left : (old now : Stand) (first page : ℕ) (done : List ℕ) (n : ℕ) → Laid old now first page done → length done + piece_room < n → IsFull now.used
    → free_pages old.used < pages_for n
none_left old now first page done n laid lt full =
    let none : free_pages (marked true (laid.trail ++ page ∷ []) old.used) ≡ 0 = full_none (marked true (laid.trail ++ page ∷ []) old.used)
    (subst IsFull laid.used full) in
    let less = marked_less (laid.trail ++ page ∷ []) old.used laid.free in
    let long = length-append laid.trail (page ∷ []) in
    let count = laid.count in
    let wanted = wants_more (length laid.trail + 1) n (omega (arith, lt, count)) in
    omega (arith, none, less, long, wanted)

-- a fault that is answered for another reason
pub fault_for : (f : Fault) (closed : Bool) (P Q : Type 0) → (P → Q) → IsWorkFault f closed P → IsWorkFault f closed Q
fault_for FileFull closed P Q so is = (so is.0, is.1)
fault_for OutOfMemory closed P Q so is = is
fault_for Device closed P Q so is = is
fault_for Closed closed P Q so is = is

pub answers_for : {T : Type 0} (r : Result T Fault) (closed : Bool) (P Q : Type 0) → (P → Q) → AnswersWork r closed P → AnswersWork r closed Q
answers_for (Ok x) closed P Q so is = is
answers_for (Err f) closed P Q so is = fault_for f closed P Q so is

-- what three facts of a value come to
pub ok_from : {T E : Type 0} (r : Result T E) (L M N Q : T → Type 0) → ((x : T) → L x → M x → N x → Q x) → IfOk r L → IfOk r M → IfOk r N → IfOk r Q
ok_from (Ok x) L M N Q so l m n = so x l m n
ok_from (Err e) L M N Q so l m n = tt
