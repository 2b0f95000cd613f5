-- How many pages are free when pages are freed or taken, and how many pages a chain has.
use Rattle.std.proofs.Common.{◌≡◌, ◌≢◌, ℕ, ◌+◌, ◌*◌, ◌<◌, ◌≤◌, List, [], ◌∷◌, length, get_or, set, drop, Bool, true, false, All}
use Rattle.std.proofs.Common.{Result, Ok, Err, IfOk, ap, arith, length-append, length-take, length-drop}
use Rattle.std.proofs.lemmas.List.Sums.{sum_by-set}
use Rattle.tune_journal.specs.FileOffsets.{block_bytes}
use Rattle.tune_journal.specs.Pages.{page_at}
use Rattle.tune_pages.specs.Chain.{next_page_of, size_of, piece_of, IsLink, Leads, bytes_along, IsChain}
use Rattle.tune_pages.specs.Faults.{AnswersWork, free_pages, pages_for}
use Rattle.tune_pages.specs.FreePages.{TakesAtMost}
use Rattle.tune_pages.specs.LinkOffsets.{piece_room}
use Rattle.tune_pages.specs.Stand.{Stand, IsUsed, IsFull, IsLeastFree, AllUsed, marked, taken, PutsChain}
use Rattle.tune_pages.specs.declared.fault.Fault.{Fault}
use Rattle.tune_pages.specs.declared.fault.Fault.TheVariants.{FileFull, OutOfMemory, Device, Closed}
use Rattle.tune_pages.proofs.Counting.{worth, full_none, taken_less, marked_less}
use Rattle.tune_pages.proofs.Finishing.{used_within}
use Rattle.tune_pages.proofs.Wants.{as_many}

-- each page has the bytes of a block
abbrev pub AreSized : List (List ℕ) → Type 0
AreSized pages = All (λ page. length page ≡ block_bytes) pages

-- a page that is freed is one free page more
given_more : (m : List Bool) (p : ℕ) → IsUsed m p → free_pages (set m p false) ≡ free_pages m + 1
given_more m p used =
    let none : worth (get_or m p false) ≡ 0 = ap worth used in
    let both = sum_by-set worth m p false false (used_within m p used) in
    omega (arith, none, both)

-- Pages in use that are freed are so many free pages more.
pub freed_more : (t : List ℕ) (m : List Bool) → AllUsed t m → free_pages (marked false t m) ≡ free_pages m + length t
freed_more [] m all = omega arith
freed_more (p ∷ t) m all = (let more = freed_more t (set m p false) all.1 in let here = given_more m p all.0 in omega (arith, more, here))

-- a page of a chain holds as many bytes as it says
piece_length : (image : List ℕ) → length image ≡ block_bytes → IsLink image → length (piece_of image) ≡ size_of image
unfolding piece_of
piece_length image whole link = omega (arith, whole, link.most, length-take (size_of image) (drop 6 image), length-drop 6 image)

-- The bytes of a chain fill all its pages but the last, and that is not empty.
pub along_count : (pages : List (List ℕ)) (first : ℕ) (trail : List ℕ) → AreSized pages → Leads pages first trail 0
    → (length (bytes_along pages trail) ≤ piece_room * length trail) × (piece_room * length trail < length (bytes_along pages trail) + piece_room)
along_count pages first [] sized leads = (omega arith, omega arith)
along_count pages first (p ∷ []) sized leads =
    let image = page_at pages p in
    let whole = piece_length image (sized p [] leads.2) leads.3 in
    let all = length-append (piece_of image) (bytes_along pages []) in
    (omega (arith, whole, all, leads.3.most), omega (arith, whole, all, leads.3.some))
along_count pages first (p ∷ q ∷ t) sized leads =
    let image = page_at pages p in
    let whole = piece_length image (sized p [] leads.2) leads.3 in
    let more = along_count pages (next_page_of image) (q ∷ t) sized leads.4 in
    let all = length-append (piece_of image) (bytes_along pages (q ∷ t)) in
    let some : next_page_of image ≢ 0 = λ e. absurd (omega (arith, e, leads.4.0, leads.4.1)) in
    let full = leads.3.full some in
    (omega (arith, whole, full, all, more.0), omega (arith, whole, full, all, more.1))

-- A chain has as many pages as its bytes want.
pub chain_count : (pages : List (List ℕ)) (first : ℕ) (trail bytes : List ℕ) → AreSized pages → IsChain pages first trail bytes
    → length trail ≡ pages_for (length bytes)
chain_count pages first trail bytes sized chain =
    let both = along_count pages first trail sized chain.leads in
    let size : length (bytes_along pages trail) ≡ length bytes = ap (λ (b : List ℕ). length b) chain.holds in
    as_many (length trail) (length bytes) (omega (arith, both.1, size)) (omega (arith, both.0, size))

-- WHAT CALLS TAKE
pub allocated_takes : (r : Result ℕ Fault) (closed : Bool) (old new : Stand) → IfOk r (λ p. IsLeastFree old.used p × (new ≡ taken p old))
    → AnswersWork r closed (IsFull old.used) → TakesAtMost 1 r old new
allocated_takes (Ok p) closed old new is answer =
    let less = taken_less old.used p is.0.free in
    let now : free_pages new.used ≡ free_pages (set old.used p true) = ap (λ (s : Stand). free_pages s.used) is.1 in
    omega (arith, less, now)
allocated_takes (Err FileFull) closed old new is answer = λ _. (let none = full_none old.used answer.0 in omega (arith, none))
allocated_takes (Err OutOfMemory) closed old new is answer = λ e. cc
allocated_takes (Err Device) closed old new is answer = λ e. cc
allocated_takes (Err Closed) closed old new is answer = λ e. cc

pub put_takes : (r : Result ℕ Fault) (closed : Bool) (old new : Stand) (bytes : List ℕ)
    → IfOk r (λ first. (trail : List ℕ) × PutsChain old new first trail bytes)
    → AnswersWork r closed (free_pages old.used < pages_for (length bytes)) → TakesAtMost (pages_for (length bytes)) r old new
put_takes (Ok first) closed old new bytes is answer =
    let put = is.1 in
    let less = marked_less is.0 old.used put.free in
    let now : free_pages new.used ≡ free_pages (marked true is.0 old.used) = ap (λ (m : List Bool). free_pages m) put.used in
    omega (arith, less, now, put.count)
put_takes (Err FileFull) closed old new bytes is answer = λ _. answer.0
put_takes (Err OutOfMemory) closed old new bytes is answer = λ e. cc
put_takes (Err Device) closed old new bytes is answer = λ e. cc
put_takes (Err Closed) closed old new bytes is answer = λ e. cc

pub takes_next : {T U : Type 0} (x : T) (result : Result U Fault) (n m : ℕ) (one two three : Stand) → TakesAtMost n (Ok x) one two
    → TakesAtMost m result two three → TakesAtMost (n + m) result one three
takes_next x (Ok y) n m one two three first next = omega (arith, first, next)
takes_next x (Err fault) n m one two three first next = λ is. (let few = next is in omega (arith, first, few))
