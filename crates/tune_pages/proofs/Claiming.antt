-- Claims: a walk along a chain that marks each page.
use Rattle.std.proofs.Common.{◌≡◌, ◌≢◌, ℕ, ◌+◌, ◌<◌, List, [], ◌∷◌, ◌++◌, length, set, Bool, true}
use Rattle.std.proofs.Common.{length-append, refl, sym, ◌∙◌, ap, subst, arith}
use Rattle.tune_journal.specs.Pages.{page_at}
use Rattle.tune_pages.specs.Chain.{next_page_of, piece_of, IsLink, Leads, bytes_along}
use Rattle.tune_pages.specs.Claim.{Claimable, IsClaimable, IsClaimableWithin, IsChainFault}
use Rattle.tune_pages.specs.Inside.Claiming.{CanLink}
use Rattle.tune_pages.specs.Stand.{IsFree, marked, AllFree}
use Rattle.tune_pages.specs.declared.fault.ClaimFault.{ClaimFault}
use Rattle.tune_pages.specs.declared.fault.ClaimFault.TheVariants.{Damaged, OutOfMemory, Device}
use Rattle.std.proofs.Common.{not, Result, Ok, Err, IfErr}
use Rattle.std.proofs.lemmas.List.Sums.{count_by-le-length}
use Rattle.tune_pages.proofs.Counting.{marked_less}
use Rattle.tune_pages.proofs.Chains.{leads_more, bytes_more, marked_more, free_more, leads_split, free_middle}

-- A walk that claims has come from `first` over so many pages to this one, and read these bytes.
pub record Walked (pages : List (List ℕ)) (before : List Bool) (first page count : ℕ) (bytes : List ℕ) (claimed : List Bool) : Type 0 where
  pub trail : List ℕ
  pub long : length trail ≡ count
  pub leads : Leads pages first trail page
  pub read : bytes ≡ bytes_along pages trail
  pub free : AllFree trail before
  pub marks : claimed ≡ marked true trail before

pub walked_as : (pages : List (List ℕ)) (before : List Bool) (first page count other : ℕ) (bytes : List ℕ) (claimed : List Bool) → count ≡ other
    → Walked pages before first page count bytes claimed → Walked pages before first page other bytes claimed
walked_as pages before first page count other bytes claimed is walk = subst (λ (n : ℕ). Walked pages before first page n bytes claimed) is walk

pub walked_start : (pages : List (List ℕ)) (before : List Bool) (first : ℕ) (bytes : List ℕ) → bytes ≡ []
    → Walked pages before first first 0 bytes before
walked_start pages before first bytes is = record { trail = []; long = refl; leads = refl; read = is; free = tt; marks = refl }

pub walked_more : (pages : List (List ℕ)) (before : List Bool) (first page next count : ℕ) (old bytes : List ℕ) (claimed marks : List Bool) → page ≢ 0
    → Walked pages before first page count old claimed → IsFree claimed page → marks ≡ set claimed page true
    → IsLink (page_at pages page) × (next ≡ next_page_of (page_at pages page)) × (page < length pages)
    → bytes ≡ old ++ piece_of (page_at pages page)
    → Walked pages before first next (count + 1) bytes marks
walked_more pages before first page next count old bytes claimed marks ne walk free is link read = record {
  trail = walk.trail ++ page ∷ [];
  long = omega (arith, walk.long, length-append walk.trail (page ∷ []));
  leads = subst (λ (x : ℕ). Leads pages first (walk.trail ++ page ∷ []) x) (sym link.1)
      (leads_more pages first walk.trail page walk.leads (omega arith) link.2 link.0);
  read = read ∙ ap (λ (l : List ℕ). l ++ piece_of (page_at pages page)) walk.read ∙ sym (bytes_more pages walk.trail page);
  free = free_more walk.trail page before walk.free (subst (λ (m : List Bool). IsFree m page) walk.marks free);
  marks = is ∙ ap (λ (m : List Bool). set m page true) walk.marks ∙ sym (marked_more true walk.trail page before);
}

pub walked_end : (pages : List (List ℕ)) (before : List Bool) (first page count : ℕ) (bytes : List ℕ) (claimed : List Bool) → page ≡ 0
    → Walked pages before first page count bytes claimed
    → (trail : List ℕ) × Claimable pages before first trail bytes × (claimed ≡ marked true trail before) × (length trail ≡ count)
walked_end pages before first page count bytes claimed is walk =
    let leads = subst (λ (x : ℕ). Leads pages first walk.trail x) is walk.leads in
    (walk.trail, record { chain = record { leads = leads; holds = sym walk.read }; free = walk.free }, walk.marks, walk.long)

-- Where the next page can be no link, no chain begins here.
pub walked_none : (pages : List (List ℕ)) (before : List Bool) (first page count : ℕ) (bytes : List ℕ) (claimed : List Bool) → page ≢ 0
    → Walked pages before first page count bytes claimed
    → (CanLink pages claimed page → ⊥) → IsClaimable pages before first → ⊥
walked_none pages before first page count bytes claimed ne walk none some =
    let split = leads_split pages first walk.trail page some.0 ne walk.leads some.2.chain.leads in
    none (record {
      free = subst (λ (m : List Bool). IsFree m page) (sym walk.marks) (free_middle walk.trail page split.0 before
          (subst (λ (t : List ℕ). AllFree t before) split.1 some.2.free));
      link = split.2.3;
    })

-- nor does a chain of no more pages than those
pub walked_over : (pages : List (List ℕ)) (before : List Bool) (first page count : ℕ) (bytes : List ℕ) (claimed : List Bool) → page ≢ 0
    → Walked pages before first page count bytes claimed → IsClaimableWithin count pages before first → ⊥
walked_over pages before first page count bytes claimed ne walk (trail, all, some, few) =
    let split = leads_split pages first walk.trail page trail ne walk.leads some.chain.leads in
    let longer = ap (λ (t : List ℕ). length t) split.1 in
    omega (arith, few, longer, walk.long, length-append walk.trail (page ∷ split.0))

-- the same, of facts on an equal list of pages
pub walked_next : (now pages : List (List ℕ)) (before : List Bool) (first page next count : ℕ) (old bytes : List ℕ) (claimed marks : List Bool) → now ≡ pages
    → page ≢ 0
    → Walked pages before first page count old claimed → IsFree claimed page × (marks ≡ set claimed page true)
    → IsLink (page_at now page) × (next ≡ next_page_of (page_at now page)) × (page < length now)
    → bytes ≡ old ++ piece_of (page_at now page)
    → Walked pages before first next (count + 1) bytes marks
walked_next now pages before first page next count old bytes claimed marks same ne walk free link read =
    walked_more pages before first page next count old bytes claimed marks ne walk free.0 free.1
    (subst (λ (l : List (List ℕ)). IsLink (page_at l page) × (next ≡ next_page_of (page_at l page)) × (page < length l)) same link)
    (subst (λ (l : List (List ℕ)). bytes ≡ old ++ piece_of (page_at l page)) same read)

pub fault_as : (f : ClaimFault) (P Q : Type 0) → (Q → P) → IsChainFault f P → IsChainFault f Q
fault_as Damaged P Q as_p none = λ q. none (as_p q)
fault_as OutOfMemory P Q as_p none = tt
fault_as Device P Q as_p none = tt

pub walked_fault : (f : ClaimFault) (now pages : List (List ℕ)) (before : List Bool) (first page count : ℕ) (bytes : List ℕ) (claimed : List Bool)
    → now ≡ pages → page ≢ 0
    → Walked pages before first page count bytes claimed → IsChainFault f (CanLink now claimed page)
    → IsChainFault f (IsClaimable pages before first)
walked_fault Damaged now pages before first page count bytes claimed same ne walk none =
    walked_none pages before first page count bytes claimed ne walk
    (λ can. none (record { free = can.free; link = subst (λ (l : List (List ℕ)). IsLink (page_at l page)) (sym same) can.link }))
walked_fault OutOfMemory now pages before first page count bytes claimed same ne walk none = tt
walked_fault Device now pages before first page count bytes claimed same ne walk none = tt

-- No chain that is to be claimed has more pages than there are marks.
claimable_few : (pages : List (List ℕ)) (claimed : List Bool) (first most : ℕ) → most ≡ length claimed → IsClaimable pages claimed first
    → IsClaimableWithin most pages claimed first
claimable_few pages claimed first most is (trail, bytes, some) =
    let less = marked_less trail claimed some.free in
    (trail, bytes, some, omega (arith, is, less, count_by-le-length not claimed))

pub fault_of_all : {T : Type 0} (result : Result T ClaimFault) (Honest : Type 0) (pages : List (List ℕ)) (claimed : List Bool) (first most : ℕ)
    → most ≡ length claimed → IfErr result (λ fault. Honest → IsChainFault fault (IsClaimableWithin most pages claimed first))
    → IfErr result (λ fault. Honest → IsChainFault fault (IsClaimable pages claimed first))
fault_of_all (Ok x) Honest pages claimed first most is err = tt
fault_of_all (Err fault) Honest pages claimed first most is err = λ h. fault_as fault _ _ (claimable_few pages claimed first most is) (err h)
