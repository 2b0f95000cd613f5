-- Chains, and the pages that they run through.
use Rattle.std.proofs.Common.{◌≡◌, ◌≢◌, ℕ, ◌<◌, ◌≤◌, List, [], ◌∷◌, ◌++◌, length, set, Bool, true}
use Rattle.std.proofs.Common.{All, refl, sym, ◌∙◌, ap, subst, arith, append_assoc}
use Rattle.std.proofs.lemmas.List.{append-nil, length-set}
use Rattle.std.proofs.lemmas.List.Elements.{All-tail}
use Rattle.tune_journal.specs.Pages.{page_at}
use Rattle.tune_pages.specs.Chain.{next_page_of, piece_of, IsLink, Leads, bytes_along, IsChain}
use Rattle.tune_pages.specs.Stand.{IsFree, marked, AllFree}

-- the pages of a trail are the same in both
abbrev pub SameAlong : List ℕ → List (List ℕ) → List (List ℕ) → Type 0
SameAlong trail old new = All (λ p. page_at new p ≡ page_at old p) trail

pub leads_kept : (old new : List (List ℕ)) (first : ℕ) (trail : List ℕ) (end : ℕ) → length old ≤ length new → SameAlong trail old new
    → Leads old first trail end → Leads new first trail end
leads_kept old new first [] end le same leads = leads
leads_kept old new first (p ∷ trail) end le same leads =
    let here : page_at new p ≡ page_at old p = same 0 0 (omega arith) in (
      leads.0,
      leads.1,
      omega (arith, leads.2),
      subst IsLink (sym here) leads.3,
      subst (λ (q : ℕ). Leads new q trail end) (sym (ap next_page_of here))
          (leads_kept old new (next_page_of (page_at old p)) trail end le (All-tail (λ q. page_at new q ≡ page_at old q) p trail same) leads.4),
    )

pub bytes_kept : (old new : List (List ℕ)) (trail : List ℕ) → SameAlong trail old new → bytes_along new trail ≡ bytes_along old trail
bytes_kept old new [] same = refl
bytes_kept old new (p ∷ trail) same =
    let here : page_at new p ≡ page_at old p = same 0 0 (omega arith) in
    let rest : bytes_along new trail ≡ bytes_along old trail = bytes_kept old new trail (All-tail (λ q. page_at new q ≡ page_at old q) p trail same) in
    rw (here, rest)

-- THE FRAME LAW. A chain whose pages keep their images is still there.
pub chain_kept : (old new : List (List ℕ)) (first : ℕ) (trail bytes : List ℕ) → length old ≤ length new → SameAlong trail old new
    → IsChain old first trail bytes → IsChain new first trail bytes
chain_kept old new first trail bytes le same chain = record {
  leads = leads_kept old new first trail 0 le same chain.leads;
  holds = bytes_kept old new trail same ∙ chain.holds;
}

-- A chain has one trail.
pub leads_once : (pages : List (List ℕ)) (first : ℕ) (t u : List ℕ) → Leads pages first t 0 → Leads pages first u 0 → t ≡ u
leads_once pages first [] [] a b = refl
leads_once pages first [] (q ∷ u) a b = absurd (omega (arith, b.0, b.1))
leads_once pages first (p ∷ t) [] a b = absurd (omega (arith, a.0, a.1))
leads_once pages first (p ∷ t) (q ∷ u) a b =
    let same : p ≡ q = sym a.0 ∙ b.0 in
    let rest : t
    ≡ u = leads_once pages (next_page_of (page_at pages p)) t u a.4 (subst (λ (x : ℕ). Leads pages (next_page_of (page_at pages x)) u 0) (sym same) b.4) in
    cc

pub chain_once : (pages : List (List ℕ)) (first : ℕ) (t u a b : List ℕ) → IsChain pages first t a → IsChain pages first u b → (t ≡ u) × (a ≡ b)
chain_once pages first t u a b c d =
    let same = leads_once pages first t u c.leads d.leads in
    (same, sym c.holds ∙ ap (bytes_along pages) same ∙ d.holds)

-- one page more
pub leads_more : (pages : List (List ℕ)) (first : ℕ) (t : List ℕ) (p : ℕ) → Leads pages first t p → 0 < p → p < length pages → IsLink (page_at pages p)
    → Leads pages first (t ++ p ∷ []) (next_page_of (page_at pages p))
leads_more pages first [] p leads some lt link = (leads, some, lt, link, refl)
leads_more pages first (q ∷ t) p leads some lt link =
    (leads.0, leads.1, leads.2, leads.3, leads_more pages (next_page_of (page_at pages q)) t p leads.4 some lt link)

pub bytes_more : (pages : List (List ℕ)) (t : List ℕ) (p : ℕ) → bytes_along pages (t ++ p ∷ []) ≡ bytes_along pages t ++ piece_of (page_at pages p)
bytes_more pages [] p = append-nil (piece_of (page_at pages p))
bytes_more pages (q ∷ t) p = rw (bytes_more pages t p) (sym (append_assoc (piece_of (page_at pages q)) (bytes_along pages t) (piece_of (page_at pages p))))

pub marked_more : (b : Bool) (t : List ℕ) (p : ℕ) (m : List Bool) → marked b (t ++ p ∷ []) m ≡ set (marked b t m) p b
marked_more b [] p m = refl
marked_more b (q ∷ t) p m = marked_more b t p (set m q b)

pub free_more : (t : List ℕ) (p : ℕ) (m : List Bool) → AllFree t m → IsFree (marked true t m) p → AllFree (t ++ p ∷ []) m
free_more [] p m all free = (free, tt)
free_more (q ∷ t) p m all free = (all.0, free_more t p (set m q true) all.1 free)

pub length-marked : (b : Bool) (t : List ℕ) (m : List Bool) → length (marked b t m) ≡ length m
length-marked b [] m = refl
length-marked b (q ∷ t) m = length-marked b t (set m q b) ∙ length-set m q b

-- A walk along a chain that has come to a page is a part of it.
pub leads_split : (pages : List (List ℕ)) (first : ℕ) (t : List ℕ) (p : ℕ) (whole : List ℕ) → p ≢ 0 → Leads pages first t p → Leads pages first whole 0
    → (rest : List ℕ) × (whole ≡ t ++ (p ∷ rest)) × Leads pages p (p ∷ rest) 0
leads_split pages first [] p [] ne walk chain = absurd (ne (sym walk ∙ chain))
leads_split pages first [] p (q ∷ rest) ne walk chain =
    let here : q ≡ p = sym chain.0 ∙ walk in (
      rest,
      ap (λ (x : ℕ). x ∷ rest) here,
      (
        refl,
        subst (λ (x : ℕ). 0 < x) here chain.1,
        subst (λ (x : ℕ). x < length pages) here chain.2,
        subst
            (λ (x : ℕ). IsLink (page_at pages x)) here chain.3,
        subst (λ (x : ℕ). Leads pages (next_page_of (page_at pages x)) rest 0) here chain.4,
      ),
    )
leads_split pages first (q ∷ t) p [] ne walk chain = absurd (omega (arith, walk.0, walk.1, chain))
leads_split pages first (q ∷ t) p (r ∷ rest) ne walk chain =
    let here : r ≡ q = sym chain.0 ∙ walk.0 in
    let more = leads_split pages (next_page_of (page_at pages q)) t p rest ne walk.4
    (subst (λ (x : ℕ). Leads pages (next_page_of (page_at pages x)) rest 0) here chain.4) in
    let same : r ∷ rest ≡ (q ∷ t) ++ (p ∷ more.0) = ap (λ (x : ℕ). x ∷ rest) here ∙ ap (λ (l : List ℕ). q ∷ l) more.1 in
    (more.0, same, more.2)

pub free_middle : (t : List ℕ) (p : ℕ) (rest : List ℕ) (m : List Bool) → AllFree (t ++ (p ∷ rest)) m → IsFree (marked true t m) p
free_middle [] p rest m all = all.0
free_middle (q ∷ t) p rest m all = free_middle t p rest (set m q true) all.1
