-- Parts stay where their pages do.
use Rattle.std.proofs.Common.{◌≡◌, ◌≢◌, ℕ, ◌<◌, List, [], ◌∷◌, ◌++◌, length, refl, sym, ◌∙◌, ap, subst, arith}
use Rattle.std.specs.List.{AllByRecursion, Contains}
use Rattle.std.proofs.lemmas.Grind.{flat_map-append}
use Rattle.std.proofs.lemmas.List.Elements.{Contains-append_left, Contains-append_right}
use Rattle.tune_journal.specs.Pages.{page_at}
use Rattle.tune_pages.specs.Chain.{Leads, bytes_along, next_page_of, piece_of}
use Rattle.tune_parts.specs.Parts.{PartKind, Part, IsPart, IsPartOf, trails, root_and_trails}
use Rattle.tune_parts.specs.Parts.PartKind.{chain, leaf}
use Rattle.tune_parts.proofs.Lists.{all_join, contains_first, contains_later}

-- THE PAGES OF PARTS
pub trails_join : (before after : List Part) → trails (before ++ after) ≡ trails before ++ trails after
trails_join before after = flat_map-append (λ part. part.trail) before after

pub pages_join : (before after : List Part) → root_and_trails (before ++ after) ≡ root_and_trails before ++ trails after
pages_join before after = ap (λ l. 0 ∷ l) (trails_join before after)

pub pages_with : (before after : List Part) (part : Part) → root_and_trails (before ++ part ∷ after) ≡ root_and_trails before ++ (part.trail ++ trails after)
pages_with before after part = pages_join before (part ∷ after)

-- a page that is there, and is not the root
pub record IsThere (pages : List (List ℕ)) (page : ℕ) : Type 0 where
  pub low : page < length pages
  pub not_root : page ≢ 0

leads_there : (pages : List (List ℕ)) (first : ℕ) (trail : List ℕ) → Leads pages first trail 0 → AllByRecursion (IsThere pages) trail
leads_there pages first [] leads = tt
leads_there pages first (p ∷ trail) leads = (
  record { low = leads.2; not_root = λ is. omega (arith, is, leads.1) },
  leads_there pages (next_page_of (page_at pages p)) trail leads.4,
)

-- the pages of a part are there
part_there : (kind : PartKind) (pages : List (List ℕ)) (first : ℕ) (trail bytes : List ℕ) → IsPartOf kind pages first trail bytes
    → AllByRecursion (IsThere pages) trail
part_there chain pages first trail bytes is = leads_there pages first trail is.leads
part_there leaf pages first trail bytes is =
    subst (AllByRecursion (IsThere pages)) (sym is.alone) (record { low = is.there; not_root = λ at. omega (arith, at, is.above) }, tt)

pub parts_there : (pages : List (List ℕ)) (parts : List Part) → AllByRecursion (IsPart pages) parts → AllByRecursion (IsThere pages) (trails parts)
parts_there pages [] stand = tt
parts_there pages (part ∷ parts) stand =
    all_join (IsThere pages) part.trail (trails parts) (part_there part.kind pages part.first part.trail part.bytes stand.0) (parts_there pages parts stand.1)

-- PAGES THAT STAY
-- a page has its image still, and is still there
pub record Stays (old new : List (List ℕ)) (page : ℕ) : Type 0 where
  pub image : page_at new page ≡ page_at old page
  pub there : page < length new

leads_stay : (old new : List (List ℕ)) (first : ℕ) (trail : List ℕ) → ((page : ℕ) → Contains trail page → Stays old new page) → Leads old first trail 0
    → Leads new first trail 0
leads_stay old new first [] stays leads = leads
leads_stay old new first (p ∷ trail) stays leads =
    let here = stays p (contains_first p trail) in (
      leads.0,
      leads.1,
      here.there,
      rw here.image leads.3,
      rw here.image (leads_stay old new (next_page_of (page_at old p)) trail (λ page c. stays page (contains_later p trail page c)) leads.4),
    )

bytes_stay : (old new : List (List ℕ)) (trail : List ℕ) → ((page : ℕ) → Contains trail page → Stays old new page)
    → bytes_along new trail ≡ bytes_along old trail
bytes_stay old new [] stays = refl
bytes_stay old new (p ∷ trail) stays =
    let here = stays p (contains_first p trail) in
    let rest = bytes_stay old new trail (λ page c. stays page (contains_later p trail page c)) in
    λ i. piece_of (here.image i) ++ rest i

part_stays : (kind : PartKind) (old new : List (List ℕ)) (first : ℕ) (trail bytes : List ℕ) → ((page : ℕ) → Contains trail page → Stays old new page)
    → IsPartOf kind old first trail bytes → IsPartOf kind new first trail bytes
part_stays chain old new first trail bytes stays is =
    record { leads = leads_stay old new first trail stays is.leads; holds = bytes_stay old new trail stays ∙ is.holds }
part_stays leaf old new first trail bytes stays is =
    let here = stays first (subst (λ (pages : List ℕ). Contains pages first) (sym is.alone) (contains_first first [])) in
    record { alone = is.alone; above = is.above; there = here.there; holds = here.image ∙ is.holds }

pub parts_stay : (old new : List (List ℕ)) (parts : List Part) → ((page : ℕ) → Contains (trails parts) page → Stays old new page)
    → AllByRecursion (IsPart old) parts → AllByRecursion (IsPart new) parts
parts_stay old new [] stays stand = tt
parts_stay old new (part ∷ parts) stays stand = (
  part_stays part.kind old new part.first part.trail part.bytes (λ page c. stays page (Contains-append_left part.trail (trails parts) page c)) stand.0,
  parts_stay old new parts (λ page c. stays page (Contains-append_right part.trail (trails parts) page c)) stand.1,
)
