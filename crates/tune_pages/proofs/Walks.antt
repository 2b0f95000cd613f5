-- Walks along a chain, page by page: to read it, and to free it.
use Rattle.std.proofs.Common.{◌≡◌, ◌≢◌, ℕ, ◌+◌, ◌<◌, List, [], ◌∷◌, ◌++◌, length, Bool, false, refl, sym, ◌∙◌, ap, subst, arith}
use Rattle.std.proofs.lemmas.List.{length-append}
use Rattle.tune_journal.specs.Pages.{page_at}
use Rattle.tune_pages.specs.Chain.{next_page_of, piece_of, IsLink, Leads, bytes_along}
use Rattle.tune_pages.specs.Inside.Walking.{HasLink}
use Rattle.tune_pages.specs.Stand.{Stand, IsUsed, marked, AllUsed, HasChain, without_page, without_pages}
use Rattle.tune_pages.proofs.Chains.{leads_once, leads_more, leads_split, bytes_more, marked_more}
use Rattle.tune_pages.proofs.Finishing.{false_keeps}
use Rattle.tune_pages.proofs.Frames.{link_within}
use Rattle.tune_pages.proofs.Marks.{used_middle, used_few}

-- WHAT A WALK COMES TO
-- A walk that has come to a page is the front of the chain.
record Split (s : Stand) (walked : List ℕ) (page : ℕ) (whole : List ℕ) : Type 0 where
  pub rest : List ℕ
  pub is : whole ≡ walked ++ (page ∷ rest)
  pub some : 0 < page
  pub link : IsLink (page_at s.pages page)

split : (s : Stand) (first : ℕ) (walked : List ℕ) (page : ℕ) (whole bytes : List ℕ) → page ≢ 0 → Leads s.pages first walked page
    → HasChain s first whole bytes → Split s walked page whole
split s first walked page whole bytes ne leads has =
    let parts = leads_split s.pages first walked page whole ne leads has.chain.leads in
    record { rest = parts.0; is = parts.1; some = parts.2.1; link = parts.2.3 }

used_at : (s : Stand) (walked : List ℕ) (page : ℕ) (whole : List ℕ) → Split s walked page whole → AllUsed whole s.used
    → IsUsed (marked false walked s.used) page
used_at s walked page whole part used = used_middle walked page part.rest s.used (subst (λ (t : List ℕ). AllUsed t s.used) part.is used)

-- nothing but 0 comes from 0
pub leads_some : (pages : List (List ℕ)) (first : ℕ) (walked : List ℕ) (page : ℕ) → page ≢ 0 → Leads pages first walked page → 0 < first
leads_some pages first [] page ne leads = omega (arith, leads, ne)
leads_some pages first (q ∷ walked) page ne leads = omega (arith, leads.0, leads.1)

-- READING
-- A walk that reads has come from `first` to this page, and read these bytes; so many turns are left.
pub record ReadWalk (s : Stand) (first page : ℕ) (bytes : List ℕ) (left : ℕ) : Type 0 where
  pub walked : List ℕ
  pub leads : Leads s.pages first walked page
  pub read : bytes ≡ bytes_along s.pages walked
  pub turns : length walked + left ≡ length s.used

pub reads_start : (s : Stand) (first : ℕ) (bytes : List ℕ) (left : ℕ) → bytes ≡ [] → left ≡ length s.used → ReadWalk s first first bytes left
reads_start s first bytes left none all = record { walked = []; leads = refl; read = none; turns = omega (arith, all) }

pub reads_more : (s : Stand) (first page next : ℕ) (old bytes : List ℕ) (left fewer : ℕ) → page ≢ 0 → ReadWalk s first page old left
    → IsLink (page_at s.pages page)
    → next ≡ next_page_of (page_at s.pages page) → bytes ≡ old ++ piece_of (page_at s.pages page) → fewer + 1 ≡ left → ReadWalk s first next bytes fewer
reads_more s first page next old bytes left fewer ne reads link goes read one = record {
  walked = reads.walked ++ page ∷ [];
  leads = subst (λ (x : ℕ). Leads s.pages first (reads.walked ++ page ∷ []) x) (sym goes) (leads_more s.pages first reads.walked page reads.leads
      (omega arith) (link_within s.pages page link) link);
  read = read ∙ ap (λ (l : List ℕ). l ++ piece_of (page_at s.pages page)) reads.read ∙ sym (bytes_more s.pages reads.walked page);
  turns = omega (arith, reads.turns, one, length-append reads.walked (page ∷ []));
}

-- on a chain the next page is one of it
pub reads_link : (s : Stand) (first page : ℕ) (old whole all : List ℕ) (left : ℕ) → page ≢ 0 → ReadWalk s first page old left → HasChain s first whole all
    → HasLink s page
reads_link s first page old whole all left ne reads has =
    let part = split s first reads.walked page whole all ne reads.leads has in
    record { used = false_keeps reads.walked s.used page (used_at s reads.walked page whole part has.used); link = part.link }

-- and turns are left for it
pub reads_enough : (s : Stand) (first page : ℕ) (old whole all : List ℕ) (left : ℕ) → page ≢ 0 → ReadWalk s first page old left → HasChain s first whole all
    → 0 < left
reads_enough s first page old whole all left ne reads has =
    let part = split s first reads.walked page whole all ne reads.leads has in
    let size : length whole ≡ length reads.walked + length (page ∷ part.rest) = ap (λ (l : List ℕ). length l) part.is
    ∙ length-append reads.walked (page ∷ part.rest) in
    omega (arith, size, used_few whole s.used has.used, reads.turns)

pub reads_end : (s : Stand) (first page : ℕ) (bytes whole all : List ℕ) (left : ℕ) → page ≡ 0 → ReadWalk s first page bytes left → HasChain s first whole all
    → bytes ≡ all
reads_end s first page bytes whole all left none reads has =
    let same = leads_once s.pages first reads.walked whole (subst (λ (x : ℕ). Leads s.pages first reads.walked x) none reads.leads) has.chain.leads in
    reads.read ∙ ap (bytes_along s.pages) same ∙ has.chain.holds

-- FREEING
-- A walk that frees has come from `first` to this page, and the pages behind it are free.
pub record FreeWalk (s now : Stand) (first page : ℕ) : Type 0 where
  pub walked : List ℕ
  pub leads : Leads s.pages first walked page
  pub is : now ≡ without_pages walked s

pub frees_start : (s : Stand) (first : ℕ) → FreeWalk s s first first
frees_start s first = record { walked = []; leads = refl; is = refl }

abbrev made : List (List ℕ) → List Bool → Stand
made pages used = record { pages = pages; used = used }

pub frees_more : (s now after : Stand) (first page next : ℕ) → page ≢ 0 → FreeWalk s now first page → IsLink (page_at now.pages page)
    → next ≡ next_page_of (page_at now.pages page)
    → after ≡ without_page page now → FreeWalk s after first next
frees_more s now after first page next ne frees link' goes' is = record {
  walked = frees.walked ++ page ∷ [];
  leads = subst (λ (x : ℕ). Leads s.pages first (frees.walked ++ page ∷ []) x) (sym goes) (leads_more s.pages first frees.walked page frees.leads
      (omega arith) (link_within s.pages page link) link);
  is = is ∙ ap (without_page page) frees.is ∙ ap (λ (m : List Bool). made s.pages m) (sym (marked_more false frees.walked page s.used));
}
  where
    same : now.pages ≡ s.pages
    same = ap (λ (x : Stand). x.pages) frees.is

    link : IsLink (page_at s.pages page)
    link = subst (λ (l : List (List ℕ)). IsLink (page_at l page)) same link'

    goes : next ≡ next_page_of (page_at s.pages page)
    goes = goes' ∙ ap (λ (l : List (List ℕ)). next_page_of (page_at l page)) same

pub frees_link : (s now : Stand) (first page : ℕ) (whole all : List ℕ) → page ≢ 0 → FreeWalk s now first page → HasChain s first whole all → HasLink now page
frees_link s now first page whole all ne frees has =
    let part = split s first frees.walked page whole all ne frees.leads has in
    let there : HasLink (without_pages frees.walked s) page = record { used = used_at s frees.walked page whole part has.used; link = part.link } in
    subst (λ (x : Stand). HasLink x page) (sym frees.is) there

pub frees_end : (s now : Stand) (first page : ℕ) (whole all : List ℕ) → page ≡ 0 → FreeWalk s now first page → HasChain s first whole all
    → now ≡ without_pages whole s
frees_end s now first page whole all none frees has =
    let same = leads_once s.pages first frees.walked whole (subst (λ (x : ℕ). Leads s.pages first frees.walked x) none frees.leads) has.chain.leads in
    frees.is ∙ ap (λ (t : List ℕ). without_pages t s) same
