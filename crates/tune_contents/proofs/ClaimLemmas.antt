-- Parts and tunes that are claimed.
use Rattle.std.proofs.Common.{◌≡◌, ℕ, List, [], ◌∷◌, ◌++◌, Bool, true, Result, Ok, Err, IfOk, IfErr, OnOk, refl, sym, ◌∙◌, ap, subst}
use Rattle.std.proofs.lemmas.List.{append-nil}
use Rattle.tune_pages.specs.Chain.{IsChain}
use Rattle.tune_pages.specs.Claim.{Claimable, IsClaimableWithin}
use Rattle.tune_pages.specs.Stand.{marked}
use Rattle.tune_pages.proofs.Chains.{chain_once}
use Rattle.tune_parts.specs.Parts.{Part, IsPart, AreParts, chain_part}
use Rattle.tune_parts.specs.Parts.PartKind.{chain}
use Rattle.tune_parts.proofs.Lists.{all_right}
use Rattle.tune_parts.proofs.PartLemmas.{claim_part, can_claim, its_chain}
use Rattle.tune_store.specs.declared.layout.Layout.{Layout}
use Rattle.tune_search.specs.LoadedParts.{HasClaimed}
use Rattle.tune_search.specs.SearchClaims.{StandsAtKeys}
use Rattle.tune_search.specs.Searches.{SearchRuns}
use Rattle.tune_contents.specs.Inside.ClaimedParts.{ClaimsPart, HoldsTune, IsPartThere, IsTuneChain, IsTuneThere, tune_site}

pub ok_as : {T E : Type 0} (r : Result T E) (P Q : T → Type 0) → ((x : T) → P x → Q x) → IfOk r P → IfOk r Q
ok_as (Ok x) P Q as_q p = as_q x p
ok_as (Err e) P Q as_q p = tt

pub on_ok_as : {T E : Type 0} (r : Result T E) (P Q : Type 0) → (P → Q) → OnOk r P → OnOk r Q
on_ok_as (Ok x) P Q as_q p = as_q p
on_ok_as (Err e) P Q as_q p = tt

pub err_as : {T E : Type 0} (r : Result T E) (P Q : E → Type 0) → ((e : E) → P e → Q e) → IfErr r P → IfErr r Q
err_as (Ok x) P Q as_q p = tt
err_as (Err e) P Q as_q p = as_q e p

-- the same facts of an equal list of parts
pub claimed_as : (pages : List (List ℕ)) (claimed : List Bool) (one other : List Part) → one ≡ other
    → HasClaimed pages claimed one → HasClaimed pages claimed other
claimed_as pages claimed one other same has = subst (HasClaimed pages claimed) same has

-- a call that speaks of equal pages, behind parts that were claimed
pub at_pages : (P : List (List ℕ) → List Part → Type 0) (now pages : List (List ℕ)) (claimed : List Bool) (front : List Part) → now ≡ pages
    → HasClaimed pages claimed front → ((front : List Part) → HasClaimed now claimed front → P now front) → P pages front
at_pages P now pages claimed front on has call = subst (λ l. P l front) on (call front (subst (λ l. HasClaimed l claimed front) (sym on) has))

-- a part among those that stand there
pub its_part : (pages : List (List ℕ)) (front : List Part) (part : Part) (more : List Part) → AreParts pages (front ++ part ∷ more) → IsPart pages part
its_part pages front part more are = (all_right (IsPart pages) front (part ∷ more) are.stand).0

-- chains that begin at the same page
pub same_part : (pages : List (List ℕ)) (one other : Part) → one.kind ≡ chain → other.kind ≡ chain → IsPart pages one → IsPart pages other
    → one.first ≡ other.first → one ≡ other
same_part pages one other kind alike is also first =
    let once = chain_once pages other.first one.trail other.trail one.bytes other.bytes
    (subst (λ (f : ℕ). IsChain pages f one.trail one.bytes) first (its_chain pages one kind is)) (its_chain pages other alike also) in
    (λ i. record { kind = (kind ∙ sym alike) i; first = first i; trail = once.0 i; bytes = once.1 i })

pub claims_part : (pages : List (List ℕ)) (claimed now : List Bool) (first : ℕ) (bytes : List ℕ) (front : List Part)
    → (trail : List ℕ) × Claimable pages claimed first trail bytes × (now ≡ marked true trail claimed)
    → HasClaimed pages claimed front → ClaimsPart pages front now first bytes
claims_part pages claimed now first bytes front got has =
    let part : Part = chain_part first got.0 bytes in
    let whole = claimed_as pages claimed front (front ++ []) (sym (append-nil front)) has in
    let more = claim_part pages claimed first got.0 bytes front [] whole.are whole.marks got.1 in
    record {
      part = part;
      has = record { are = more.0; marks = got.2 ∙ more.1 };
      is_chain = refl;
      is_first = refl;
      holds = refl;
      only = λ other kind is same. same_part pages other part kind refl is got.1.chain same;
    }

-- the same part, whose bytes are known as others
pub claims_as : (pages : List (List ℕ)) (claimed now : List Bool) (first : ℕ) (bytes other : List ℕ) → other ≡ bytes
    → ((front : List Part) → HasClaimed pages claimed front → ClaimsPart pages front now first bytes)
    → (front : List Part) → HasClaimed pages claimed front → ClaimsPart pages front now first other
claims_as pages claimed now first bytes other same call front has =
    subst (λ (b : List ℕ). ClaimsPart pages front now first b) (sym same) (call front has)

-- where a chain stands that begins there, it can be claimed
pub part_claimable : (pages : List (List ℕ)) (claimed : List Bool) (first most : ℕ) (front : List Part) → HasClaimed pages claimed front
    → IsPartThere pages front first most → IsClaimableWithin most pages claimed first
part_claimable pages claimed first most front has there =
    subst (IsClaimableWithin most pages claimed) there.is_first
    (there.part.trail, there.part.bytes, can_claim pages claimed there.part front there.more there.is_chain there.are has.marks, there.few)

-- ONE TUNE
-- of the part that was claimed, each tune there is the one of its bytes
pub tune_claimed : {layout : Layout} → (pages : List (List ℕ)) (front : List Part) (runs : SearchRuns) (now : List Bool) (number first : ℕ) (bytes : List ℕ)
    → ClaimsPart pages front now first bytes → (is : IsTuneThere (tune_site layout pages front runs) number first)
    → IsTuneChain layout bytes is.revision is.text
tune_claimed {layout} pages front runs now number first bytes claims is =
    let part = is.there.part in
    let same : part ≡ claims.part = claims.only part is.there.is_chain (its_part pages front part is.there.more is.there.are) is.there.is_first in
    subst (λ l. IsTuneChain layout l is.revision is.text) (ap (λ p. p.bytes) same ∙ claims.holds) is.tune

-- where its number does not stand at the keys of the text that was read, its chain holds no such tune
pub held_refused : {layout : Layout} → (runs : SearchRuns) (number other : ℕ) (bytes own : List ℕ)
    → ((revision : ℕ) (text : List ℕ) → IsTuneChain layout bytes revision text → text ≡ own) → other ≡ number
    → (StandsAtKeys runs other own → ⊥) → HoldsTune layout runs number bytes → ⊥
held_refused runs number other bytes own only same none is =
    let text = only is.revision is.text is.tune in
    none (subst (λ (n : ℕ). StandsAtKeys runs n own) (sym same) (subst (λ (l : List ℕ). StandsAtKeys runs number l) text is.keys))
