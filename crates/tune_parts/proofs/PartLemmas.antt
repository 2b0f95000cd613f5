-- Parts, and what changes of pages leave of them.
use Rattle.std.proofs.Common.{◌≡◌, ℕ, ◌-◌, ◌<◌, ◌≤◌, List, [], ◌∷◌, ◌++◌, length, set, replicate}
use Rattle.std.proofs.Common.{Bool, true, false, refl, sym, ◌∙◌, ap, subst, arith}
use Rattle.std.specs.List.{AllByRecursion}
use Rattle.std.proofs.lemmas.List.{get_or-set_same, length-replicate, length-set, set-set, set-get_or, set-append_left, replicate-append-replicate}
use Rattle.tune_journal.specs.Pages.{page_at}
use Rattle.tune_pages.specs.Chain.{IsChain}
use Rattle.tune_pages.specs.Claim.{Claimable}
use Rattle.tune_pages.specs.Frame.{AllApart}
use Rattle.tune_pages.specs.Stand.{Stand, IsFree, AllFree, AllUsed, marked, placed, with_page, without_pages, PutsChain, HasChain}
use Rattle.tune_pages.proofs.Chains.{length-marked}
use Rattle.tune_pages.proofs.Marks.{apart_all, apart_of, free_in}
use Rattle.tune_pages.proofs.Overlay.{marked_apart}
use Rattle.tune_pages.proofs.Putting.{length-placed, placed_here, placed_other, used_stays}
use Rattle.tune_parts.specs.Parts.{PartKind, Part, IsPart, IsPartOf, chain_part, trails, root_and_trails, AreApart, AreParts, HoldsParts}
use Rattle.tune_parts.specs.Parts.PartKind.{chain}
use Rattle.tune_parts.proofs.Lists.{all_left, all_right, all_join, all_map, each_of}
use Rattle.tune_parts.proofs.Once.{Once, EachFree, apart_turned, once_put, once_cut}
use Rattle.tune_parts.proofs.Once.{free_once, once_free, free_none, none_free, free_past, past_free, marked_put, unmarked}
use Rattle.tune_parts.proofs.Staying.{pages_join, pages_with, IsThere, parts_there, parts_stay}

-- OF SO MANY PAGES
each_none : (n : ℕ) (ps : List ℕ) → AllByRecursion (λ p. p < n) ps → EachFree (replicate n false) ps
each_none n ps inside = all_map (λ p. p < n) (IsFree (replicate n false)) (λ p lt. free_none n p lt) ps inside

none_each : (n : ℕ) (ps : List ℕ) → EachFree (replicate n false) ps → AllByRecursion (λ p. p < n) ps
none_each n ps each = all_map (IsFree (replicate n false)) (λ p. p < n) (λ p free. none_free n p free) ps each

-- Parts that are apart among some pages are apart among those of which they are.
apart_among : (n : ℕ) (pages : List (List ℕ)) (parts : List Part) → 0 < length pages → AllByRecursion (IsPart pages) parts → AreApart n parts
    → AreApart (length pages) parts
apart_among n pages parts some stand apart =
    once_free (root_and_trails parts) (replicate (length pages) false) (free_once (root_and_trails parts) (replicate n false) apart).0
    (each_none (length pages) (root_and_trails parts)
    (some, all_map (IsThere pages) (λ p. p < length pages) (λ p is. is.low) (trails parts) (parts_there pages parts stand)))

-- and among more
apart_more : (n m : ℕ) (parts : List Part) → n ≤ m → AreApart n parts → AreApart m parts
apart_more n m parts le apart =
    let known = free_once (root_and_trails parts) (replicate n false) apart in
    once_free (root_and_trails parts) (replicate m false) known.0
    (each_none m (root_and_trails parts) (all_map (λ p. p < n) (λ p. p < m) (λ p lt. omega (arith, lt, le)) (root_and_trails parts)
    (none_each n (root_and_trails parts) known.1)))

-- ONE PART MORE, AND ONE LESS
-- among so many pages
record Beside (n : ℕ) (before after : List Part) (trail : List ℕ) : Type 0 where
  pub apart : AllApart trail (root_and_trails (before ++ after))
  pub once : Once trail
  pub free : EachFree (replicate n false) trail

-- pages that are free where those of the parts are in use
beside_parts : (n : ℕ) (before after : List Part) (trail : List ℕ) → AllFree trail (marked true (root_and_trails (before ++ after)) (replicate n false))
    → Beside n before after trail
beside_parts n before after trail free =
    let known = free_once trail (marked true (root_and_trails (before ++ after)) (replicate n false)) free in
    let past = past_free (root_and_trails (before ++ after)) trail (replicate n false) known.1 in
    record { apart = past.0; once = known.0; free = past.1 }

beside_free : (n : ℕ) (before after : List Part) (trail : List ℕ) → Beside n before after trail
    → AllFree trail (marked true (root_and_trails (before ++ after)) (replicate n false))
beside_free n before after trail beside =
    once_free trail (marked true (root_and_trails (before ++ after)) (replicate n false)) beside.once
    (free_past (root_and_trails (before ++ after)) trail (replicate n false) beside.apart beside.free)

apart_with : (n : ℕ) (before after : List Part) (part : Part) → AreApart n (before ++ after) → Beside n before after part.trail
    → AreApart n (before ++ part ∷ after)
apart_with n before after part apart beside =
    let none = replicate n false in
    let xs = root_and_trails before in
    let ys = trails after in
    let known = free_once (xs ++ ys) none (subst (λ l. AllFree l none) (pages_join before after) apart) in
    let next = subst (AllApart part.trail) (pages_join before after) beside.apart in
    subst (λ l. AllFree l none) (sym (pages_with before after part))
    (once_free (xs ++ (part.trail ++ ys)) none (once_put xs part.trail ys known.0 beside.once next)
    (all_join (IsFree none) xs (part.trail ++ ys) (all_left (IsFree none) xs ys known.1)
    (all_join (IsFree none) part.trail ys beside.free (all_right (IsFree none) xs ys known.1))))

apart_without : (n : ℕ) (before after : List Part) (part : Part) → AreApart n (before ++ part ∷ after)
    → AreApart n (before ++ after) × Beside n before after part.trail
apart_without n before after part apart =
    let none = replicate n false in
    let xs = root_and_trails before in
    let ys = trails after in
    let known = free_once (xs ++ (part.trail ++ ys)) none (subst (λ l. AllFree l none) (pages_with before after part) apart) in
    let cut = once_cut xs part.trail ys known.0 in
    let behind = all_right (IsFree none) xs (part.trail ++ ys) known.1 in (
      subst (λ l. AllFree l none) (sym (pages_join before after))
          (once_free (xs ++ ys) none cut.0 (all_join (IsFree none) xs ys (all_left (IsFree none) xs (part.trail ++ ys) known.1)
          (all_right (IsFree none) part.trail ys behind))),
      record {
        apart = subst (AllApart part.trail) (sym (pages_join before after)) cut.2;
        once = cut.1;
        free = all_left (IsFree none) part.trail ys behind;
      },
    )

marks_with : (n : ℕ) (before after : List Part) (part : Part) → marked true (root_and_trails (before ++ part ∷ after)) (replicate n false)
    ≡ marked true part.trail (marked true (root_and_trails (before ++ after)) (replicate n false))
marks_with n before after part =
    let none = replicate n false in
    ap (λ l. marked true l none) (pages_with before after part) ∙ marked_put true (root_and_trails before) part.trail (trails after) none
    ∙ ap (λ l. marked true part.trail (marked true l none)) (sym (pages_join before after))

-- CHANGES
-- a chain is put: it is a part more, wherever it is named
pub put_parts : (old new : Stand) (first : ℕ) (trail bytes : List ℕ) (before after : List Part) → PutsChain old new first trail bytes
    → HoldsParts old (before ++ after) → HoldsParts new (before ++ chain_part first trail bytes ∷ after)
put_parts old new first trail bytes before after put holds =
    let part : Part = chain_part first trail bytes in
    let n = length old.used in
    let size : length new.used ≡ n = ap (λ l. length l) put.used ∙ length-marked true trail old.used in
    let beside = beside_parts n before after trail (subst (AllFree trail) holds.used put.free) in
    let turned = apart_turned trail (root_and_trails (before ++ after)) beside.apart in
    let stay = parts_stay old.pages new.pages (before ++ after) (λ page c.
    let there = each_of (IsThere old.pages) (trails (before ++ after)) page (parts_there old.pages (before ++ after) holds.stand) c in
    record {
      image = put.others.same page (apart_all page trail (apart_of (trails (before ++ after)) trail page turned.1 c));
      there = omega (arith, there.low, put.others.longer);
    }) holds.stand in
    record {
      root = omega (arith, holds.root, put.others.longer);
      stand = all_join (IsPart new.pages) before (part ∷ after) (all_left (IsPart new.pages) before after stay)
          (put.chain, all_right (IsPart new.pages) before after stay);
      apart = subst (λ k. AreApart k (before ++ part ∷ after)) (sym size) (apart_with n before after part holds.apart beside);
      used = put.used ∙ ap (marked true trail) holds.used ∙ sym (marks_with n before after part)
          ∙ ap (λ k. marked true (root_and_trails (before ++ part ∷ after)) (replicate k false)) (sym size);
    }

-- a chain is freed: its part goes
pub free_parts : (s : Stand) (part : Part) (before after : List Part) → HoldsParts s (before ++ part ∷ after)
    → HoldsParts (without_pages part.trail s) (before ++ after)
free_parts s part before after holds =
    let n = length s.used in
    let left = marked true (root_and_trails (before ++ after)) (replicate n false) in
    let size : length (marked false part.trail s.used) ≡ n = length-marked false part.trail s.used in
    let parts = apart_without n before after part holds.apart in
    let free = free_once part.trail left (beside_free n before after part.trail parts.1) in
    record {
      root = holds.root;
      stand = all_join (IsPart s.pages) before after (all_left (IsPart s.pages) before (part ∷ after) holds.stand)
          (all_right (IsPart s.pages) before (part ∷ after) holds.stand).1;
      apart = subst (λ k. AreApart k (before ++ after)) (sym size) parts.0;
      used = ap (marked false part.trail) (holds.used ∙ marks_with n before after part) ∙ unmarked part.trail left free.0 free.1
          ∙ ap (λ k. marked true (root_and_trails (before ++ after)) (replicate k false)) (sym size);
    }

-- a root is put: all parts stay
pub root_parts : (s : Stand) (image : List ℕ) (parts : List Part) → HoldsParts s parts
    → HoldsParts (with_page 0 image s) parts × (page_at (with_page 0 image s).pages 0 ≡ image)
root_parts s image parts holds = (
  record {
    root = omega (arith, length-placed 0 image s.pages);
    stand = parts_stay s.pages (placed 0 image s.pages) parts (λ page c.
        let there = each_of (IsThere s.pages) (trails parts) page (parts_there s.pages parts holds.stand) c in
        record {
          image = placed_other 0 image s.pages page (omega arith) there.not_root;
          there = omega (arith, there.low, length-placed 0 image s.pages);
        }) holds.stand;
    apart = holds.apart;
    used = holds.used;
  },
  placed_here 0 image s.pages (omega arith),
)

-- WHAT HOLDS OF PARTS
pub are_parts : (s : Stand) (parts : List Part) → HoldsParts s parts → AreParts s.pages parts
are_parts s parts holds = record { stand = holds.stand; apart = apart_among (length s.used) s.pages parts holds.root holds.stand holds.apart }

some_root : (n : ℕ) (parts : List Part) → AreApart n parts → 0 < n
some_root n parts apart = none_free n 0 apart.0

pub held_parts : (s : Stand) (limit : ℕ) (parts : List Part) → AreParts s.pages parts → length s.pages ≤ limit
    → s.used ≡ marked true (root_and_trails parts) (replicate limit false) → HoldsParts s parts
held_parts s limit parts are few used =
    let none = replicate limit false in
    let size : length s.used ≡ limit = ap (λ l. length l) used ∙ length-marked true (root_and_trails parts) none ∙ length-replicate limit false in
    record {
      root = some_root (length s.pages) parts are.apart;
      stand = are.stand;
      apart = apart_more (length s.pages) (length s.used) parts (omega (arith, few, size)) are.apart;
      used = used ∙ ap (λ k. marked true (root_and_trails parts) (replicate k false)) (sym size);
    }

-- the pages of each part are in use
pub each_used : (trail : List ℕ) (m : List Bool) → Once trail → EachFree m trail → AllUsed trail (marked true trail m)
each_used [] m once each = tt
each_used (p ∷ trail) m once each =
    let apart = apart_all p trail once.0 in
    let taken = set m p true in
    let back : set (marked true trail taken) p false ≡ marked true trail m = sym (marked_apart true trail taken p false apart)
    ∙ ap (marked true trail) (set-set m p true false ∙ ap (set m p) (sym each.0) ∙ set-get_or m p true) in (
      used_stays trail taken p (get_or-set_same m p true false (free_in m p each.0)),
      subst (AllUsed trail) (sym back) (each_used trail m once.1 each.1),
    )

-- a part that is a chain is one
pub its_chain : (pages : List (List ℕ)) (part : Part) → part.kind ≡ chain → IsPart pages part → IsChain pages part.first part.trail part.bytes
its_chain pages part kind is = subst (λ (k : PartKind). IsPartOf k pages part.first part.trail part.bytes) kind is

pub has_part : (s : Stand) (part : Part) (before after : List Part) → part.kind ≡ chain → HoldsParts s (before ++ part ∷ after)
    → HasChain s part.first part.trail part.bytes
has_part s part before after kind holds =
    let n = length s.used in
    let left = marked true (root_and_trails (before ++ after)) (replicate n false) in
    let free = free_once part.trail left (beside_free n before after part.trail (apart_without n before after part holds.apart).1) in
    record {
      chain = its_chain s.pages part kind (all_right (IsPart s.pages) before (part ∷ after) holds.stand).0;
      used = subst (AllUsed part.trail) (sym (holds.used ∙ marks_with n before after part)) (each_used part.trail left free.0 free.1);
    }

-- the order in which parts are named does not matter
pub move_part : (s : Stand) (part : Part) (before after front back : List Part) → before ++ after ≡ front ++ back → HoldsParts s (before ++ part ∷ after)
    → HoldsParts s (front ++ part ∷ back)
move_part s part before after front back same holds =
    let n = length s.used in
    let parts = apart_without n before after part holds.apart in
    let left = all_join (IsPart s.pages) before after (all_left (IsPart s.pages) before (part ∷ after) holds.stand)
    (all_right (IsPart s.pages) before (part ∷ after) holds.stand).1 in
    let stand = subst (AllByRecursion (IsPart s.pages)) same left in
    let beside : Beside n front back part.trail = record {
      apart = subst (λ l. AllApart part.trail (root_and_trails l)) same parts.1.apart;
      once = parts.1.once;
      free = parts.1.free;
    } in
    record {
      root = holds.root;
      stand = all_join (IsPart s.pages) front (part ∷ back) (all_left (IsPart s.pages) front back stand)
          ((all_right (IsPart s.pages) before (part ∷ after) holds.stand).0, all_right (IsPart s.pages) front back stand);
      apart = apart_with n front back part (subst (AreApart n) same parts.0) beside;
      used = holds.used ∙ marks_with n before after part ∙ ap (λ l. marked true part.trail (marked true (root_and_trails l) (replicate n false))) same
          ∙ sym (marks_with n front back part);
    }

-- CLAIMS
pub no_parts : (pages : List (List ℕ)) → 0 < length pages → AreParts pages []
no_parts pages some = record { stand = tt; apart = (free_none (length pages) 0 some, tt) }

pub claim_part : (pages : List (List ℕ)) (claimed : List Bool) (first : ℕ) (trail bytes : List ℕ) (before after : List Part)
    → AreParts pages (before ++ after) → claimed ≡ marked true (root_and_trails (before ++ after)) (replicate (length pages) false)
    → Claimable pages claimed first trail bytes
    → AreParts pages (before ++ chain_part first trail bytes ∷ after)
    × (marked true trail claimed ≡ marked true (root_and_trails (before ++ chain_part first trail bytes ∷ after))
    (replicate (length pages) false))
claim_part pages claimed first trail bytes before after are is can =
    let part : Part = chain_part first trail bytes in
    let n = length pages in
    let beside = beside_parts n before after trail (subst (AllFree trail) is can.free) in (
      record {
        stand = all_join (IsPart pages) before (part ∷ after) (all_left (IsPart pages) before after are.stand)
            (can.chain, all_right (IsPart pages) before after are.stand);
        apart = apart_with n before after part are.apart beside;
      },
      ap (marked true trail) is ∙ sym (marks_with n before after part),
    )

-- a chain that stands there can be claimed, where some of the others were
pub free_front : (t ys : List ℕ) (m : List Bool) → AllFree (t ++ ys) m → AllFree t m
free_front [] ys m free = tt
free_front (p ∷ t) ys m free = (free.0, free_front t ys (set m p true) free.1)

free_behind : (xs ys : List ℕ) (m : List Bool) → AllFree (xs ++ ys) m → AllFree ys (marked true xs m)
free_behind [] ys m free = free
free_behind (x ∷ xs) ys m free = free_behind xs ys (set m x true) free.1

pub can_claim : (pages : List (List ℕ)) (claimed : List Bool) (part : Part) (before after : List Part) → part.kind ≡ chain
    → AreParts pages (before ++ part ∷ after)
    → claimed ≡ marked true (root_and_trails before) (replicate (length pages) false) → Claimable pages claimed part.first part.trail part.bytes
can_claim pages claimed part before after kind are is =
    let none = replicate (length pages) false in
    record {
      chain = its_chain pages part kind (all_right (IsPart pages) before (part ∷ after) are.stand).0;
      free = subst (AllFree part.trail) (sym is) (free_front part.trail (trails after) (marked true (root_and_trails before) none)
          (free_behind (root_and_trails before) (part.trail ++ trails after) none
          (subst (λ l. AllFree l none) (pages_with before after part) are.apart)));
    }

-- marks that more pages are behind
marked_more_pages : (ps : List ℕ) (m more : List Bool) → AllByRecursion (λ p. p < length m) ps → marked true ps m ++ more ≡ marked true ps (m ++ more)
marked_more_pages [] m more inside = refl
marked_more_pages (p ∷ ps) m more inside =
    let still = all_map (λ q. q < length m) (λ q. q < length (set m p true)) (λ q lt. omega (arith, lt, length-set m p true)) ps inside.1 in
    marked_more_pages ps (set m p true) more still ∙ ap (marked true ps) (sym (set-append_left m more p true inside.0))

pub open_parts : (pages : List (List ℕ)) (claimed used : List Bool) (limit : ℕ) (parts : List Part) → AreParts pages parts → length pages ≤ limit
    → claimed ≡ marked true (root_and_trails parts) (replicate (length pages) false) → used ≡ claimed ++ replicate (limit - length pages) false
    → used ≡ marked true (root_and_trails parts) (replicate limit false)
open_parts pages claimed used limit parts are few is made =
    let n = length pages in
    let none = replicate n false in
    let ps = root_and_trails parts in
    let inside = none_each n ps (free_once ps none are.apart).1 in
    let within = all_map (λ p. p < n) (λ p. p < length none) (λ p lt. omega (arith, lt, length-replicate n false)) ps inside in
    made ∙ ap (λ l. l ++ replicate (limit - n) false) is ∙ marked_more_pages ps none (replicate (limit - n) false) within
    ∙ ap (marked true ps) (replicate-append-replicate n (limit - n) false ∙ ap (λ k. replicate k false) (omega (arith, few)))
