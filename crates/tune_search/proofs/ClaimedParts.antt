-- Parts that are claimed behind others, all at once.
use Rattle.std.proofs.Common.{◌≡◌, ℕ, List, [], ◌∷◌, ◌++◌, length, map, Bool, true, false, set, replicate, refl, sym, ◌∙◌, ap, subst, append_assoc, arith}
use Rattle.std.specs.List.{AllByRecursion}
use Rattle.tune_journal.specs.Pages.{page_at}
use Rattle.tune_pages.specs.Frame.{AllApart}
use Rattle.tune_pages.specs.Stand.{AllFree, marked}
use Rattle.tune_index.specs.ListedLeaves.{stand_of_pages}
use Rattle.tune_parts.specs.Parts.{AreParts, IsPart, Part, leaf_part, root_and_trails, trails}
use Rattle.tune_parts.proofs.Lists.{all_join, all_left, all_right}
use Rattle.tune_parts.proofs.Once.{EachFree, free_once, marked_append, none_free, past_free}
use Rattle.tune_parts.proofs.PartLemmas.{free_front}
use Rattle.tune_parts.proofs.Staying.{IsThere, pages_join, trails_join}
use Rattle.tune_search.specs.LoadedParts.{ClaimsParts, HasClaimed}
use Rattle.tune_search.proofs.LeafParts.{leaf_parts}

-- PAGES, ONE AFTER ANOTHER
pub free_join : (xs ys : List ℕ) (m : List Bool) → AllFree xs m → AllFree ys (marked true xs m) → AllFree (xs ++ ys) m
free_join [] ys m free more = more
free_join (x ∷ xs) ys m free more = (free.0, free_join xs ys (set m x true) free.1 more)

pub free_behind : (xs ys : List ℕ) (m : List Bool) → AllFree (xs ++ ys) m → AllFree ys (marked true xs m)
free_behind [] ys m free = free
free_behind (x ∷ xs) ys m free = free_behind xs ys (set m x true) free.1

-- PARTS BEHIND OTHERS
pub claims_more : (pages : List (List ℕ)) (claimed : List Bool) (front mine : List Part) → ClaimsParts pages claimed front
    → ClaimsParts pages (marked true (trails mine) claimed) (front ++ mine)
claims_more pages claimed front mine marks =
    let none = replicate (length pages) false in
    ap (λ (m : List Bool). marked true (trails mine) m) marks ∙ sym (marked_append true (root_and_trails front) (trails mine) none)
    ∙ ap (λ (l : List ℕ). marked true l none) (sym (pages_join front mine))

pub are_more : (pages : List (List ℕ)) (claimed : List Bool) (front mine : List Part) → HasClaimed pages claimed front → AllByRecursion (IsPart pages) mine
    → AllFree (trails mine) claimed → AreParts pages (front ++ mine)
are_more pages claimed front mine has stand free =
    let none = replicate (length pages) false in
    record {
      stand = all_join (IsPart pages) front mine has.are.stand stand;
      apart = subst (λ (l : List ℕ). AllFree l none) (sym (pages_join front mine))
          (free_join (root_and_trails front) (trails mine) none has.are.apart (subst (λ (m : List Bool). AllFree (trails mine) m) has.marks free));
    }

-- Of parts that stand there, those behind the ones that were claimed are free.
pub free_there : (pages : List (List ℕ)) (claimed : List Bool) (front mine more : List Part) → AreParts pages (front ++ (mine ++ more))
    → ClaimsParts pages claimed front → AllFree (trails mine) claimed
free_there pages claimed front mine more are marks =
    let none = replicate (length pages) false in
    let xs = root_and_trails front in
    let behind = free_behind xs (trails (mine ++ more)) none (subst (λ (l : List ℕ). AllFree l none) (pages_join front (mine ++ more)) are.apart) in
    let both = subst (λ (l : List ℕ). AllFree l (marked true xs none)) (trails_join mine more) behind in
    subst (λ (m : List Bool). AllFree (trails mine) m) (sym marks) (free_front (trails mine) (trails more) (marked true xs none) both)

-- and they stand there
pub stand_there : (pages : List (List ℕ)) (front mine more : List Part) → AreParts pages (front ++ (mine ++ more)) → AllByRecursion (IsPart pages) mine
stand_there pages front mine more are = all_left (IsPart pages) mine more (all_right (IsPart pages) front (mine ++ more) are.stand)

pub parts_behind : (pages : List (List ℕ)) (front mine more : List Part) → AreParts pages (front ++ (mine ++ more)) → AreParts pages ((front ++ mine) ++ more)
parts_behind pages front mine more are = subst (AreParts pages) (sym (append_assoc front mine more)) are

-- PAGES THAT ARE FREE
each_there : (pages : List (List ℕ)) (ps front : List ℕ) → AllApart ps (0 ∷ front) → EachFree (replicate (length pages) false) ps
    → AllByRecursion (IsThere pages) ps
each_there pages [] front apart each = tt
each_there pages (p ∷ ps) front apart each = (
  record { low = none_free (length pages) p each.0; not_root = λ is. apart.0.0 (sym is) },
  each_there pages ps front apart.1 each.1,
)

-- pages that are still to be claimed are there, and none is the root
pub pages_there : (pages : List (List ℕ)) (claimed : List Bool) (front : List Part) (ps : List ℕ) → ClaimsParts pages claimed front → AllFree ps claimed
    → AllByRecursion (IsThere pages) ps
pages_there pages claimed front ps marks free =
    let none = replicate (length pages) false in
    let xs = root_and_trails front in
    let each = (free_once ps (marked true xs none) (subst (λ (m : List Bool). AllFree ps m) marks free)).1 in
    let past = past_free xs ps none each in
    each_there pages ps (trails front) past.0 past.1

-- LEAVES
pub leaves_stand : (pages : List (List ℕ)) (ps : List ℕ) → AllByRecursion (IsThere pages) ps
    → AllByRecursion (IsPart pages) (map (λ page. leaf_part page (page_at pages page)) ps)
leaves_stand pages [] there = tt
leaves_stand pages (p ∷ ps) there = (
  record { alone = refl; above = (let n = there.0.not_root in omega (arith, n)); there = there.0.low; holds = refl },
  leaves_stand pages ps there.1,
)

pub leaves_are : (pages : List (List ℕ)) (ps : List ℕ) → map (λ page. leaf_part page (page_at pages page)) ps ≡ leaf_parts (stand_of_pages pages) ps
leaves_are pages [] = refl
leaves_are pages (p ∷ ps) = ap (λ (l : List Part). leaf_part p (page_at pages p) ∷ l) (leaves_are pages ps)
