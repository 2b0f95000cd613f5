-- For the crates above: what one more change does to a list of changes and to the pages that it makes, and the conditions of a commit by the image of a page.
use Rattle.std.proofs.Common.{◌≡◌, ◌≢◌, inl, inr, ℕ, suc, ◌+◌, ◌-◌, ◌<◌, ◌≤◌, List, [], ◌∷◌, ◌++◌, length, set, replicate, All, Some, IsSome, refl, sym}
use Rattle.std.proofs.Common.{◌∙◌, ap, subst, arith, append_assoc, length-append}
use Rattle.std.proofs.lemmas.List.{set-append_left, set-append_right, append-nil, length-replicate, length-set, set-set, set_comm, replicate-append-replicate}
use Rattle.std.proofs.lemmas.List.Elements.{All-nil, All-cons, All-head, All-tail}
use Rattle.std.proofs.lemmas.Bool.{cases_order, cases_eq}
use Rattle.std.proofs.lemmas.Bool.Decides.{nat_tests}
use mathlib.Core.Bool.{false≢true}
use Rattle.tune_journal.specs.ChangeList.{with_change, image_of, changed_page}
use Rattle.tune_journal.specs.Inside.ChangeOrder.{AreAbove, PagesRise}
use Rattle.tune_journal.specs.Pages.{changed_pages, pages_after, NamesAll}
use Rattle.tune_journal.proofs.ChangeLists.{Change, with_before, with_same, with_after, image_of_none}
use Rattle.tune_journal.proofs.Changed.{length-changed}

-- THE IMAGE OF A PAGE once one is put
image_here : (page : ℕ) (c : Change) (cs : List Change) → c.0 ≡ page → image_of page (c ∷ cs) ≡ Some c.1
image_here page c cs is = grind (arith, nat_tests)

pub image_past : (page : ℕ) (c : Change) (cs : List Change) → page ≢ c.0 → image_of page (c ∷ cs) ≡ image_of page cs
image_past page c cs ne = grind (arith, nat_tests)

pub image_put : (page : ℕ) (image : List ℕ) (l : List Change) → image_of page (with_change page image l) ≡ Some image
image_put page image [] = image_here page (page, image) [] refl
image_put page image (c ∷ cs) = elim (cases_order page c.0) [
  | inl is ↦ ap (image_of page) (with_same page image c cs (sym is)) ∙ image_here page (page, image) cs refl
  | inr (inl less) ↦ ap (image_of page) (with_before page image c cs less) ∙ image_here page (page, image) (c ∷ cs) refl
  | inr (inr more) ↦ ap (image_of page) (with_after page image c cs more)
      ∙ image_past page c (with_change page image cs) (λ is. absurd (omega (arith, more, is)))
      ∙ image_put page image cs
]

-- one first change in place of another: the rest decides each other page
image_first : (other : ℕ) (c d : Change) (cs : List Change) → other ≢ c.0 → other ≢ d.0 → image_of other (c ∷ cs) ≡ image_of other (d ∷ cs)
image_first other c d cs first second = image_past other c cs first ∙ sym (image_past other d cs second)

-- the same change before two lists
image_more : (other : ℕ) (c : Change) (cs ds : List Change) → image_of other cs ≡ image_of other ds → image_of other (c ∷ cs) ≡ image_of other (c ∷ ds)
image_more other c cs ds same = elim (cases_eq other c.0) [
  | inl is ↦ image_here other c cs (sym is) ∙ sym (image_here other c ds (sym is))
  | inr ne ↦ image_past other c cs ne ∙ same ∙ sym (image_past other c ds ne)
]

pub image_others : (page : ℕ) (image : List ℕ) (l : List Change) (other : ℕ) → other ≢ page → image_of other (with_change page image l) ≡ image_of other l
image_others page image [] other ne = image_past other (page, image) [] ne
image_others page image (c ∷ cs) other ne = elim (cases_order page c.0) [
  | inl is ↦ ap (image_of other) (with_same page image c cs (sym is)) ∙ image_first other (page, image) c cs ne (λ same. ne (same ∙ sym is))
  | inr (inl less) ↦ ap (image_of other) (with_before page image c cs less) ∙ image_past other (page, image) (c ∷ cs) ne
  | inr (inr more) ↦ ap (image_of other) (with_after page image c cs more)
      ∙ image_more other c (with_change page image cs) cs (image_others page image cs other ne)
]

pub some_with : (page : ℕ) (image : List ℕ) (l : List Change) → 0 < length (with_change page image l)
some_with page image [] = omega arith
some_with page image (c ∷ cs) = elim (cases_order page c.0) [
  | inl is ↦ (let same = with_same page image c cs (sym is) in subst (λ (l : List Change). 0 < length l) (sym same) (omega arith))
  | inr (inl less) ↦ (let same = with_before page image c cs less in subst (λ (l : List Change). 0 < length l) (sym same) (omega arith))
  | inr (inr more) ↦ (let same = with_after page image c cs more in subst (λ (l : List Change). 0 < length l) (sym same) (omega arith))
]

-- A CALL THAT PUTS AN IMAGE: what it says of each page
pub put_found : (page : ℕ) (image : List ℕ) (old new : List Change) → new ≡ with_change page image old → image_of page new ≡ Some image
put_found page image old new is = ap (image_of page) is ∙ image_put page image old

pub put_others : (page : ℕ) (image : List ℕ) (old new : List Change) → new ≡ with_change page image old → (other : ℕ) → other ≢ page
    → image_of other new ≡ image_of other old
put_others page image old new is other ne = ap (image_of other) is ∙ image_others page image old other ne

pub put_some : (page : ℕ) (image : List ℕ) (old new : List Change) → new ≡ with_change page image old → 0 < length new
put_some page image old new is = subst (λ (l : List Change). 0 < length l) (sym is) (some_with page image old)

-- an image that is put again
pub with_again : (page : ℕ) (image before : List ℕ) (l : List Change) → with_change page image (with_change page before l) ≡ with_change page image l
with_again page image before [] = with_same page image (page, before) [] refl
with_again page image before (c ∷ cs) = elim (cases_order page c.0) [
  | inl is ↦ ap (with_change page image) (with_same page before c cs (sym is)) ∙ with_same page image (page, before) cs refl
      ∙ sym (with_same page image c cs (sym is))
  | inr (inl less) ↦ ap (with_change page image) (with_before page before c cs less) ∙ with_same page image (page, before) (c ∷ cs) refl
      ∙ sym (with_before page image c cs less)
  | inr (inr more) ↦ ap (with_change page image) (with_after page before c cs more) ∙ with_after page image c (with_change page before cs) more
      ∙ ap (λ (l : List Change). c ∷ l) (with_again page image before cs) ∙ sym (with_after page image c cs more)
]

-- THE CONDITIONS OF A COMMIT: what holds of all changes holds once one more is put
pub All-with_change : (P : Change → Type 0) (page : ℕ) (image : List ℕ) (l : List Change) → P (page, image) → All P l → All P (with_change page image l)
All-with_change P page image [] new all = All-cons P (page, image) [] new all
All-with_change P page image (c ∷ cs) new all =
    let later : All P cs = All-tail P c cs all in
    elim (cases_order page c.0) [
      | inl is ↦ subst (All P) (sym (with_same page image c cs (sym is))) (All-cons P (page, image) cs new later)
      | inr (inl less) ↦ subst (All P) (sym (with_before page image c cs less)) (All-cons P (page, image) (c ∷ cs) new all)
      | inr (inr more) ↦ subst (All P) (sym (with_after page image c cs more))
          (All-cons P c (with_change page image cs) (All-head P c cs all) (All-with_change P page image cs new later))
    ]

-- all pages are below a count
pub below_with : (m page : ℕ) (image : List ℕ) (l : List Change) → page < m → All (λ c. c.0 < m) l → All (λ c. c.0 < m) (with_change page image l)
below_with m page image l lt below = All-with_change (λ c. c.0 < m) page image l lt below

pub below_more : (m n : ℕ) (l : List Change) → m ≤ n → All (λ c. c.0 < m) l → All (λ c. c.0 < n) l
below_more m n l le below = λ k d lt. omega (arith, le, below k d lt)

-- and they are where each page with an image is
pub below_all : (m : ℕ) (l : List Change) → PagesRise l → ((p : ℕ) → IsSome (image_of p l) → p < m) → All (λ c. c.0 < m) l
below_all m [] rises each = All-nil (λ (c : Change). c.0 < m)
below_all m (c ∷ cs) rises each =
    All-cons (λ (c : Change). c.0 < m) c cs (each c.0 (subst IsSome (sym (image_here c.0 c cs refl)) refl)) (below_all m cs rises.1 later)
  where
    later : (p : ℕ) → IsSome (image_of p cs) → p < m
    later p some = elim (cases_eq p c.0) [
      | inl is ↦ absurd (false≢true (subst IsSome (image_of_none p cs (subst (λ (n : ℕ). AreAbove n cs) (sym is) rises.0)) some))
      | inr ne ↦ each p (subst IsSome (sym (image_past p c cs ne)) some)
    ]

-- a page with an image is named somewhere
pub named : (p : ℕ) (l : List Change) → IsSome (image_of p l) → (k : ℕ) × (k < length l) × (changed_page l k ≡ p)
named p [] found = absurd (false≢true found)
named p (c ∷ cs) found = elim (cases_eq p c.0) [
  | inl same ↦ (0, omega arith, sym same)
  | inr other ↦ (let rest = named p cs (subst IsSome (image_past p c cs other) found) in (suc rest.0, omega (arith, rest.1), rest.2))
]

-- so all from the n-th on are named where each has an image
pub names_all : (n m : ℕ) (l : List Change) → ((p : ℕ) → n ≤ p → p < m → IsSome (image_of p l)) → NamesAll n m l
names_all n m l each = λ p low high. named p l (each p low high)

-- THE PAGES once one more change is put
pub nothing : (pages : List (List ℕ)) → pages_after pages (length pages) [] ≡ pages
nothing pages = let none : length pages - length pages ≡ 0 = omega arith in ap (λ (n : ℕ). pages ++ replicate n []) none ∙ append-nil pages

-- a page that none of the changes above another names
changed_above : (n : ℕ) (l : List Change) (x : List (List ℕ)) (p : ℕ) (image : List ℕ) → p ≤ n → AreAbove n l
    → changed_pages (set x p image) l ≡ set (changed_pages x l) p image
changed_above n [] x p image le above = refl
changed_above n (c ∷ cs) x p image le above =
    ap (λ (y : List (List ℕ)). changed_pages y cs) (set_comm x p c.0 image c.1 (λ is. absurd (omega (arith, le, above.0, is))))
    ∙ changed_above n cs (set x c.0 c.1) p image le above.1

pub changed_with : (x : List (List ℕ)) (p : ℕ) (image : List ℕ) (l : List Change) → PagesRise l → changed_pages x (with_change p image l)
    ≡ set (changed_pages x l) p image
changed_with x p image [] rises = refl
changed_with x p image (c ∷ cs) rises = elim (cases_order p c.0) [
  | inr (inl less) ↦ ap (changed_pages x) (with_before p image c cs less)
      ∙ ap (λ (y : List (List ℕ)). changed_pages y cs) (set_comm x p c.0 image c.1 (λ is. absurd (omega (arith, less, is))))
      ∙ changed_above c.0 cs (set x c.0 c.1) p image (omega (arith, less)) rises.0
  | inl same ↦ ap (changed_pages x) (with_same p image c cs (sym same))
      ∙ ap (λ (y : List (List ℕ)). changed_pages y cs) (sym (set-set x p c.1 image) ∙ ap (λ (n : ℕ). set (set x n c.1) p image) same)
      ∙ changed_above c.0 cs (set x c.0 c.1) p image (omega (arith, same)) rises.0
  | inr (inr more) ↦ ap (changed_pages x) (with_after p image c cs more) ∙ changed_with (set x c.0 c.1) p image cs rises.1
]

-- one more page that is there: it is set
pub put_sets : (pages : List (List ℕ)) (m p : ℕ) (image : List ℕ) (l : List Change) → PagesRise l
    → pages_after pages m (with_change p image l) ≡ set (pages_after pages m l) p image
put_sets pages m p image l rises = changed_with (pages ++ replicate (m - length pages) []) p image l rises

-- a page behind all that change
changed_behind : (x : List (List ℕ)) (d : List ℕ) (l : List Change) → All (λ c. c.0 < length x) l → changed_pages (x ++ d ∷ []) l ≡ changed_pages x l ++ d ∷ []
changed_behind x d [] below = refl
changed_behind x d (c ∷ cs) below =
    let Q : Change → Type 0 = λ e. e.0 < length x in
    ap (λ (y : List (List ℕ)). changed_pages y cs) (set-append_left x (d ∷ []) c.0 c.1 (All-head Q c cs below))
    ∙ changed_behind (set x c.0 c.1) d cs (subst (λ (n : ℕ). All (λ e. e.0 < n) cs) (sym (length-set x c.0 c.1)) (All-tail Q c cs below))

-- one that is next to them: it is added
pub put_adds : (pages : List (List ℕ)) (m : ℕ) (image : List ℕ) (l : List Change) → length pages ≤ m → PagesRise l → All (λ c. c.0 < m) l
    → pages_after pages (m + 1) (with_change m image l) ≡ pages_after pages m l ++ image ∷ []
put_adds pages m image l le rises below =
    let x : List (List ℕ) = pages ++ replicate (m - length pages) [] in
    let size : length x ≡ m = omega (arith, le, length-append pages (replicate (m - length pages) []), length-replicate {A = List ℕ}) in
    let count : m + 1 - length pages ≡ m - length pages + 1 = omega (arith, le) in
    let more : pages ++ replicate (m + 1 - length pages) [] ≡ x ++ [] ∷ [] =
    ap (λ (n : ℕ). pages ++ replicate n []) count ∙ ap (λ (y : List (List ℕ)). pages ++ y) (sym (replicate-append-replicate (m - length pages) 1 []))
    ∙ sym (append_assoc pages (replicate (m - length pages) []) ([] ∷ [])) in
    let all : All (λ c. c.0 < length x) l = subst (λ (n : ℕ). All (λ c. c.0 < n) l) (sym size) below in
    let end : length (changed_pages x l) ≡ m = length-changed x l ∙ size in
    let none : m - m ≡ 0 = omega arith in
    put_sets pages (m + 1) m image l rises
    ∙ ap (λ (y : List (List ℕ)). set (changed_pages y l) m image) more
    ∙ ap (λ (y : List (List ℕ)). set y m image) (changed_behind x [] l all)
    ∙ set-append_right (changed_pages x l) ([] ∷ []) m m image end (omega arith)
    ∙ ap (λ (k : ℕ). changed_pages x l ++ set ([] ∷ []) k image) none
