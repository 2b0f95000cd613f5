-- Pages that a work frees.
use Rattle.std.proofs.Common.{◌≡◌, ◌≢◌, ℕ, zero, suc, ◌+◌, ◌<◌, ◌≤◌, max, List, [], ◌∷◌, ◌++◌, length, get_or, set, take, drop}
use Rattle.std.proofs.Common.{Bool, true, false, All, refl, sym, ◌∙◌, ap, subst, arith}
use Rattle.std.proofs.lemmas.List.{get_or-set_other, take-append-drop, length-take, length-drop, get_or-drop}
use Rattle.std.specs.List.{insert}
use Rattle.std.proofs.lemmas.List.Elements.{All-nil, All-cons, All-head, All-tail}
use Rattle.tune_journal.specs.Pages.{pages_after}
use Rattle.tune_pages.proofs.Puts.{Rising, HasImages}
use Rattle.tune_pages.specs.Stand.{Stand, IsUsed, AllUsed, marked, without_page}
use Rattle.tune_pages.specs.Work.{front_in_use, used_in, page_count_in, stand_on, Falls, FitsOn}
use Rattle.tune_pages.specs.Inside.Freed.{IsPutIn}
use Rattle.tune_pages.specs.declared.work.Work.{Work}
use Rattle.tune_pages.proofs.Putting.{Apart}
use Rattle.tune_pages.proofs.Overlay.{marked_apart}
use Rattle.tune_pages.proofs.Finishing.{false_keeps, set_false}

-- a page in use was not freed
pub not_freed : (t : List ℕ) (m : List Bool) (p : ℕ) → IsUsed (marked false t m) p → Apart t p
not_freed [] m p used = All-nil (λ q. q ≢ p)
not_freed (q ∷ t) m p used = All-cons (λ x. x ≢ p) q t
    (λ is. (let now : get_or (set m q false) p false ≡ true = false_keeps t (set m q false) p used in
    let none : get_or (set m q false) q false ≡ false = set_false m q in
    let here : get_or (set m q false) q false ≡ true = subst (λ (x : ℕ). get_or (set m q false) x false ≡ true) (sym is) now in
    let clash : false ≡ true = sym none ∙ here in absurd (let e = clash in cc)))
    (not_freed t (set m q false) p used)

all_put : (Q : ℕ → Type 0) (f b : List ℕ) (p : ℕ) → All Q (f ++ b) → Q p → All Q (f ++ p ∷ b)
all_put Q [] b p all here = All-cons Q p b here all
all_put Q (x ∷ f) b p all here = All-cons Q x (f ++ p ∷ b) (All-head Q x (f ++ b) all) (all_put Q f b p (All-tail Q x (f ++ b) all) here)

marked_put : (f b : List ℕ) (m : List Bool) (p : ℕ) → Apart (f ++ b) p → marked false (f ++ p ∷ b) m ≡ set (marked false (f ++ b) m) p false
marked_put [] b m p apart = marked_apart false b m p false apart
marked_put (x ∷ f) b m p apart = marked_put f b (set m x false) p (All-tail (λ q. q ≢ p) x (f ++ b) apart)

unset_used : (t : List ℕ) (m : List Bool) (p : ℕ) → Apart t p → AllUsed t m → AllUsed t (set m p false)
unset_used [] m p apart all = tt
unset_used (q ∷ t) m p apart all =
    let ne : q ≢ p = All-head (λ x. x ≢ p) q t apart in (
      get_or-set_other m p q false false ne ∙ all.0,
      subst (AllUsed t) (swap m p q ne) (unset_used t (set m q false) p (All-tail (λ x. x ≢ p) q t apart) all.1),
    )
  where
    swap : (l : List Bool) (a b : ℕ) → b ≢ a → set (set l b false) a false ≡ set (set l a false) b false
    swap [] a b ne = refl
    swap (x ∷ l) zero zero ne = refl
    swap (x ∷ l) zero (suc b) ne = refl
    swap (x ∷ l) (suc a) zero ne = refl
    swap (x ∷ l) (suc a) (suc b) ne = ap (λ (k : List Bool). x ∷ k) (swap l a b (λ is. ne (ap suc is)))

used_put : (f b : List ℕ) (m : List Bool) (p : ℕ) → Apart (f ++ b) p → IsUsed m p → AllUsed (f ++ b) m → AllUsed (f ++ p ∷ b) m
used_put [] b m p apart is all = (is, unset_used b m p apart all)
used_put (x ∷ f) b m p apart is all =
    let ne : x ≢ p = All-head (λ q. q ≢ p) x (f ++ b) apart in
    (all.0, used_put f b (set m x false) p (All-tail (λ q. q ≢ p) x (f ++ b) apart) (get_or-set_other m x p false false (λ e. ne (sym e)) ∙ is) all.1)

falls_put : (f b : List ℕ) (p : ℕ) → Falls (f ++ b) → All (λ q. p < q) f → ((q : ℕ) (rest : List ℕ) → b ≡ q ∷ rest → q ≤ p) → Apart (f ++ b) p
    → Falls (f ++ p ∷ b)
falls_put [] [] p falls above below apart = (All-nil (λ q. q < p), tt)
falls_put [] (q ∷ b) p falls above below apart =
    let le = below q b refl in
    let ne : q ≢ p = All-head (λ x. x ≢ p) q b apart in
    let lt : q < p = omega (arith, le, ne) in
    (All-cons (λ x. x < p) q b lt (λ k d within. (let a = falls.0 k d within in omega (arith, a, lt))), falls)
falls_put (x ∷ f) b p falls above below apart = (
  all_put (λ q. q < x) f b p falls.0 (All-head (λ q. p < q) x f above),
  falls_put f b p falls.1 (All-tail (λ q. p < q) x f above) below (All-tail (λ q. q ≢ p) x (f ++ b) apart),
)

-- FREEING
module _ (pages : List (List ℕ)) (used : List Bool) (w w' : Work) (p : ℕ) (fits : FitsOn pages used w) (is_used : IsUsed (used_in used w) p) (some : 0 < p)
    (ch : w'.changes ≡ w.changes) (fr : w'.frontier ≡ w.frontier) (put : IsPutIn p w.freed.items w'.freed.items) where
  apart : Apart (put.front ++ put.back) p
  apart = subst (λ (l : List ℕ). Apart l p) put.old_is (not_freed w.freed.items (front_in_use w.frontier used) p is_used)

  same_count : page_count_in pages w' ≡ page_count_in pages w
  same_count = ap (λ (n : ℕ). max (length pages) n) fr

  pub give_fits : FitsOn pages used w'
  give_fits = record {
    root = fits.root;
    inside = fits.inside;
    within = subst (λ (n : ℕ). n ≤ length used) (sym fr) fits.within;
    rising = subst Rising (sym ch) fits.rising;
    below = subst (λ (n : ℕ). All (λ e. e.0 < n) w'.changes) (sym same_count)
        (subst (λ (cs : List (ℕ × List ℕ)). All (λ e. e.0 < page_count_in pages w) cs) (sym ch) fits.below);
    names = subst (λ (n : ℕ). HasImages (length pages) n w'.changes) (sym same_count)
        (subst (λ (cs : List (ℕ × List ℕ)). HasImages (length pages) (page_count_in pages w) cs) (sym ch) fits.names);
    falls = subst Falls (sym put.new_is) (falls_put put.front put.back p (subst Falls put.old_is fits.falls) put.above put.below apart);
    freed = subst (λ (n : ℕ). AllUsed w'.freed.items (front_in_use n used)) (sym fr)
        (subst (λ (l : List ℕ). AllUsed l (front_in_use w.frontier used)) (sym put.new_is)
        (used_put put.front put.back (front_in_use w.frontier used) p apart (false_keeps w.freed.items (front_in_use w.frontier used) p is_used)
        (subst (λ (l : List ℕ). AllUsed l (front_in_use w.frontier used)) put.old_is fits.freed)));
    no_root = subst (All (λ q. q ≢ 0)) (sym put.new_is)
        (all_put (λ q. q ≢ 0) put.front put.back p (subst (All (λ q. q ≢ 0)) put.old_is fits.no_root) (λ is. absurd (omega (arith, is, some))));
  }

  give_used : used_in used w' ≡ set (used_in used w) p false
  give_used =
      ap (λ (n : ℕ). marked false w'.freed.items (front_in_use n used)) fr
      ∙ ap (λ (l : List ℕ). marked false l (front_in_use w.frontier used)) put.new_is
      ∙ marked_put put.front put.back (front_in_use w.frontier used) p apart
      ∙ ap (λ (l : List ℕ). set (marked false l (front_in_use w.frontier used)) p false) (sym put.old_is)

  give_pages : pages_after pages (page_count_in pages w') w'.changes ≡ pages_after pages (page_count_in pages w) w.changes
  give_pages = ap (λ (n : ℕ). pages_after pages n w'.changes) same_count ∙ ap (λ (cs : List (ℕ × List ℕ)). pages_after pages (page_count_in pages w) cs) ch

  abbrev made : List (List ℕ) → List Bool → Stand
  made x y = record { pages = x; used = y }

  pub give_stand : stand_on pages used w' ≡ without_page p (stand_on pages used w)
  unfolding stand_on
  give_stand = ap (λ (x : List (List ℕ)). made x (used_in used w')) give_pages ∙ ap (made (pages_after pages (page_count_in pages w) w.changes)) give_used

-- An insertion at the place that was found.
pub put_in : (old seen new : List ℕ) (at p : ℕ) → seen ≡ old → new ≡ insert old at p → at ≤ length seen
    → ((k : ℕ) → k < at → p < get_or seen k 0) → (at < length seen → get_or seen at 0 ≤ p) → IsPutIn p old new
put_in old seen new at p same is le above below = record {
  front = take at old;
  back = drop at old;
  old_is = sym (take-append-drop at old);
  new_is = is;
  above = λ k d lt. (let within : k < at = omega (arith, lt, length-take at old) in
      let here : get_or (take at old) k d ≡ get_or old k 0 = get_or-take at old k d within (omega (arith, lt, length-take at old)) in
      let more : p < get_or old k 0 = subst (λ (l : List ℕ). p < get_or l k 0) same (above k within) in
      subst (λ (n : ℕ). p < n) (sym here) more);
  below = λ q rest e. (let size : length (drop at old) ≡ length (q ∷ rest) = ap (λ (l : List ℕ). length l) e in
      let lt : at < length old = omega (arith, size, length-drop at old) in
      let first : get_or old at 0 ≡ q = sym (get_or-drop at old 0 0 ∙ ap (λ (n : ℕ). get_or old n 0) (let z : at + 0 ≡ at = omega arith in z))
      ∙ ap (λ (l : List ℕ). get_or l 0 0) e in
      let small : get_or old at 0 ≤ p = subst (λ (l : List ℕ). get_or l at 0 ≤ p) same (below (subst (λ (l : List ℕ). at < length l) (sym same) lt)) in
      subst (λ (n : ℕ). n ≤ p) first small);
}
  where
    get_or-take : (n : ℕ) (l : List ℕ) (k : ℕ) (d : ℕ) → k < n → k < length l → get_or (take n l) k d ≡ get_or l k 0
    get_or-take zero l k d lt in_l = absurd (omega (arith, lt))
    get_or-take (suc n) [] k d lt in_l = absurd (omega (arith, in_l))
    get_or-take (suc n) (x ∷ l) zero d lt in_l = refl
    get_or-take (suc n) (x ∷ l) (suc k) d lt in_l = get_or-take n l k d (omega (arith, lt)) (omega (arith, in_l))
