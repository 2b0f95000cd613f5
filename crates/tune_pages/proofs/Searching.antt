-- Which page is the next free one.
use Rattle.std.proofs.Common.{◌≡◌, inl, inr, ℕ, ◌<◌, ◌≤◌, min, List, [], ◌∷◌, ◌++◌, length, get_or}
use Rattle.std.proofs.Common.{Bool, true, false, Option, All, sym, ◌∙◌, ap, subst, arith}
use Rattle.std.proofs.lemmas.List.{get_or-set_same}
use Rattle.std.proofs.lemmas.List.Elements.{All-nil, All-cons, All-head, All-tail}
use Rattle.std.proofs.lemmas.Bool.{cases_eq, cases_lt}
use Rattle.tune_pages.specs.Stand.{IsUsed, IsFree, IsFull, marked}
use Rattle.tune_pages.specs.Work.{front_in_use, used_in, Falls, FitsOn}
use Rattle.tune_pages.specs.Inside.NextFree.{IsNextFree}
use Rattle.tune_pages.specs.Inside.Freed.{IsEnd}
use Rattle.tune_pages.specs.declared.work.Work.{Work}
use Rattle.tune_pages.proofs.Chains.{marked_more, length-marked}
use Rattle.tune_pages.specs.Inside.HeldPages.{IsKept}
use Rattle.tune_pages.proofs.Putting.{Apart, used_either, free_within}
use Rattle.tune_pages.proofs.Overlay.{length-front, front_below, front_behind, marked_other, use_below, get_or_default_same}
use Rattle.tune_pages.proofs.Finishing.{used_below}
use Rattle.tune_pages.proofs.Taking.{falls_front}

all_more : (Q : ℕ → Type 0) (t : List ℕ) (p : ℕ) → All Q t → Q p → All Q (t ++ p ∷ [])
all_more Q [] p all here = All-cons Q p [] here (All-nil Q)
all_more Q (x ∷ t) p all here = All-cons Q x (t ++ p ∷ []) (All-head Q x t all) (all_more Q t p (All-tail Q x t all) here)

last_of : (Q : ℕ → Type 0) (t : List ℕ) (p : ℕ) → All Q (t ++ p ∷ []) → Q p
last_of Q [] p all = All-head Q p [] all
last_of Q (x ∷ t) p all = last_of Q t p (All-tail Q x (t ++ p ∷ []) all)

-- The freed pages are at or above the end of the list.
pub end_below : (freed : List ℕ) (limit end : ℕ) → Falls freed → IsEnd end limit freed → All (λ q. end ≤ q) freed
end_below freed limit end falls ends = elim ends [
  | inl none ↦ subst (All (λ q. end ≤ q)) (sym none.0) (All-nil (λ (q : ℕ). end ≤ q))
  | inr last ↦ (let both = falls_front last.0 end (subst Falls last.1 falls) in
      subst (All (λ q. end ≤ q)) (sym last.1) (all_more (λ (q : ℕ). end ≤ q) last.0 end (λ k d lt. (let a = both.1 k d lt in omega (arith, a))) (omega arith)))
]

module _ (pages : List (List ℕ)) (used : List Bool) (w : Work) (limit end : ℕ) (fits : FitsOn pages used w) (size : length used ≡ limit)
    (ends : IsEnd end limit w.freed.items) where
  -- the freed pages are at or above the end
  pub from_end : All (λ q. end ≤ q) w.freed.items
  from_end = end_below w.freed.items limit end fits.falls ends

  pub end_within : end ≤ limit
  end_within = elim ends [
    | inl none ↦ omega (arith, none.1)
    | inr last ↦ (let below = used_below w.freed.items (front_in_use w.frontier used) fits.freed in
        let at_end = last_of (λ (q : ℕ). q < length (front_in_use w.frontier used)) last.0 end
        (subst (All (λ q. q < length (front_in_use w.frontier used))) last.1 below) in
        omega (arith, at_end, size, length-front w.frontier used fits.within))
  ]

  pub end_free : end < limit → IsFree (used_in used w) end
  end_free lt = elim ends [
    | inl none ↦ absurd (omega (arith, none.1, lt))
    | inr last ↦ (let m : List Bool = marked false last.0 (front_in_use w.frontier used) in
        let long : end < length m = omega
        (arith, lt, size, length-marked false last.0 (front_in_use w.frontier used), length-front w.frontier used fits.within) in
        ap (λ (l : List ℕ). get_or (marked false l (front_in_use w.frontier used)) end true) last.1
        ∙ ap (λ (l : List Bool). get_or l end true) (marked_more false last.0 end (front_in_use w.frontier used)) ∙ get_or-set_same m end false true long)
  ]

  module _ (page : ℕ) (low : min w.frontier end ≤ page) (high : page ≤ end) (full : (q : ℕ) → min w.frontier end ≤ q → q < page
      → IsUsed used q) (free : page < end → IsFree used page) where
    full' : (q : ℕ) → w.frontier ≤ q → q < page → IsUsed used q
    full' q le lt = full q (omega (arith, le)) lt

    above : All (λ q. page ≤ q) w.freed.items
    above = λ k d lt. (let a = from_end k d lt in omega (arith, a, high))

    apart_below : (q : ℕ) → q < page → Apart w.freed.items q
    apart_below q lt = λ k d lt'. (let a = above k d lt' in λ is. absurd (omega (arith, a, lt, is)))

    free_here : page < limit → IsFree (used_in used w) page
    free_here lt = elim (cases_lt page end) [
      | inl before ↦ (let apart : Apart w.freed.items page = λ k d lt'. (let a = from_end k d lt' in λ is. absurd (omega (arith, a, before, is))) in
          marked_other false w.freed.items (front_in_use w.frontier used) page true apart ∙ front_behind w.frontier used page true (omega (arith, low, before))
          ∙ free before)
      | inr at_end ↦ (let same : end ≡ page = omega (arith, at_end, high) in
          subst (λ (p : ℕ). IsFree (used_in used w) p) same (end_free (omega (arith, lt, same))))
    ]

    pub next_is : page < limit → IsNextFree used w page
    next_is lt = record {
      least = record { free = free_here lt; least = λ q before. use_below w.freed.items w.frontier page used q full' before (apart_below q before) };
      freed = above;
      full = full';
    }

    pub none_is : limit ≤ page → IsFull (used_in used w)
    none_is ge = elim ends [
      | inl none ↦ subst (λ (l : List ℕ). IsFull (marked false l (front_in_use w.frontier used))) (sym none.0) (λ k d lt. each k d lt)
      | inr last ↦ (let below = used_below w.freed.items (front_in_use w.frontier used) fits.freed in
          let at_end = last_of (λ (q : ℕ). q < length (front_in_use w.frontier used)) last.0 end
          (subst (All (λ q. q < length (front_in_use w.frontier used))) last.1 below) in
          absurd (omega (arith, at_end, size, length-front w.frontier used fits.within, ge, high)))
    ]
      where
        each : (k : ℕ) (d : Bool) → k < length (front_in_use w.frontier used) → get_or (front_in_use w.frontier used) k d ≡ true
        each k d lt = elim (cases_lt k w.frontier) [
          | inl lo ↦ front_below w.frontier used k d lo
          | inr hi ↦ (let in_used : k < length used = omega (arith, lt, length-front w.frontier used fits.within) in
              front_behind w.frontier used k d hi ∙ get_or_default_same used k d false in_used ∙ full' k hi (omega (arith, in_used, size, ge)))
        ]

-- what is known of pages that are not closed
pub record Facts (pages : List (List ℕ)) (used : List Bool) : Type 0 where
  pub below : (q : ℕ) → IsUsed used q → q < length pages
  pub root : IsUsed used 0
  pub few : length used ≤ 4000000

pub kept_facts : {D : Type 0} (disk : Option D) (pages : List (List ℕ)) (used : List Bool) (limit : ℕ) (closed : Bool) → IsKept disk pages used limit closed
    → closed ≡ false → Facts pages used
kept_facts disk pages used limit closed kept shut = record { below = kept.below shut; root = kept.root; few = omega (arith, kept.marks, kept.most) }

pub free_in : (pages : List (List ℕ)) (used : List Bool) (w : Work) (p : ℕ) → FitsOn pages used w → IsFree (used_in used w) p → p < length used
free_in pages used w p fits free = omega
    (arith, free_within (used_in used w) p free, length-marked false w.freed.items (front_in_use w.frontier used), length-front w.frontier used fits.within)

root_used : (pages : List (List ℕ)) (used : List Bool) (w : Work) → FitsOn pages used w → IsUsed used 0 → IsUsed (used_in used w) 0
root_used pages used w fits root = marked_other false w.freed.items (front_in_use w.frontier used) 0 false fits.no_root ∙ elim (cases_lt 0 w.frontier) [
  | inl lo ↦ front_below w.frontier used 0 false lo
  | inr hi ↦ front_behind w.frontier used 0 false hi ∙ root
]

pub not_root : (pages : List (List ℕ)) (used : List Bool) (w : Work) (p : ℕ) → FitsOn pages used w → IsUsed used 0 → IsFree (used_in used w) p → 0 < p
not_root pages used w p fits root free = elim (cases_eq p 0) [
  | inl is ↦ (let yes' : get_or (used_in used w) 0 true ≡ true = used_either (used_in used w) 0 (root_used pages used w fits root) in
      let clash : false ≡ true = sym free ∙ subst (λ (q : ℕ). get_or (used_in used w) q true ≡ true) (sym is) yes' in absurd (let e = clash in cc))
  | inr ne ↦ omega (arith, ne)
]

-- no page is free among marks that are all set
pub full_not_free : (m : List Bool) (p : ℕ) → IsFull m → IsFree m p → ⊥
full_not_free m p full free = (let is = full p true (free_within m p free) in let clash : false ≡ true = sym free ∙ is in absurd (let e = clash in cc))
