-- An owner trades pages, and those of all others stay.
use Rattle.std.proofs.Common.{◌≡◌, ◌≢◌, ◌⊎◌, inl, inr, ℕ, zero, suc, ◌<◌, List, [], ◌∷◌, ◌++◌, length, get_or, set, replicate}
use Rattle.std.proofs.Common.{Bool, true, false, All, refl, sym, ◌∙◌, subst, arith}
use Rattle.std.specs.List.{Contains}
use Rattle.std.proofs.lemmas.Bool.{cases_eq, cases_lt, cases_Bool}
use Rattle.std.proofs.lemmas.List.{same_lists, length-set, get_or-set_same, get_or-replicate, get_or_past, length-replicate}
use Rattle.std.proofs.lemmas.List.Elements.{All-contains, Contains-append_left, Contains-append_right, Contains-append_cases}
use Rattle.tune_pages.specs.Frame.{Apart, AllApart, InUse, SamePage, TradesPages}
use Rattle.tune_pages.specs.Stand.{Stand, IsUsed, IsFree, AllFree, AllUsed, marked}
use Rattle.tune_pages.proofs.Chains.{length-marked}
use Rattle.tune_pages.proofs.Finishing.{used_within}
use Rattle.tune_pages.proofs.Marks.{apart_or, apart_all, all_apart, apart_join, apart_left, apart_right, apart_of, contains_none, not_both, used_each}
use Rattle.tune_pages.proofs.Overlay.{marked_other}
use Rattle.tune_parts.proofs.Lists.{contains_first, contains_later, contains_cases, each_of, for_each, apart_each}
use Rattle.tune_parts.proofs.Once.{Once, EachFree, apart_turned, once_cut, once_put, free_once, once_free, free_none, none_free}

-- In use are the root and these pages, and no others, and none of them comes twice.
pub record UsesPages (used : List Bool) (owned : List ℕ) : Type 0 where
  pub apart : AllFree (0 ∷ owned) (replicate (length used) false)
  pub marks : used ≡ marked true (0 ∷ owned) (replicate (length used) false)

-- one of some pages is none of those
apart_is_not : (x : ℕ) (xs : List ℕ) (y : ℕ) → Apart x xs → Contains xs y → y ≢ x
apart_is_not x xs y a c e = not_both x xs (subst (λ (z : ℕ). Contains xs z) e c) a

-- MARKS
marked_in : (t : List ℕ) (m : List Bool) (p : ℕ) → p < length m → Contains t p → IsUsed (marked true t m) p
marked_in [] m p lt c = absurd (contains_none p c)
marked_in (q ∷ t) m p lt c = elim (apart_or p t) [
  | inl again ↦ marked_in t (set m q true) p (omega (arith, length-set m q true)) again
  | inr apart ↦ elim (contains_cases q t p c) [
    | inl here ↦ marked_other true t (set m q true) p false (apart_all p t apart)
        ∙ subst (λ (x : ℕ). get_or (set m x true) p false ≡ true) (sym here) (get_or-set_same m p true false lt)
    | inr later ↦ absurd (not_both p t later apart)
  ]
]

none_used : (n p : ℕ) → get_or (replicate n false) p false ≡ false
none_used n p = elim (cases_lt p n) [
  | inl lt ↦ get_or-replicate n p false false lt
  | inr ge ↦ get_or_past (replicate n false) p false (omega (arith, length-replicate n false))
]

-- a page that is marked is one of these
one_of : (t : List ℕ) (n p : ℕ) → IsUsed (marked true t (replicate n false)) p → Contains t p
one_of t n p used = elim (apart_or p t) [
  | inl c ↦ c
  | inr apart ↦
      let e : false ≡ true = sym (marked_other true t (replicate n false) p false (apart_all p t apart) ∙ none_used n p) ∙ used in
      absurd cc
]

used_beside : (m : List Bool) (p q : ℕ) → IsUsed (set m p false) q → p ≢ q
used_beside m p q used same =
    let lt = used_within (set m p false) q used in
    let e : get_or (set m p false) q false ≡ false =
    subst (λ (x : ℕ). get_or (set m p false) x false ≡ false) same (get_or-set_same m p false false (let k = length-set m p false in omega arith)) in
    absurd cc

-- pages that are in use, each when its turn comes, come once
once_used : (t : List ℕ) (m : List Bool) → AllUsed t m → Once t
once_used [] m used = tt
once_used (p ∷ t) m used =
    let later = used_each t (set m p false) used.1 in
    (all_apart p t (λ k d lt is. used_beside m p (get_or t k d) (later k d lt) (sym is)), once_used t (set m p false) used.1)

-- within a list the default does not matter
any_default : (m : List Bool) (k : ℕ) (d : Bool) → k < length m → get_or m k d ≡ get_or m k false
any_default [] k d lt = absurd (omega arith)
any_default (b ∷ m) zero d lt = refl
any_default (b ∷ m) (suc k) d lt = any_default m k d (omega arith)

-- THE TRADE
pub traded : (old new : Stand) (before mine yours after : List ℕ) → UsesPages old.used (before ++ (mine ++ after)) → TradesPages mine yours old new
    → length new.used ≡ length old.used → IsUsed new.used 0 → AllUsed yours new.used → All (λ p. p ≢ 0) yours
    → UsesPages new.used (before ++ (yours ++ after)) × ((page : ℕ) → Contains (before ++ after) page → SamePage old new page × IsUsed new.used page)
traded old new before mine yours after uses trades long root theirs above =
    (record { apart = apart_new; marks = marks_new }, λ page c. ((kept page c).0, (kept page c).0.used ∙ (in_old page c).flag))
  where
    n : ℕ
    n = length old.used

    others : List ℕ
    others = before ++ after

    fresh : Once (0 ∷ (before ++ (mine ++ after))) × EachFree (replicate n false) (0 ∷ (before ++ (mine ++ after)))
    fresh = free_once (0 ∷ (before ++ (mine ++ after))) (replicate n false) uses.apart

    cut : Once others × Once mine × AllApart mine others
    cut = once_cut before mine after fresh.0.1

    -- one of the others is one of all
    among_all : (page : ℕ) → Contains others page → Contains (before ++ (mine ++ after)) page
    among_all page c = elim (Contains-append_cases before after page c) [
      | inl front ↦ Contains-append_left before (mine ++ after) page front
      | inr back ↦ Contains-append_right before (mine ++ after) page (Contains-append_right mine after page back)
    ]

    in_old : (page : ℕ) → Contains others page → InUse old page
    in_old page c =
        let there = among_all page c in
        let low : page < n = none_free n page (each_of (IsFree (replicate n false)) (before ++ (mine ++ after)) page fresh.1.1 there) in
        let long_marks = length-replicate n false in
        record {
          flag = rw uses.marks
              (marked_in (0 ∷ (before ++ (mine ++ after))) (replicate n false) page (omega arith) (contains_later 0 (before ++ (mine ++ after)) page there));
          not_root = apart_is_not 0 (before ++ (mine ++ after)) page fresh.0.0 there;
        }

    kept : (page : ℕ) → Contains others page → SamePage old new page × Apart page yours
    kept page c = trades.kept page (in_old page c) (apart_of others mine page (apart_turned mine others cut.2) c)

    once_new : Once (before ++ (yours ++ after))
    once_new = once_put before yours after cut.0 (once_used yours new.used theirs)
        (apart_turned others yours (apart_each others yours (λ page c. (kept page c).1)))

    root_apart : Apart 0 (before ++ (yours ++ after))
    root_apart =
        let all = fresh.0.0 in
        apart_join 0 before (yours ++ after) (apart_left 0 before (mine ++ after) all)
        (apart_join 0 yours after (all_apart 0 yours above) (apart_right 0 mine after (apart_right 0 before (mine ++ after) all)))

    -- what each page of the new list is
    which : (page : ℕ) → Contains (before ++ (yours ++ after)) page → Contains others page ⊎ Contains yours page
    which page c = elim (Contains-append_cases before (yours ++ after) page c) [
      | inl front ↦ inl (Contains-append_left before after page front)
      | inr rest ↦ elim (Contains-append_cases yours after page rest) [ inl own ↦ inr own | inr back ↦ inl (Contains-append_right before after page back) ]
    ]

    used_new : (page : ℕ) → Contains (0 ∷ (before ++ (yours ++ after))) page → IsUsed new.used page
    used_new page c = elim (contains_cases 0 (before ++ (yours ++ after)) page c) [
      | inl is_root ↦ subst (λ (x : ℕ). IsUsed new.used x) is_root root
      | inr later ↦ elim (which page later) [
        | inl other ↦ (kept page other).0.used ∙ (in_old page other).flag
        | inr own ↦ All-contains (λ p. IsUsed new.used p) yours page (used_each yours new.used theirs) own
      ]
    ]

    each_new : EachFree (replicate (length new.used) false) (0 ∷ (before ++ (yours ++ after)))
    each_new = for_each (IsFree (replicate (length new.used) false)) (0 ∷ (before ++ (yours ++ after)))
        (λ page c. free_none (length new.used) page (used_within new.used page (used_new page c)))

    apart_new : AllFree (0 ∷ (before ++ (yours ++ after))) (replicate (length new.used) false)
    apart_new = once_free (0 ∷ (before ++ (yours ++ after))) (replicate (length new.used) false) (root_apart, once_new) each_new

    -- and no other page is in use
    only_these : (page : ℕ) → IsUsed new.used page → Contains (0 ∷ (before ++ (yours ++ after))) page
    only_these page used = elim (cases_eq page 0) [
      | inl is_root ↦ subst (λ (x : ℕ). Contains (0 ∷ (before ++ (yours ++ after))) x) (sym is_root) (contains_first 0 (before ++ (yours ++ after)))
      | inr not_root ↦ elim (trades.taken page record { flag = used; not_root = not_root }) [
        | inl own ↦ contains_later 0 (before ++ (yours ++ after)) page
            (Contains-append_right before (yours ++ after) page (Contains-append_left yours after page own))
        | inr was ↦
            let flag : IsUsed (marked true (0 ∷ (before ++ (mine ++ after))) (replicate n false)) page = rw uses.marks at was.0.flag in
            elim (contains_cases 0 (before ++ (mine ++ after)) page (one_of (0 ∷ (before ++ (mine ++ after))) n page flag)) [
              | inl is_root ↦ absurd (not_root (sym is_root))
              | inr there ↦ elim (Contains-append_cases before (mine ++ after) page there) [
                | inl front ↦ contains_later 0 (before ++ (yours ++ after)) page (Contains-append_left before (yours ++ after) page front)
                | inr rest ↦ elim (Contains-append_cases mine after page rest) [
                  | inl gone ↦ absurd (not_both page mine gone was.1)
                  | inr back ↦ contains_later 0 (before ++ (yours ++ after)) page
                      (Contains-append_right before (yours ++ after) page (Contains-append_right yours after page back))
                ]
              ]
            ]
      ]
    ]

    same_flag : (page : ℕ) → page < length new.used
        → get_or new.used page false ≡ get_or (marked true (0 ∷ (before ++ (yours ++ after))) (replicate (length new.used) false)) page false
    same_flag page lt = elim (cases_Bool (get_or new.used page false)) [
      | inl used ↦
          used
          ∙ sym (marked_in (0 ∷ (before ++ (yours ++ after))) (replicate (length new.used) false) page
          (omega (arith, length-replicate (length new.used) false))
          (only_these page used))
      | inr unused ↦ elim (apart_or page (0 ∷ (before ++ (yours ++ after)))) [
        | inl c ↦ absurd (let e : false ≡ true = sym unused ∙ used_new page c in cc)
        | inr apart ↦
            unused ∙ sym (marked_other true (0 ∷ (before ++ (yours ++ after))) (replicate (length new.used) false) page false
            (apart_all page (0 ∷ (before ++ (yours ++ after))) apart) ∙ none_used (length new.used) page)
      ]
    ]

    same_long : length new.used ≡ length (marked true (0 ∷ (before ++ (yours ++ after))) (replicate (length new.used) false))
    same_long = sym (length-marked true (0 ∷ (before ++ (yours ++ after))) (replicate (length new.used) false) ∙ length-replicate (length new.used) false)

    marks_new : new.used ≡ marked true (0 ∷ (before ++ (yours ++ after))) (replicate (length new.used) false)
    marks_new = same_lists new.used (marked true (0 ∷ (before ++ (yours ++ after))) (replicate (length new.used) false)) same_long
        (λ k d lt. any_default new.used k d lt ∙ same_flag k lt
        ∙ sym (any_default (marked true (0 ∷ (before ++ (yours ++ after))) (replicate (length new.used) false)) k d (omega (arith, same_long))))
