-- The pages of an index, as marks tell and one after another.
use Rattle.std.proofs.Common.{◌≡◌, ◌≢◌, ℕ, List, [], ◌∷◌, Bool, true, false, get_or, set, refl, sym, ◌∙◌, subst}
use Rattle.std.proofs.lemmas.List.{get_or-set_other, get_or_default}
use Rattle.tune_pages.specs.Frame.{Apart}
use Rattle.tune_pages.specs.Stand.{AllUsed, IsUsed, Stand}
use Rattle.tune_pages.proofs.Finishing.{set_false}
use Rattle.tune_pages.proofs.Marks.{used_each, used_kept}
use Rattle.tune_index.specs.Indexes.{HasPages}
use Rattle.tune_index.specs.Inside.EachPage.{HasEachPage}

-- a page that is in use after another one was freed is not that one
other_page : (m : List Bool) (p q : ℕ) → IsUsed (set m p false) q → q ≢ p
other_page m p q used e =
    let clash : false ≡ true = sym (set_false m p) ∙ subst (λ (x : ℕ). get_or (set m p false) x false ≡ true) e used in
    absurd cc

still_used : (m : List Bool) (p q : ℕ) → IsUsed (set m p false) q → IsUsed m q
still_used m p q used = sym (get_or-set_other m p q false false (other_page m p q used)) ∙ used

each_in : (s : Stand) (ps : List ℕ) (m : List Bool) → ((p : ℕ) → IsUsed m p → IsUsed s.used p) → AllUsed ps m → Apart 0 ps → HasEachPage s ps
each_in s [] m among used apart = tt
each_in s (p ∷ ps) m among used apart = (
  record { flag = among p used.0; not_root = apart.0 },
  (λ k l e. other_page m p p (subst (λ (x : ℕ). IsUsed (set m p false) x) (get_or_default ps k 0 0 l ∙ e) (used_each ps (set m p false) used.1 k 0 l)) refl),
  each_in s ps (set m p false) (λ q u. among q (still_used m p q u)) used.1 apart.1,
)

pub each_of : (s : Stand) (ps : List ℕ) → HasPages s ps → HasEachPage s ps
each_of s ps has = each_in s ps s.used (λ p u. u) has.0 has.1

all_used : (s : Stand) (ps : List ℕ) → HasEachPage s ps → AllUsed ps s.used
all_used s [] has = tt
all_used s (p ∷ ps) has = (
  has.0.flag,
  used_kept ps s.used (set s.used p false)
      (λ k d l. get_or-set_other s.used p (get_or ps k d) false false (λ e. has.1 k l (get_or_default ps k 0 d l ∙ e))) (all_used s ps has.2),
)

no_root : (s : Stand) (ps : List ℕ) → HasEachPage s ps → Apart 0 ps
no_root s [] has = tt
no_root s (p ∷ ps) has = (has.0.not_root, no_root s ps has.2)

pub all_of : (s : Stand) (ps : List ℕ) → HasEachPage s ps → HasPages s ps
all_of s ps has = (all_used s ps has, no_root s ps has)
