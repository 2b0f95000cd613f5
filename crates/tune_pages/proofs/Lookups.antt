-- What is read of a page through a work.
use Rattle.std.proofs.Common.{◌≡◌, inl, inr, ℕ, ◌<◌, List, [], ◌∷◌, length, refl, Some, None, IsSome, Result, Ok, Err, OnOk}
use Rattle.std.proofs.Common.{Bool, true, false, sym, ◌∙◌, ap, subst, arith}
use Rattle.std.proofs.lemmas.Bool.{cases_lt}
use Rattle.tune_journal.specs.ChangeList.{image_of}
use Rattle.tune_journal.specs.Pages.{page_at}
use Rattle.tune_journal.proofs.Above.{page_changed_after, page_kept_after}
use Rattle.tune_pages.specs.Stand.{IsUsed}
use Rattle.tune_pages.specs.Work.{page_count_in, stand_on, FitsOn}
use Rattle.tune_pages.specs.declared.work.Work.{Work}
use Rattle.tune_pages.proofs.Taking.{stand_used, stand_pages, in_count}

module _ (pages : List (List ℕ)) (used : List Bool) (w : Work) (p : ℕ) (fits : FitsOn pages used w) (is_used : IsUsed (stand_on pages used w).used p) where
  here : p < page_count_in pages w
  here = in_count pages used w p fits.inside (subst (λ (m : List Bool). IsUsed m p) (stand_used pages used w) is_used)

  -- a page that the work changes
  pub read_changed : (i : List ℕ) → image_of p w.changes ≡ Some i → i ≡ page_at (stand_on pages used w).pages p
  read_changed i some = sym (ap (λ (l : List (List ℕ)). page_at l p) (stand_pages pages used w)
      ∙ page_changed_after pages (page_count_in pages w) w.changes p i fits.rising (omega arith) here some)

  -- and one that it does not
  pub read_old : image_of p w.changes ≡ None → p < length pages
  read_old none = elim (cases_lt p (length pages)) [
    | inl lt ↦ lt
    | inr ge ↦ absurd (let some = fits.names p ge here in let e : false ≡ true = subst IsSome none some in cc)
  ]

  pub read_kept : image_of p w.changes ≡ None → page_at pages p ≡ page_at (stand_on pages used w).pages p
  read_kept none = sym (ap (λ (l : List (List ℕ)). page_at l p) (stand_pages pages used w)
      ∙ page_kept_after pages (page_count_in pages w) w.changes p (read_old none) none)

-- where no page changes, none has another image
pub none_of : (changes : List (ℕ × List ℕ)) (p : ℕ) → length changes ≡ 0 → image_of p changes ≡ None
none_of [] p is = refl
none_of (c ∷ cs) p is = absurd (omega (arith, is))

pub ok_as : {T E : Type 0} (r : Result T E) (P Q : Type 0) → (P → Q) → OnOk r P → OnOk r Q
ok_as (Ok x) P Q so p = so p
ok_as (Err e) P Q so p = tt
