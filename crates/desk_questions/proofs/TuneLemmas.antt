-- The tunes of some numbers.
use Rattle.std.proofs.Common.{◌≡◌, ℕ, suc, zero, ◌+◌, ◌<◌, ◌≤◌, Bool, true, false, List, [], ◌∷◌, ◌++◌, length, map, take, drop, get_or}
use Rattle.std.proofs.Common.{Option, Some, None, Result, Ok, Err, refl, sym, ap, ◌∙◌, subst, arith, codes, append-nil, append_assoc}
use Rattle.std.specs.Prelude.{◌==◌, filter, ◌%◌}
use Rattle.std.specs.List.{AllByRecursion}
use Rattle.std.proofs.lemmas.Bool.{eq-eqb, ne_eqb}
use Rattle.tune_books.specs.WrittenBooks.{written_tunes, written_tune}
use Rattle.tune_store.specs.State.{NumbersRiseFrom, tune_at}
use Rattle.tune_store.specs.declared.tune.Tune.{Tune}
use Rattle.tune_store.specs.declared.command.Refusal.{Refusal}
use Rattle.tune_store.specs.declared.command.Refusal.TheVariants.{Unknown}
use Rattle.desk_questions.specs.Told.{tunes_at, tune_with_more}
use Rattle.tune_asking.specs.AskingCalls.{tune_or}

-- ONE NUMBER MORE
-- a tune behind those of some numbers
pub at_more : (numbers : List ℕ) (number : ℕ) (tunes found : List Tune) (tune : Tune) → tunes_at numbers tunes ≡ Ok found
    → tune_or number (tune_at number tunes) ≡ Ok tune → tunes_at (numbers ++ number ∷ []) tunes ≡ Ok (found ++ tune ∷ [])
at_more [] number tunes found tune e has = by (tune_at number tunes) refl
  where
    by : (there : Option Tune) → tune_at number tunes ≡ there → tunes_at (number ∷ []) tunes ≡ Ok (found ++ tune ∷ [])
    by None none = absurd (let f = ap (tune_or number) none ∙ refl in cc)
    by (Some one) some =
        let f : Ok tune ≡ tune_or number (Some one) = sym has ∙ ap (tune_or number) some in
        let same : tune ≡ one = cc in
        let nothing : [] ≡ found = cc in
        rw (some, ← nothing, same) refl
at_more (first ∷ numbers) number tunes found tune e has =
    by (λ more are. at_more numbers number tunes more tune are has) (tune_at first tunes) (tunes_at numbers tunes) refl refl
  where
    by : ((more : List Tune) → tunes_at numbers tunes ≡ Ok more → tunes_at (numbers ++ number ∷ []) tunes ≡ Ok (more ++ tune ∷ [])) → (there : Option Tune)
        (later : Result (List Tune) Refusal) → tune_at first tunes ≡ there → tunes_at numbers tunes ≡ later
        → tunes_at ((first ∷ numbers) ++ number ∷ []) tunes ≡ Ok (found ++ tune ∷ [])
    by rest None later none are = absurd (let f : tune_with_more first None (tunes_at numbers tunes) ≡ Ok found = subst
        (λ o. tune_with_more first o (tunes_at numbers tunes) ≡ Ok found) none e in cc)
    by rest (Some one) (Err refusal) some are =
        absurd (let f : tune_with_more first (Some one) (Err refusal) ≡ Ok found = subst (λ r. tune_with_more first (Some one) r ≡ Ok found) are
        (subst (λ o. tune_with_more first o (tunes_at numbers tunes) ≡ Ok found) some e) in cc)
    by rest (Some one) (Ok more) some are =
        let f : tune_with_more first (Some one) (Ok more) ≡ Ok found = subst (λ r. tune_with_more first (Some one) r ≡ Ok found) are
        (subst (λ o. tune_with_more first o (tunes_at numbers tunes) ≡ Ok found) some e) in
        let whole : one ∷ more ≡ found = cc in
        rw (some, rest more are, ← whole) refl

-- a number that no tune has
pub at_none : (numbers : List ℕ) (number : ℕ) (rest : List ℕ) (tunes found : List Tune) (refusal : Refusal) → tunes_at numbers tunes ≡ Ok found
    → tune_or number (tune_at number tunes) ≡ Err refusal → tunes_at (numbers ++ number ∷ rest) tunes ≡ Err refusal
at_none [] number rest tunes found refusal e has = by (tune_at number tunes) refl
  where
    by : (there : Option Tune) → tune_at number tunes ≡ there → tunes_at (number ∷ rest) tunes ≡ Err refusal
    by None none =
        let f : tune_or number None ≡ Err refusal = sym (ap (tune_or number) none) ∙ has in
        let same : Unknown number ≡ refusal = cc in
        rw none (ap Err same)
    by (Some one) some = absurd (let f : tune_or number (Some one) ≡ Err refusal = sym (ap (tune_or number) some) ∙ has in cc)
at_none (first ∷ numbers) number rest tunes found refusal e has =
    by (λ more are. at_none numbers number rest tunes more refusal are has) (tune_at first tunes) (tunes_at numbers tunes) refl refl
  where
    by : ((more : List Tune) → tunes_at numbers tunes ≡ Ok more → tunes_at (numbers ++ number ∷ rest) tunes ≡ Err refusal) → (there : Option Tune)
        (later : Result (List Tune) Refusal) → tune_at first tunes ≡ there → tunes_at numbers tunes ≡ later
        → tunes_at ((first ∷ numbers) ++ number ∷ rest) tunes ≡ Err refusal
    by later_none None later none are = absurd (let f : tune_with_more first None (tunes_at numbers tunes) ≡ Ok found = subst
        (λ o. tune_with_more first o (tunes_at numbers tunes) ≡ Ok found) none e in cc)
    by later_none (Some one) (Err other) some are =
        absurd (let f : tune_with_more first (Some one) (Err other) ≡ Ok found = subst (λ r. tune_with_more first (Some one) r ≡ Ok found) are
        (subst (λ o. tune_with_more first o (tunes_at numbers tunes) ≡ Ok found) some e) in cc)
    by later_none (Some one) (Ok more) some are = rw (some, later_none more are) refl

-- TUNES OF THE LIST

-- they are the tunes of their numbers
pub at_own : (all tunes : List Tune) → AllByRecursion (λ (tune : Tune). tune_at tune.number all ≡ Some tune) tunes
    → tunes_at (map (λ (tune : Tune). tune.number) tunes) all ≡ Ok tunes
at_own all [] own = refl
at_own all (tune ∷ tunes) own = rw (own.0, at_own all tunes own.1) refl

in_later : (first : Tune) (all tunes : List Tune) (low : ℕ) → first.number ≤ low → NumbersRiseFrom low tunes
    → AllByRecursion (λ (tune : Tune). tune_at tune.number all ≡ Some tune) tunes
    → AllByRecursion (λ (tune : Tune). tune_at tune.number (first ∷ all) ≡ Some tune) tunes
in_later first all [] low le rises own = tt
in_later first all (tune ∷ tunes) low le rises own =
    let l : low < tune.number = rises.0 in
    let apart : (first.number == tune.number) ≡ false = ne_eqb first.number tune.number (λ e. absurd (omega arith)) in
    (rw apart own.0, in_later first all tunes tune.number (omega arith) rises.1 own.1)

-- where numbers rise all tunes of the list stand so
pub all_in : (low : ℕ) (tunes : List Tune) → NumbersRiseFrom low tunes → AllByRecursion (λ (tune : Tune). tune_at tune.number tunes ≡ Some tune) tunes
all_in low [] rises = tt
all_in low (tune ∷ tunes) rises =
    let own : (tune.number == tune.number) ≡ true = eq-eqb tune.number tune.number refl in
    (rw own refl, in_later tune tunes tunes tune.number (omega arith) rises.1 (all_in tune.number tunes rises.1))

-- and so do some of them
pub all_filter : {X : Type 0} (P : X → Type 0) (p : X → Bool) (xs : List X) → AllByRecursion P xs → AllByRecursion P (filter p xs)
all_filter P p [] h = tt
all_filter P p (x ∷ xs) h = by (all_filter P p xs h.1) (p x) refl
  where
    by : AllByRecursion P (filter p xs) → (b : Bool) → p x ≡ b → AllByRecursion P (filter p (x ∷ xs))
    by rest true e = rw e (h.0, rest)
    by rest false e = rw e rest

pub all_take : {X : Type 0} (P : X → Type 0) (n : ℕ) (xs : List X) → AllByRecursion P xs → AllByRecursion P (take n xs)
all_take P zero [] h = tt
all_take P zero (x ∷ xs) h = tt
all_take P (suc n) [] h = tt
all_take P (suc n) (x ∷ xs) h = (h.0, all_take P n xs h.1)

pub all_drop : {X : Type 0} (P : X → Type 0) (n : ℕ) (xs : List X) → AllByRecursion P xs → AllByRecursion P (drop n xs)
all_drop P zero xs h = h
all_drop P (suc n) [] h = tt
all_drop P (suc n) (x ∷ xs) h = all_drop P n xs h.1

-- WRITTEN
-- one tune more is written behind the others
pub written_more : (tunes : List Tune) (tune : Tune)
    → written_tunes (map (λ (tune : Tune). tune.number) (tunes ++ tune ∷ [])) (map (λ (tune : Tune). tune.text) (tunes ++ tune ∷ []))
    ≡ written_tunes (map (λ (tune : Tune). tune.number) tunes) (map (λ (tune : Tune). tune.text) tunes) ++ (codes "\n" ++ written_tune tune.number tune.text)
written_more [] tune = append-nil _
written_more (first ∷ tunes) tune =
    ap (λ bytes. (codes "\n" ++ written_tune first.number first.text) ++ bytes) (written_more tunes tune)
    ∙ sym (append_assoc (codes "\n" ++ written_tune first.number first.text) _ _)
