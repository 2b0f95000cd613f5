-- Entries that are searched: by halves, and as they lie in bytes, one after another; and which of them are in a range of keys.
use Rattle.std.proofs.Common.{◌≡◌, ℕ, zero, suc, ◌+◌, ◌*◌, ◌<◌, ◌≤◌, List, [], ◌∷◌, ◌++◌, length, take, drop, get_or, slice_index, refl, sym, ap, ◌∙◌}
use Rattle.std.proofs.Common.{arith, drop-drop, inl, inr, length-drop, subst}
use Rattle.std.proofs.lemmas.Bool.{cases_eq}
use Rattle.std.proofs.Math.Nat.{add-mul, mul-le-mul_right, zero-mul}
use Rattle.std.proofs.lemmas.List.{append-nil, get_or_default, take-append-drop}
use Rattle.tune_pages.specs.Frame.{image_at}
use Rattle.tune_pages.specs.Stand.{Stand}
use Rattle.index_keys.specs.Entries.{AllFit, Entry, IsRising, EntriesRiseFrom, rank, values_within}
use Rattle.index_keys.proofs.RisingEntries.{rises_pair}
use Rattle.tune_index.specs.Inside.EntryPlaces.{AllBelow, IsPlace}
use Rattle.tune_index.specs.Indexes.{entries_of}
use Rattle.tune_index.specs.Leaves.{entries_in, entry_in, leaf_in}
use Rattle.tune_index.proofs.Ranges.{below_first, fit_back, fit_front, none_above, values_within-append, within_first}
use Rattle.tune_index.proofs.Runs.{below_place, leaf_at, leaf_rises}

-- an element whatever default it is read with
pub same : (es : List Entry) (m k : ℕ) (e d : Entry) → m < length es → e ≡ get_or es m e → k ≡ m → rank (get_or es k d) ≡ rank e
same es m k e d l is h = ap (λ (x : ℕ). rank (get_or es x d)) h ∙ ap rank (get_or_default es m d e l ∙ sym is)

-- what stands before the middle of a search, and from it on
pub lower : (es : List Entry) (m r : ℕ) (e : Entry) → IsRising es → m < length es → e ≡ get_or es m e → rank e < r → (k : ℕ) (d : Entry) → k < m + 1
    → rank (get_or es k d) < r
lower es m r e up l is h k d b =
    let at : rank (get_or es m d) ≡ rank e = same es m m e d l is refl in
    elim (cases_eq k m) [
      | inl here ↦ let s = same es m k e d l is here in omega (arith, s)
      | inr other ↦ let p = rises_pair 0 es k m d up (omega arith) l in omega (arith, p, at)
    ]

pub upper : (es : List Entry) (m r : ℕ) (e : Entry) → IsRising es → m < length es → e ≡ get_or es m e → r ≤ rank e → (k : ℕ) (d : Entry) → m ≤ k → k < length es
    → r ≤ rank (get_or es k d)
upper es m r e up l is h k d b n =
    let at : rank (get_or es m d) ≡ rank e = same es m m e d l is refl in
    elim (cases_eq k m) [
      | inl here ↦ let s = same es m k e d l is here in omega (arith, s)
      | inr other ↦ let p = rises_pair 0 es m k d up (omega arith) n in omega (arith, p, at)
    ]

-- there is room for the entry at a place
pub slot_room : (width n i k : ℕ) → i < n → n * (width + 4) ≤ k → (i + 1) * (width + 4) ≤ k
slot_room width n i k l h =
    let a : (i + 1) * (width + 4) ≤ n * (width + 4) = mul-le-mul_right (width + 4) (omega arith) in
    omega arith

pub slot_rest : (width i : ℕ) (bytes : List ℕ) → (i + 1) * (width + 4) ≤ length bytes
    → (i * (width + 4) ≤ length bytes) × (width + 4 ≤ length (drop (i * (width + 4)) bytes))
slot_rest width i bytes h =
    let a : (i + 1) * (width + 4) ≡ i * (width + 4) + 1 * (width + 4) = add-mul i 1 (width + 4) in
    let d = length-drop (i * (width + 4)) bytes in
    (omega arith, omega (arith, a, d))

-- the entry at a place
pub slot_entry : (width n i : ℕ) (d : Entry) (bytes : List ℕ) → i < n → get_or (entries_in width n bytes) i d ≡ entry_in width (drop (i * (width + 4)) bytes)
slot_entry width zero i d bytes l = absurd (omega arith)
slot_entry width (suc n) zero d bytes l =
    let none : 0 ≡ 0 * (width + 4) = sym (zero-mul (width + 4)) in
    ap (λ (k : ℕ). entry_in width (drop k bytes)) none
slot_entry width (suc n) (suc i) d bytes l =
    let a : (i + 1) * (width + 4) ≡ i * (width + 4) + 1 * (width + 4) = add-mul i 1 (width + 4) in
    slot_entry width n i d (drop (width + 4) bytes) (omega arith)
    ∙ ap (entry_in width) (drop-drop (i * (width + 4)) (width + 4) bytes ∙ ap (λ (k : ℕ). drop k bytes) (omega (arith, a)))

-- what stands before the place of the range's begin is not in the range
below_none : (low high : ℕ) (es : List Entry) → AllBelow (rank (low, 0)) es → values_within low high es ≡ []
below_none low high [] b = refl
below_none low high (x ∷ xs) b = let h = b.0 in below_first low high x xs (omega (arith, h)) ∙ below_none low high xs b.1

pub none_until : (low high i : ℕ) (es : List Entry) → IsPlace (rank (low, 0)) es i → values_within low high (take i es) ≡ []
none_until low high i es p = below_none low high (take i es) (below_place (rank (low, 0)) es i p)

-- an entry more that is in the range
pub one_within : (low high i : ℕ) (es : List Entry) (e : Entry) → take (i + 1) es ≡ take i es ++ e ∷ [] → low ≤ e.0 → e.0 ≤ high
    → values_within low high (take (i + 1) es) ≡ values_within low high (take i es) ++ e.1 ∷ []
one_within low high i es e t a b =
    ap (values_within low high) t ∙ values_within-append low high (take i es) (e ∷ [])
    ∙ ap (λ (x : List ℕ). values_within low high (take i es) ++ x) (within_first low high e [] a b)

-- from an entry behind the range on there is none that is in it
rest_none : (width low high place i : ℕ) (es : List Entry) (e : Entry) → EntriesRiseFrom place es → AllFit width es → i < length es → e ≡ get_or es i e
    → high < e.0 → values_within low high (drop i es) ≡ []
rest_none width low high place i [] e r f l is h = absurd (omega arith)
rest_none width low high place zero (x ∷ xs) e r f l is h =
    let past : high < x.0 = subst (λ (y : Entry). high < y.0) is h in
    none_above width low high (rank x) (x ∷ xs) f (omega arith, r.1) (omega (arith, past))
rest_none width low high place (suc i) (x ∷ xs) e r f l is h = rest_none width low high (rank x + 1) i xs e r.1 f.1 (omega arith) is h

pub all_until : (width low high i : ℕ) (es : List Entry) (e : Entry) → IsRising es → AllFit width es → i < length es → e ≡ get_or es i e → high < e.0
    → values_within low high (take i es) ≡ values_within low high es
all_until width low high i es e r f l is h =
    let vs = values_within low high (take i es) in
    let none = rest_none width low high 0 i es e r f l is h in
    sym (ap (values_within low high) (sym (take-append-drop i es)) ∙ values_within-append low high (take i es) (drop i es)
    ∙ ap (λ (x : List ℕ). vs ++ x) none ∙ append-nil vs)

-- the leaf at a place of an index rises, and its entries fit
pub leaf_rises_at : (width : ℕ) (all : Stand) (pages : List ℕ) (i : ℕ) → i < length pages → IsRising (entries_of width all pages)
    → IsRising (leaf_in width (image_at all (slice_index pages i)))
leaf_rises_at width all pages i l up = subst (λ (x : List Entry). IsRising x) (leaf_at width all pages i l) (leaf_rises width all pages i l up)

pub leaf_fits_at : (width : ℕ) (all : Stand) (pages : List ℕ) (i : ℕ) → i < length pages → AllFit width (entries_of width all pages)
    → AllFit width (leaf_in width (image_at all (slice_index pages i)))
leaf_fits_at width all [] i l fit = absurd (omega arith)
leaf_fits_at width all (p ∷ ps) zero l fit = fit_front width (leaf_in width (image_at all p)) (entries_of width all ps) fit
leaf_fits_at width all (p ∷ ps) (suc i) l fit =
    leaf_fits_at width all ps i (omega arith) (fit_back width (leaf_in width (image_at all p)) (entries_of width all ps) fit)
