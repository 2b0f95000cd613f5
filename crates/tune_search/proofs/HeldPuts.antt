-- Held entries, and an entry that comes behind them.
use Rattle.std.proofs.Common.{◌≡◌, ℕ, zero, suc, ◌+◌, ◌<◌, ◌≤◌, List, [], ◌∷◌, ◌++◌, map, length, get_or, arith, refl, sym, ap, ◌∙◌, subst}
use Rattle.std.proofs.lemmas.List.{get_or_append_left, length-append, length-map, map-append}
use Rattle.std.proofs.Math.Seq.{get_or-append_seam}
use Rattle.std.specs.List.{AllByRecursion}
use Rattle.index_keys.specs.Cuts.{cut_number}
use Rattle.index_keys.specs.Entries.{Entry, IsRising, rank}
use Rattle.index_keys.proofs.RisingEntries.{rises_push}
use Rattle.tune_search.specs.declared.held_keys.HeldKey.{HeldKey}
use Rattle.tune_search.specs.declared.held_keys.HeldKey.TheVariants as held
use Rattle.tune_search.specs.HeldShapes.{AreHeldEntries, IsKeptKey, whole_entry, whole_key}

-- MORE KEYS KEPT WHOLE
-- they change no key that was held before
key_stays : (width : ℕ) (others more : List ℕ) (key : HeldKey) → IsKeptKey (length others) key → whole_key width (others ++ more) key
    ≡ whole_key width others key
key_stays width others more (held.Steps steps) kept = refl
key_stays width others more (held.Other place) kept = get_or_append_left others more 0 place kept

kept_on : (n m : ℕ) (key : HeldKey) → n ≤ m → IsKeptKey n key → IsKeptKey m key
kept_on n m (held.Steps steps) up kept = tt
kept_on n m (held.Other place) up kept = omega (arith, up, kept)

entries_stay : (width : ℕ) (others more : List ℕ) (es : List (HeldKey × ℕ)) → AllByRecursion (λ entry. IsKeptKey (length others) entry.0) es
    → map (whole_entry width (others ++ more)) es ≡ map (whole_entry width others) es
entries_stay width others more [] kept = refl
entries_stay width others more (e ∷ es) kept = λ i. (key_stays width others more e.0 kept.0 i, e.1) ∷ entries_stay width others more es kept.1 i

all_kept : (n m : ℕ) (es : List (HeldKey × ℕ)) (e : HeldKey × ℕ) → n ≤ m → AllByRecursion (λ entry. IsKeptKey n entry.0) es → IsKeptKey m e.0
    → AllByRecursion (λ entry. IsKeptKey m entry.0) (es ++ e ∷ [])
all_kept n m [] e up kept own = (own, tt)
all_kept n m (x ∷ es) e up kept own = (kept_on n m x.0 up kept.0, all_kept n m es e up kept.1 own)

-- ONE ENTRY MORE
pub record IsPut (width : ℕ) (es now : List (HeldKey × ℕ)) (others whole : List ℕ) (entry : Entry) : Type 0 where
  pub entries : map (whole_entry width whole) now ≡ map (whole_entry width others) es ++ entry ∷ []
  pub held : AreHeldEntries width now whole entry

pub is_put : (width : ℕ) (es now : List (HeldKey × ℕ)) (others more whole : List ℕ) (last : Entry) (own : HeldKey) (key value : ℕ)
    → AreHeldEntries width es others last → now ≡ es ++ (own, value) ∷ [] → whole ≡ others ++ more → length more ≤ 1
    → whole_key width whole own ≡ key → IsKeptKey (length whole) own
    → IsPut width es now others whole (key, value)
is_put width es now others more whole last own key value before is all few same kept =
    let long : length whole ≡ length others + length more = ap length all ∙ length-append others more in
    let count : length now ≡ length es + 1 = ap length is ∙ length-append es ((own, value) ∷ []) in
    let stay : map (whole_entry width whole) es ≡ map (whole_entry width others) es =
    ap (λ (w : List ℕ). map (whole_entry width w) es) all ∙ entries_stay width others more es before.kept in
    let entries : map (whole_entry width whole) now ≡ map (whole_entry width others) es ++ (key, value) ∷ [] =
    ap (map (whole_entry width whole)) is ∙ map-append (whole_entry width whole) es ((own, value) ∷ [])
    ∙ (λ i. stay i ++ (same i, value) ∷ []) in
    let room = before.few in
    record {
      entries = entries;
      held = record {
        kept = subst (λ (l : List (HeldKey × ℕ)). AllByRecursion (λ entry. IsKeptKey (length whole) entry.0) l) (sym is)
            (all_kept (length others) (length whole) es (own, value) (omega (arith, long)) before.kept kept);
        few = omega (arith, long, count, room, few);
        is_last = λ i at.
            let here : i ≡ length (map (whole_entry width others) es) = omega (arith, at, count, length-map es (whole_entry width others)) in
            sym (ap (λ (l : List Entry). get_or l i (key, value)) entries
            ∙ ap (λ (j : ℕ). get_or (map (whole_entry width others) es ++ (key, value) ∷ []) j (key, value)) here
            ∙ get_or-append_seam (map (whole_entry width others) es) (key, value) [] (key, value));
      };
    }

-- an entry comes behind them just where the last one stands before it
pub joins_last : (width : ℕ) (es : List (HeldKey × ℕ)) (others : List ℕ) (last e : Entry) → AreHeldEntries width es others last → 0 < length es
    → IsRising (map (whole_entry width others) es)
    → (rank last < rank e → IsRising (map (whole_entry width others) es ++ e ∷ []))
    × (IsRising (map (whole_entry width others) es ++ e ∷ []) → rank last < rank e)
joins_last width [] others last e before some up = absurd (omega (arith, some))
joins_last width (x ∷ es) others last e before some up =
    let all : List Entry = map (whole_entry width others) (x ∷ es) in
    let count : length es + 1 ≡ length all = omega (arith, length-map (x ∷ es) (whole_entry width others)) in
    rises_push all (length es) e last count (before.is_last (length es) (omega arith)) up

-- one entry rises
pub first_joins : (width : ℕ) (es : List (HeldKey × ℕ)) (others : List ℕ) (e : Entry) → length es ≡ 0 → IsRising (map (whole_entry width others) es ++ e ∷ [])
first_joins width [] others e none = (omega arith, tt)
first_joins width (x ∷ es) others e none = absurd (omega (arith, none))

-- THE KEY OF NO STEPS
pub none_is_zero : (width : ℕ) → cut_number width 0 [] ≡ 0
none_is_zero zero = refl
none_is_zero (suc n) = let rest = none_is_zero n in omega (arith, rest)
