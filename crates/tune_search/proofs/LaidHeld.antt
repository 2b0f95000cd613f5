-- Held keys of numbers, laid out from the last entry to the first.
use Rattle.std.proofs.Common.{◌≡◌, ℕ, zero, suc, ◌+◌, ◌<◌, List, [], ◌∷◌, map, length, set, get_or, sym, ap, ◌∙◌, arith, subst, replicate}
use Rattle.std.proofs.lemmas.List.{get_or-map, length-map, map-set}
use Rattle.std.specs.List.Sorted.{IsStrictlyIncreasing}
use Rattle.std.specs.Prelude.{Contains}
use Rattle.index_keys.specs.Entries.{Entry}
use Rattle.tune_index.specs.Leaves.{slice_entry}
use Rattle.tune_search.proofs.LaidKeys.{LaidFrom, laid_more, laid_none}
use Rattle.tune_search.specs.HeldShapes.{whole_entry, whole_key}
use Rattle.tune_search.specs.SearchClaims.{AreKnown}
use Rattle.tune_search.specs.declared.held_keys.HeldKey.{HeldKey}

-- whichever keys are kept whole
abbrev pub LaidHeld : List ℕ → List (HeldKey × ℕ) → List ℕ → List HeldKey → ℕ → Type 0
LaidHeld numbers es counts keys at = (width : ℕ) (others : List ℕ)
    → LaidFrom numbers (map (whole_entry width others) es) counts (map (whole_key width others) keys) at

pub held_none : (numbers : List ℕ) (es : List (HeldKey × ℕ)) (counts : List ℕ) (keys : List HeldKey) → counts ≡ replicate (length numbers) 0
    → length keys ≡ length numbers → LaidHeld numbers es counts keys (length es)
held_none numbers es counts keys none keyed = λ width others.
    subst (λ (at : ℕ). LaidFrom numbers (map (whole_entry width others) es) counts (map (whole_key width others) keys) at)
    (length-map es (whole_entry width others))
    (laid_none numbers (map (whole_entry width others) es) counts (map (whole_key width others) keys) none (length-map keys (whole_key width others) ∙ keyed))

-- an entry, with its key whole
whole_at : (width : ℕ) (others : List ℕ) (es : List (HeldKey × ℕ)) (at : ℕ) (d : HeldKey × ℕ) → at < length es
    → slice_entry (map (whole_entry width others) es) at ≡ whole_entry width others (get_or es at d)
whole_at width others es at d l = get_or-map (whole_entry width others) es at d (0, 0) l

pub held_more : (numbers : List ℕ) (es : List (HeldKey × ℕ)) (counts : List ℕ) (keys : List HeldKey) (at was place number more : ℕ) (own : HeldKey)
    (d e : HeldKey × ℕ) → IsStrictlyIncreasing numbers → LaidHeld numbers es counts keys was → was ≡ at + 1 → at < length es → (get_or es at d).1 ≡ number
    → (get_or es at e).0 ≡ own → place < length numbers → get_or numbers place 0 ≡ number → (get_or counts place 0 ≡ 0 → more ≡ 1)
    → (0 < get_or counts place 0 → more ≡ 2)
    → LaidHeld numbers es (set counts place more) (set keys place own) at
held_more numbers es counts keys at was place number more own d e up laid step in_entries is key l there none some = λ width others.
    let whole : List Entry = map (whole_entry width others) es in
    let here : (slice_entry whole at).1 ≡ number = ap (λ (x : Entry). x.1) (whole_at width others es at d in_entries) ∙ is in
    let first : (slice_entry whole at).0 ≡ whole_key width others own =
    ap (λ (x : Entry). x.0) (whole_at width others es at e in_entries) ∙ ap (whole_key width others) key in
    let set_is : set (map (whole_key width others) keys) place (slice_entry whole at).0 ≡ map (whole_key width others) (set keys place own) =
    ap (set (map (whole_key width others) keys) place) first ∙ sym (map-set (whole_key width others) keys place own) in
    subst (λ (ks : List ℕ). LaidFrom numbers whole (set counts place more) ks at) set_is
    (laid_more numbers whole counts (map (whole_key width others) keys) at was place number more up (laid width others) step here l there none some)

-- the number of each entry is known
known_in : (numbers : List ℕ) (es : List Entry) (at : ℕ) → at < length es → AreKnown numbers es → Contains numbers (slice_entry es at).1
known_in numbers [] at l known = absurd (omega (arith, l))
known_in numbers (e ∷ es) zero l known = known.0
known_in numbers (e ∷ es) (suc at) l known = known_in numbers es at (omega (arith, l)) known.1

pub known_held : (numbers : List ℕ) (width : ℕ) (others : List ℕ) (es : List (HeldKey × ℕ)) (at : ℕ) (d : HeldKey × ℕ) → at < length es
    → AreKnown numbers (map (whole_entry width others) es) → Contains numbers (get_or es at d).1
known_held numbers width others es at d l known =
    subst (λ (x : Entry). Contains numbers x.1) (whole_at width others es at d l)
    (known_in numbers (map (whole_entry width others) es) at (omega (arith, l, length-map es (whole_entry width others))) known)
