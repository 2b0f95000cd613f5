-- The keys of numbers, laid out from the last entry to the first.
use Rattle.std.proofs.Common.{◌≡◌, ◌≢◌, ℕ, zero, suc, ◌+◌, ◌<◌, ◌≤◌, List, [], ◌∷◌, length, drop, set, get_or, refl, sym, ap, ◌∙◌, arith, inl, inr, subst}
use Rattle.std.proofs.Common.{map, replicate, slice_index}
use Rattle.std.proofs.lemmas.Bool.{cases_eq, ne_eqb}
use Rattle.std.proofs.lemmas.List.{drop_all, drop_more, get_or_default, get_or-map, get_or-set_same, get_or-set_other, length-map, length-set, map-set}
use Rattle.std.specs.List.Sorted.{IsStrictlyIncreasing}
use Rattle.std.specs.Prelude.{◌==◌}
use Rattle.index_keys.specs.Entries.{Entry}
use Rattle.index_keys.specs.Groups.{Grouped, grouped_entries}
use Rattle.index_keys.specs.Holdings.{keys_at}
use Rattle.index_keys.proofs.Members.{dropped_front}
use Rattle.tune_index.specs.Leaves.{slice_entry}
use Rattle.tune_search.proofs.ClaimLinks.{keys_from, rising_once}
use Rattle.tune_search.specs.SearchClaims.{AreKnown}
use Rattle.tune_search.specs.Inside.HeldKeys.{AreHeldInGroups, HasKeys}

-- one key more, before the others
has_more : (keys : List ℕ) (count first more next : ℕ) → HasKeys keys count first → (count ≡ 0 → more ≡ 1) → (0 < count → more ≡ 2)
    → HasKeys (next ∷ keys) more next
has_more [] count first more next has none some = (none has, refl)
has_more (k ∷ []) count first more next has none some = some (let one = has.0 in omega arith)
has_more (k ∷ (l ∷ keys)) count first more next has none some = some (omega arith)

-- the keys of a number from another number's entry on
keys_past : (number at : ℕ) (es : List Entry) → at < length es → (slice_entry es at).1 ≢ number
    → keys_at number (drop at es) ≡ keys_at number (drop (at + 1) es)
keys_past number at es l other =
    ap (keys_at number) (drop_more es at (0, 0) l)
    ∙ dropped_front (λ (x : Entry). x.1 == number) (λ (x : Entry). x.0) (slice_entry es at) (drop (at + 1) es) (ne_eqb (slice_entry es at).1 number other)

-- LAID OUT FROM A PLACE ON
pub record LaidFrom (numbers : List ℕ) (es : List Entry) (counts keys : List ℕ) (at : ℕ) : Type 0 where
  pub within : at ≤ length es
  pub counted : length counts ≡ length numbers
  pub keyed : length keys ≡ length numbers
  pub each : (k : ℕ) → k < length numbers → HasKeys (keys_at (get_or numbers k 0) (drop at es)) (get_or counts k 0) (get_or keys k 0)
  pub known : AreKnown numbers (drop at es)

zeros : (n k : ℕ) → ◌≡◌ {A = ℕ} (get_or (replicate n 0) k 0) 0
zeros zero k = refl
zeros (suc n) zero = refl
zeros (suc n) (suc k) = zeros n k

long_zeros : (n : ℕ) → length {A = ℕ} (replicate n 0) ≡ n
long_zeros zero = refl
long_zeros (suc n) = ap suc (long_zeros n)

pub laid_none : (numbers : List ℕ) (es : List Entry) (counts keys : List ℕ) → counts ≡ replicate (length numbers) 0 → length keys ≡ length numbers
    → LaidFrom numbers es counts keys (length es)
laid_none numbers es counts keys none keyed =
    let nothing : drop (length es) es ≡ [] = drop_all (length es) es (omega arith) in
    record {
      within = omega arith;
      counted = ap length none ∙ long_zeros (length numbers);
      keyed = keyed;
      each = λ k m. subst (λ (left : List Entry). HasKeys (keys_at (get_or numbers k 0) left) (get_or counts k 0) (get_or keys k 0)) (sym nothing)
          (ap (λ (cs : List ℕ). get_or cs k 0) none ∙ zeros (length numbers) k);
      known = subst (AreKnown numbers) (sym nothing) tt;
    }

pub laid_more : (numbers : List ℕ) (es : List Entry) (counts keys : List ℕ) (at was place number more : ℕ) → IsStrictlyIncreasing numbers
    → LaidFrom numbers es counts keys was → was ≡ at + 1 → (slice_entry es at).1 ≡ number → place < length numbers → get_or numbers place 0 ≡ number
    → (get_or counts place 0 ≡ 0 → more ≡ 1) → (0 < get_or counts place 0 → more ≡ 2)
    → LaidFrom numbers es (set counts place more) (set keys place (slice_entry es at).0) at
laid_more numbers es counts keys at was place number more up laid step is l there none some =
    let key = (slice_entry es at).0 in
    let in_entries : at < length es = omega (arith, laid.within) in
    let in_counts : place < length counts = omega (arith, laid.counted) in
    let in_keys : place < length keys = omega (arith, laid.keyed) in
    let own : (slice_entry es at).1 ≡ get_or numbers place 0 = is ∙ sym there in
    let before : (k : ℕ) → k < length numbers → HasKeys (keys_at (get_or numbers k 0) (drop (at + 1) es)) (get_or counts k 0) (get_or keys k 0) =
    λ k m. subst (λ (j : ℕ). HasKeys (keys_at (get_or numbers k 0) (drop j es)) (get_or counts k 0) (get_or keys k 0)) step (laid.each k m) in
    let counted_more = set counts place more in
    let keyed_more = set keys place key in
    let longer : HasKeys (key ∷ keys_at (get_or numbers place 0) (drop (at + 1) es)) more key =
    has_more (keys_at (get_or numbers place 0) (drop (at + 1) es)) (get_or counts place 0) (get_or keys place 0) more key (before place l) none some in
    record {
      within = omega arith;
      counted = length-set counts place more ∙ laid.counted;
      keyed = length-set keys place key ∙ laid.keyed;
      each = λ k m. elim (cases_eq k place) [
        | inl same ↦
            subst (λ (j : ℕ). HasKeys (keys_at (get_or numbers j 0) (drop at es)) (get_or counted_more j 0) (get_or keyed_more j 0)) (sym same)
            (let from_here = keys_from (get_or numbers place 0) at es in_entries own in
            rw (from_here, get_or-set_same counts place more 0 in_counts, get_or-set_same keys place key 0 in_keys) longer)
        | inr other ↦
            let apart : (slice_entry es at).1 ≢ get_or numbers k 0 = λ e. rising_once numbers k place up m l other (sym e ∙ own) in
            rw (keys_past (get_or numbers k 0) at es in_entries apart, get_or-set_other counts place k more 0 other, get_or-set_other keys place k key 0 other)
            (before k m)
      ];
      known = subst (AreKnown numbers) (sym (drop_more es at (0, 0) in_entries))
          ((place, l, get_or_default numbers place (slice_entry es at).1 0 l ∙ sym own), subst (λ (j : ℕ). AreKnown numbers (drop j es)) step laid.known);
    }

-- BY WHICH OF THE KEYS
pub record LaidIds (numbers : List ℕ) (grouped : Grouped) (counts ids : List ℕ) (at : ℕ) : Type 0 where
  pub laid : LaidFrom numbers (grouped_entries grouped) counts (map (slice_index grouped.keys) ids) at
  pub within : (k : ℕ) → 0 < get_or counts k 0 → get_or ids k 0 < length grouped.keys

pub ids_none : (numbers : List ℕ) (grouped : Grouped) (counts ids : List ℕ) → counts ≡ replicate (length numbers) 0 → length ids ≡ length numbers
    → LaidIds numbers grouped counts ids (length (grouped_entries grouped))
ids_none numbers grouped counts ids none long = record {
  laid = laid_none numbers (grouped_entries grouped) counts (map (slice_index grouped.keys) ids) none (length-map ids (slice_index grouped.keys) ∙ long);
  within = λ k some. absurd (let zero_there = ap (λ (cs : List ℕ). get_or cs k 0) none ∙ zeros (length numbers) k in omega (arith, some, zero_there));
}

pub ids_more : (numbers : List ℕ) (grouped : Grouped) (counts ids : List ℕ) (at was place number more id : ℕ) → IsStrictlyIncreasing numbers
    → LaidIds numbers grouped counts ids was → was ≡ at + 1 → (slice_entry (grouped_entries grouped) at).1 ≡ number → place < length numbers
    → get_or numbers place 0 ≡ number → (get_or counts place 0 ≡ 0 → more ≡ 1) → (0 < get_or counts place 0 → more ≡ 2)
    → id < length grouped.keys → slice_index grouped.keys id ≡ (slice_entry (grouped_entries grouped) at).0
    → LaidIds numbers grouped (set counts place more) (set ids place id) at
ids_more numbers grouped counts ids at was place number more id up laid step is l there none some small key =
    let es = grouped_entries grouped in
    let keyed = map (slice_index grouped.keys) ids in
    let in_counts : place < length counts = omega (arith, laid.laid.counted) in
    let in_ids : place < length ids = omega (arith, laid.laid.keyed, length-map ids (slice_index grouped.keys)) in
    let same : set keyed place (slice_entry es at).0 ≡ map (slice_index grouped.keys) (set ids place id) =
    ap (λ (k : ℕ). set keyed place k) (sym key) ∙ sym (map-set (slice_index grouped.keys) ids place id) in
    record {
      laid = subst (λ (ks : List ℕ). LaidFrom numbers es (set counts place more) ks at) same
          (laid_more numbers es counts keyed at was place number more up laid.laid step is l there none some);
      within = λ k h. elim (cases_eq k place) [
        | inl here ↦ subst (λ (j : ℕ). get_or (set ids place id) j 0 < length grouped.keys) (sym here) (rw (get_or-set_same ids place id 0 in_ids) small)
        | inr other ↦ rw (get_or-set_other ids place k id 0 other)
            (laid.within k (rw (get_or-set_other counts place k more 0 other) at h))
      ];
    }

-- all of them
pub ids_all : (numbers : List ℕ) (grouped : Grouped) (counts ids : List ℕ) (at : ℕ) → at ≡ 0 → LaidIds numbers grouped counts ids at
    → AreHeldInGroups numbers grouped counts ids
ids_all numbers grouped counts ids at none laid =
    let long : length ids ≡ length numbers = sym (length-map ids (slice_index grouped.keys)) ∙ laid.laid.keyed in
    let whole : drop at (grouped_entries grouped) ≡ grouped_entries grouped = ap (λ (k : ℕ). drop k (grouped_entries grouped)) none in
    record {
      counted = laid.laid.counted;
      placed = long;
      within = λ k l. laid.within k;
      each = λ k l.
          let key : get_or (map (slice_index grouped.keys) ids) k 0 ≡ slice_index grouped.keys (get_or ids k 0) =
          get_or-map (slice_index grouped.keys) ids k 0 0 (omega (arith, long, l)) in
          subst (λ (ks : ℕ). HasKeys (keys_at (get_or numbers k 0) (grouped_entries grouped)) (get_or counts k 0) ks) key
          (subst (λ (es : List Entry). HasKeys (keys_at (get_or numbers k 0) es) (get_or counts k 0) (get_or (map (slice_index grouped.keys) ids) k 0)) whole
          (laid.laid.each k l));
    }

pub ids_known : (numbers : List ℕ) (grouped : Grouped) (counts ids : List ℕ) (at : ℕ) → at ≡ 0 → LaidIds numbers grouped counts ids at
    → AreKnown numbers (grouped_entries grouped)
ids_known numbers grouped counts ids at none laid = subst (λ (k : ℕ). AreKnown numbers (drop k (grouped_entries grouped))) none laid.laid.known
