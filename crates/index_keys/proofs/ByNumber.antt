-- Entries held, as they are seen one tune after another.
use Rattle.std.proofs.Common.{◌≡◌, ℕ, zero, suc, ◌+◌, ◌*◌, ◌<◌, ◌≤◌, List, [], ◌∷◌, arith, sym, refl, map, inl, inr, subst}
use Rattle.std.specs.List.{Contains}
use Rattle.std.specs.Prelude.{◌==◌}
use Rattle.std.proofs.lemmas.Bool.{eqb-true, eq-eqb}
use Rattle.index_keys.specs.Entries.{Entry, rank, EntriesRiseFrom, IsRising}
use Rattle.index_keys.specs.Holdings.{HaveOwnNumbers, HoldsEntries, HoldsByNumber, keys_at}
use Rattle.index_keys.specs.KeyLists.{KeysRise}
use Rattle.index_keys.proofs.Members.{contains_first, contains_later, contains_cases, contains_none, contains_map, contains_kept, contains_source}
use Rattle.index_keys.proofs.Members.{kept_front, dropped_front, true_or_false, each_of, for_each}
use Rattle.index_keys.proofs.KeyLists.{same_rising}

-- THE KEYS OF A NUMBER
at_keys : (number key : ℕ) (es : List Entry) → Contains {X = Entry} es (key, number) → Contains (keys_at number es) key
at_keys number key es c = contains_kept (λ (e : Entry). e.1 == number) (λ (e : Entry). e.0) es (key, number) c (eq-eqb number number refl)

of_keys : (number key : ℕ) (es : List Entry) → Contains (keys_at number es) key → Contains {X = Entry} es (key, number)
of_keys number key es c =
    let s = contains_source (λ (e : Entry). e.1 == number) (λ (e : Entry). e.0) es key c in
    let value : s.of.1 ≡ number = eqb-true s.of.1 number s.passes in
    let same : s.of ≡ (key, number) = λ i. (s.gives i, value i) in
    subst (λ (e : Entry). Contains es e) same s.among

-- each key so far is below this one
abbrev Above : ℕ → ℕ → ℕ → Type 0
Above number low zero = Unit {0}
Above number low (suc key) = key * 4294967296 + number < low

above_next : (number low key next : ℕ) → Above number low key → low ≤ next → Above number next key
above_next number low zero next a le = tt
above_next number low (suc key) next a le = omega arith

keys_at_rise : (number low key : ℕ) (es : List Entry) → EntriesRiseFrom low es → Above number low key → KeysRise key (keys_at number es)
keys_at_rise number low key [] rises a = tt
keys_at_rise number low key (e ∷ es) rises a = elim (true_or_false (e.1 == number)) [
  | inl is ↦
      let value : e.1 ≡ number = eqb-true e.1 number is in
      let le : low ≤ e.0 * 4294967296 + e.1 = rises.0 in
      let here : key ≤ e.0 = at_least key (e.0) a (omega arith) in
      let step : e.0 * 4294967296 + number < e.0 * 4294967296 + e.1 + 1 = omega arith in
      subst (KeysRise key) (sym (kept_front (λ (x : Entry). x.1 == number) (λ (x : Entry). x.0) e es is))
      (here, next e.0 (keys_at_rise number (rank e + 1) (suc e.0) es rises.1 step))
  | inr other ↦
      let le : low ≤ e.0 * 4294967296 + e.1 = rises.0 in
      subst (KeysRise key) (sym (dropped_front (λ (x : Entry). x.1 == number) (λ (x : Entry). x.0) e es other))
      (keys_at_rise number (rank e + 1) key es rises.1 (above_next number low key (rank e + 1) a (omega arith)))
]
  where
    at_least : (key own : ℕ) → Above number low key → low ≤ own * 4294967296 + number → key ≤ own
    at_least zero own a le = omega arith
    at_least (suc key) own a le = omega arith

    next : (own : ℕ) → KeysRise (suc own) (keys_at number es) → KeysRise (own + 1) (keys_at number es)
    next own r = let e : suc own ≡ own + 1 = omega arith in subst (λ n. KeysRise n (keys_at number es)) e r

-- the tune of a number
tune_of : {Text : Type 0} (tunes : List (ℕ × Text)) (number : ℕ) → Contains (map (λ (tune : ℕ × Text). tune.0) tunes) number
    → (tune : ℕ × Text) × Contains tunes tune × (tune.0 ≡ number)
tune_of [] number c = absurd (contains_none number c)
tune_of {Text} (t ∷ ts) number c = elim (contains_cases t.0 (map (λ (tune : ℕ × Text). tune.0) ts) number c) [
  | inl e ↦ (t, contains_first t ts, e)
  | inr l ↦ let rest = tune_of ts number l in (rest.0, contains_later t ts rest.0 rest.1, rest.2)
]

-- BOTH WAYS
pub held_by_number : {Text : Type 0} (keys_of : Text → List ℕ) (tunes : List (ℕ × Text)) (es : List Entry)
    → HoldsByNumber keys_of tunes es → HoldsEntries keys_of tunes es
held_by_number {Text} keys_of tunes es holds = record {
  held = λ tune key c k.
      let same = each_of (λ (tune : ℕ × Text). keys_at tune.0 es ≡ keys_of tune.1) tunes tune holds.each c in
      of_keys tune.0 key es (subst (λ (keys : List ℕ). Contains keys key) (sym same) k);
  only = λ entry c.
      let named = each_of (λ (entry : Entry). Contains (map (λ (tune : ℕ × Text). tune.0) tunes) entry.1) es entry holds.known c in
      let found = tune_of tunes entry.1 named in
      let same = each_of (λ (tune : ℕ × Text). keys_at tune.0 es ≡ keys_of tune.1) tunes found.0 holds.each found.1 in
      let at = at_keys entry.1 entry.0 es c in
      let own : Contains (keys_at found.0.0 es) entry.0 = subst (λ (n : ℕ). Contains (keys_at n es) entry.0) (sym found.2) at in
      (found.0, found.1, found.2, subst (λ (keys : List ℕ). Contains keys entry.0) same own);
}

pub by_number_held : {Text : Type 0} (keys_of : Text → List ℕ) (tunes : List (ℕ × Text)) (es : List Entry) → IsRising es → HaveOwnNumbers tunes
    → ((tune : ℕ × Text) → Contains tunes tune → KeysRise 0 (keys_of tune.1)) → HoldsEntries keys_of tunes es → HoldsByNumber keys_of tunes es
by_number_held {Text} keys_of tunes es rises one rise holds = record {
  each = for_each (λ (tune : ℕ × Text). keys_at tune.0 es ≡ keys_of tune.1) tunes (λ tune c.
      same_rising 0 (keys_at tune.0 es) (keys_of tune.1) (keys_at_rise tune.0 0 0 es rises tt) (rise tune c)
      (λ key k.
      let whose = holds.only (key, tune.0) (of_keys tune.0 key es k) in
      let same = one whose.0 tune whose.1 c whose.2 in
      subst (λ (t : ℕ × Text). Contains (keys_of t.1) key) same whose.3)
      (λ key k. at_keys tune.0 key es (holds.held tune key c k)));
  known = for_each (λ (entry : Entry). Contains (map (λ (tune : ℕ × Text). tune.0) tunes) entry.1) es (λ entry c.
      let whose = holds.only entry c in
      subst (λ (n : ℕ). Contains (map (λ (tune : ℕ × Text). tune.0) tunes) n) whose.2 (contains_map (λ (tune : ℕ × Text). tune.0) tunes whose.0 whose.1));
}
