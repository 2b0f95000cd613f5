-- Entries held, when tunes come and go, and what a range of keys finds.
use Rattle.std.proofs.Common.{◌≡◌, ℕ, ◌^◌, ◌<◌, ◌≤◌, List, [], ◌∷◌, ◌++◌, sym, ap, ◌∙◌, arith, inl, inr, nat_le, subst}
use Rattle.std.specs.List.{Contains}
use Rattle.std.specs.Prelude.{◌&&◌}
use Rattle.std.proofs.lemmas.Bool.{cases_eq}
use Rattle.std.proofs.lemmas.Bool.Decides.{nat_tests}
use Rattle.index_keys.specs.Entries.{Entry, IsRising, inserted_all, removed_all, values_within}
use Rattle.index_keys.specs.Holdings.{AreSmall, HoldsEntries, IsWithout, SameMembers}
use Rattle.index_keys.specs.KeyLists.{HasKeyWithin}
use Rattle.index_keys.proofs.Members.{contains_first, contains_cases, contains_none, contains_left, contains_right, contains_either, contains_kept}
use Rattle.index_keys.proofs.Entering.{SmallValues, all_old, all_new, all_back, run_back, run_gone, run_other}

-- no tunes
pub holds_none : {Text : Type 0} (keys_of : Text → List ℕ) → HoldsEntries keys_of [] []
holds_none {Text} keys_of = record {
  held = λ t k at has. absurd (contains_none t at);
  only = λ x at. absurd (contains_none x at);
}

-- the values of entries are numbers of tunes
small_values : {Text : Type 0} (keys_of : Text → List ℕ) (tunes : List (ℕ × Text)) (es : List Entry)
    → AreSmall tunes → HoldsEntries keys_of tunes es → SmallValues es
small_values {Text} keys_of tunes es s h x at = let o = h.only x at in subst (λ (n : ℕ). n < 2 ^ 32) o.2 (s o.0 o.1)

-- tunes come in
pub holds_more : {Text : Type 0} (keys_of : Text → List ℕ) (tunes more : List (ℕ × Text)) (es run : List Entry) → AreSmall tunes → AreSmall more
    → HoldsEntries keys_of tunes es → HoldsEntries keys_of more run → HoldsEntries keys_of (tunes ++ more) (inserted_all run es)
holds_more {Text} keys_of tunes more es run s m h r = record {
  held = λ t k at has. elim (contains_either tunes more t at) [
    | inl old ↦ all_old run es (k, t.0) (h.held t k old has)
    | inr new ↦ all_new run es (k, t.0) (small_values keys_of more run m r) (small_values keys_of tunes es s h) (r.held t k new has)
  ];
  only = λ x at. elim (all_back run es x at) [
    | inl new ↦ let o = r.only x new in (o.0, contains_right tunes more o.0 o.1, o.2, o.3)
    | inr old ↦ let o = h.only x old in (o.0, contains_left tunes more o.0 o.1, o.2, o.3)
  ];
}

-- the one tune of a list
the_one : {Text : Type 0} (gone tune : ℕ × Text) → Contains (gone ∷ []) tune → gone ≡ tune
the_one {Text} gone tune at = elim (contains_cases gone [] tune at) [ inl same ↦ same | inr none ↦ absurd (contains_none tune none) ]

-- a tune goes out
pub holds_less : {Text : Type 0} (keys_of : Text → List ℕ) (gone : ℕ × Text) (tunes others : List (ℕ × Text)) (es run : List Entry)
    → gone.0 < 2 ^ 32 → AreSmall tunes → IsRising es → IsWithout gone tunes others
    → HoldsEntries keys_of tunes es → HoldsEntries keys_of (gone ∷ []) run → HoldsEntries keys_of others (removed_all run es)
holds_less {Text} keys_of gone tunes others es run g s up w h r = record {
  held = λ t k at has.
      let old = h.held t k (w.among t at) has in
      run_other run es (k, t.0)
      (small_values keys_of (gone ∷ []) run (λ tune one. subst (λ (z : ℕ × Text). z.0 < 2 ^ 32) (the_one gone tune one) g) r)
      (s t (w.among t at))
      (λ in_run. let o = r.only (k, t.0) in_run in w.apart t at (sym o.2 ∙ sym (ap (λ (z : ℕ × Text). z.0) (the_one gone o.0 o.1))))
      old;
  only = λ x at.
      let old = h.only x (run_back run es x at) in
      elim (cases_eq old.0.0 gone.0) [
        | inl same ↦ absurd (run_gone run es x up at
            (let t : old.0 ≡ gone = w.one old.0 old.1 same in
            let k : Contains (keys_of gone.1) x.0 = subst (λ (z : ℕ × Text). Contains (keys_of z.1) x.0) t old.3 in
            let m = r.held gone x.0 (contains_first gone []) k in
            subst (λ (z : ℕ). Contains {X = Entry} run (x.0, z)) (sym same ∙ old.2) m))
        | inr d ↦ (old.0, w.rest old.0 old.1 d, old.2, old.3)
      ];
}

-- the same tunes
pub holds_same : {Text : Type 0} (keys_of : Text → List ℕ) (tunes others : List (ℕ × Text)) (es : List Entry) → SameMembers tunes others
    → HoldsEntries keys_of tunes es → HoldsEntries keys_of others es
holds_same {Text} keys_of tunes others es same h = record {
  held = λ t k at has. h.held t k (same.back t at) has;
  only = λ x at. let o = h.only x at in (o.0, same.forth o.0 o.1, o.2, o.3);
}

-- an entry in the range gives its value
value_within : (low high key value : ℕ) (es : List Entry) → Contains {X = Entry} es (key, value) → low ≤ key → key ≤ high
    → Contains (values_within low high es) value
value_within low high key value es h a b =
    let e : Entry = (key, value) in
    contains_kept (λ (x : Entry). nat_le low x.0 && nat_le x.0 high) (λ (x : Entry). x.1) es e h (grind (arith, nat_tests))

pub holds_within : {Text : Type 0} (keys_of : Text → List ℕ) (tunes : List (ℕ × Text)) (es : List Entry) (low high : ℕ)
    → HoldsEntries keys_of tunes es → (tune : ℕ × Text) → Contains tunes tune
    → HasKeyWithin (keys_of tune.1) low high → Contains (values_within low high es) tune.0
holds_within {Text} keys_of tunes es low high h tune at w = value_within low high w.key tune.0 es (h.held tune w.key at w.among) w.from w.to
