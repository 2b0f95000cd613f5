-- The keys at which a number stands, compared with others one after another.
use Rattle.std.proofs.Common.{◌≡◌, ℕ, ◌+◌, ◌<◌, ◌≤◌, List, length, drop, get_or, sym, ap, ◌∙◌, arith, subst}
use Rattle.std.proofs.lemmas.List.{drop_more}
use Rattle.index_keys.specs.Entries.{Entry}
use Rattle.index_keys.specs.Holdings.{keys_at}
use Rattle.tune_index.specs.Leaves.{slice_entry}
use Rattle.tune_search.proofs.ClaimLinks.{first_from, keys_from}
use Rattle.tune_search.specs.Inside.EntryLinks.{place_from}

-- The number stands at the keys where from this place on it stands at those from this index on.
pub record ComparesFrom (number : ℕ) (es : List Entry) (keys : List ℕ) (at index : ℕ) : Type 0 where
  pub within : at ≤ length es
  pub own : at < length es → (slice_entry es at).1 ≡ number
  pub forth : keys_at number es ≡ keys → keys_at number (drop at es) ≡ drop index keys
  pub back : keys_at number (drop at es) ≡ drop index keys → keys_at number es ≡ keys

pub compares_first : (number : ℕ) (es : List Entry) (keys : List ℕ) (first : ℕ) → first ≡ place_from number 0 es → ComparesFrom number es keys first 0
compares_first number es keys first is =
    let h = first_from number 0 es (omega arith) in
    subst (λ (at : ℕ). ComparesFrom number es keys at 0) (sym is)
    (record { within = h.within; own = h.own; forth = λ e. h.skips ∙ e; back = λ e. sym h.skips ∙ e })

-- one key more
pub compares_more : (number : ℕ) (es : List Entry) (keys : List ℕ) (at index next : ℕ) → ComparesFrom number es keys at index → at < length es
    → index < length keys → (slice_entry es at).0 ≡ get_or keys index 0 → next ≡ place_from (slice_entry es at).1 (at + 1) es
    → ComparesFrom number es keys next (index + 1)
compares_more number es keys at index next so_far l m same is =
    let own = so_far.own l in
    let h = first_from number (at + 1) es (omega arith) in
    let place : next ≡ place_from number (at + 1) es = is ∙ ap (λ (n : ℕ). place_from n (at + 1) es) own in
    let here = keys_from number at es l own in
    let there = drop_more keys index 0 m in
    subst (λ (k : ℕ). ComparesFrom number es keys k (index + 1)) (sym place) (record {
      within = h.within;
      own = h.own;
      forth = λ e. let f = so_far.forth e in h.skips ∙ (let g = sym here ∙ f ∙ there in cc);
      back = λ e. let f = sym h.skips ∙ e in so_far.back (here ∙ (let g = sym there in cc));
    })
