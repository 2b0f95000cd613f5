-- The entries of a leaf that come behind others, one after another.
use Rattle.std.proofs.Common.{◌≡◌, ℕ, zero, suc, ◌+◌, List, [], ◌∷◌, ◌++◌, append_assoc, append-nil, drop, sym, ap, ◌∙◌, subst}
use Rattle.index_keys.specs.Entries.{AllFit, Entry, FitsLeaf, IsRising}
use Rattle.index_keys.proofs.RisingEntries.{rises_front}
use Rattle.tune_index.specs.Leaves.{entries_in, entry_in}
use Rattle.tune_index.proofs.Codec.{AllFit-push}

-- What came so far, and the entries that are left in the bytes, are those of the leaf.
pub record JoinedSoFar (width : ℕ) (old now : List Entry) (left : ℕ) (rest : List ℕ) (leaf : List Entry) : Type 0 where
  pub came : List Entry
  pub behind : now ≡ old ++ came
  pub fit : AllFit width came
  pub whole : came ++ entries_in width left rest ≡ leaf

pub joined_none : (width : ℕ) (old : List Entry) (left : ℕ) (rest : List ℕ) (leaf : List Entry) → entries_in width left rest ≡ leaf
    → JoinedSoFar width old old left rest leaf
joined_none width old left rest leaf e = record { came = []; behind = sym (append-nil old); fit = tt; whole = e }

-- one entry more from the front of the rest
pub joined_more : (width left fewer : ℕ) (old now : List Entry) (e : Entry) (rest : List ℕ) (leaf : List Entry) → left ≡ suc fewer
    → e ≡ entry_in width rest → FitsLeaf width e → JoinedSoFar width old now left rest leaf
    → JoinedSoFar width old (now ++ e ∷ []) fewer (drop (width + 4) rest) leaf
joined_more width left fewer old now e rest leaf more is fits so =
    let later : List Entry = entries_in width fewer (drop (width + 4) rest) in
    let front : entries_in width left rest ≡ e ∷ later =
    ap (λ (k : ℕ). entries_in width k rest) more ∙ sym (ap (λ (x : Entry). x ∷ later) is) in
    record {
      came = so.came ++ e ∷ [];
      behind = ap (λ (x : List Entry). x ++ e ∷ []) so.behind ∙ append_assoc old so.came (e ∷ []);
      fit = AllFit-push width so.came e so.fit fits;
      whole = append_assoc so.came (e ∷ []) later ∙ sym (ap (λ (x : List Entry). so.came ++ x) front) ∙ so.whole;
    }

-- all of them
pub joined_all : (width : ℕ) (old now : List Entry) (left : ℕ) (rest : List ℕ) (leaf : List Entry) → left ≡ zero
    → JoinedSoFar width old now left rest leaf → (now ≡ old ++ leaf) × AllFit width leaf
joined_all width old now left rest leaf none so =
    let all : so.came ≡ leaf = sym (append-nil so.came) ∙ ap (λ (k : ℕ). so.came ++ entries_in width k rest) (sym none) ∙ so.whole in (
      so.behind ∙ ap (λ (x : List Entry). old ++ x) all,
      subst (λ (x : List Entry). AllFit width x) all so.fit,
    )

-- where the next entry does not rise behind those that came, the whole does not
pub joined_front : (width left fewer : ℕ) (old now : List Entry) (e : Entry) (rest : List ℕ) (leaf : List Entry) → left ≡ suc fewer
    → e ≡ entry_in width rest → FitsLeaf width e → JoinedSoFar width old now left rest leaf → IsRising (old ++ leaf) → IsRising (now ++ e ∷ [])
joined_front width left fewer old now e rest leaf more is fits so up =
    let next = joined_more width left fewer old now e rest leaf more is fits so in
    let later : List Entry = entries_in width fewer (drop (width + 4) rest) in
    let split : old ++ leaf ≡ (now ++ e ∷ []) ++ later =
    ap (λ (x : List Entry). old ++ x) (sym next.whole) ∙ sym (append_assoc old next.came later) ∙ ap (λ (x : List Entry). x ++ later) (sym next.behind) in
    rises_front 0 (now ++ e ∷ []) later (subst (λ (x : List Entry). IsRising x) split up)
