-- The list of an index's leaves, on a chain.
use Rattle.std.proofs.Common.{◌≡◌, ◌*◌, ℕ, List, [], ◌∷◌, ◌++◌, length, append_assoc, append-nil, refl, sym, ◌∙◌, ap, subst, arith}
use Rattle.std.proofs.lemmas.List.{length-append}
use Rattle.byteorder.specs.Numbers.{length-bytes_high_first}
use Rattle.tune_pages.specs.Frame.{TradesPages}
use Rattle.tune_pages.specs.Stand.{Stand, HasChain, PutsChain, without_pages}
use Rattle.tune_pages.proofs.Frames.{trades_none, trades_then, free_chain_trades, put_chain_trades, put_has}
use Rattle.tune_index.specs.Leaves.{value_bytes}
use Rattle.tune_index.specs.ListedLeaves.{StoresList, listed_bytes}

pub listed-push : (numbers : List ℕ) (number : ℕ) → listed_bytes (numbers ++ number ∷ []) ≡ listed_bytes numbers ++ value_bytes number
listed-push [] number = append-nil (value_bytes number)
listed-push (n ∷ numbers) number = ap (λ (x : List ℕ). value_bytes n ++ x) (listed-push numbers number)
    ∙ sym (append_assoc (value_bytes n) (listed_bytes numbers) (value_bytes number))

-- a chain freed, and the list put on another one
pub stores : (s mid new : Stand) (first next : ℕ) (pages bytes : List ℕ) → bytes ≡ listed_bytes pages
    → ((trail all : List ℕ) → HasChain s first trail all → mid ≡ without_pages trail s) → (along : List ℕ) × PutsChain mid new next along bytes
    → StoresList s new first next pages
stores s mid new first next pages bytes is freed puts = λ trail all has.
    (let gone : TradesPages trail [] s mid = subst (λ (m : Stand). TradesPages trail [] s m) (sym (freed trail all has)) (free_chain_trades s trail) in
    let came = put_chain_trades mid new next puts.0 bytes puts.1 in
    (puts.0, subst (λ (x : List ℕ). HasChain new next puts.0 x) is (put_has mid new next puts.0 bytes puts.1), trades_then trail [] puts.0 s mid new gone came))

-- the list stays where it is
pub stores_none : (s : Stand) (first : ℕ) (pages trail all : List ℕ) → HasChain s first trail all → all ≡ listed_bytes pages
    → ((t u a b : List ℕ) → HasChain s first t a → HasChain s first u b → (t ≡ u) × (a ≡ b)) → StoresList s s first first pages
stores_none s first pages trail all has is once = λ t a other.
    (let same = once t trail a all other has in
    (t, subst (λ (x : List ℕ). HasChain s first t x) (same.1 ∙ is) other, trades_none t s))

-- four bytes for each number
pub length-listed : (numbers : List ℕ) → length (listed_bytes numbers) ≡ 4 * length numbers
unfolding value_bytes
length-listed [] = refl
length-listed (n ∷ numbers) =
    let rest = length-listed numbers in
    let one : length (value_bytes n) ≡ 4 = length-bytes_high_first 4 n in
    let both = length-append (value_bytes n) (listed_bytes numbers) in
    omega (arith, rest, one, both)
