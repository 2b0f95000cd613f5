-- An entry behind all of a list.
use Rattle.std.proofs.Common.{◌≡◌, ℕ, zero, suc, ◌+◌, ◌<◌, List, [], ◌∷◌, ◌++◌, length, get_or, refl, ap, ◌∙◌, arith}
use Rattle.index_keys.specs.Entries.{Entry, rank, EntriesRiseFrom, entry_inserted}
use Rattle.index_keys.proofs.RisingEntries.{inserted_later, rises_at}
use Rattle.tune_index.specs.Inside.EntryPlaces.{AllBelow}

-- the last entry is below, so all are
pub last_below : (low r : ℕ) (es : List Entry) (n : ℕ) (d : Entry) → EntriesRiseFrom low es → length es ≡ n + 1 → rank (get_or es n d) < r → AllBelow r es
last_below low r [] n d up l h = tt
last_below low r (e ∷ []) zero d up l h = (h, tt)
last_below low r (e ∷ []) (suc n) d up l h = absurd (omega arith)
last_below low r (e ∷ f ∷ es) zero d up l h = absurd (omega arith)
last_below low r (e ∷ f ∷ es) (suc n) d up l h =
    let rest = last_below (rank e + 1) r (f ∷ es) n d up.1 (omega arith) h in
    let over = rises_at (rank e + 1) (f ∷ es) n d up.1 (omega arith) in
    (omega (arith, over, h), rest)

-- it goes to the end
pub inserted_end : (es : List Entry) (e : Entry) → AllBelow (rank e) es → entry_inserted e es ≡ es ++ e ∷ []
inserted_end [] e b = refl
inserted_end (x ∷ xs) e b = inserted_later e x xs b.0 ∙ ap (λ (z : List Entry). x ∷ z) (inserted_end xs e b.1)
