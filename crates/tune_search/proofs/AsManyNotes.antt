-- Entries and indexes of incipits by as many notes.
use Rattle.std.proofs.Common.{◌≡◌, ℕ, ◌+◌, ◌<◌, List, ◌++◌, length, get_or, refl, subst}
use Rattle.index_keys.specs.Entries.{AllFit, Entry}
use Rattle.tune_incipit.specs.ScaleAndIncipitKeys.{incipit_keys}
use Rattle.tune_index.specs.Indexes.{Shape}
use Rattle.tune_search.specs.IndexParts.{IndexParts, KeepsIndex}
use Rattle.tune_search.specs.Inside.TextEntries.{entries_at_keys}
use Rattle.tune_search.specs.Searches.{HoldsKeys, IsRunOf, incipit_bytes}
use Rattle.tune_search.proofs.TextRuns.{Gathered, gathered_more}

-- AS MANY NOTES
-- entries and an index of as many notes
pub notes_run : (n m : ℕ) (tunes : List (ℕ × List ℕ)) (run : List Entry) → n ≡ m → IsRunOf (incipit_bytes n) (incipit_keys n) tunes run
    → IsRunOf (incipit_bytes m) (incipit_keys m) tunes run
notes_run n m tunes run same are = subst (λ (k : ℕ). IsRunOf (incipit_bytes k) (incipit_keys k) tunes run) same are

pub notes_keeps : (n m : ℕ) (shape : Shape) (parts : IndexParts) (entries : List Entry) → n ≡ m → KeepsIndex (incipit_bytes n) shape parts entries
    → KeepsIndex (incipit_bytes m) shape parts entries
notes_keeps n m shape parts entries same keeps = subst (λ (k : ℕ). KeepsIndex (incipit_bytes k) shape parts entries) same keeps

pub notes_hold : (n m : ℕ) (tunes : List (ℕ × List ℕ)) (shape : Shape) (parts : IndexParts) → n ≡ m
    → HoldsKeys (incipit_bytes n) (incipit_keys n) tunes shape parts → HoldsKeys (incipit_bytes m) (incipit_keys m) tunes shape parts
notes_hold n m tunes shape parts same h = subst (λ (k : ℕ). HoldsKeys (incipit_bytes k) (incipit_keys k) tunes shape parts) same h

-- one text more
pub notes_more : (first i : ℕ) (texts : List (List ℕ)) (text : List ℕ) (own n : ℕ) (run next : List Entry)
    → i < length texts → text ≡ get_or texts i text → own ≡ n → next ≡ run ++ entries_at_keys (first + i) (incipit_keys own text)
    → (AllFit (incipit_bytes own) run → AllFit (incipit_bytes own) next) → Gathered (incipit_bytes n) (incipit_keys n) first i texts run
    → Gathered (incipit_bytes n) (incipit_keys n) first (i + 1) texts next
notes_more first i texts text own n run next l is same added fit so_far =
    gathered_more (incipit_bytes n) (incipit_keys n) first i texts text (incipit_keys n text) run next l is refl
    (subst (λ (k : ℕ). next ≡ run ++ entries_at_keys (first + i) (incipit_keys k text)) same added)
    (subst (λ (k : ℕ). AllFit (incipit_bytes k) run → AllFit (incipit_bytes k) next) same fit) so_far
