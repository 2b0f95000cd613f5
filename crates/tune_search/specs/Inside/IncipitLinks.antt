-- The entries of incipits with the keys of each number, by eight notes or by twelve.
use Rattle.std.specs.Prelude.{ℕ, List, map}
use Rattle.index_keys.specs.Entries.{Entry}
use Rattle.tune_search.specs.HeldShapes.{held_entries, whole_key}
use Rattle.tune_search.specs.declared.incipit_claims.IncipitClaims.{IncipitClaims}
use Rattle.tune_search.specs.declared.incipit_claims.IncipitClaims.TheVariants as form

-- by how many notes they are
abbrev pub notes_of_claims : IncipitClaims → ℕ
notes_of_claims (form.Eight claims) = 8
notes_of_claims (form.Twelve claims) = 12

-- the entries
abbrev pub entries_claimed : IncipitClaims → List Entry
entries_claimed (form.Eight claims) = held_entries 32 claims.entries
entries_claimed (form.Twelve claims) = held_entries 48 claims.entries

-- how many keys each number has, and the first
abbrev pub counts_claimed : IncipitClaims → List ℕ
counts_claimed (form.Eight claims) = claims.counts.items
counts_claimed (form.Twelve claims) = claims.counts.items

abbrev pub keys_claimed : IncipitClaims → List ℕ
keys_claimed (form.Eight claims) = map (whole_key 32 claims.entries.others) claims.keys.items
keys_claimed (form.Twelve claims) = map (whole_key 48 claims.entries.others) claims.keys.items
