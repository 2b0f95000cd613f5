-- Texts that are known by their SHA-256 (FIPS 180-4).
use Rattle.std.specs.Prelude.{ℕ, List, Bool}
use Rattle.std.specs.List.{list_any}
use Rattle.std.specs.Ordering.{nat_cmp, is_eq}
use Rattle.std.specs.declared.cmp.Ordering.{Ordering}
use Rattle.std.specs.Cmp.Lexicographic.{slice_cmp}
use Rattle.std.specs.BTreeSet.{insert_key}
use Rattle.sha2.specs.Sha256.{sha256}

-- the order of sums, byte by byte: two of them compare alike where they are the same
abbrev pub sum_order : List ℕ → List ℕ → Ordering
sum_order = slice_cmp nat_cmp

-- whether one of these sums is that of a text
abbrev pub is_known : List (List ℕ) → List ℕ → Bool
is_known sums text = list_any (λ sum. is_eq (sum_order (sha256 text) sum)) sums

-- these sums with that of a text, at its place, unless it is there
abbrev pub with_text_sum : List (List ℕ) → List ℕ → List (List ℕ)
with_text_sum sums text = insert_key sum_order sums (sha256 text)
