-- Bytes that are appended one part after another.
use Rattle.std.proofs.Common.{List, ℕ, ◌++◌, Option, None, Some, ap, ◌∙◌}
use Rattle.std.specs.Io.KnownBytes.{Appends}
use Rattle.std.proofs.lemmas.List.{append_assoc}

pub appends_more : (a b c : Option (List ℕ)) (x y : List ℕ) → Appends a b x → Appends b c y → Appends a c (x ++ y)
appends_more None b c x y h k = tt
appends_more (Some xs) None c x y h k = absurd h
appends_more (Some xs) (Some ys) None x y h k = absurd k
appends_more (Some xs) (Some ys) (Some zs) x y h k = k ∙ ap (λ r. r ++ y) h ∙ append_assoc xs x y

-- whatever appends the rest appends the whole
abbrev pub Leaves : Option (List ℕ) → Option (List ℕ) → List ℕ → List ℕ → Type 0
Leaves old now rest whole = (last : Option (List ℕ)) → Appends now last rest → Appends old last whole
