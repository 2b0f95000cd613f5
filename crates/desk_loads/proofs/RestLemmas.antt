-- What is left of a script.
use Rattle.std.proofs.Common.{◌≡◌, ℕ, ◌-◌, List, ◌++◌, length, take, drop, sym, ap, ◌∙◌, arith}
use Rattle.std.proofs.lemmas.List.{length-drop, take_all, take-append-drop}

pub rest_of : (k : ℕ) (bytes : List ℕ) → bytes ≡ take k bytes ++ take (length bytes - k) (drop k bytes)
rest_of k bytes = sym
    (ap (λ rest. take k bytes ++ rest) (take_all (length bytes - k) (drop k bytes) (omega (arith, length-drop k bytes)))
    ∙ take-append-drop k bytes)
