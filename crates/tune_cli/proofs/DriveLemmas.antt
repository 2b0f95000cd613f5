-- What a drive was asked, one thing after another.
use Rattle.std.proofs.Common.{◌≡◌, List, [], ◌∷◌, ◌++◌, ap, ◌∙◌}
use Rattle.std.proofs.lemmas.List.{append_assoc}

pub two_deeds : {D : Type 0} (was mid now : List D) (first second : D) → mid ≡ was ++ first ∷ [] → now ≡ mid ++ second ∷ []
    → now ≡ was ++ first ∷ second ∷ []
two_deeds was mid now first second h k = k ∙ ap (λ l. l ++ second ∷ []) h ∙ append_assoc was (first ∷ []) (second ∷ [])
