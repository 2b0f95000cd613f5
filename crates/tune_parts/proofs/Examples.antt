-- The definitions, tried on a few pages.
use Rattle.std.proofs.Common.{◌≡◌, [], ◌∷◌, refl}
use Rattle.tune_parts.specs.Parts.{AreApart, chain_part, leaf_part, trails}

-- two chains and a leaf on six pages
apart : AreApart 6 (chain_part 4 (4 ∷ 2 ∷ []) [] ∷ leaf_part 5 [] ∷ chain_part 1 (1 ∷ []) [] ∷ [])
apart = (refl, (refl, (refl, (refl, (refl, tt)))))

pages : trails (chain_part 4 (4 ∷ 2 ∷ []) [] ∷ leaf_part 5 [] ∷ chain_part 1 (1 ∷ []) [] ∷ []) ≡ 4 ∷ 2 ∷ 5 ∷ 1 ∷ []
pages = refl
