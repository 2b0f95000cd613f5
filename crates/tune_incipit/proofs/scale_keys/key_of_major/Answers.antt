use Rattle.std.proofs.Common.{◌≡◌, ◌∷◌, [], ℕ, ◌+◌, ◌-◌, ◌<◌, suc, zero, refl, subst, ap, ◌∙◌, arith}
use Rattle.abc_keys.specs.Keys.{key_of_text}
use Rattle.abc_keys.specs.Fifths.{listed_count}
use Rattle.index_keys.specs.Cuts.{cut_number}
use Rattle.tune_incipit.specs.Scales.{scale_of_text}
use Rattle.tune_incipit.specs.ScaleAndIncipitKeys.{scale_keys_of}
use Rattle.tune_incipit.proofs.scale_keys.key_of_major.Goals as goal

-- the key of each tonic has its letter, a space and the digit of a major scale
major_at : (n : ℕ) → n < 7 → cut_number 32 0 ((65 + n) ∷ 32 ∷ 48 ∷ []) ∷ [] ≡ scale_keys_of (scale_of_text ((65 + n) ∷ []))
unfolding key_of_text listed_count
major_at zero less = refl
major_at (suc zero) less = refl
major_at (suc (suc zero)) less = refl
major_at (suc (suc (suc zero))) less = refl
major_at (suc (suc (suc (suc zero)))) less = refl
major_at (suc (suc (suc (suc (suc zero))))) less = refl
major_at (suc (suc (suc (suc (suc (suc zero)))))) less = refl
major_at (suc (suc (suc (suc (suc (suc (suc n))))))) less = absurd (omega (arith, less))

pub returns : goal.returns
returns c =
    let n : ℕ = c.args.tonic - 65 in
    let same : 65 + n ≡ c.args.tonic = omega (arith, c.requires.low) in
    let less : n < 7 = omega (arith, c.requires.low, c.requires.high) in
    ap (λ (key : ℕ). key ∷ []) c.cut.ensures
    ∙ subst (λ (b : ℕ). cut_number 32 0 (b ∷ 32 ∷ 48 ∷ []) ∷ [] ≡ scale_keys_of (scale_of_text (b ∷ []))) same (major_at n less)
