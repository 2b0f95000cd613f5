use Rattle.std.proofs.Common.{◌≡◌, ◌∷◌, [], ℕ, ◌+◌, ◌-◌, ◌<◌, get_or, suc, zero, refl, subst, arith}
use Rattle.abc_keys.specs.Keys.{key_of_text, signature_of}
use Rattle.abc_keys.specs.Fifths.{listed_count}
use Rattle.abc_keys.specs.declared.signatures.Signature.{Signature}
use Rattle.abc_keys.specs.declared.tonics.TheConstants.{MAJORS}
use Rattle.abc_keys.proofs.tonics.signature_of_tonic.Goals as goal

-- the signature at each place is that of the letter there
major_at : (d : Signature) (n : ℕ) → n < 7 → get_or MAJORS n d ≡ signature_of (key_of_text ((65 + n) ∷ []))
unfolding key_of_text listed_count
major_at d zero less = refl
major_at d (suc zero) less = refl
major_at d (suc (suc zero)) less = refl
major_at d (suc (suc (suc zero))) less = refl
major_at d (suc (suc (suc (suc zero)))) less = refl
major_at d (suc (suc (suc (suc (suc zero))))) less = refl
major_at d (suc (suc (suc (suc (suc (suc zero)))))) less = refl
major_at d (suc (suc (suc (suc (suc (suc (suc n))))))) less = absurd (omega (arith, less))

pub returns-clause-value : goal.returns-clause-value
returns-clause-value c =
    let n : ℕ = c.args.byte - 65 in
    let same : 65 + n ≡ c.args.byte = omega (arith, c.if-byte-lt65.false) in
    let less : n < 7 = omega (arith, c.if-byte-lt65.false, c.if-byte-gt71.false) in
    subst (λ (b : ℕ). get_or MAJORS n _ ≡ signature_of (key_of_text (b ∷ []))) same (major_at _ n less)
