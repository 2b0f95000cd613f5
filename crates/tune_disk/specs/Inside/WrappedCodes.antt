-- Codes of wrapped disks, made of the code of the disk within: a `Model` asks for them.
use Rattle.std.specs.Prelude.{ℕ, Option, refl}
use Rattle.std.specs.Coded.{Coded, code_by, coded×, coded_ℕ, coded_option}
use Rattle.tune_disk.specs.Wrapped.{Fused, Faulted}

abbrev pub fused_code : {D : Type 0} → Coded D → Coded (Fused D)
fused_code {D} disk =
    code_by (D × (ℕ × ℕ)) (coded× disk (coded× coded_ℕ coded_ℕ))
    (λ f. (f.disk, (f.calls_left, f.failed)))
    (λ p. record { disk = p.0; calls_left = p.1.0; failed = p.1.1 })
    (λ _. refl)

abbrev pub faulted_code : {D : Type 0} → Coded D → Coded (Faulted D)
faulted_code {D} disk =
    code_by (D × Option ℕ) (coded× disk (coded_option coded_ℕ))
    (λ f. (f.disk, f.calls_before))
    (λ p. record { disk = p.0; calls_before = p.1 })
    (λ _. refl)
