-- The names of copies.
use Rattle.std.proofs.Common.{◌≡◌, ◌≢◌, ℕ, zero, suc, List, ◌++◌, codes, refl, subst, ap, ◌∙◌}
use Rattle.std.specs.Prelude.{decimal}
use Rattle.tune_scripts.specs.Streams.{Streams}
use Rattle.desk_scenes.specs.Printing.{PrintsOrNot}
use Rattle.desk_backups.specs.Backups.{TellsCopyName}
use Rattle.hex.specs.Hex.{encode_lower}
use Rattle.desk_backups.specs.CopyNames.{name_of_path, numbered_copy, sum_line}

-- COPY, a dot and a number that is not 0
pub numbered_some : (copy : List ℕ) (number : ℕ) → number ≢ 0 → numbered_copy copy number ≡ copy ++ (codes "." ++ decimal number)
numbered_some copy zero some = absurd (some refl)
numbered_some copy (suc before) some = refl

pub numbered_none : (copy : List ℕ) (number : ℕ) → number ≡ 0 → numbered_copy copy number ≡ copy
numbered_none copy zero none = refl
numbered_none copy (suc before) none = absurd cc

-- the line of a sum
pub told_line : (sum path digits name line : List ℕ) → digits ≡ encode_lower sum → name ≡ name_of_path path
    → line ≡ digits ++ (codes "  " ++ (name ++ codes "\n")) → line ≡ sum_line sum path
told_line sum path digits name line d n e =
    e ∙ ap (λ x. x ++ (codes "  " ++ (name ++ codes "\n"))) d ∙ ap (λ x. encode_lower sum ++ (codes "  " ++ (x ++ codes "\n"))) n

-- the name was told
pub told_some : (copy path line : List ℕ) (number status : ℕ) (streams : Streams) → number ≢ 0 → path ≡ numbered_copy copy number
    → line ≡ codes "the copy is " ++ path ++ codes "\n" → PrintsOrNot streams line status → TellsCopyName copy number streams status
told_some copy path line zero status streams some same is h = absurd (some refl)
told_some copy path line (suc before) status streams some same is h =
    subst (λ p. PrintsOrNot streams (codes "the copy is " ++ p ++ codes "\n") status) same (subst (λ l. PrintsOrNot streams l status) is h)

-- or there was none to tell
pub told_none : (copy : List ℕ) (number status : ℕ) (streams : Streams) → number ≡ 0
    → (streams.input.now ≡ streams.input.was) × (streams.output.now ≡ streams.output.was) → status ≡ 0 → TellsCopyName copy number streams status
told_none copy zero status streams none silent done = (silent, done)
told_none copy (suc before) status streams none silent done = absurd cc
