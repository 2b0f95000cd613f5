-- Whether the last line of a book is ended.
use Rattle.std.proofs.Common.{◌≡◌, ℕ, suc, ◌-◌, ◌<◌, true, List, [], ◌∷◌, length, get_or, refl, ap, sym, ◌∙◌, arith}
use Rattle.std.specs.Prelude.{◌==◌}
use Rattle.abc_fields.specs.Bytes.{line_feed}
use Rattle.tune_undo.specs.OldTextLaws.{is_ended}

pub ended_nil : (book : List ℕ) → length book ≡ 0 → is_ended book ≡ true
ended_nil [] none = refl
ended_nil (byte ∷ book) none = absurd (omega arith)

pub ended_last : (book : List ℕ) (byte : ℕ) → 0 < length book → byte ≡ get_or book (length book - 1) byte → (byte == line_feed) ≡ is_ended book
ended_last [] byte some e = absurd (omega arith)
ended_last (first ∷ []) byte some e = ap (λ b. b == line_feed) e
ended_last (first ∷ other ∷ book) byte some e =
    let less : length (first ∷ other ∷ book) - 1 ≡ suc (length (other ∷ book) - 1) = omega arith in
    ended_last (other ∷ book) byte (omega arith) (e ∙ ap (λ n. get_or (first ∷ other ∷ book) n byte) less)
