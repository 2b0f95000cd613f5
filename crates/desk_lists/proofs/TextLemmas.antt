-- The text of bytes, a part after another.
use Rattle.std.proofs.Common.{◌≡◌, ℕ, zero, suc, ◌+◌, ◌<◌, ◌≤◌, List, [], ◌++◌, length, take, drop, refl, sym, ap, ◌∙◌, arith, length-drop, inl, inr}
use Rattle.std.proofs.lemmas.Bool.{eq-eqb, ne_eqb, cases_eq}
use Rattle.std.proofs.lemmas.Str.{utf8_valid_len_le, utf8_valid_len-IsUtf8}
use Rattle.std.proofs.lemmas.List.{drop_all, append-nil, append_assoc}
use Rattle.std.specs.Str.{IsUtf8}
use Rattle.std.specs.Str.Lossy.{utf8_valid_len}
use Rattle.desk_lists.specs.ShownTexts.{latin_at, text_within, text_bytes}

within_text : (k : ℕ) (bs : List ℕ) → utf8_valid_len bs ≡ length bs → text_within k bs ≡ bs
within_text zero bs whole = refl
within_text (suc k) bs whole = rw (eq-eqb _ _ whole)

within_fault : (k : ℕ) (bs : List ℕ) → ¬ (utf8_valid_len bs ≡ length bs)
    → text_within (suc k) bs
    ≡ take (utf8_valid_len bs) bs ++ (latin_at (utf8_valid_len bs) bs ++ text_within k (drop (utf8_valid_len bs + 1) bs))
within_fault k bs faulty = rw (ne_eqb _ _ faulty)

length-after : (bs : List ℕ) → ¬ (utf8_valid_len bs ≡ length bs) → length (drop (utf8_valid_len bs + 1) bs) < length bs
length-after bs faulty =
    let within = utf8_valid_len_le bs in omega (arith, length-drop (utf8_valid_len bs + 1) bs)

-- any bound from the length up gives the same text
within_any : (k j : ℕ) (bs : List ℕ) → length bs ≤ k → length bs ≤ j → text_within k bs ≡ text_within j bs
within_any zero j bs p q = let within = utf8_valid_len_le bs in sym (within_text j bs (omega arith))
within_any (suc k) zero bs p q = let within = utf8_valid_len_le bs in within_text (suc k) bs (omega arith)
within_any (suc k) (suc j) bs p q = elim (cases_eq (utf8_valid_len bs) (length bs)) [
  | inl whole ↦ within_text (suc k) bs whole ∙ sym (within_text (suc j) bs whole)
  | inr faulty ↦
      let less = length-after bs faulty in
      within_fault k bs faulty
      ∙ ap (λ t. take (utf8_valid_len bs) bs ++ (latin_at (utf8_valid_len bs) bs ++ t))
      (within_any k j (drop (utf8_valid_len bs + 1) bs) (omega arith) (omega arith))
      ∙ sym (within_fault j bs faulty)
]

pub text_bytes-nil : text_bytes [] ≡ []
unfolding text_bytes
text_bytes-nil = refl

pub text_bytes-IsUtf8 : (bs : List ℕ) → IsUtf8 bs → text_bytes bs ≡ bs
unfolding text_bytes
text_bytes-IsUtf8 bs u = within_text (length bs) bs (utf8_valid_len-IsUtf8 bs u)

-- the front that is UTF-8, the next byte, and the rest
pub text_bytes-step : (bs : List ℕ) (n : ℕ) → n ≡ utf8_valid_len bs → n < length bs
    → text_bytes bs ≡ take n bs ++ (latin_at n bs ++ text_bytes (drop (n + 1) bs))
unfolding text_bytes
text_bytes-step bs n is short = rw is (
    let faulty : ¬ (utf8_valid_len bs ≡ length bs) = omega arith in
    let less = length-after bs faulty in
    within_any (length bs) (suc (length bs)) bs (omega arith) (omega arith)
    ∙ within_fault (length bs) bs faulty
    ∙ ap (λ t. take (utf8_valid_len bs) bs ++ (latin_at (utf8_valid_len bs) bs ++ t))
    (within_any (length bs) (length (drop (utf8_valid_len bs + 1) bs)) (drop (utf8_valid_len bs + 1) bs) (omega arith) (omega arith)))

-- one part of the bytes is put behind a text: all of them, or a front and one byte more
pub whole_part : (old new bs : List ℕ) → IsUtf8 bs → new ≡ old ++ bs → new ++ text_bytes (drop (length bs) bs) ≡ old ++ text_bytes bs
whole_part old new bs u more =
    ap (λ t. new ++ text_bytes t) (drop_all (length bs) bs (omega arith)) ∙ ap (λ t. new ++ t) text_bytes-nil ∙ append-nil new ∙ more
    ∙ ap (λ t. old ++ t) (sym (text_bytes-IsUtf8 bs u))

pub front_part : (old mid new bs : List ℕ) (n : ℕ) → n ≡ utf8_valid_len bs → n < length bs → mid ≡ old ++ take n bs → new ≡ mid ++ latin_at n bs
    → new ++ text_bytes (drop (n + 1) bs) ≡ old ++ text_bytes bs
front_part old mid new bs n is short front more =
    ap (λ t. t ++ text_bytes (drop (n + 1) bs)) (more ∙ ap (λ t. t ++ latin_at n bs) front)
    ∙ append_assoc (old ++ take n bs) (latin_at n bs) _ ∙ append_assoc old (take n bs) _
    ∙ ap (λ t. old ++ t) (sym (text_bytes-step bs n is short))
