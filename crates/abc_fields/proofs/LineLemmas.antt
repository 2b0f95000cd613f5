-- What a search for the end of a line finds.
use Rattle.std.proofs.Common.{◌≡◌, ℕ, zero, suc, ◌+◌, ◌<◌, true, false, eqb, List, [], ◌∷◌, ◌++◌, length, take, drop, get_or, refl, ap, sym, ◌∙◌, arith}
use Rattle.std.proofs.Common.{add-zero, ◌⊎◌, inl, inr, subst}
use Rattle.std.proofs.lemmas.List.{drop-drop, length-drop, get_or-drop, take_all, take-append-drop}
use Rattle.std.proofs.lemmas.Bool.{eqb-true, ne_eqb, eq-eqb, both_ways, or_cases, or_parts, cases_Bool, false_from_ne_true, true≢false}
use Rattle.std.proofs.lemmas.List.Folds.{list_any_at}
use Rattle.abc_fields.specs.Bytes.{line_feed, carriage_return}
use Rattle.abc_fields.specs.Lines.{pieces_of, ends_line, has_no_ending, IsEnding}
use Rattle.abc_fields.specs.Inside.LineEndings.{ending_length, has_return}
use Rattle.abc_fields.proofs.LineLaw.{pieces_of_line, pieces_of_last}

-- no byte below this index ends a line
abbrev pub NoEndBelow : List ℕ → ℕ → Type 0
NoEndBelow text n = (j : ℕ) → j < n → ends_line (get_or text j 0) ≡ true → ⊥

-- the bytes below that index are a plain line
plain_front : (text : List ℕ) (n : ℕ) → NoEndBelow text n → has_no_ending (take n text) ≡ true
plain_front text zero none = refl
plain_front [] (suc n) none = refl
plain_front (byte ∷ text) (suc n) none =
    rw (false_from_ne_true (ends_line byte) (none 0 (omega arith))) (plain_front text n (λ j lt. none (suc j) (omega arith)))

-- the ending that a text begins with, and the rest
abbrev BeginsWithEnding : List ℕ → Type 0
BeginsWithEnding text = IsEnding (take (ending_length text) text) (drop (ending_length text) text)

ending_of_return : (text : List ℕ) → BeginsWithEnding (carriage_return ∷ text)
ending_of_return [] = inr (inr (refl, refl))
ending_of_return (byte ∷ text) = elim (cases_Bool (eqb byte line_feed)) [
  | inl feed ↦ let P : ℕ → Type 0 = λ b. BeginsWithEnding (carriage_return ∷ b ∷ text) in subst P (sym (eqb-true byte line_feed feed)) (inr (inl refl))
  | inr other ↦
      let turned : eqb line_feed byte ≡ false = ne_eqb line_feed byte (λ same. both_ways (eqb byte line_feed) other (eq-eqb byte line_feed (sym same))) in
      rw turned (inr (inr (refl, other)))
]

ending_of_byte : (byte : ℕ) (text : List ℕ) → (byte ≡ line_feed) ⊎ (byte ≡ carriage_return) → BeginsWithEnding (byte ∷ text)
ending_of_byte byte text (inl feed) = let P : ℕ → Type 0 = λ b. BeginsWithEnding (b ∷ text) in subst P (sym feed) (inl refl)
ending_of_byte byte text (inr return) = let P : ℕ → Type 0 = λ b. BeginsWithEnding (b ∷ text) in subst P (sym return) (ending_of_return text)

feed_or_return : (byte : ℕ) → ends_line byte ≡ true → (byte ≡ line_feed) ⊎ (byte ≡ carriage_return)
feed_or_return byte ends = elim (or_cases (eqb byte line_feed) (eqb byte carriage_return) ends) [
  | inl e ↦ inl (eqb-true byte line_feed e)
  | inr e ↦ inr (eqb-true byte carriage_return e)
]

-- a text whose first byte ends a line begins with an ending
ending_at_front : (text : List ℕ) → 0 < length text → ends_line (get_or text 0 0) ≡ true → BeginsWithEnding text
ending_at_front [] some ends = absurd (omega arith)
ending_at_front (byte ∷ text) some ends = ending_of_byte byte text (feed_or_return byte ends)

-- a text in which no byte ends a line is one line
pub one_piece : (text : List ℕ) → NoEndBelow text (length text) → 0 < length text → pieces_of text ≡ record { content = text; ending = [] } ∷ []
one_piece text none some = pieces_of_last text (rw (take_all (length text) text (omega arith)) at (plain_front text (length text) none)) some

-- the first line goes up to the first byte that ends a line
pub first_piece : (text : List ℕ) (n : ℕ) → NoEndBelow text n → n < length text → ends_line (get_or text n 0) ≡ true
    → pieces_of text
    ≡ record { content = take n text; ending = take (ending_length (drop n text)) (drop n text) } ∷ pieces_of (drop (n + ending_length (drop n text)) text)
first_piece text n none within ends =
    let skip = ending_length (drop n text) in
    let ending = ending_at_front (drop n text) (omega (arith, length-drop n text)) (rw get_or-drop (simp add-zero ends)) in
    ap pieces_of (sym (take-append-drop n text) ∙ ap (λ rest. take n text ++ rest) (sym (take-append-drop skip (drop n text))))
    ∙ pieces_of_line (take n text) (take skip (drop n text)) (drop skip (drop n text)) (plain_front text n none) ending
    ∙ ap (λ rest. record { content = take n text; ending = take skip (drop n text) } ∷ pieces_of rest) (drop-drop skip n text)

-- LINE FEEDS ALONE
-- no byte below this index is a line feed
abbrev pub NoFeedBelow : List ℕ → ℕ → Type 0
NoFeedBelow text n = (j : ℕ) → j < n → eqb (get_or text j 0) line_feed ≡ true → ⊥

-- where no carriage return stands in a text, only line feeds end its lines
pub no_end_below : (text : List ℕ) (n : ℕ) → has_return text ≡ false → n < length text + 1 → NoFeedBelow text n → NoEndBelow text n
no_end_below text n none within no_feed j l ends = elim (or_cases (eqb (get_or text j 0) line_feed) (eqb (get_or text j 0) carriage_return) ends) [
  | inl feed ↦ no_feed j l feed
  | inr return ↦ true≢false (sym (list_any_at (λ byte. eqb byte carriage_return) text j 0 (omega arith) return) ∙ none)
]

-- the ending of a text that begins with a line feed has one byte
ending_of_feed : (text : List ℕ) → 0 < length text → eqb (get_or text 0 0) line_feed ≡ true → ending_length text ≡ 1
ending_of_feed [] some feed = absurd (omega arith)
ending_of_feed (byte ∷ text) some feed = let P : ℕ → Type 0 = λ b. ending_length (b ∷ text) ≡ 1 in subst P (sym (eqb-true byte line_feed feed)) refl

-- the first line goes up to the first line feed, where no carriage return stands in the text
pub first_piece_by_feed : (text : List ℕ) (n : ℕ) → has_return text ≡ false → NoFeedBelow text n → n < length text → eqb (get_or text n 0) line_feed ≡ true
    → pieces_of text ≡ record { content = take n text; ending = take 1 (drop n text) } ∷ pieces_of (drop (n + 1) text)
first_piece_by_feed text n none no_feed within feed =
    let P : ℕ → Type 0 = λ skip.
    pieces_of text ≡ record { content = take n text; ending = take skip (drop n text) } ∷ pieces_of (drop (n + skip) text) in
    let skip : ending_length (drop n text) ≡ 1 = ending_of_feed (drop n text) (omega (arith, length-drop n text)) (rw get_or-drop (simp add-zero feed)) in
    subst P skip (first_piece text n (no_end_below text n none (omega arith) no_feed) within (rw feed refl))

-- where no carriage return stands in a text, none stands in what is left of it
pub no_return_left : (n : ℕ) (text : List ℕ) → has_return text ≡ false → has_return (drop n text) ≡ false
no_return_left zero text none = none
no_return_left (suc n) [] none = refl
no_return_left (suc n) (byte ∷ text) none = no_return_left n text (or_parts (eqb byte carriage_return) (has_return text) none).1
