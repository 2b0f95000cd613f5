-- An item that begins with a mark of a longer row is of that row, or that byte alone.
use Rattle.std.proofs.Common.{◌≡◌, ℕ, ◌<◌, length, slice_index, List, [], ◌∷◌, false, refl, sym, arith, subst}
use Rattle.abc_fields.specs.Bytes.{begins}
use Rattle.abc_items.specs.declared.kinds.Kind.TheVariants.{Quoted, Decoration, Grace, InlineField, Chord, Tuplet, Note, Other}
use Rattle.abc_items.specs.Marks.{quotation_mark, exclamation_mark, plus_sign, opening_brace, closing_brace, opening_bracket, opening_parenthesis}
use Rattle.abc_items.specs.Marks.{sharp_sign, natural_sign, flat_sign, is_chord_byte}
use Rattle.std.specs.List.{prefix_len}
use Rattle.abc_items.specs.Inside.ItemRows.{enclosed, inline_field, chord, tuplet, note, front, or_else, first_item}

-- a text by its first byte
at_mark : (P : List ℕ → Type 0) (mark : ℕ) → ((rest : List ℕ) → P (mark ∷ rest)) → (bytes : List ℕ) → 0 < length bytes → slice_index bytes 0 ≡ mark
    → P bytes
at_mark P mark gives [] some is = absurd (omega arith)
at_mark P mark gives (byte ∷ rest) some is = subst (λ b. P (b ∷ rest)) (sym is) (gives rest)

-- EACH MARK, BEFORE ANY REST
quoted_first : (rest : List ℕ) → let text = quotation_mark ∷ rest in
    first_item text ≡ or_else Quoted (enclosed quotation_mark quotation_mark text) (front Other 1)
unfolding first_item enclosed inline_field chord tuplet note
quoted_first [] = refl
quoted_first (a ∷ []) = refl
quoted_first (a ∷ b ∷ rest) = refl

exclaimed_first : (rest : List ℕ) → let text = exclamation_mark ∷ rest in
    first_item text ≡ or_else Decoration (enclosed exclamation_mark exclamation_mark text) (front Other 1)
unfolding first_item enclosed inline_field chord tuplet note
exclaimed_first [] = refl
exclaimed_first (a ∷ []) = refl
exclaimed_first (a ∷ b ∷ rest) = refl

added_first : (rest : List ℕ) → let text = plus_sign ∷ rest in first_item text ≡ or_else Decoration (enclosed plus_sign plus_sign text) (front Other 1)
unfolding first_item enclosed inline_field chord tuplet note
added_first [] = refl
added_first (a ∷ []) = refl
added_first (a ∷ b ∷ rest) = refl

grace_first : (rest : List ℕ) → let text = opening_brace ∷ rest in first_item text ≡ or_else Grace (enclosed opening_brace closing_brace text) (front Other 1)
unfolding first_item enclosed inline_field chord tuplet note
grace_first [] = refl
grace_first (a ∷ []) = refl
grace_first (a ∷ b ∷ rest) = refl

bracket_first : (rest : List ℕ) → let text = opening_bracket ∷ rest in
    first_item text ≡ or_else InlineField (inline_field text) (or_else Chord (chord text) (front Other 1))
unfolding first_item enclosed tuplet note
bracket_first [] = refl
bracket_first (a ∷ []) = refl
bracket_first (a ∷ b ∷ rest) = refl

tuplet_first : (rest : List ℕ) → let text = opening_parenthesis ∷ rest in first_item text ≡ or_else Tuplet (tuplet text) (front Other 1)
unfolding first_item enclosed inline_field chord note
tuplet_first [] = refl
tuplet_first (a ∷ []) = refl
tuplet_first (a ∷ b ∷ rest) = refl

sharp_first : (rest : List ℕ) → let text = sharp_sign ∷ rest in first_item text ≡ or_else Note (note text) (front Other 1)
unfolding first_item enclosed inline_field chord tuplet
sharp_first [] = refl
sharp_first (a ∷ []) = refl
sharp_first (a ∷ b ∷ rest) = refl

flat_first : (rest : List ℕ) → let text = flat_sign ∷ rest in first_item text ≡ or_else Note (note text) (front Other 1)
unfolding first_item enclosed inline_field chord tuplet
flat_first [] = refl
flat_first (a ∷ []) = refl
flat_first (a ∷ b ∷ rest) = refl

natural_first : (rest : List ℕ) → let text = natural_sign ∷ rest in first_item text ≡ or_else Note (note text) (front Other 1)
unfolding first_item enclosed inline_field chord tuplet
natural_first [] = refl
natural_first (a ∷ []) = refl
natural_first (a ∷ b ∷ rest) = refl

-- EACH MARK, AT THE FRONT OF A TEXT
module _ (bytes : List ℕ) (some : 0 < length bytes) where
  pub quoted_item : slice_index bytes 0 ≡ quotation_mark → or_else Quoted (enclosed quotation_mark quotation_mark bytes) (front Other 1) ≡ first_item bytes
  quoted_item = at_mark (λ text. or_else Quoted (enclosed quotation_mark quotation_mark text) (front Other 1) ≡ first_item text) quotation_mark
      (λ rest. sym (quoted_first rest)) bytes some

  pub exclaimed_item : slice_index bytes 0 ≡ exclamation_mark
      → or_else Decoration (enclosed exclamation_mark exclamation_mark bytes) (front Other 1) ≡ first_item bytes
  exclaimed_item = at_mark (λ text. or_else Decoration (enclosed exclamation_mark exclamation_mark text) (front Other 1) ≡ first_item text) exclamation_mark
      (λ rest. sym (exclaimed_first rest)) bytes some

  pub added_item : slice_index bytes 0 ≡ plus_sign → or_else Decoration (enclosed plus_sign plus_sign bytes) (front Other 1) ≡ first_item bytes
  added_item = at_mark (λ text. or_else Decoration (enclosed plus_sign plus_sign text) (front Other 1) ≡ first_item text) plus_sign
      (λ rest. sym (added_first rest)) bytes some

  pub grace_item : slice_index bytes 0 ≡ opening_brace → or_else Grace (enclosed opening_brace closing_brace bytes) (front Other 1) ≡ first_item bytes
  grace_item = at_mark (λ text. or_else Grace (enclosed opening_brace closing_brace text) (front Other 1) ≡ first_item text) opening_brace
      (λ rest. sym (grace_first rest)) bytes some

  pub bracket_item : slice_index bytes 0 ≡ opening_bracket
      → or_else InlineField (inline_field bytes) (or_else Chord (chord bytes) (front Other 1)) ≡ first_item bytes
  bracket_item = at_mark (λ text. or_else InlineField (inline_field text) (or_else Chord (chord text) (front Other 1)) ≡ first_item text) opening_bracket
      (λ rest. sym (bracket_first rest)) bytes some

  pub tuplet_item : slice_index bytes 0 ≡ opening_parenthesis → or_else Tuplet (tuplet bytes) (front Other 1) ≡ first_item bytes
  tuplet_item = at_mark (λ text. or_else Tuplet (tuplet text) (front Other 1) ≡ first_item text) opening_parenthesis
      (λ rest. sym (tuplet_first rest)) bytes some

  pub sharp_item : slice_index bytes 0 ≡ sharp_sign → or_else Note (note bytes) (front Other 1) ≡ first_item bytes
  sharp_item = at_mark (λ text. or_else Note (note text) (front Other 1) ≡ first_item text) sharp_sign (λ rest. sym (sharp_first rest)) bytes some

  pub flat_item : slice_index bytes 0 ≡ flat_sign → or_else Note (note bytes) (front Other 1) ≡ first_item bytes
  flat_item = at_mark (λ text. or_else Note (note text) (front Other 1) ≡ first_item text) flat_sign (λ rest. sym (flat_first rest)) bytes some

  pub natural_item : slice_index bytes 0 ≡ natural_sign → or_else Note (note bytes) (front Other 1) ≡ first_item bytes
  natural_item = at_mark (λ text. or_else Note (note text) (front Other 1) ≡ first_item text) natural_sign (λ rest. sym (natural_first rest)) bytes some

-- a text that begins with no byte of a chord has none at its front
pub no_chord_bytes : (text : List ℕ) → begins is_chord_byte text ≡ false → prefix_len is_chord_byte text ≡ 0
no_chord_bytes [] none = refl
no_chord_bytes (byte ∷ rest) none = rw none refl
