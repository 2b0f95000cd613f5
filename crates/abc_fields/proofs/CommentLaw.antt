-- Where the comment of a line begins.
use Rattle.std.proofs.Common.{◌≡◌, ℕ, zero, suc, ◌+◌, ◌-◌, ◌<◌, ◌≤◌, ◌⊎◌, inl, inr, Bool, true, false, not, eqb, ltb, List, [], ◌∷◌, ◌++◌, length, take, drop}
use Rattle.std.proofs.Common.{get_or, refl, ap, sym, ◌∙◌, arith, add-one, subst}
use Rattle.std.specs.Prelude.{◌==◌, ◌&&◌}
use Rattle.std.proofs.lemmas.Bool.{cond_both, eqb-true, eq-eqb, and_parts, not-true, lt-ltb, false_from_ne_true, true≢false}
use Rattle.std.proofs.lemmas.List.{append_assoc, append-nil, take_more, drop-drop, drop_all, take_all, length-drop, get_or-drop}
use Rattle.std.proofs.Math.Seq.{take-add, drop-cons}
use Rattle.abc_fields.specs.Bytes.{percent, backslash}
use Rattle.abc_fields.specs.Values.{uncommented_after, uncommented, EndsWith, BeginsWithPercent, IsUncommented}

-- whether a backslash stands directly before what follows these bytes; the flag says so of the bytes themselves
abbrev pub escapes : Bool → List ℕ → Bool
escapes escaped [] = escaped
escapes escaped (byte ∷ text) = escapes (byte == backslash) text

-- THE LAW
-- the kept bytes go up to the comment, in a line after a byte that may be a backslash
record CutAfter (escaped : Bool) (line kept : List ℕ) : Type 0 where
  rest : List ℕ
  whole : kept ++ rest ≡ line
  comment : (rest ≡ []) ⊎ (BeginsWithPercent rest × (escapes escaped kept ≡ false))
  no_earlier : (before after : List ℕ) → before ++ (percent ∷ after) ≡ kept → escapes escaped before ≡ true

none_in_nothing : (escaped : Bool) (before after : List ℕ) → before ++ (percent ∷ after) ≡ [] → escapes escaped before ≡ true
none_in_nothing escaped [] after e = cc
none_in_nothing escaped (byte ∷ before) after e = cc

-- a percent sign that begins no comment follows a backslash
percent_kept : (byte : ℕ) (escaped : Bool) → byte ≡ percent → (byte == percent && not escaped) ≡ false → escaped ≡ true
percent_kept byte true is kept = refl
percent_kept byte false is kept = absurd (true≢false (sym (rw (eq-eqb byte percent is) refl) ∙ kept))

no_earlier-more : (escaped : Bool) (byte : ℕ) (kept : List ℕ) → (byte == percent && not escaped) ≡ false
    → ((before after : List ℕ) → before ++ (percent ∷ after) ≡ kept → escapes (byte == backslash) before ≡ true)
    → (before after : List ℕ) → before ++ (percent ∷ after) ≡ byte ∷ kept → escapes escaped before ≡ true
no_earlier-more escaped byte kept keeps later [] after e = let is : byte ≡ percent = cc in percent_kept byte escaped is keeps
no_earlier-more escaped byte kept keeps later (x ∷ before) after e =
    let same : x ≡ byte = cc in
    rw same (later before after (cc))

cut : (escaped : Bool) (line : List ℕ) → CutAfter escaped line (uncommented_after escaped line)
cut escaped [] = record { rest = []; whole = refl; comment = inl refl; no_earlier = none_in_nothing escaped }
cut escaped (byte ∷ line) =
    let later = cut (byte == backslash) line in
    cond_both (byte == percent && not escaped) _ _ (λ kept. CutAfter escaped (byte ∷ line) kept)
    (λ begins.
    let parts = and_parts (eqb byte percent) (not escaped) begins in
    record {
      rest = byte ∷ line;
      whole = refl;
      comment = inr ((line, ap (λ b. b ∷ line) (sym (eqb-true byte percent parts.0))), not-true escaped parts.1);
      no_earlier = none_in_nothing escaped;
    })
    (λ keeps. record {
      rest = later.rest;
      whole = ap (λ t. byte ∷ t) later.whole;
      comment = later.comment;
      no_earlier = no_earlier-more escaped byte (uncommented_after (byte == backslash) line) keeps later.no_earlier;
    })

ends_after : (byte : ℕ) (text : List ℕ) → escapes (byte == backslash) text ≡ true → EndsWith backslash (byte ∷ text)
ends_after byte [] e = ([], ap (λ b. b ∷ []) (sym (eqb-true byte backslash e)))
ends_after byte (x ∷ text) e = let later = ends_after x text e in (byte ∷ later.0, ap (λ t. byte ∷ t) later.1)

ends : (text : List ℕ) → escapes false text ≡ true → EndsWith backslash text
ends [] e = cc
ends (byte ∷ text) e = ends_after byte text e

escapes-ended : (escaped : Bool) (start : List ℕ) → escapes escaped (start ++ backslash ∷ []) ≡ true
escapes-ended escaped [] = refl
escapes-ended escaped (byte ∷ start) = escapes-ended (byte == backslash) start

not_ended : (text : List ℕ) → escapes false text ≡ false → EndsWith backslash text → ⊥
not_ended text plain ended = true≢false (sym (escapes-ended false ended.0) ∙ ap (escapes false) ended.1 ∙ plain)

comment_law : (rest kept : List ℕ) → (rest ≡ []) ⊎ (BeginsWithPercent rest × (escapes false kept ≡ false))
    → (rest ≡ []) ⊎ (BeginsWithPercent rest × ¬ EndsWith backslash kept)
comment_law rest kept (inl none) = inl none
comment_law rest kept (inr begins) = inr (begins.0, not_ended kept begins.1)

-- a text without its comment
pub is_uncommented : (line : List ℕ) → IsUncommented line (uncommented line)
is_uncommented line =
    let law = cut false line in
    record {
      rest = law.rest;
      whole = law.whole;
      comment = comment_law law.rest (uncommented line) law.comment;
      no_earlier = λ before after e. ends before (law.no_earlier before after e);
    }

-- A READING OF A LINE
-- no byte below this index is a percent sign
abbrev pub NoPercentBelow : List ℕ → ℕ → Type 0
NoPercentBelow text n = (j : ℕ) → j < n → eqb (get_or text j 0) percent ≡ true → ⊥

-- no comment begins below this index
abbrev pub IsReadTo : List ℕ → ℕ → Type 0
IsReadTo line at = uncommented line ≡ take at line ++ uncommented_after (escapes false (take at line)) (drop at line)

escapes-append : (escaped : Bool) (a b : List ℕ) → escapes escaped (a ++ b) ≡ escapes (escapes escaped a) b
escapes-append escaped [] b = refl
escapes-append escaped (byte ∷ a) b = escapes-append (byte == backslash) a b

-- bytes before the first percent sign stay
plain_front : (escaped : Bool) (text : List ℕ) (n : ℕ) → NoPercentBelow text n
    → uncommented_after escaped text ≡ take n text ++ uncommented_after (escapes escaped (take n text)) (drop n text)
plain_front escaped text zero none = refl
plain_front escaped [] (suc n) none = refl
plain_front escaped (byte ∷ text) (suc n) none =
    rw (false_from_ne_true (eqb byte percent) (none 0 (omega arith)))
    (ap (λ t. byte ∷ t) (plain_front (byte == backslash) text n (λ j lt. none (suc j) (omega arith))))

-- what is left of a line goes up to its end
pub rest_whole : (line : List ℕ) (at : ℕ) → take (length line - at) (drop at line) ≡ drop at line
rest_whole line at = take_all (length line - at) (drop at line) (omega (arith, length-drop at line))

-- a reading goes on past bytes that are no percent signs
pub read_on : (line : List ℕ) (at n : ℕ) → IsReadTo line at → NoPercentBelow (drop at line) n → IsReadTo line (at + n)
read_on line at n read none =
    let escaped = escapes false (take at line) in
    read ∙ ap (λ t. take at line ++ t) (plain_front escaped (drop at line) n none)
    ∙ sym (append_assoc (take at line) (take n (drop at line)) _)
    ∙ rw (take-add, escapes-append, drop-drop) refl

-- a reading that has come to a percent sign
pub record IsReadToPercent (line : List ℕ) (at : ℕ) : Type 0 where
  pub read : IsReadTo line at
  pub within : at < length line
  pub is : eqb (get_or line at 0) percent ≡ true

-- a reading goes on to the first percent sign of the rest
pub read_on_to : (line rest : List ℕ) (at n : ℕ) → rest ≡ drop at line → IsReadTo line at → NoPercentBelow rest n → n < length rest
    → eqb (get_or rest n 0) percent ≡ true → IsReadToPercent line (at + n)
read_on_to line rest at n same read none within is =
    let P : List ℕ → Type 0 = λ t. NoPercentBelow t n in
    record {
      read = read_on line at n read (subst P same none);
      within = omega (arith, ap length same, length-drop at line);
      is = ap (λ b. eqb b percent) (sym (ap (λ t. get_or t n 0) same ∙ get_or-drop at line n 0)) ∙ is;
    }

-- where a reading comes to a percent sign that is not escaped, the comment begins
pub read_comment : (line : List ℕ) (at : ℕ) → IsReadToPercent line at → escapes false (take at line) ≡ false → uncommented line ≡ take at line
read_comment line at here plain =
    here.read ∙ rw (plain, drop-cons line at 0 here.within, here.is) (append-nil (take at line))

-- a reading goes on past a percent sign that is escaped
pub read_escaped : (line : List ℕ) (at : ℕ) → IsReadToPercent line at → escapes false (take at line) ≡ true → IsReadTo line (at + 1)
read_escaped line at here escaped =
    let byte = eqb-true (get_or line at 0) percent here.is in
    let front : take (at + 1) line ≡ take at line ++ percent ∷ [] = take_more line at 0 here.within ∙ ap (λ b. take at line ++ b ∷ []) byte in
    let rest : drop at line ≡ percent ∷ drop (at + 1) line = rw add-one (drop-cons line at 0 here.within ∙ ap (λ b. b ∷ drop (suc at) line) byte) in
    rw (front, escapes-append, append_assoc) (here.read ∙ rw (escaped, rest) refl)

-- a reading that comes to no further percent sign keeps the line
pub read_whole : (line rest : List ℕ) (at : ℕ) → rest ≡ drop at line → IsReadTo line at → at ≤ length line → NoPercentBelow rest (length rest)
    → uncommented line ≡ line
read_whole line rest at same read within none =
    let end : at + length (drop at line) ≡ length line = omega (arith, length-drop at line) in
    let P : ℕ → Type 0 = λ n. IsReadTo line n in
    let Q : List ℕ → Type 0 = λ t. NoPercentBelow t (length t) in
    subst P end (read_on line at (length (drop at line)) read (subst Q same none))
    ∙ rw (take_all (length line) line (omega arith), drop_all (length line) line (omega arith)) (append-nil line)

escapes_at : (escaped : Bool) (text : List ℕ) (n : ℕ) → n < length text → escapes escaped (take (suc n) text) ≡ eqb (get_or text n 0) backslash
escapes_at escaped [] n within = absurd (omega arith)
escapes_at escaped (byte ∷ text) zero within = refl
escapes_at escaped (byte ∷ text) (suc n) within = escapes_at (byte == backslash) text n (omega arith)

-- the byte before an index shows whether it is escaped
pub escaped_at : (line : List ℕ) (at : ℕ) → at < length line → (ltb 0 at && eqb (get_or line (at - 1) 0) backslash) ≡ escapes false (take at line)
escaped_at line zero within = refl
escaped_at line (suc n) within =
    let after : ltb 0 (suc n) ≡ true = lt-ltb 0 (suc n) (omega arith) in
    let before : suc n - 1 ≡ n = omega arith in
    rw (after, before) (sym (escapes_at false line n (omega arith)))
