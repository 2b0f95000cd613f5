-- How a line adds to what a header says.
use Rattle.std.proofs.Common.{◌≡◌, ℕ, zero, suc, ◌≤◌, true, false, List, [], ◌∷◌, ◌++◌, length, map, take, Option, None, Some, refl, ap, sym, ◌∙◌, arith}
use Rattle.std.proofs.Common.{inl, ⊎_elim}
use Rattle.std.specs.Prelude.{slice_get}
use Rattle.std.specs.List.{filter, AllByRecursion}
use Rattle.std.specs.Option.{option_or}
use Rattle.std.proofs.lemmas.Bool.{cases_Bool}
use Rattle.std.proofs.lemmas.List.{append-nil, append_assoc, take_all, take-append-le, map-append}
use Rattle.std.proofs.lemmas.List.Elements.{filter-append}
use Rattle.abc_fields.specs.Bytes.{line_feed, begins_with}
use Rattle.abc_fields.specs.Tunes.{is_key_line, has_key, joined, IsTuneLine, IsTuneText}
use Rattle.abc_fields.specs.Lines.{lines_of}
use Rattle.abc_fields.proofs.LineLaw.{pieces_of_line}
use Rattle.abc_fields.specs.Values.{field_value}
use Rattle.abc_fields.specs.Fields.{header_of, values_of, has_bytes, non_empty, non_empty_values, first_key, key_text_of, HeaderEndsWithKey}

-- the first titles of enough are those
pub enough_titles : (n : ℕ) (titles more : List (List ℕ)) → length titles ≡ n → titles ≡ take n (titles ++ more)
enough_titles n titles more full = sym (take-append-le n titles more (omega arith) ∙ take_all n titles (omega arith))

-- the first titles of few are all
pub few_titles : (n : ℕ) (titles : List (List ℕ)) → length titles ≤ n → titles ≡ take n (titles ++ [])
few_titles n titles few = sym (ap (take n) (append-nil titles) ∙ take_all n titles few)

-- an empty value is no title
pub few_titles-empty : (n : ℕ) (titles : List (List ℕ)) (value : List ℕ) → length titles ≤ n → length value ≡ 0
    → titles ≡ take n (titles ++ non_empty (value ∷ []))
few_titles-empty n titles [] few empty = few_titles n titles few
few_titles-empty n titles (byte ∷ value) few empty = absurd (omega arith)

-- no more are taken than that
pub few_taken : (n : ℕ) (titles : List (List ℕ)) → length (take n titles) ≤ n
few_taken zero titles = omega arith
few_taken (suc n) [] = omega arith
few_taken (suc n) (x ∷ titles) = let later = few_taken n titles in omega (arith, later)

take_taken : (n : ℕ) (xs ys : List (List ℕ)) → take n (take n xs ++ ys) ≡ take n (xs ++ ys)
take_taken zero xs ys = refl
take_taken (suc n) [] ys = refl
take_taken (suc n) (x ∷ xs) ys = ap (λ l. x ∷ l) (take_taken n xs ys)

-- the values of lines are those of the first lines and then those of the others
non_empty_values-append : (name : List ℕ) (lines more : List (List ℕ))
    → non_empty_values name (lines ++ more) ≡ non_empty_values name lines ++ non_empty_values name more
non_empty_values-append name lines more =
    ap (λ l. non_empty (map field_value l)) (filter-append (λ line. begins_with line name) lines more)
    ∙ ap non_empty (map-append field_value (filter (λ line. begins_with line name) lines) (filter (λ line. begins_with line name) more))
    ∙ filter-append has_bytes (values_of name lines) (values_of name more)

-- the first titles go on with a line
pub titles_step : (n : ℕ) (titles : List (List ℕ)) (name line : List ℕ) (lines : List (List ℕ))
    → take n (take n (titles ++ non_empty_values name (line ∷ [])) ++ non_empty_values name lines) ≡ take n (titles ++ non_empty_values name (line ∷ lines))
titles_step n titles name line lines =
    take_taken n (titles ++ non_empty_values name (line ∷ [])) (non_empty_values name lines)
    ∙ ap (take n) (append_assoc titles (non_empty_values name (line ∷ [])) (non_empty_values name lines)
    ∙ ap (λ l. titles ++ l) (sym (non_empty_values-append name (line ∷ []) lines)))

first-append : (xs ys : List (List ℕ)) → slice_get (xs ++ ys) 0 ≡ option_or (slice_get xs 0) (slice_get ys 0)
first-append [] ys = refl
first-append (x ∷ xs) ys = refl

or_assoc : (a b c : Option (List ℕ)) → option_or (option_or a b) c ≡ option_or a (option_or b c)
or_assoc None b c = refl
or_assoc (Some x) b c = refl

-- the first value goes on with a line
pub first_step : (so_far : Option (List ℕ)) (name line : List ℕ) (lines : List (List ℕ))
    → option_or (option_or so_far (slice_get (non_empty_values name (line ∷ [])) 0)) (slice_get (non_empty_values name lines) 0)
    ≡ option_or so_far (slice_get (non_empty_values name (line ∷ lines)) 0)
first_step so_far name line lines =
    or_assoc so_far (slice_get (non_empty_values name (line ∷ [])) 0) (slice_get (non_empty_values name lines) 0)
    ∙ ap (option_or so_far)
    (sym (ap (λ l. slice_get l 0) (non_empty_values-append name (line ∷ []) lines)
    ∙ first-append (non_empty_values name (line ∷ [])) (non_empty_values name lines)))

-- a line that does not give the key stands in the header, before the header of the later lines
pub header_more : (line : List ℕ) (lines : List (List ℕ)) → is_key_line line ≡ false → header_of (line ∷ lines) ≡ line ∷ header_of lines
header_more line lines other = rw other refl

-- such a line has no value of a key
pub key_later : (line : List ℕ) (lines : List (List ℕ)) → is_key_line line ≡ false → first_key (line ∷ lines) ≡ first_key lines
key_later line lines other = rw other refl

-- the value of a line that gives the key comes first
pub key_here : (line : List ℕ) (lines : List (List ℕ)) → is_key_line line ≡ true → first_key (line ∷ lines) ≡ field_value line
key_here line lines is = rw is refl

-- where a line gives the key, the header ends with the first such line
pub header_ends : (lines : List (List ℕ)) → has_key lines ≡ true → HeaderEndsWithKey lines (first_key lines)
header_ends [] keyed = cc
header_ends (line ∷ lines) keyed = ⊎_elim
    (λ is. record { before = []; line = line; header = rw is refl; none_before = refl; gives_key = is; value = sym (key_here line lines is) })
    (λ other.
    let later = header_ends lines (rw other at keyed) in
    record {
      before = line ∷ later.before;
      line = later.line;
      header = ap (λ ls. line ∷ ls) later.header ∙ sym (header_more line lines other);
      none_before = rw other later.none_before;
      gives_key = later.gives_key;
      value = later.value ∙ sym (key_later line lines other);
    })
    (cases_Bool (is_key_line line))

-- the lines that a tune text is made of are its lines
lines_of-joined : (lines : List (List ℕ)) → AllByRecursion IsTuneLine lines → lines_of (joined lines) ≡ lines
lines_of-joined [] each = refl
lines_of-joined (line ∷ lines) each =
    ap lines_of (append_assoc line (line_feed ∷ []) (joined lines))
    ∙ ap (map (λ p. p.content)) (pieces_of_line line (line_feed ∷ []) (joined lines) each.0.plain (inl refl))
    ∙ ap (λ ls. line ∷ ls) (lines_of-joined lines each.1)

-- the header of a tune text ends with a line that gives the key
pub tune_key : (text : List ℕ) → IsTuneText text → HeaderEndsWithKey (lines_of text) (key_text_of text)
tune_key text is = header_ends (lines_of text) (ap has_key (sym (ap lines_of is.whole) ∙ lines_of-joined is.lines is.each) ∙ is.key)
