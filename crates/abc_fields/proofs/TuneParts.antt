-- The text of a tune as a part of its book.
use Rattle.std.proofs.Common.{◌≡◌, ℕ, ◌+◌, ◌≤◌, ◌<◌, ◌^◌, Bool, true, false, List, [], ◌∷◌, ◌++◌, length, take, drop, Some, refl}
use Rattle.std.proofs.Common.{ap, sym, ◌∙◌, subst, inl, arith, add-zero}
use Rattle.std.specs.List.{fold}
use Rattle.std.proofs.Math.Seq.{take-append_seam, drop-append_seam}
use Rattle.std.proofs.lemmas.List.{append_assoc, append-nil, length-append}
use Rattle.std.proofs.lemmas.List.Sums.{fold-append}
use Rattle.std.proofs.lemmas.Bool.{cond_both, or_parts, or_from}
use Rattle.abc_fields.specs.Bytes.{line_feed}
use Rattle.abc_fields.specs.Lines.{pieces_of, lines_of, spans_from, spans_of}
use Rattle.abc_fields.specs.Limits.{longest_tune}
use Rattle.abc_fields.specs.LineKinds.{in_part_after, part_open_after}
use Rattle.abc_fields.specs.Tunes.{is_key_line, ends_tune, tune_run, joined, has_key}
use Rattle.abc_fields.specs.FileHeaders.{before_key}
use Rattle.abc_fields.specs.Inside.LinesLeft.{AreRead, IsRestAfter, HasLines}
use Rattle.abc_fields.specs.Inside.HeaderEnds.{key_place, IsBefore, IsKeyRead}
use Rattle.abc_fields.specs.Inside.ToldLines.{AreTold, IsTold, IsToldOf, spans_at}
use Rattle.abc_fields.specs.declared.key_place.KeyPlace.{KeyPlace}
use Rattle.abc_fields.specs.declared.told_lines.ToldLines.{ToldLines}
use Rattle.abc_fields.proofs.BookLemmas.{AllPlain, lines_plain}
use Rattle.abc_fields.proofs.LineLaw.{pieces_of_line}
use Rattle.abc_fields.proofs.RuleSums.{joined-append, joined-length}
use Rattle.abc_fields.proofs.StoredLaw.{line_first}
use Rattle.abc_fields.proofs.TuneLemmas.{rest_more, rest_none, run_more}

-- READING
pub read_none : (all : List (List ℕ)) → AreRead all [] all
read_none all = record { whole = refl; run = refl; rest = rest_none all }

-- one line more was read
pub read_more : (all gone old : List (List ℕ)) (line : List ℕ) (new : List (List ℕ)) → AreRead all gone old → old ≡ line ∷ new → ends_tune line ≡ false
    → AreRead all (gone ++ line ∷ []) new
read_more all gone old line new is step within = record {
  whole = append_assoc gone (line ∷ []) new ∙ ap (λ ls. gone ++ ls) (sym step) ∙ is.whole;
  run = append_assoc gone (line ∷ []) (tune_run new) ∙ ap (λ ls. gone ++ ls) (sym (run_more old line new step within)) ∙ is.run;
  rest = rest_more all old line new is.rest step within;
}

-- all lines of the tune were read
pub read_all : (all gone new : List (List ℕ)) → AreRead all gone new → tune_run new ≡ [] → AreRead all (tune_run all) new
read_all all gone new is none =
    let same : gone ≡ tune_run all = sym (append-nil gone) ∙ ap (λ ls. gone ++ ls) (sym none) ∙ is.run in
    subst (λ ls. AreRead all ls new) same is

rest_after : (a b c : List (List ℕ)) → IsRestAfter a b → IsRestAfter b c → IsRestAfter a c
rest_after a b c first second = record {
  runs = second.runs ∙ first.runs;
  fewer = omega (arith, first.fewer, second.fewer);
  shorter = omega (arith, first.shorter, second.shorter);
}

-- lines were read after others
pub read_after : (all gone middle more new : List (List ℕ)) → AreRead all gone middle → AreRead middle more new → AreRead all (gone ++ more) new
read_after all gone middle more new first second = record {
  whole = append_assoc gone more new ∙ ap (λ ls. gone ++ ls) second.whole ∙ first.whole;
  run = append_assoc gone more (tune_run new) ∙ ap (λ ls. gone ++ ls) second.run ∙ first.run;
  rest = rest_after all middle new first.rest second.rest;
}

-- BEFORE THE KEY
-- the lines of a tune before its key, so far
pub record IsHeaderOpen (all new : List (List ℕ)) (place : KeyPlace) : Type 0 where
  pub before : List (List ℕ)
  pub read : AreRead all before new
  pub above : IsBefore before place

pub header_none : (all : List (List ℕ)) → IsHeaderOpen all all (record { from = 0; in_part = false })
header_none all = record { before = []; read = read_none all; above = record { none = refl; from = refl; part = refl } }

none_more : (before : List (List ℕ)) (line : List ℕ) → has_key before ≡ false → is_key_line line ≡ false → has_key (before ++ line ∷ []) ≡ false
none_more [] line none other = or_from (is_key_line line) false other refl
none_more (first ∷ before) line none other =
    let parts = or_parts (is_key_line first) (has_key before) none in
    or_from (is_key_line first) (has_key (before ++ line ∷ [])) parts.0 (none_more before line parts.1 other)

joined_more : (before : List (List ℕ)) (line : List ℕ) → length (joined (before ++ line ∷ [])) ≡ length (joined before) + (length line + 1)
joined_more before line = omega (
  arith,
  ap length (joined-append before (line ∷ [])),
  length-append (joined before) (joined (line ∷ [])),
  joined-length line [],
)

pub header_more : (all old : List (List ℕ)) (line : List ℕ) (new : List (List ℕ)) (from : ℕ) (inside : Bool)
    → IsHeaderOpen all old (record { from = from; in_part = inside }) → old ≡ line ∷ new → ends_tune line ≡ false → is_key_line line ≡ false
    → IsHeaderOpen all new (record { from = from + (length line + 1); in_part = in_part_after inside line })
header_more all old line new from inside is step within other = record {
  before = is.before ++ line ∷ [];
  read = read_more all is.before old line new is.read step within;
  above = record {
    none = none_more is.before line is.above.none other;
    from = omega (arith, joined_more is.before line, is.above.from);
    part = ap (λ b. in_part_after b line) is.above.part ∙ sym (fold-append in_part_after false is.before (line ∷ []));
  };
}

-- how many bytes are left at most
pub header_room : (all old : List (List ℕ)) (line : List ℕ) (new : List (List ℕ)) (place : KeyPlace) → IsHeaderOpen all old place → old ≡ line ∷ new
    → ends_tune line ≡ false → place.from + (length line + 1) ≤ length (joined (tune_run all))
header_room all old line new place is step within = omega (
  arith,
  is.above.from,
  ap (λ ls. length (joined ls)) is.read.run,
  ap length (joined-append is.before (tune_run old)),
  length-append (joined is.before) (joined (tune_run old)),
  ap (λ ls. length (joined ls)) (run_more old line new step within),
  joined-length line (tune_run new),
)

-- and that two bytes say where the line stands
pub header_near : (all old : List (List ℕ)) (line : List ℕ) (new : List (List ℕ)) (place : KeyPlace) → IsHeaderOpen all old place → old ≡ line ∷ new
    → ends_tune line ≡ false → length (joined (tune_run all)) ≤ longest_tune → place.from + length line < 2 ^ 16
header_near all old line new place is step within short = omega (arith, header_room all old line new place is step within, short)

-- where the lines of a tune stand, from one of them on
pub spans_more : (at : ℕ) (old : List (List ℕ)) (line : List ℕ) (new : List (List ℕ)) → old ≡ line ∷ new → ends_tune line ≡ false
    → spans_at at (tune_run old) ≡ record { from = at; to = at + length line; bytes = line } ∷ spans_at (at + (length line + 1)) (tune_run new)
spans_more at old line new step within = ap (spans_at at) (run_more old line new step within)

-- the key comes
pub header_key : (all old : List (List ℕ)) (line : List ℕ) (new : List (List ℕ)) (place : KeyPlace) → IsHeaderOpen all old place → old ≡ line ∷ new
    → ends_tune line ≡ false → is_key_line line ≡ true → IsKeyRead all new place
header_key all old line new place is step within key = record {
  before = is.before;
  line = line;
  later = [];
  read = read_more all is.before old line new is.read step within;
  above = is.above;
  key = key;
}

-- and the lines after it
pub key_more : (all middle new : List (List ℕ)) (place : KeyPlace) → IsKeyRead all middle place → AreRead middle (tune_run middle) new → IsKeyRead all new place
key_more all middle new place is rest =
    let front = is.before ++ is.line ∷ is.later in
    let same : front ++ tune_run middle ≡ is.before ++ is.line ∷ (is.later ++ tune_run middle) =
    append_assoc is.before (is.line ∷ is.later) (tune_run middle) in
    record {
      before = is.before;
      line = is.line;
      later = is.later ++ tune_run middle;
      read = subst (λ ls. AreRead all ls new) same (read_after all front middle (tune_run middle) new is.read rest);
      above = is.above;
      key = is.key;
    }

-- THE PART OF THE BOOK
plain_front : (xs ys : List (List ℕ)) → AllPlain (xs ++ ys) → AllPlain xs
plain_front [] ys plain = tt
plain_front (x ∷ xs) ys plain = (plain.0, plain_front xs ys plain.1)

lines_joined : (lines : List (List ℕ)) → AllPlain lines → lines_of (joined lines) ≡ lines
lines_joined [] plain = refl
lines_joined (line ∷ lines) plain =
    ap lines_of (append_assoc line (line_feed ∷ []) (joined lines)) ∙ line_first line (joined lines) plain.0
    ∙ ap (λ ls. line ∷ ls) (lines_joined lines plain.1)

-- the lines of a text up to a later place of it
pub part_lines : (text later : List ℕ) (gone : List (List ℕ)) → joined (lines_of text) ≡ text → joined (lines_of later) ≡ later
    → gone ++ lines_of later ≡ lines_of text → (n : ℕ) → n + length later ≡ length text → HasLines (take n text) gone
part_lines text later gone fed fed_later whole n size =
    let both : joined gone ++ later ≡ text = ap (λ t. joined gone ++ t) (sym fed_later) ∙ sym (joined-append gone (lines_of later)) ∙ ap joined whole ∙ fed in
    let sum : length (joined gone) ≡ n = omega (arith, size, ap length both, length-append (joined gone) later) in
    let front : take n text ≡ joined gone = ap (take n) (sym both) ∙ rw (← sum) (take-append_seam (joined gone) later) in
    let plain = plain_front gone (lines_of later) (subst AllPlain (sym whole) (lines_plain text)) in
    record { whole = sym front; lines = ap lines_of front ∙ lines_joined gone plain }

abbrev part_after : Bool → List (List ℕ) → Bool
part_after inside lines = fold in_part_after inside lines

-- where the key stands in the text of plain lines
place_after : (inside : Bool) (at : ℕ) (before : List (List ℕ)) (line : List ℕ) (later : List (List ℕ)) → AllPlain (before ++ line ∷ later)
    → has_key before ≡ false → is_key_line line ≡ true
    → key_place inside (spans_from at (pieces_of (joined (before ++ line ∷ later))))
    ≡ Some (record { from = at + length (joined before); in_part = part_after inside before })
place_after inside at [] line later plain none key =
    let first = ap pieces_of (append_assoc line (line_feed ∷ []) (joined later))
    ∙ pieces_of_line line (line_feed ∷ []) (joined later) plain.0 (inl refl) in
    ap (λ ps. key_place inside (spans_from at ps)) first ∙ rw (key, add-zero at) refl
place_after inside at (first ∷ before) line later plain none key =
    let parts = or_parts (is_key_line first) (has_key before) none in
    let rest = before ++ line ∷ later in
    let head = ap pieces_of (append_assoc first (line_feed ∷ []) (joined rest))
    ∙ pieces_of_line first (line_feed ∷ []) (joined rest) plain.0 (inl refl) in
    let sum : at + length first + 1 + length (joined before) ≡ at + length (joined (first ∷ before)) = omega (arith, joined-length first before) in
    ap (λ ps. key_place inside (spans_from at ps)) head ∙ rw parts.0
    (place_after (in_part_after inside first) (at + length first + 1) before line later plain.1 parts.1 key
    ∙ ap (λ n. Some (record { from = n; in_part = part_after (in_part_after inside first) before })) sum)

zero_add : (n : ℕ) → 0 + n ≡ n
zero_add n = omega arith

same_place : (place : KeyPlace) (from : ℕ) (inside : Bool) → place.from ≡ from → place.in_part ≡ inside
    → Some (record { from = from; in_part = inside }) ≡ Some place
same_place place from inside at part = rw (← at, ← part) refl

-- where the key stands in the part of a book that a tune is
pub key_stands : (part : List ℕ) (before : List (List ℕ)) (line : List ℕ) (later : List (List ℕ)) (place : KeyPlace)
    → HasLines part (before ++ line ∷ later) → IsBefore before place → is_key_line line ≡ true → key_place false (spans_of part) ≡ Some place
key_stands part before line later place has above key =
    let plain = subst AllPlain has.lines (lines_plain part) in
    ap (λ t. key_place false (spans_of t)) (sym has.whole) ∙ place_after false 0 before line later plain above.none key
    ∙ ap (λ n. Some (record { from = n; in_part = part_open_after before })) (zero_add (length (joined before)))
    ∙ same_place place (length (joined before)) (part_open_after before) above.from above.part

before_front : (put before : List (List ℕ)) (line : List ℕ) (later : List (List ℕ)) → has_key before ≡ false → is_key_line line ≡ true
    → before_key put (before ++ line ∷ later) ≡ before ++ (put ++ line ∷ later)
before_front put [] line later none key = rw key refl
before_front put (first ∷ before) line later none key =
    let parts = or_parts (is_key_line first) (has_key before) none in
    rw parts.0 (ap (λ ls. first ∷ ls) (before_front put before line later parts.1 key))

-- its text, with the bytes of lines put before the key
pub text_with_put : (part bytes : List ℕ) (put before : List (List ℕ)) (line : List ℕ) (later : List (List ℕ)) (place : KeyPlace)
    → HasLines part (before ++ line ∷ later) → IsBefore before place → is_key_line line ≡ true → joined put ≡ bytes
    → take place.from part ++ (bytes ++ drop place.from part) ≡ joined (before_key put (before ++ line ∷ later))
text_with_put part bytes put before line later place has above key same =
    let split : part ≡ joined before ++ joined (line ∷ later) = sym has.whole ∙ joined-append before (line ∷ later) in
    let front : take place.from part ≡ joined before =
    rw (above.from, split) (take-append_seam (joined before) (joined (line ∷ later))) in
    let back : drop place.from part ≡ joined (line ∷ later) =
    rw (above.from, split) (drop-append_seam (joined before) (joined (line ∷ later))) in
    rw (front, back, ← same) (sym (ap joined (before_front put before line later above.none key) ∙ joined-append before (put ++ line ∷ later)
    ∙ ap (λ t. joined before ++ t) (joined-append put (line ∷ later))))

-- the key stands within the part
pub key_within : (part : List ℕ) (before : List (List ℕ)) (line : List ℕ) (later : List (List ℕ)) (place : KeyPlace)
    → HasLines part (before ++ line ∷ later) → IsBefore before place → place.from ≤ length part
key_within part before line later place has above = omega (
  arith,
  above.from,
  ap length has.whole,
  ap length (joined-append before (line ∷ later)),
  length-append (joined before) (joined (line ∷ later)),
)

-- lines that are put in take no bytes away
pub put_longer : (put run : List (List ℕ)) → length (joined run) ≤ length (joined (before_key put run))
put_longer put [] = omega arith
put_longer put (line ∷ run) =
    cond_both (is_key_line line) (put ++ (line ∷ run)) (line ∷ before_key put run) (λ ls. length (joined (line ∷ run)) ≤ length (joined ls))
    (λ is. omega (arith, ap length (joined-append put (line ∷ run)), length-append (joined put) (joined (line ∷ run))))
    (λ other. omega (arith, put_longer put run, joined-length line (before_key put run), joined-length line run))

-- where the lines stand of the text of plain lines
spans_joined : (at : ℕ) (lines : List (List ℕ)) → AllPlain lines → spans_from at (pieces_of (joined lines)) ≡ spans_at at lines
spans_joined at [] plain = refl
spans_joined at (line ∷ lines) plain =
    let head = ap pieces_of (append_assoc line (line_feed ∷ []) (joined lines))
    ∙ pieces_of_line line (line_feed ∷ []) (joined lines) plain.0 (inl refl) in
    let sum : at + length line + 1 ≡ at + (length line + 1) = omega arith in
    let later = ap (λ n. spans_from n (pieces_of (joined lines))) sum ∙ spans_joined (at + (length line + 1)) lines plain.1 in
    ap (spans_from at) head ∙ ap (λ ls. record { from = at; to = at + length line; bytes = line } ∷ ls) later

-- where the lines stand in the part that give the titles, the rhythm and the key
pub told_part : (all new : List (List ℕ)) (part : List ℕ) (place : KeyPlace) (told : ToldLines) → IsKeyRead all new place → tune_run new ≡ []
    → ((gone : List (List ℕ)) → gone ++ new ≡ all → HasLines part gone) → IsToldOf (tune_run all) told → IsTold part told
told_part all new part place told is none stands told_of =
    let front = is.before ++ is.line ∷ is.later in
    let has = stands front is.read.whole in
    let run : front ≡ tune_run all = sym (append-nil front) ∙ ap (λ ls. front ++ ls) (sym none) ∙ is.read.run in
    let plain = subst AllPlain has.lines (lines_plain part) in
    let spans : spans_of part ≡ spans_at 0 (tune_run all) = ap (λ t. spans_of t) (sym has.whole) ∙ spans_joined 0 front plain ∙ ap (spans_at 0) run in
    λ few. subst (λ ls. AreTold ls told) (sym spans) (told_of few)

-- what a tune that is a part of its book comes to, with the bytes of lines put before its key
pub record IsPlaced (part bytes : List ℕ) (put run : List (List ℕ)) (place : KeyPlace) : Type 0 where
  pub within : place.from ≤ length part
  pub key : key_place false (spans_of part) ≡ Some place
  pub text : take place.from part ++ (bytes ++ drop place.from part) ≡ joined (before_key put run)

pub tune_part : (all new : List (List ℕ)) (part bytes : List ℕ) (put : List (List ℕ)) (place : KeyPlace) → IsKeyRead all new place → tune_run new ≡ []
    → ((gone : List (List ℕ)) → gone ++ new ≡ all → HasLines part gone) → joined put ≡ bytes → IsPlaced part bytes put (tune_run all) place
tune_part all new part bytes put place is none stands same =
    let front = is.before ++ is.line ∷ is.later in
    let has = stands front is.read.whole in
    let run : front ≡ tune_run all = sym (append-nil front) ∙ ap (λ ls. front ++ ls) (sym none) ∙ is.read.run in
    record {
      within = key_within part is.before is.line is.later place has is.above;
      key = key_stands part is.before is.line is.later place has is.above is.key;
      text = text_with_put part bytes put is.before is.line is.later place has is.above is.key same ∙ ap (λ ls. joined (before_key put ls)) run;
    }
