-- A first item of one byte, by its text.
use Rattle.std.proofs.Common.{◌≡◌, ℕ, zero, suc, ◌+◌, ◌<◌, ◌≤◌, List, [], ◌∷◌, length, take, Bool, true, false, Some, None, drop, ◌-◌, slice_index, refl, sym}
use Rattle.std.proofs.Common.{ap, ◌∙◌, arith, subst}
use Rattle.std.specs.Prelude.{◌==◌, ◌&&◌, not, if◌then◌else◌, is_some, IfSome}
use Rattle.std.specs.List.{prefix_len}
use Rattle.std.proofs.Math.Seq.{take-length}
use Rattle.std.proofs.lemmas.Bool.{true≢false}
use Rattle.std.proofs.lemmas.Bool.Decides.{nat_tests}
use Rattle.std.proofs.lemmas.List.{length-take-le}
use Rattle.std.proofs.lemmas.List.Sums.{prefix_len-le-length}
use Rattle.abc_fields.specs.Bytes.{begins}
use Rattle.abc_items.specs.declared.kinds.Front.{Front}
use Rattle.abc_items.specs.declared.kinds.Kind.TheVariants.{Note, Bar, Other}
use Rattle.abc_items.specs.Marks.{is_bar, is_octave_mark}
use Rattle.abc_items.specs.NoteFronts.{is_note_name}
use Rattle.abc_items.specs.Inside.ItemRows.{front, first_item}
use Rattle.abc_items.specs.ItemSpans.{items_of, item_spans_from}
use Rattle.abc_items.specs.Plain.{begins_longer_row, is_plain_byte, begin_plain}
use Rattle.abc_items.specs.Inside.PlainFronts.{lone_kind, plain_front, lone_row}
use Rattle.abc_items.proofs.ItemLaw.{first_item_some, items_step}
use Rattle.abc_items.proofs.PlainItems.{plain_item}

-- an item that begins with a plain byte ends within its text
plain_front_within : (byte : ℕ) (text : List ℕ) → (plain_front byte text).length ≤ length (byte ∷ text)
plain_front_within byte text = by_name (is_note_name byte) (front (lone_kind byte) 1) refl
  where
    by_name : (name : Bool) (other : Front) → other.length ≡ 1
        → (if name then front Note (1 + prefix_len is_octave_mark text) else other).length ≤ length (byte ∷ text)
    by_name true other one = omega (arith, prefix_len-le-length is_octave_mark text)
    by_name false other one = omega (arith, one)

plain_within : (byte : ℕ) (text : List ℕ) → begins_longer_row byte ≡ false → (first_item (byte ∷ text)).length ≤ length (byte ∷ text)
plain_within byte text other = subst (λ (item : Front). item.length ≤ length (byte ∷ text)) (sym (plain_item byte text other)) (plain_front_within byte text)

-- the bytes of an item are one where its length is one
one_byte : (byte n : ℕ) (text : List ℕ) → 0 < n → (begins_longer_row byte ≡ false → n ≤ length (byte ∷ text))
    → (begins is_plain_byte (take n (byte ∷ text)) && length (take n (byte ∷ text)) == 1) ≡ (is_plain_byte byte && n == 1)
one_byte byte zero text some within = absurd (omega arith)
one_byte byte (suc n) text some within = by_row (begins_longer_row byte) within
  where
    by_row : (longer : Bool) → (longer ≡ false → suc n ≤ length (byte ∷ text)) → (not longer && suc (length (take n text)) == 1) ≡ (not longer && suc n == 1)
    by_row true within = refl
    by_row false within = let more = within refl in ap (λ bytes. suc bytes == 1) (length-take-le n text (omega (arith, more)))

-- items that begin with a plain byte alone
pub plain_begins : (at : ℕ) (text : List ℕ) → begin_plain (item_spans_from at (items_of text)) ≡ (begins is_plain_byte text && (first_item text).length == 1)
plain_begins at [] = refl
plain_begins at (byte ∷ text) =
    ap (λ items. begin_plain (item_spans_from at items)) (items_step byte text)
    ∙ one_byte byte (first_item (byte ∷ text)).length text (first_item_some byte text) (plain_within byte text)

-- A BYTE BEFORE A REST
-- a byte that names a letter begins none of the longer rows
name_is_plain : (byte : ℕ) → is_note_name byte ≡ true → begins_longer_row byte ≡ false
name_is_plain byte name = grind (arith, nat_tests)

-- by what the byte is, and whether octave marks follow it
alone_by : (name longer mark bar : Bool) (marks : ℕ) (item : Front) → (name ≡ true → longer ≡ false) → (mark ≡ true → 0 < marks) → (mark ≡ false → marks ≡ 0)
    → (longer ≡ false → item ≡ (if name then front Note (1 + marks) else front (if bar then Bar else Other) 1))
    → let found = (if name then (if mark then None else Some Note) else if longer then None else Some (if bar then Bar else Other)) in
    IfSome found (λ kind. front kind 1 ≡ item) × (is_some found ≡ (not longer && item.length == 1))
alone_by true true mark bar marks item plain some none is = absurd (true≢false (plain refl))
alone_by true false true bar zero item plain some none is = absurd (omega (arith, some refl))
alone_by true false true bar (suc marks) item plain some none is =
    let more : (1 + suc marks == 1) ≡ false = grind (arith, nat_tests) in (tt, sym (ap (λ (i : Front). i.length == 1) (is refl) ∙ more))
alone_by true false false bar marks item plain some none is =
    let one : item ≡ front Note 1 = is refl ∙ ap (λ n. front Note (1 + n)) (none refl) in (sym one, sym (ap (λ (i : Front). i.length == 1) one))
alone_by false true mark bar marks item plain some none is = (tt, refl)
alone_by false false mark bar marks item plain some none is = (sym (is refl), sym (ap (λ (i : Front). i.length == 1) (is refl)))

marks_some : (rest : List ℕ) → begins is_octave_mark rest ≡ true → 0 < prefix_len is_octave_mark rest
marks_some [] some = absurd (cc)
marks_some (mark ∷ rest) some = rw some (omega arith)

marks_none : (rest : List ℕ) → begins is_octave_mark rest ≡ false → prefix_len is_octave_mark rest ≡ 0
marks_none [] none = refl
marks_none (mark ∷ rest) none = rw none refl

-- what a byte alone says of the first item
pub alone_is : (bytes : List ℕ) → 0 < length bytes
    → let found = lone_row (slice_index bytes 0) (take (length bytes - 1) (drop 1 bytes)) in
    IfSome found (λ kind. front kind 1 ≡ first_item bytes) × (is_some found ≡ (begins is_plain_byte bytes && (first_item bytes).length == 1))
alone_is [] some = absurd (omega arith)
alone_is (byte ∷ rest) some =
    let long : length (byte ∷ rest) - 1 ≡ length rest = omega arith in
    let P : List ℕ → Type 0 =
    λ r. IfSome (lone_row byte r) (λ kind. front kind 1 ≡ first_item (byte ∷ rest))
    × (is_some (lone_row byte r) ≡ (is_plain_byte byte && (first_item (byte ∷ rest)).length == 1)) in
    subst P (sym (ap (λ n. take n rest) long ∙ take-length rest))
    (alone_by (is_note_name byte) (begins_longer_row byte) (begins is_octave_mark rest) (is_bar byte) (prefix_len is_octave_mark rest)
    (first_item (byte ∷ rest))
    (name_is_plain byte) (marks_some rest) (marks_none rest) (plain_item byte rest))
