-- Items of one byte that need no search, and items that say nothing of notes.
use Rattle.std.specs.Prelude.{ℕ, ◌==◌, ◌&&◌, not, if◌then◌else◌, Bool, true, false, List, [], ◌∷◌}
use Rattle.std.specs.Prelude.{length, Option, Some, None}
use Rattle.abc_fields.specs.Bytes.{begins}
use Rattle.abc_fields.specs.Bytes.{is_one_of}
use Rattle.abc_items.specs.Marks.{quotation_mark, exclamation_mark, plus_sign, opening_brace}
use Rattle.abc_items.specs.Marks.{opening_bracket, opening_parenthesis, sharp_sign, natural_sign}
use Rattle.abc_items.specs.Marks.{flat_sign}
use Rattle.abc_items.specs.declared.kinds.Kind.{Kind}
use Rattle.abc_items.specs.declared.kinds.Kind.TheVariants as kind
use Rattle.abc_items.specs.ItemSpans.{ItemSpan}
use Rattle.abc_items.specs.ItemView.{item_span}
use Rattle.abc_items.specs.declared.items.Item.{Item}

-- the bytes that begin an item other than a letter with its octave marks, or one byte
abbrev pub longer_row_marks : List ℕ
longer_row_marks =
    quotation_mark ∷ exclamation_mark ∷ plus_sign ∷ opening_brace ∷ opening_bracket
    ∷ opening_parenthesis ∷ sharp_sign ∷ natural_sign ∷ flat_sign ∷ []

abbrev pub begins_longer_row : ℕ → Bool
begins_longer_row byte = is_one_of longer_row_marks byte

-- a byte that begins none of the longer rows
abbrev pub is_plain_byte : ℕ → Bool
is_plain_byte byte = not (begins_longer_row byte)

-- an item that is such a byte alone
abbrev pub is_plain_item : ItemSpan → Bool
is_plain_item span = begins is_plain_byte span.bytes && length span.bytes == 1

-- items of which the first is such
abbrev pub begin_plain : List ItemSpan → Bool
begin_plain [] = false
begin_plain (span ∷ spans) = is_plain_item span

-- an item, if there is one, as a list
abbrev pub item_spans_in : Option Item → List ItemSpan
item_spans_in None = []
item_spans_in (Some item) = item_span item ∷ []

-- an item that says nothing of notes: a text, a decoration, grace notes, a tuplet or another byte
abbrev pub is_aside : Kind → Bool
is_aside kind.Note = false
is_aside kind.Bar = false
is_aside kind.InlineField = false
is_aside kind.Chord = false
is_aside _ = true

-- the items from the first on that is no aside
abbrev pub past_asides : List ItemSpan → List ItemSpan
past_asides [] = []
past_asides (span ∷ spans) = if is_aside span.kind then past_asides spans else span ∷ spans
