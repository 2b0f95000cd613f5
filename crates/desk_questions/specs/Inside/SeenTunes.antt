-- What is known of tunes that were seen.
use Rattle.std.specs.Prelude.{◌≡◌, ℕ, ℤ, List, Some, String, string_bytes, Ok}
use Rattle.std.specs.BTreeMap.{get}
use Rattle.std.specs.Cmp.Lexicographic.{slice_cmp}
use Rattle.std.specs.Global.{Global, Vec}
use Rattle.std.specs.Ordering.{int_cmp, nat_cmp, ordering_then}
use Rattle.std.specs.Str.{bytes_eq}
use Rattle.std.specs.declared.cmp.Ordering.{Ordering}
use Rattle.tune_store.specs.State.{State}
use Rattle.tune_store.specs.declared.tune.Tune.{Tune}
use Rattle.desk_lists.specs.declared.twins.TwinRow.{TwinRow}
use Rattle.desk_questions.specs.SameTunes.{TitledOpening, are_same, first_number, opening_of, twins}
use Rattle.desk_questions.specs.Told.{tunes_at}
use Rattle.desk_questions.specs.declared.same_tunes.SeenTunes.{SeenTunes}

-- the opening that a key stands for
abbrev pub as_opening : Vec ℤ × String Global → TitledOpening
as_opening key = record { steps = key.0.items; title = string_bytes key.1 }

-- the orders of keys
abbrev pub text_order : Vec ℕ → Vec ℕ → Ordering
text_order text other = slice_cmp nat_cmp text.items other.items

abbrev pub opening_order : Vec ℤ × String Global → Vec ℤ × String Global → Ordering
opening_order key other = ordering_then (slice_cmp int_cmp key.0.items other.0.items)
    (slice_cmp nat_cmp (string_bytes key.1) (string_bytes other.1))

-- these tunes were seen: the first of them at each text and at each opening is known, and the rows
-- of those that are there twice
pub record HasSeen (tunes : List Tune) (seen : SeenTunes) : Type 0 where
  pub texts : (text : Vec ℕ) → get text_order seen.texts text
      ≡ first_number (λ other. bytes_eq text.items other.text) tunes
  pub openings : (key : Vec ℤ × String Global) → get opening_order seen.openings key
      ≡ first_number (λ other. are_same (Some (as_opening key)) (opening_of other)) tunes
  pub rows : seen.rows.items ≡ twins tunes

-- the tunes of these numbers were seen
pub record AreSeen (numbers : List ℕ) (state : State) (seen : SeenTunes) : Type 0 where
  pub tunes : List Tune
  pub at : tunes_at numbers state.tunes ≡ Ok tunes
  pub have : HasSeen tunes seen

-- the rows of those of the tunes of these numbers that are there twice
pub record AreTwinsAt (numbers : List ℕ) (state : State) (rows : List TwinRow) : Type 0 where
  pub tunes : List Tune
  pub at : tunes_at numbers state.tunes ≡ Ok tunes
  pub are : rows ≡ twins tunes
