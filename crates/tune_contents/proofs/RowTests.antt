-- Rows that are looked at one after another.
use Rattle.std.proofs.Common.{◌≡◌, ℕ, ◌<◌, ◌≤◌, List, ◌∷◌, sym, subst}
use Rattle.std.specs.List.{AllByRecursion}
use Rattle.tune_pages.specs.Stand.{Stand}
use Rattle.tune_store.specs.Limits.{greatest_number}
use Rattle.tune_store.specs.State.{IsTunes}
use Rattle.tune_store.specs.declared.layout.Layout.{Layout}
use Rattle.tune_format.specs.declared.rows.Row.{Row}
use Rattle.tune_contents.specs.Claimed.{AreRows, RowsRise}
use Rattle.tune_contents.specs.Holds.{HoldsSomeState}
use Rattle.tune_contents.specs.declared.contents.Contents.{Contents}
use Rattle.tune_contents.proofs.IndexedLemmas.{are_rows}

-- these rise from here on, and none is too great
abbrev pub RiseFrom : ℕ → List Row → Type 0
RiseFrom low rows = RowsRise low rows × AllByRecursion (λ row. row.number ≤ greatest_number) rows

-- all do exactly where those do that are left
pub record RiseSoFar (rows : List Row) (low : ℕ) (left : List Row) : Type 0 where
  pub all : RiseFrom low left → RiseFrom 0 rows
  pub these : RiseFrom 0 rows → RiseFrom low left

pub rise_turn : (rows left : List Row) (low : ℕ) (row : Row) (behind : List Row) → left ≡ row ∷ behind → low < row.number
    → row.number ≤ greatest_number → RiseSoFar rows low left → RiseSoFar rows row.number behind
rise_turn rows left low row behind at above within so = record {
  all = λ those. so.all (subst (RiseFrom low) (sym at) ((above, those.0), (within, those.1)));
  these = λ those. (let h = subst (RiseFrom low) at (so.these those) in (h.0.1, h.1.1));
}

-- the rows of an archive whose pages hold a state are such
pub some_rows : (s : Stand) (c : Contents) → HoldsSomeState s c → AreRows c.layout c.rows.items
some_rows s c (state, is, h) =
    subst (AreRows c.layout) (sym h.listed)
    (are_rows c.layout state.tunes h.filed.texts (subst (λ (layout : Layout). IsTunes layout state.tunes) (sym h.layout) is.tunes) h.filed.are_tunes)
