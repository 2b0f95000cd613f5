-- What an archive in a file knows of its tunes, and what it reads of them.
use Rattle.std.proofs.Common.{◌≡◌, ℕ, zero, suc, ◌<◌, ◌≤◌, List, [], ◌∷◌, ◌++◌, length, get_or, Bool, false, Result, Ok, Option, Some, None}
use Rattle.std.proofs.Common.{refl, sym, ◌∙◌, ap, subst, arith, append_assoc}
use Rattle.std.specs.Prelude.{IfSome, IfNone}
use Rattle.std.specs.List.{AllByRecursion}
use Rattle.std.proofs.Math.Seq.{get_or-append_seam}
use Rattle.tune_disk.specs.Disk.{DiskState}
use Rattle.tune_disk.specs.Stops.{LeavesOnly}
use Rattle.tune_journal.specs.Image.{StandsFor}
use Rattle.tune_pages.specs.Kept.{Kept, HonestAt, state_at}
use Rattle.tune_pages.specs.PageLooks.{LooksAt, SameKept}
use Rattle.tune_pages.specs.Stand.{Stand, HasChain}
use Rattle.tune_pages.specs.declared.fault.Fault.{Fault}
use Rattle.tune_parts.specs.Parts.{Part, HoldsParts}
use Rattle.tune_search.specs.IndexParts.{IndexParts, parts_of_index}
use Rattle.tune_search.specs.Searches.{SearchParts, parts_of_search}
use Rattle.tune_store.specs.Labels.{labels_of, LabelsRise}
use Rattle.tune_store.specs.State.{State, IsState, IsTune, IsTunes}
use Rattle.tune_store.specs.declared.catalog.Label.{Label}
use Rattle.tune_store.specs.declared.tune.Tune.{Tune}
use Rattle.tune_format.specs.Filed.{row_of_tune, rows_of_tunes, archive_parts, HoldTunes, HoldsTuneAt}
use Rattle.tune_format.specs.RootOffsets.{most_pages_of}
use Rattle.tune_format.specs.States.{state_in}
use Rattle.tune_format.specs.declared.rows.Row.{Row}
use Rattle.tune_format.proofs.ChangeLemmas.{row_at_place, has_text}
use Rattle.tune_format.proofs.TextLemmas.{tune_without, later_held, text_at, rows_count}
use Rattle.tune_contents.specs.Claimed.{RowsRise}
use Rattle.tune_contents.specs.Holds.{label_in, labels_in, HoldsContents}
use Rattle.tune_contents.specs.declared.contents.Contents.{Contents}
use Rattle.tune_archive.specs.Shelf.{Shelf, state_of, state_on}
use Rattle.tune_contents.specs.Texts.{HoldsText, HoldsSomeText}
use Rattle.tune_archive.specs.Inside.Fetching.{HasFetched, Fetches}
use Rattle.tune_archive.specs.declared.archive.Fetched.{Fetched}
use Rattle.tune_pages.specs.Edited.{stand_of}
use Rattle.tune_archive.specs.Inside.Holding.{IsShelf}

-- LABELS
-- the labels of rows rise with them
pub labels_rise : (low : ℕ) (rows : List Row) → RowsRise low rows → LabelsRise low (labels_in rows)
labels_rise low [] rises = tt
labels_rise low (row ∷ rows) rises = (rises.0, labels_rise row.number rows rises.1)

-- the label at a place is that of the row there
pub label_at : (rows : List Row) (place : ℕ) (d : Row) (e : Label) → place < length rows → get_or (labels_in rows) place e ≡ label_in (get_or rows place d)
label_at [] place d e l = absurd (omega arith)
label_at (row ∷ rows) zero d e l = refl
label_at (row ∷ rows) (suc place) d e l = label_at rows place d e (omega arith)

-- there are as many labels as rows
pub labels_count : (rows : List Row) → length (labels_in rows) ≡ length rows
labels_count [] = refl
labels_count (row ∷ rows) = omega (arith, labels_count rows)

-- the place of a label is that of a row
pub place_inside : (rows : List Row) (place : ℕ) → place < length (labels_in rows) → place < length rows
place_inside rows place l = omega (arith, labels_count rows)

-- and that of a row is one of a label
pub label_inside : (rows : List Row) (place : ℕ) → place < length rows → place < length (labels_in rows)
label_inside rows place l = omega (arith, l, labels_count rows)

-- the rows of tunes have the labels of these
labels_there : (tunes : List Tune) (texts : List Part) → HoldTunes texts tunes → labels_in (rows_of_tunes tunes texts) ≡ labels_of tunes
labels_there [] texts holds = refl
labels_there (tune ∷ tunes) [] holds = absurd (tune_without tune tunes holds)
labels_there (tune ∷ tunes) (part ∷ texts) holds =
    ap (λ l. label_in (row_of_tune tune part) ∷ l) (labels_there tunes texts (later_held part texts tune tunes holds))

pub labels_held : (s : Stand) (contents : Contents) (state : State) → HoldsContents s contents state → labels_in contents.rows.items ≡ labels_of state.tunes
labels_held s contents state holds = ap labels_in holds.listed ∙ labels_there state.tunes holds.filed.texts holds.filed.are_tunes

pub rows_held : (s : Stand) (contents : Contents) (state : State) → HoldsContents s contents state → length contents.rows.items ≡ length state.tunes
rows_held s contents state holds = ap length holds.listed ∙ rows_count state.tunes holds.filed.texts holds.filed.are_tunes

-- TEXTS
-- each of the tunes is within the limits
middle : (P : Tune → Type 0) (front : List Tune) (tune : Tune) (back : List Tune) → AllByRecursion P (front ++ tune ∷ back) → P tune
middle P [] tune back each = each.0
middle P (first ∷ front) tune back each = middle P front tune back each.1

-- the parts of an archive ahead of those of its tunes
abbrev ahead_of : IndexParts → SearchParts → Part → List Part
ahead_of numbers searches set_lists = parts_of_index numbers ++ (parts_of_search searches ++ set_lists ∷ [])

parts_apart : (numbers : IndexParts) (searches : SearchParts) (set_lists : Part) (texts : List Part)
    → archive_parts numbers searches set_lists texts ≡ ahead_of numbers searches set_lists ++ texts
parts_apart numbers searches set_lists texts =
    sym (append_assoc (parts_of_index numbers) (parts_of_search searches ++ set_lists ∷ []) texts
    ∙ ap (λ l. parts_of_index numbers ++ l) (append_assoc (parts_of_search searches) (set_lists ∷ []) texts))

-- the text of the tune at a place stands where its row says
pub text_there : (s : Stand) (contents : Contents) (state : State) (place first : ℕ) (d : Row) (e : Tune) → HoldsContents s contents state → IsState state
    → place < length contents.rows.items → first ≡ (get_or contents.rows.items place d).first
    → (revision : ℕ) × HoldsText contents.layout s first revision (get_or state.tunes place e).text
text_there s contents state place first d e holds within l is =
    let texts = holds.filed.texts in
    let tunes = state.tunes in
    let are = holds.filed.are_tunes in
    let inside : place < length tunes = omega (arith, l, rows_held s contents state holds) in
    let at : HoldsTuneAt texts tunes place = text_at texts tunes place are inside in
    let row = row_at_place texts tunes place at in
    let front = rows_of_tunes at.front at.before in
    let back = rows_of_tunes at.back at.after in
    let mine : Row = row_of_tune at.tune at.part in
    let its_row : get_or contents.rows.items place d ≡ mine = ap (λ (r : List Row). get_or r place d) (holds.listed ∙ row.0)
    ∙ ap (λ (n : ℕ). get_or (front ++ mine ∷ back) n d) (sym row.1) ∙ get_or-append_seam front mine back d in
    let its_tune : get_or tunes place e ≡ at.tune = ap (λ (ts : List Tune). get_or ts place e) at.are_tunes
    ∙ ap (λ (n : ℕ). get_or (at.front ++ at.tune ∷ at.back) n e) (sym at.is_place) ∙ get_or-append_seam at.front at.tune at.back e in
    let known : IsTunes contents.layout tunes = subst (λ layout. IsTunes layout tunes) (sym holds.layout) within.tunes in
    let each : AllByRecursion (IsTune contents.layout) (at.front ++ at.tune ∷ at.back) = subst
    (AllByRecursion (IsTune contents.layout)) at.are_tunes known.each in
    let good = middle (IsTune contents.layout) at.front at.tune at.back each in
    let bound = good.revision in
    let its_first : first ≡ at.part.first = is ∙ ap (λ (r : Row). r.first) its_row in
    let has : HasChain s at.part.first at.part.trail at.part.bytes =
    has_text s (ahead_of holds.filed.numbers holds.filed.searches holds.filed.set_lists) texts tunes place
    (subst (HoldsParts s) (parts_apart holds.filed.numbers holds.filed.searches holds.filed.set_lists texts) holds.holds) at in
    let held : HoldsText contents.layout s first at.tune.revision at.tune.text = record {
      trail = at.part.trail;
      bytes = at.part.bytes;
      has = subst (λ (n : ℕ). HasChain s n at.part.trail at.part.bytes) (sym its_first) has;
      is = record {
        written = sym at.holds;
        few = omega (arith, bound);
        good = record { tune_text = good.text; fits = good.fits };
      };
    } in
    (at.tune.revision, subst (λ (t : Tune). HoldsText contents.layout s first at.tune.revision t.text) (sym its_tune) held)

pub some_text : (s : Stand) (contents : Contents) (state : State) (place first : ℕ) (d : Row) → HoldsContents s contents state → IsState state
    → place < length contents.rows.items → first ≡ (get_or contents.rows.items place d).first → HoldsSomeText contents.layout s first
some_text s contents state place first d holds within l is =
    let e : Tune = record { number = 0; revision = 0; text = [] } in
    let there = text_there s contents state place first d e holds within l is in
    (there.0, (get_or state.tunes place e).text, there.1)

-- PLACES
-- the label at the place of a number's row has the number
pub label_found : (rows : List Row) (number : ℕ) (found : Option ℕ) → IfSome found (λ place. place < length rows)
    → IfSome found (λ place. (d : Row) → (get_or rows place d).number ≡ number)
    → IfSome found (λ place. (d : Label) → (get_or (labels_in rows) place d).number ≡ number)
label_found rows number None inside named = tt
label_found rows number (Some place) inside named = λ e.
    (let d : Row = record { number = 0; revision = 0; first = 0; length = 0 } in
    ap (λ (label : Label). label.number) (label_at rows place d e inside) ∙ named d)

-- where no row has a number, no label does
pub label_none : (rows : List Row) (number : ℕ) (found : Option ℕ) → RowsRise 0 rows
    → IfNone found (RowsRise 0 rows → (place : ℕ) (d : Row) → place < length rows → (get_or rows place d).number ≡ number → ⊥)
    → IfNone found ((place : ℕ) (d : Label) → place < length (labels_in rows) → (get_or (labels_in rows) place d).number ≡ number → ⊥)
label_none rows number (Some place) rise none = tt
label_none rows number None rise none = λ place e l is.
    (let d : Row = record { number = 0; revision = 0; first = 0; length = 0 } in
    let inside : place < length rows = omega (arith, l, labels_count rows) in
    none rise place d inside (sym (ap (λ (label : Label). label.number) (label_at rows place d e inside)) ∙ is))

-- THE ARCHIVE
module _ {D : Type 0} (honest : D → Type 0) (failures : D → ℕ) (state : D → DiskState) where
  -- what always holds of an archive holds after its pages were only looked at
  pub shelf_kept : {T : Type 0} (result : Result T Fault) (old new : Kept D) (contents : Contents) (closed : Bool) → IsShelf honest state old contents closed
      → LooksAt honest failures state result old new → SameKept honest old new → IsShelf honest state new contents closed
  shelf_kept result old new contents closed shelf looks same = record {
    rows = shelf.rows;
    marks = λ e. ap length same.used ∙ shelf.marks e;
    is_open = λ e. same.closed ∙ shelf.is_open e;
    holds = λ h e.
        (let held = shelf.holds (looks.was_honest h) e in
        let pages : new.pages ≡ old.pages = same.pages h in
        let stand : stand_of new ≡ stand_of old = λ i. record { pages = pages i; used = same.used i } in
        let its : state_on state new.disk ≡ state_on state old.disk = ap (λ (d : DiskState). state_in d.seen) (looks.same_state h) in
        record {
          holds = subst (λ (s : Stand). HoldsContents s contents (state_on state new.disk)) (sym stand)
              (subst (λ (s : State). HoldsContents (stand_of old) contents s) (sym its) held.holds);
          within = subst IsState (sym its) held.within;
          few = subst (λ (p : List (List ℕ)). length p ≤ most_pages_of (state_on state new.disk).layout) (sym pages)
              (subst (λ (s : State). length old.pages ≤ most_pages_of s.layout) (sym its) held.few);
          rest = subst (λ (p : List (List ℕ)). LeavesOnly (state_at state new.disk).now (StandsFor p)) (sym pages)
              (subst (λ (d : DiskState). LeavesOnly d.now (StandsFor old.pages)) (sym (looks.same_state h)) held.rest);
        });
  }

  -- the text of the tune at a place was asked for, and read
  pub fetches : (old new : Shelf D) (place first : ℕ) (d : Row) (last : Fetched) → IsShelf honest state old.pages old.contents old.closed
      → old.closed ≡ false → place < length old.contents.rows.items → first ≡ (get_or old.contents.rows.items place d).first
      → LooksAt {T = List ℕ} honest failures state (Ok last.text) old.pages new.pages
      → (HonestAt honest new.pages.disk → (revision : ℕ) (other : List ℕ) → HoldsText old.contents.layout (stand_of old.pages) first revision other
      → last.text ≡ other)
      → new.contents ≡ old.contents → new.closed ≡ old.closed → new.fetched ≡ Some last
      → Fetches honest failures state old new × HasFetched honest state new place
  fetches old new place first d last shelf is_open l is looks text contents closed fetched = (
    record {
      was_honest = looks.was_honest;
      same_state = looks.same_state;
      counted = looks.counted;
      contents = contents;
      closed = closed;
    },
    record {
      last = last;
      is_last = fetched;
      is = λ h e.
          (let held = shelf.holds (looks.was_honest h) is_open in
          let there = text_there (stand_of old.pages) old.contents (state_of state old) place first d e held.holds held.within l is in
          let its : state_of state new ≡ state_of state old = ap (λ (d : DiskState). state_in d.seen) (looks.same_state h) in
          text h there.0 (get_or (state_of state old).tunes place e).text there.1
          ∙ ap (λ (s : State). (get_or s.tunes place e).text) (sym its));
    },
  )
