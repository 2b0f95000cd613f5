-- What the labels of tunes tell of them, and what is decided by them.
use Rattle.std.proofs.Common.{◌≡◌, ℕ, ◌+◌, ◌-◌, ◌<◌, ◌≤◌, List, [], ◌++◌, length, get_or, Some, None, Result, Ok, Err, refl, ap, sym, ◌∙◌, arith}
use Rattle.std.proofs.Common.{map, drop, drop-cons, add-one, append_assoc, codes, ◌∷◌, zero, suc, subst}
use Rattle.std.specs.Prelude.{IfErr, slice_set}
use Rattle.std.specs.List.{remove, AllByRecursion}
use Rattle.std.proofs.lemmas.Bool.{eq-eqb, ne_eqb, lt-ltb, le-ltb}
use Rattle.std.proofs.lemmas.List.{get_or-map, length-map}
use Rattle.tune_store.specs.Limits.{most_tunes, greatest_number, greatest_revision}
use Rattle.tune_store.specs.State.{NumbersRiseFrom, greatest}
use Rattle.tune_store.specs.TuneSteps.{numbered, import_texts, replace_tune, delete_tune}
use Rattle.tune_store.specs.State.{tune_at}
use Rattle.tune_books.specs.WrittenBooks.{written_tune, written_tunes}
use Rattle.tune_store.specs.Labels.{label_of, labels_of, LabelsRise}
use Rattle.tune_store.specs.Inside.Plans.{IsOwnOrMemory}
use Rattle.tune_store.specs.declared.tune.Tune.{Tune}
use Rattle.tune_store.specs.declared.catalog.Label.{Label}
use Rattle.tune_store.specs.declared.plans.Plan.{Plan}
use Rattle.tune_store.specs.declared.command.Command.TheVariants.{Replace}
use Rattle.tune_store.specs.declared.command.Reply.TheVariants.{Imported, Replaced, Deleted}
use Rattle.tune_store.specs.declared.command.Refusal.{Refusal}
use Rattle.tune_store.specs.declared.command.Refusal.TheVariants.{Stale, Worn}
use Rattle.tune_store.proofs.StateLemmas.{greatest_last}
use Rattle.tune_store.proofs.PlaceLemmas.{tune_at-place, tune_at-none, with_tune-place, without-place}
use Rattle.tune_store.specs.declared.layout.Layout.{Layout}

-- ROWS
-- what a look-up behind the end gives
abbrev pub no_tune : Tune
no_tune = record { number = 0; revision = 0; text = [] }

abbrev pub no_label : Label
no_label = record { number = 0; revision = 0; length = 0 }

-- there are as many labels as tunes
pub labels_long : (tunes : List Tune) (labels : List Label) → labels_of tunes ≡ labels → length tunes ≡ length labels
labels_long tunes labels same = sym (length-map tunes label_of) ∙ ap length same

-- the label at a place is that of the tune there
pub label_at : (tunes : List Tune) (labels : List Label) (n : ℕ) (d : Tune) (e : Label) → labels_of tunes ≡ labels → n < length labels
    → get_or labels n e ≡ label_of (get_or tunes n d)
label_at tunes labels n d e same l =
    let many = labels_long tunes labels same in
    ap (λ (rs : List Label). get_or rs n e) (sym same) ∙ get_or-map label_of tunes n d e (omega arith)

-- a place where the label has a number
pub record IsPlaceOf (number : ℕ) (tunes : List Tune) (labels : List Label) (place : ℕ) : Type 0 where
  pub rises : NumbersRiseFrom 0 tunes
  pub same : labels_of tunes ≡ labels
  pub within : place < length labels
  pub found : (e : Label) → (get_or labels place e).number ≡ number

-- the tune there has the number
tune_number : (number : ℕ) (tunes : List Tune) (labels : List Label) (place : ℕ) → IsPlaceOf number tunes labels place
    → (get_or tunes place no_tune).number ≡ number
tune_number number tunes labels place is =
    ap (λ (r : Label). r.number) (sym (label_at tunes labels place no_tune no_label is.same is.within)) ∙ is.found no_label

-- and the label's revision
tune_revision : (number : ℕ) (tunes : List Tune) (labels : List Label) (place : ℕ) (label : Label) → IsPlaceOf number tunes labels place
    → ((e : Label) → label ≡ get_or labels place e) → (get_or tunes place no_tune).revision ≡ label.revision
tune_revision number tunes labels place label is at =
    ap (λ (r : Label). r.revision) (sym (at no_label ∙ label_at tunes labels place no_tune no_label is.same is.within))

-- it is the tune of the number
pub place_found : (number : ℕ) (tunes : List Tune) (labels : List Label) (place : ℕ) → IsPlaceOf number tunes labels place
    → tune_at number tunes ≡ Some (get_or tunes place no_tune)
place_found number tunes labels place is =
    let many = labels_long tunes labels is.same in
    let within = is.within in
    tune_at-place 0 number tunes place no_tune is.rises (omega arith) (tune_number number tunes labels place is)

-- where no label has a number there is no tune of it
pub place_none : (number : ℕ) (tunes : List Tune) (labels : List Label) → labels_of tunes ≡ labels
    → ((place : ℕ) (e : Label) → place < length labels → (get_or labels place e).number ≡ number → ⊥) → tune_at number tunes ≡ None
place_none number tunes labels same none =
    let many = labels_long tunes labels same in
    tune_at-none number tunes (λ n d l e.
    let within : n < length labels = omega arith in
    none n (label_of d) within (ap (λ (r : Label). r.number) (label_at tunes labels n d (label_of d) same within) ∙ e))

-- the last label has the greatest number
pub last_label : (tunes : List Tune) (labels : List Label) (label : Label) (len : ℕ) → NumbersRiseFrom 0 tunes → labels_of tunes ≡ labels
    → len ≡ length labels → 0 < len
    → ((e : Label) → label ≡ get_or labels (len - 1) e) → label.number ≡ greatest tunes
last_label tunes labels label len rises same count some at =
    let many = labels_long tunes labels same in
    ap (λ (r : Label). r.number) (at no_label ∙ label_at tunes labels (len - 1) no_tune no_label same (omega arith))
    ∙ sym (greatest_last 0 tunes (len - 1) no_tune rises (omega arith))

-- IMPORT
-- texts for which there is room are added
pub import_adds : (layout : Layout) (tunes : List Tune) (texts : List (List ℕ)) (first last : ℕ) → length tunes + length texts ≤ (most_tunes layout)
    → greatest tunes + length texts ≤ greatest_number → first ≡ greatest tunes + 1 → last ≡ greatest tunes + length texts
    → import_texts layout tunes texts ≡ (tunes ++ numbered first texts, Ok (Imported first last))
import_adds layout tunes texts first last room numbers is_first is_last =
    rw (is_first, is_last, le-ltb (most_tunes layout) (length tunes + length texts) room, le-ltb greatest_number (greatest tunes + length texts) numbers) refl

-- REPLACE
-- a tune of another revision
pub replace_stale : (number revision : ℕ) (text : List ℕ) (tunes : List Tune) (labels : List Label) (place : ℕ) (label : Label)
    → IsPlaceOf number tunes labels place
    → ((e : Label) → label ≡ get_or labels place e) → (label.revision ≡ revision → ⊥)
    → replace_tune tunes number revision text (tune_at number tunes) ≡ (tunes, Err (Stale label.revision))
replace_stale number revision text tunes labels place label is at other =
    rw (place_found number tunes labels place is, tune_revision number tunes labels place label is at, ne_eqb label.revision revision other) refl

-- a tune of the greatest one
pub replace_worn : (number revision : ℕ) (text : List ℕ) (tunes : List Tune) (labels : List Label) (place : ℕ) (label : Label)
    → IsPlaceOf number tunes labels place
    → ((e : Label) → label ≡ get_or labels place e) → label.revision ≡ revision → greatest_revision ≤ label.revision
    → replace_tune tunes number revision text (tune_at number tunes) ≡ (tunes, Err Worn)
replace_worn number revision text tunes labels place label is at same old =
    rw (
      place_found number tunes labels place is,
      tune_revision number tunes labels place label is at,
      eq-eqb label.revision revision same,
      le-ltb label.revision greatest_revision old,
    ) refl

-- a tune that is replaced
pub replace_puts : (number revision : ℕ) (text : List ℕ) (tunes : List Tune) (labels : List Label) (place : ℕ) (label : Label)
    → IsPlaceOf number tunes labels place
    → ((e : Label) → label ≡ get_or labels place e) → label.revision ≡ revision → label.revision < greatest_revision
    → replace_tune tunes number revision text (tune_at number tunes)
    ≡ (slice_set tunes place record { number = number; revision = label.revision + 1; text = text }, Ok (Replaced number (label.revision + 1)))
replace_puts number revision text tunes labels place label is at same young =
    let many = labels_long tunes labels is.same in
    let within = is.within in
    let new : Tune = record { number = number; revision = label.revision + 1; text = text } in
    let named = tune_number number tunes labels place is in
    let placed = with_tune-place 0 new tunes place no_tune is.rises (omega arith) named in
    rw (
      place_found number tunes labels place is,
      tune_revision number tunes labels place label is at,
      named,
      eq-eqb label.revision revision same,
      lt-ltb label.revision greatest_revision young,
    ) (ap (λ ts. (ts, Ok (Replaced number (label.revision + 1)))) placed)

-- what is refused for each book is for this one
pub names_for_book : (answer : Result Plan Refusal) (number revision : ℕ) (book : List ℕ)
    → IfErr answer (λ refusal. (any : List ℕ) → IsOwnOrMemory (Replace number revision any) refusal)
    → IfErr answer (IsOwnOrMemory (Replace number revision book))
names_for_book (Ok plan) number revision book names = tt
names_for_book (Err refusal) number revision book names = names book

-- DELETE
-- a tune that is taken out
pub delete_takes : (number : ℕ) (tunes : List Tune) (labels : List Label) (place : ℕ) → IsPlaceOf number tunes labels place
    → delete_tune tunes number None (tune_at number tunes) ≡ (remove tunes place, Ok (Deleted number))
delete_takes number tunes labels place is =
    let many = labels_long tunes labels is.same in
    let within = is.within in
    rw (place_found number tunes labels place is)
    (ap (λ ts. (ts, Ok (Deleted number))) (without-place 0 number tunes place no_tune is.rises (omega arith) (tune_number number tunes labels place is)))

-- SHOW
-- a tune is known by its label and its text
pub tune_shown : (number : ℕ) (tunes : List Tune) (labels : List Label) (place : ℕ) (label : Label) (text : List ℕ) → IsPlaceOf number tunes labels place
    → ((e : Label) → label ≡ get_or labels place e) → ((d : Tune) → text ≡ (get_or tunes place d).text)
    → tune_at number tunes ≡ Some (record { number = number; revision = label.revision; text = text })
tune_shown number tunes labels place label text is at read =
    let named = tune_number number tunes labels place is in
    let aged = tune_revision number tunes labels place label is at in
    let tune : Tune = record { number = number; revision = label.revision; text = text } in
    let same : Some (get_or tunes place no_tune) ≡ Some tune = rw (← named, ← aged, read no_tune) refl in
    place_found number tunes labels place is ∙ same

-- EXPORT
-- the tunes from a place on, as a book has them
abbrev pub written_from : ℕ → List Tune → List ℕ
written_from place tunes = written_tunes (map (λ tune. tune.number) (drop place tunes)) (map (λ tune. tune.text) (drop place tunes))

-- the tune at a place is the next
written_next : (tunes : List Tune) (place : ℕ) (d : Tune) → place < length tunes
    → written_from place tunes ≡ (codes "\n" ++ written_tune (get_or tunes place d).number (get_or tunes place d).text) ++ written_from (place + 1) tunes
written_next tunes place d l =
    let written : List Tune → List ℕ = λ ts. written_tunes (map (λ tune. tune.number) ts) (map (λ tune. tune.text) ts) in
    ap written (drop-cons tunes place d l) ∙ (rw add-one refl)

-- a book with one more tune
pub export_next : (tunes : List Tune) (labels : List Label) (place : ℕ) (label : Label) (text book next whole : List ℕ) → labels_of tunes ≡ labels
    → place < length labels
    → ((e : Label) → label ≡ get_or labels place e) → ((d : Tune) → text ≡ (get_or tunes place d).text)
    → next ≡ book ++ (codes "\n" ++ written_tune label.number text) → book ++ written_from place tunes ≡ whole
    → next ++ written_from (place + 1) tunes ≡ whole
export_next tunes labels place label text book next whole same l at read added all =
    let many = labels_long tunes labels same in
    let number : label.number ≡ (get_or tunes place no_tune).number =
    ap (λ (r : Label). r.number) (at no_label ∙ label_at tunes labels place no_tune no_label same l) in
    let one = codes "\n" ++ written_tune label.number text in
    let step : written_from place tunes ≡ one ++ written_from (place + 1) tunes =
    (rw (number, read no_tune) (written_next tunes place no_tune (omega arith))) in
    ap (λ bytes. bytes ++ written_from (place + 1) tunes) added ∙ append_assoc book one (written_from (place + 1) tunes)
    ∙ ap (λ rest. book ++ rest) (sym step)
    ∙ all

-- NUMBERS OF LABELS
-- a place where the tune has a number is one where the label has
pub label_of_number : (number : ℕ) (tunes : List Tune) (place : ℕ) (d : Label) → place < length tunes → ((e : Tune) → (get_or tunes place e).number ≡ number)
    → (get_or (labels_of tunes) place d).number ≡ number
label_of_number number tunes place d l named =
    ap (λ (r : Label). r.number) (get_or-map label_of tunes place no_tune d l) ∙ named no_tune

-- a number that no tune has is in no label
pub no_label_of_number : (number : ℕ) (tunes : List Tune) (place : ℕ) (d : Label) → ((n : ℕ) (e : Tune) → n < length tunes
    → (get_or tunes n e).number ≡ number → ⊥)
    → place < length (labels_of tunes) → (get_or (labels_of tunes) place d).number ≡ number → ⊥
no_label_of_number number tunes place d none l same =
    let many = labels_long tunes (labels_of tunes) refl in
    let within : place < length tunes = omega arith in
    none place no_tune within (ap (λ (r : Label). r.number) (sym (get_or-map label_of tunes place no_tune d within)) ∙ same)

-- a place where the label has a number is one where the tune has
pub number_of_label : (number : ℕ) (tunes : List Tune) (place : ℕ) → place < length (labels_of tunes)
    → ((d : Label) → (get_or (labels_of tunes) place d).number ≡ number) → (e : Tune) → (get_or tunes place e).number ≡ number
number_of_label number tunes place l named e = ap (λ (r : Label). r.number) (sym (label_at tunes (labels_of tunes) place e no_label refl l)) ∙ named no_label

-- LABELS THAT RISE
-- the labels of tunes whose numbers rise
pub labels_rise : (low : ℕ) (tunes : List Tune) → NumbersRiseFrom low tunes → LabelsRise low (labels_of tunes)
labels_rise low [] rises = tt
labels_rise low (tune ∷ tunes) rises = (rises.0, labels_rise tune.number tunes rises.1)

-- no number is above that of the last label
last_is_above : (low : ℕ) (labels : List Label) (n : ℕ) (d : Label) → LabelsRise low labels → n + 1 ≡ length labels
    → (low < (get_or labels n d).number) × AllByRecursion (λ label. label.number < (get_or labels n d).number + 1) labels
last_is_above low [] n d rises l = absurd (omega arith)
last_is_above low (label ∷ []) zero d rises l = (rises.0, (omega arith, tt))
last_is_above low (label ∷ []) (suc n) d rises l = absurd (omega arith)
last_is_above low (label ∷ next ∷ labels) zero d rises l = absurd (omega arith)
last_is_above low (label ∷ next ∷ labels) (suc n) d rises l =
    let later = last_is_above label.number (next ∷ labels) n d rises.1 (omega arith) in
    let first = rises.0 in
    let last = later.0 in
    (omega arith, (omega arith, later.1))

pub all_under : (labels : List Label) (label : Label) (len : ℕ) → LabelsRise 0 labels → len ≡ length labels → 0 < len
    → ((e : Label) → label ≡ get_or labels (len - 1) e) → AllByRecursion (λ other. other.number < label.number + 1) labels
all_under labels label len rises count some at =
    let P : Label → Type 0 = λ last. AllByRecursion (λ other. other.number < last.number + 1) labels in
    subst P (sym (at no_label)) (last_is_above 0 labels (len - 1) no_label rises (omega arith)).1

-- where there is no label
pub none_under : (labels : List Label) (number : ℕ) → length labels ≡ 0 → AllByRecursion (λ other. other.number < number) labels
none_under [] number none = tt
none_under (label ∷ labels) number none = absurd (omega arith)
