-- What is known of tunes that were seen, and of one tune more.
use Rattle.std.proofs.Common.{◌≡◌, ℕ, ℤ, Bool, true, false, cond, List, [], ◌∷◌, ◌++◌, map, Option, Some, None, Result, Ok, Err}
use Rattle.std.proofs.Common.{refl, sym, ap, ◌∙◌, subst, append-nil, append_assoc}
use Rattle.std.specs.Prelude.{option_map, if◌then◌else◌, String, string_bytes, OnOk}
use Rattle.std.specs.BTreeMap.{BTreeMap, get}
use Rattle.std.specs.Cmp.{both_tied}
use Rattle.std.specs.Cmp.Lexicographic.{slice_cmp, lists_ties, texts_ties}
use Rattle.std.specs.Global.{Global, Vec}
use Rattle.std.specs.List.{find}
use Rattle.std.specs.Option.{option_map_or, option_or}
use Rattle.std.specs.Ordering.{int_cmp, nat_cmp, is_eq}
use Rattle.std.specs.Str.{bytes_eq}
use Rattle.tune_incipit.specs.Incipits.{incipit_of, tune_notes}
use Rattle.tune_store.specs.Labels.{labels_of, numbers_of, LabelsRise}
use Rattle.tune_store.specs.Questions.{row_of}
use Rattle.tune_store.specs.State.{State}
use Rattle.tune_store.specs.declared.catalog.Label.{Label}
use Rattle.tune_store.specs.declared.index_rows.IndexRow.{IndexRow}
use Rattle.tune_store.specs.declared.tune.Tune.{Tune}
use Rattle.tune_store.specs.declared.command.Refusal.{Refusal}
use Rattle.desk_lists.specs.declared.twins.TwinRow.{TwinRow}
use Rattle.desk_questions.specs.SameTunes.{TitledOpening, are_same, first_number, opening_of, rows_behind, rows_under, same_opening}
use Rattle.desk_questions.specs.SameTunes.{same_text, titled_opening, twins, twins_behind}
use Rattle.desk_questions.specs.Told.{tunes_at}
use Rattle.desk_questions.specs.Inside.SeenTunes.{HasSeen, as_opening, opening_order, text_order, AreTwinsAt}
use Rattle.desk_questions.specs.declared.same_tunes.SeenTunes.{SeenTunes}
use Rattle.desk_questions.proofs.FoundLemmas.{rises_of}
use Rattle.desk_questions.proofs.TuneLemmas.{at_own, all_in}

-- THE FIRST NUMBER
-- of one tune more
pub first_more : (passes : Tune → Bool) (tunes : List Tune) (tune : Tune)
    → first_number passes (tunes ++ tune ∷ []) ≡ option_or (first_number passes tunes) (if passes tune then Some tune.number else None)
first_more passes [] tune = by (passes tune)
  where
    by : (b : Bool) → option_map (λ (one : Tune). one.number) (cond b (Some tune) None) ≡ (if b then Some tune.number else None)
    by true = refl
    by false = refl
first_more passes (first ∷ tunes) tune = by (passes first) (first_more passes tunes tune)
  where
    by : (b : Bool) → first_number passes (tunes ++ tune ∷ []) ≡ option_or (first_number passes tunes) (if passes tune then Some tune.number else None)
        → option_map (λ (one : Tune). one.number) (cond b (Some first) (find passes (tunes ++ tune ∷ [])))
        ≡ option_or (option_map (λ (one : Tune). one.number) (cond b (Some first) (find passes tunes))) (if passes tune then Some tune.number else None)
    by true more = refl
    by false more = more

first_none : (tunes : List Tune) → first_number (λ tune. false) tunes ≡ None
first_none [] = refl
first_none (tune ∷ tunes) = first_none tunes

-- KEYS
-- equal keys are equal texts, and equal openings
pub same_key : (text : Vec ℕ) (key : Vec ℕ) → is_eq (text_order text key) ≡ bytes_eq text.items key.items
same_key text key = sym (texts_ties text.items key.items)

pub same_own : (key own : Vec ℤ × String Global) → is_eq (opening_order key own) ≡ are_same (Some (as_opening key)) (Some (as_opening own))
same_own key own =
    sym (both_tied _ _ (slice_cmp int_cmp key.0.items own.0.items) (slice_cmp nat_cmp (string_bytes key.1) (string_bytes own.1))
    (lists_ties int_cmp (λ x y. refl) key.0.items own.0.items) (texts_ties (string_bytes key.1) (string_bytes own.1)))

pub same_some : (key : Vec ℤ × String Global) (own : Option (Vec ℤ × String Global)) (opening : Option TitledOpening) → option_map as_opening own ≡ opening
    → option_map_or (λ one. is_eq (opening_order key one)) own false ≡ are_same (Some (as_opening key)) opening
same_some key None opening e = ap (are_same (Some (as_opening key))) e
same_some key (Some own) opening e = same_own key own ∙ ap (are_same (Some (as_opening key))) e

-- ONE TUNE MORE
pub texts_more : (tunes : List Tune) (tune : Tune) (old new : BTreeMap (Vec ℕ) ℕ) (key : Vec ℕ) → key.items ≡ tune.text
    → ((text : Vec ℕ) → get text_order old text ≡ first_number (λ other. bytes_eq text.items other.text) tunes)
    → ((text : Vec ℕ) → get text_order new text ≡ option_or (get text_order old text) (if is_eq (text_order text key) then Some tune.number else None))
    → (text : Vec ℕ) → get text_order new text ≡ first_number (λ other. bytes_eq text.items other.text) (tunes ++ tune ∷ [])
texts_more tunes tune old new key is was put text =
    put text ∙ ap (λ first. option_or first (if is_eq (text_order text key) then Some tune.number else None)) (was text)
    ∙ ap (λ b. option_or (first_number (λ other. bytes_eq text.items other.text) tunes) (if b then Some tune.number else None))
    (same_key text key ∙ ap (bytes_eq text.items) is)
    ∙ sym (first_more (λ other. bytes_eq text.items other.text) tunes tune)

pub openings_more : (tunes : List Tune) (tune : Tune) (old new : BTreeMap (Vec ℤ × String Global) ℕ) (own : Option (Vec ℤ × String Global))
    → option_map as_opening own ≡ opening_of tune
    → ((key : Vec ℤ × String Global) → get opening_order old key ≡ first_number (λ other. are_same (Some (as_opening key)) (opening_of other)) tunes)
    → ((key : Vec ℤ × String Global) → get opening_order new key
    ≡ option_or (get opening_order old key) (if option_map_or (λ one. is_eq (opening_order key one)) own false then Some tune.number else None))
    → (key : Vec ℤ × String Global) → get opening_order new key
    ≡ first_number (λ other. are_same (Some (as_opening key)) (opening_of other)) (tunes ++ tune ∷ [])
openings_more tunes tune old new own is was put key =
    put key
    ∙ ap (λ first. option_or first (if option_map_or (λ one. is_eq (opening_order key one)) own false then Some tune.number else None)) (was key)
    ∙ ap (λ b. option_or (first_number (λ other. are_same (Some (as_opening key)) (opening_of other)) tunes) (if b then Some tune.number else None))
    (same_some key own (opening_of tune) is)
    ∙ sym (first_more (λ other. are_same (Some (as_opening key)) (opening_of other)) tunes tune)

-- the first at the text of a tune, and at its opening
pub by_text_is : (tunes : List Tune) (tune : Tune) (old : BTreeMap (Vec ℕ) ℕ) (key : Vec ℕ) → key.items ≡ tune.text
    → ((text : Vec ℕ) → get text_order old text ≡ first_number (λ other. bytes_eq text.items other.text) tunes)
    → get text_order old key ≡ first_number (same_text tune) tunes
by_text_is tunes tune old key is was = was key ∙ ap (λ text. first_number (λ other. bytes_eq text other.text) tunes) is

pub by_opening_is : (tunes : List Tune) (tune : Tune) (old : BTreeMap (Vec ℤ × String Global) ℕ) (own : Option (Vec ℤ × String Global))
    → option_map as_opening own ≡ opening_of tune
    → ((key : Vec ℤ × String Global) → get opening_order old key ≡ first_number (λ other. are_same (Some (as_opening key)) (opening_of other)) tunes)
    → option_map_or (get opening_order old) own None ≡ first_number (same_opening tune) tunes
by_opening_is tunes tune old None is was =
    sym (first_none tunes) ∙ ap (λ opening. first_number (λ other. are_same opening (opening_of other)) tunes) is
by_opening_is tunes tune old (Some key) is was =
    was key ∙ ap (λ opening. first_number (λ other. are_same opening (opening_of other)) tunes) is

-- ROWS
behind_more : (before tunes : List Tune) (tune : Tune)
    → twins_behind before (tunes ++ tune ∷ []) ≡ twins_behind before tunes ++ rows_behind (before ++ tunes) tune
behind_more before [] tune = append-nil (rows_behind before tune) ∙ ap (λ some. rows_behind some tune) (sym (append-nil before))
behind_more before (first ∷ tunes) tune =
    ap (λ rows. rows_behind before first ++ rows) (behind_more (before ++ first ∷ []) tunes tune
    ∙ ap (λ some. twins_behind (before ++ first ∷ []) tunes ++ rows_behind some tune) (append_assoc before (first ∷ []) tunes))
    ∙ sym (append_assoc (rows_behind before first) (twins_behind (before ++ first ∷ []) tunes) (rows_behind (before ++ (first ∷ tunes)) tune))

pub twins_more : (tunes : List Tune) (tune : Tune) → twins (tunes ++ tune ∷ []) ≡ twins tunes ++ rows_behind tunes tune
twins_more tunes tune = behind_more [] tunes tune

-- all that is known
pub seen_more : (tunes : List Tune) (tune : Tune) (old new : SeenTunes) (row : IndexRow) (key : Vec ℕ) (own : Option (Vec ℤ × String Global))
    (by_text by_opening : Option ℕ) → HasSeen tunes old → row ≡ row_of tune → key.items ≡ tune.text
    → option_map as_opening own ≡ titled_opening (incipit_of 12 (tune_notes tune.text)) row.title
    → by_text ≡ get text_order old.texts key
    → ((text : Vec ℕ) → get text_order new.texts text
    ≡ option_or (get text_order old.texts text) (if is_eq (text_order text key) then Some tune.number else None))
    → by_opening ≡ option_map_or (get opening_order old.openings) own None
    → ((key : Vec ℤ × String Global) → get opening_order new.openings key
    ≡ option_or (get opening_order old.openings key) (if option_map_or (λ one. is_eq (opening_order key one)) own false then Some tune.number else None))
    → new.rows.items ≡ old.rows.items ++ rows_under row by_text by_opening → HasSeen (tunes ++ tune ∷ []) new
seen_more tunes tune old new row key own by_text by_opening have row_is key_is own_is text_is text_put opening_is opening_put rows_are =
    let opening : option_map as_opening own ≡ opening_of tune =
    own_is ∙ ap (λ (one : IndexRow). titled_opening (incipit_of 12 (tune_notes tune.text)) one.title) row_is in
    record {
      texts = texts_more tunes tune old.texts new.texts key key_is have.texts text_put;
      openings = openings_more tunes tune old.openings new.openings own opening have.openings opening_put;
      rows = rows_are
          ∙ ap (λ rows. rows ++ rows_under row by_text by_opening) have.rows
          ∙ ap (λ one. twins tunes ++ rows_under one by_text by_opening) row_is
          ∙ ap (λ first. twins tunes ++ rows_under (row_of tune) first by_opening) (text_is ∙ by_text_is tunes tune old.texts key key_is have.texts)
          ∙ ap (λ first. twins tunes ++ rows_under (row_of tune) (first_number (same_text tune) tunes) first)
          (opening_is ∙ by_opening_is tunes tune old.openings own opening have.openings)
          ∙ sym (twins_more tunes tune);
    }

-- what comes of a success comes of it
pub on_ok : {T E : Type 0} {P Q : Type 0} (result : Result T E) → (P → Q) → OnOk result P → OnOk result Q
on_ok (Ok value) more p = more p
on_ok (Err error) more p = tt

-- ALL TUNES
-- where the labels are those of the tunes, their numbers are those of all tunes
pub all_at : (labels : List Label) (state : State) (numbers : List ℕ) → LabelsRise 0 labels → numbers ≡ numbers_of labels → labels ≡ labels_of state.tunes
    → tunes_at numbers state.tunes ≡ Ok state.tunes
all_at labels state numbers rise e same =
    ap (λ some. tunes_at some state.tunes) (e ∙ ap numbers_of same ∙ numbers_same state.tunes)
    ∙ at_own state.tunes state.tunes (all_in 0 state.tunes (rises_of 0 state.tunes (subst (LabelsRise 0) same rise)))
  where
    numbers_same : (tunes : List Tune) → numbers_of (labels_of tunes) ≡ map (λ (tune : Tune). tune.number) tunes
    numbers_same [] = refl
    numbers_same (tune ∷ tunes) = ap (λ numbers. tune.number ∷ numbers) (numbers_same tunes)

-- so the rows are those of all tunes
pub all_twins : (state : State) (numbers : List ℕ) (rows : List TwinRow) → tunes_at numbers state.tunes ≡ Ok state.tunes → AreTwinsAt numbers state rows
    → rows ≡ twins state.tunes
all_twins state numbers rows all are =
    let own : Ok are.tunes ≡ Ok state.tunes = sym are.at ∙ all in
    let same : are.tunes ≡ state.tunes = cc in
    are.are ∙ ap twins same

-- and none of them is refused
pub never_unknown : (state : State) (numbers : List ℕ) (refusal : Refusal) → tunes_at numbers state.tunes ≡ Ok state.tunes
    → tunes_at numbers state.tunes ≡ Err refusal → ⊥
never_unknown state numbers refusal all refused = let no : Ok state.tunes ≡ Err refusal = sym all ∙ refused in cc
