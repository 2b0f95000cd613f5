-- What a walk over tunes, one text after another, makes of them.
use Rattle.std.proofs.Common.{◌≡◌, ℕ, ◌+◌, ◌<◌, ◌≤◌, ◌++◌, Bool, cond, List, [], ◌∷◌, length, get_or, map, drop, drop-cons, Some, None, Ok}
use Rattle.std.proofs.Common.{refl, ap, sym, ◌∙◌, add-one, append_assoc, append-nil, codes, inl, inr, arith}
use Rattle.std.proofs.Math.ListN.{drop_of_length-le}
use Rattle.std.proofs.lemmas.Bool.{cases_Bool}
use Rattle.std.proofs.lemmas.List.{map-append}
use Rattle.std.specs.List.{AllByRecursion}
use Rattle.std.specs.Str.{bytes_eq}
use Rattle.abc_fields.specs.Fields.{titles_of}
use Rattle.tune_books.specs.WrittenBooks.{written_tune, written_tunes, places_from, written_set}
use Rattle.tune_queries.specs.Queries.{matches}
use Rattle.tune_queries.specs.declared.queries.Query.{Query}
use Rattle.tune_sets.specs.Sets.{IsTuneSet}
use Rattle.tune_sets.specs.Calls.{places_of}
use Rattle.tune_sets.specs.declared.set_lists.TuneSet.{TuneSet}
use Rattle.tune_titles.specs.Order.{PlacedTitle}
use Rattle.tune_titles.specs.ShownRows.{Shown, shown_row}
use Rattle.tune_store.specs.State.{tune_at}
use Rattle.tune_store.specs.Labels.{labels_of}
use Rattle.tune_store.specs.Questions.{first_shown, found, titles_from, all_titles, row_found, texts_at, set_exported, title_row}
use Rattle.tune_store.specs.Inside.Questions.{shown_title}
use Rattle.tune_store.specs.declared.tune.Tune.{Tune}
use Rattle.tune_store.specs.declared.index_rows.IndexRow.{IndexRow}
use Rattle.tune_store.specs.declared.catalog.Label.{Label}
use Rattle.tune_store.specs.declared.command.Reply.TheVariants.{SetExported}
use Rattle.tune_store.proofs.PlanLemmas.{IsPlaceOf, labels_long, label_at, no_tune, no_label}
use Rattle.tune_store.proofs.PlaceLemmas.{tune_at-place}

-- THE NEXT OF A LIST
-- what is gathered, with the next part of what is left
gathered : {A : Type 0} (had part left rest new all : List A) → new ≡ had ++ part → left ≡ part ++ rest → had ++ left ≡ all → new ++ rest ≡ all
gathered had part left rest new all added splits before =
    ap (λ list. list ++ rest) added ∙ append_assoc had part rest ∙ ap (λ list. had ++ list) (sym splits) ∙ before

-- the number at a place, and those behind it
next-number : (numbers : List ℕ) (i number : ℕ) → i < length numbers → number ≡ get_or numbers i 0 → drop i numbers ≡ number ∷ drop (i + 1) numbers
next-number numbers i number l at = rw (at, add-one i) (drop-cons numbers i 0 l)

-- THE NEXT TUNE
-- the tune at a place has this number and this text
pub record IsNext (tunes : List Tune) (place number : ℕ) (text : List ℕ) : Type 0 where
  pub within : place < length tunes
  pub named : number ≡ (get_or tunes place no_tune).number
  pub written : text ≡ (get_or tunes place no_tune).text

-- as its label and its text say
pub is_next : (tunes : List Tune) (labels : List Label) (place : ℕ) (label : Label) (text : List ℕ) → labels_of tunes ≡ labels → place < length labels
    → ((e : Label) → label ≡ get_or labels place e) → ((d : Tune) → text ≡ (get_or tunes place d).text)
    → IsNext tunes place label.number text
is_next tunes labels place label text same l at read =
    let many = labels_long tunes labels same in
    record {
      within = omega arith;
      named = ap (λ (r : Label). r.number) (at no_label ∙ label_at tunes labels place no_tune no_label same l);
      written = read no_tune;
    }

-- the tunes from a place on
next-drop : (tunes : List Tune) (place number : ℕ) (text : List ℕ) → IsNext tunes place number text
    → drop place tunes ≡ get_or tunes place no_tune ∷ drop (place + 1) tunes
next-drop tunes place number text is = rw add-one (drop-cons tunes place no_tune is.within)

-- FIND
-- a row where the tune is found, and no row where it is not
abbrev pub row_if : Bool → ℕ → List ℕ → List IndexRow
row_if found number text = cond found (record { number = number; title = first_shown (titles_of text) } ∷ []) []

-- as of the first tune
pub found_first : (notes : ℕ) (query : Query) (tune : Tune) (tunes : List Tune)
    → found notes query (tune ∷ tunes) ≡ row_if (matches notes query tune.text) tune.number tune.text ++ found notes query tunes
found_first notes query tune tunes = elim (cases_Bool (matches notes query tune.text)) [ inl same ↦ rw same refl | inr other ↦ rw other refl ]

-- TITLES
-- the rows of titles with those of the next tune
pub titles_next : (tunes : List Tune) (place number : ℕ) (text : List ℕ) (rows new all : List Shown)
    → IsNext tunes place number text → new ≡ rows ++ map shown_row (titles_from number 1 (titles_of text))
    → rows ++ map shown_row (all_titles (drop place tunes)) ≡ all → new ++ map shown_row (all_titles (drop (place + 1) tunes)) ≡ all
titles_next tunes place number text rows new all is added before =
    let part = titles_from number 1 (titles_of text) in
    let rest = all_titles (drop (place + 1) tunes) in
    let splits : all_titles (drop place tunes) ≡ part ++ rest = rw (next-drop tunes place number text is, is.named, is.written) refl in
    gathered rows (map shown_row part) (map shown_row (all_titles (drop place tunes))) (map shown_row rest) new all added
    (ap (map shown_row) splits ∙ map-append shown_row part rest) before

-- one title more of a tune
pub title_next : {A : Type 0} (bytes : A → List ℕ) (number place : ℕ) (items : List A) (i : ℕ) (d : A) → i < length items
    → titles_from number place (map bytes (drop i items))
    ≡ record { title = bytes (get_or items i d); number = number; place = place } ∷ titles_from number (place + 1) (map bytes (drop (i + 1) items))
title_next bytes number place items i d l = ap (λ list. titles_from number place (map bytes list)) (drop-cons items i d l) ∙ (rw (add-one i) refl)

-- the rows of titles with the next one of a tune
pub shown_next : {A : Type 0} (bytes : A → List ℕ) (number place : ℕ) (items : List A) (i : ℕ) (d : A) (rows new : List Shown) (row : Shown)
    (all : List Shown) → i < length items
    → row ≡ shown_row (record { title = bytes (get_or items i d); number = number; place = place }) → new ≡ rows ++ row ∷ []
    → rows ++ map shown_row (titles_from number place (map bytes (drop i items))) ≡ all
    → new ++ map shown_row (titles_from number (place + 1) (map bytes (drop (i + 1) items))) ≡ all
shown_next bytes number place items i d rows new row all l is added before =
    let rest = map shown_row (titles_from number (place + 1) (map bytes (drop (i + 1) items))) in
    let left = map shown_row (titles_from number place (map bytes (drop i items))) in
    let splits : left ≡ row ∷ rest = ap (map shown_row) (title_next bytes number place items i d l) ∙ ap (λ (r : Shown). r ∷ rest) (sym is) in
    gathered rows (row ∷ []) left rest new all added splits before

-- the rows of titles, as a reply has them
pub reply_rows : (titles : List PlacedTitle) → map shown_title (map shown_row titles) ≡ map title_row titles
reply_rows [] = refl
reply_rows (title ∷ titles) = ap (λ rows. title_row title ∷ rows) (reply_rows titles)

-- SETS
-- the tune of a number, by its place
tune_there : (number : ℕ) (tunes : List Tune) (labels : List Label) (place : ℕ) → IsPlaceOf number tunes labels place
    → tune_at number tunes ≡ Some (get_or tunes place no_tune)
tune_there number tunes labels place is =
    let many = labels_long tunes labels is.same in
    let within = is.within in
    let named = ap (λ (r : Label). r.number) (sym (label_at tunes labels place no_tune no_label is.same is.within)) ∙ is.found no_label in
    tune_at-place 0 number tunes place no_tune is.rises (omega arith) named

-- the row of the tune of a number
pub row_there : (number : ℕ) (tunes : List Tune) (labels : List Label) (place : ℕ) (text : List ℕ) (row : IndexRow) → IsPlaceOf number tunes labels place
    → ((d : Tune) → text ≡ (get_or tunes place d).text) → row ≡ record { number = number; title = first_shown (titles_of text) }
    → row ≡ row_found number (tune_at number tunes)
row_there number tunes labels place text row is read same =
    let named = ap (λ (r : Label). r.number) (sym (label_at tunes labels place no_tune no_label is.same is.within)) ∙ is.found no_label in
    rw (tune_there number tunes labels place is, named, ← read no_tune) same

-- a set has two hundred places at most
pub few_places : (name : List ℕ) (sets : List TuneSet) (numbers : List ℕ) → AllByRecursion IsTuneSet sets → places_of name sets ≡ Ok numbers
    → length numbers ≤ 200
few_places name [] numbers each found = cc
few_places name (first ∷ sets) numbers each found = elim (cases_Bool (bytes_eq first.name name)) [
  | inl same ↦
      let own = rw same at found in let numbers_are : first.numbers ≡ numbers = cc in
      let few = each.0.places in omega (arith, ap length numbers_are)
  | inr other ↦ let later = rw other at found in few_places name sets numbers each.1 later
]

-- the tunes of these numbers as a written set has them, at places from this one on
abbrev pub set_from : ℕ → List Tune → List ℕ → List ℕ
set_from place tunes numbers = written_tunes (places_from place (texts_at tunes numbers)) (texts_at tunes numbers)

-- a number that no tune has any longer gives nothing
pub set_missing : (tunes : List Tune) (numbers : List ℕ) (i place number : ℕ) (book whole : List ℕ) → i < length numbers → number ≡ get_or numbers i 0
    → tune_at number tunes ≡ None → book ++ set_from place tunes (drop i numbers) ≡ whole → book ++ set_from place tunes (drop (i + 1) numbers) ≡ whole
set_missing tunes numbers i place number book whole l at none before =
    let step : texts_at tunes (drop i numbers) ≡ texts_at tunes (drop (i + 1) numbers) = rw (next-number numbers i number l at, none) refl in
    ap (λ texts. book ++ written_tunes (places_from place texts) texts) (sym step) ∙ before

-- the set with the next tune
pub set_there : (tunes : List Tune) (labels : List Label) (numbers : List ℕ) (i place number index : ℕ) (text book new whole : List ℕ)
    → i < length numbers → number ≡ get_or numbers i 0 → IsPlaceOf number tunes labels index → ((d : Tune) → text ≡ (get_or tunes index d).text)
    → new ≡ book ++ (codes "\n" ++ written_tune place text) → book ++ set_from place tunes (drop i numbers) ≡ whole
    → new ++ set_from (place + 1) tunes (drop (i + 1) numbers) ≡ whole
set_there tunes labels numbers i place number index text book new whole l at is read added before =
    let texts = texts_at tunes (drop (i + 1) numbers) in
    let one = codes "\n" ++ written_tune place text in
    let rest = written_tunes (places_from (place + 1) texts) texts in
    let next : texts_at tunes (drop i numbers) ≡ text ∷ texts =
    rw (next-number numbers i number l at, tune_there number tunes labels index is, read no_tune) refl in
    let splits : set_from place tunes (drop i numbers) ≡ one ++ rest = ap (λ list. written_tunes (places_from place list) list) next in
    gathered book one (set_from place tunes (drop i numbers)) rest new whole added splits before

-- no number is left
pub set_written : (tunes : List Tune) (numbers : List ℕ) (i place : ℕ) (book whole : List ℕ) → length numbers ≤ i
    → book ++ set_from place tunes (drop i numbers) ≡ whole → book ≡ whole
set_written tunes numbers i place book whole l before =
    let none : drop i numbers ≡ [] = drop_of_length-le numbers l in
    let ends = rw none at before in
    sym (append-nil book) ∙ ends

-- the set that was asked for
pub set_answered : (name held : List ℕ) (tunes : List Tune) (sets : List TuneSet) (numbers book : List ℕ) → places_of name sets ≡ Ok numbers → held ≡ name
    → book ≡ written_set name (texts_at tunes numbers) → set_exported name tunes (places_of name sets) ≡ Ok (SetExported held book)
set_answered name held tunes sets numbers book places same written = rw (places, same, written) refl
