-- How many pages a change takes that leads to a state within the limits.
use Rattle.std.proofs.Common.{◌≡◌, ◌≢◌, ℕ, zero, suc, ◌+◌, ◌*◌, ◌<◌, ◌≤◌, List, [], ◌∷◌, length, slice_set, ap, sym, subst, ◌∙◌, arith, length-append}
use Rattle.std.proofs.Common.{Result, Ok, Err}
use Rattle.std.specs.List.{AllByRecursion}
use Rattle.std.proofs.lemmas.List.{length-set}
use Rattle.tune_pages.specs.Faults.{free_pages}
use Rattle.tune_pages.specs.FreePages.{TakesAtMost}
use Rattle.tune_pages.specs.Stand.{Stand}
use Rattle.tune_pages.specs.declared.fault.Fault.{Fault}
use Rattle.tune_pages.specs.declared.fault.Fault.TheVariants.{FileFull}
use Rattle.tune_pages.proofs.FreePages.{AreSized}
use Rattle.tune_parts.proofs.Lists.{all_right}
use Rattle.tune_store.specs.Limits.{most_tunes}
use Rattle.tune_store.specs.Plans.{changed, changed_sets, changed_tunes, CanChange}
use Rattle.tune_store.specs.State.{State, IsState, IsTune}
use Rattle.tune_store.specs.declared.layout.Layout.{Layout}
use Rattle.tune_store.specs.declared.layout.Layout.TheVariants.{One, Two}
use Rattle.tune_store.specs.TuneSteps.{numbered}
use Rattle.tune_store.specs.declared.tune.Tune.{Tune}
use Rattle.tune_store.specs.declared.plans.Change.{Change}
use Rattle.tune_store.specs.declared.plans.Change.TheVariants.{Add, Put, Take, Move, NewSet}
use Rattle.tune_store.specs.declared.plans.Change.TheVariants.{AddPlace, CutPlace, DropSet, Upgrade}
use Rattle.tune_store.proofs.StateLemmas.{length-numbered}
use Rattle.tune_format.specs.declared.rows.Row.{Row}
use Rattle.tune_format.proofs.TextLemmas.{rows_count}
use Rattle.tune_contents.specs.Holds.{labels_in, HoldsContents}
use Rattle.tune_contents.specs.Most.{enough_pages, most_part_pages, most_tune_pages, most_used}
use Rattle.tune_contents.specs.declared.contents.Contents.{Contents}
use Rattle.tune_contents.specs.Inside.Changes.{RowsAccept}
use Rattle.tune_contents.specs.Inside.Indexed.{index_pages}
use Rattle.tune_contents.specs.Inside.Searching.{search_pages}
use Rattle.tune_contents.specs.Inside.Takes.{change_pages, sets_pages, text_pages}
use Rattle.tune_contents.proofs.ContentsLemmas.{changed_is, changed_within, rows_accept}
use Rattle.tune_contents.proofs.StatePages.{numbers_most, searches_most, sets_count, state_count, text_count, times_count}

texts_count : (layout : Layout) (first : ℕ) (texts : List (List ℕ)) → AllByRecursion (IsTune layout) (numbered first texts)
    → text_pages texts ≤ most_tune_pages layout * length texts
texts_count layout first [] are = omega arith
texts_count layout first (text ∷ texts) are =
    let here = text_count layout text are.0.fits in
    let more = texts_count layout (first + 1) texts are.1 in
    omega (arith, here, more)

-- the tune that was put at a place is one of the tunes then
put_there : (layout : Layout) (tunes : List Tune) (place : ℕ) (tune : Tune) → place < length tunes
    → AllByRecursion (IsTune layout) (slice_set tunes place tune) → IsTune layout tune
put_there layout [] place tune lt are = absurd (omega (arith, lt))
put_there layout (one ∷ tunes) zero tune lt are = are.0
put_there layout (one ∷ tunes) (suc place) tune lt are = put_there layout tunes place tune (omega (arith, lt)) are.1

tunes_count : (change : Change) (state : State) (rows : List Row) → length rows ≡ length state.tunes → RowsAccept change rows
    → IsState (changed_within change state) → change_pages change ≤ most_tunes state.layout * most_tune_pages state.layout
tunes_count (Add first texts) state rows same accept is =
    let all = texts_count state.layout first texts.items (all_right (IsTune state.layout) state.tunes (numbered first texts.items) is.tunes.each) in
    let few = is.tunes.count in
    times_count _ (length texts.items) _ _ all (omega (arith, few, length-append state.tunes (numbered first texts.items), length-numbered first texts.items))
tunes_count (Put place tune) state rows same accept is =
    let its = put_there state.layout state.tunes place tune (omega (arith, accept, same)) is.tunes.each in
    let pages = text_count state.layout tune.text its.fits in
    let some : length (slice_set state.tunes place tune) ≡ length state.tunes = length-set state.tunes place tune in
    times_count _ 1 _ _ (omega (arith, pages)) (omega (arith, some, accept, same, is.tunes.count))
tunes_count (Take place) state rows same accept is = omega arith
tunes_count (Move number to) state rows same accept is = omega arith
tunes_count (NewSet name) state rows same accept is = omega arith
tunes_count (AddPlace name number) state rows same accept is = omega arith
tunes_count (CutPlace name place) state rows same accept is = omega arith
tunes_count (DropSet name) state rows same accept is = omega arith
tunes_count Upgrade state rows same accept is = omega arith

-- Where it leads to a state within the limits, a change puts no more pages of tunes, of indexes and of set lists than such a state has.
pub change_count : (s : Stand) (contents : Contents) (change : Change) (state : State) → HoldsContents s contents state
    → CanChange change contents.layout (labels_in contents.rows.items) contents.sets → IsState (changed change state)
    → change ≢ Upgrade
    → change_pages change + (index_pages (length (changed_tunes change state.tunes)) + search_pages (length (changed_tunes change state.tunes)))
    + sets_pages (changed_sets change contents.sets) ≤ most_part_pages contents.layout
change_count s contents change state holds can after other =
    let is = subst IsState (changed_is change state other) after in
    let count = length (changed_tunes change state.tunes) in
    let tunes = tunes_count change state contents.rows.items
    (ap (λ (rows : List Row). length rows) holds.listed ∙ rows_count state.tunes holds.filed.texts holds.filed.are_tunes)
    (rows_accept contents.layout change contents.rows.items contents.sets can) is in
    let numbers = numbers_most state.layout count is.tunes.count in
    let searches = searches_most state.layout count is.tunes.count in
    let sets = sets_count (changed_sets change contents.sets) (rw holds.sets is.sets) in
    subst (λ layout. change_pages change + (index_pages count + search_pages count) + sets_pages (changed_sets change contents.sets) ≤ most_part_pages layout)
    (sym holds.layout) (omega (arith, tunes, numbers, searches, sets))

-- WHERE THERE ARE ENOUGH PAGES
some_free : (layout : Layout) (all free : ℕ) → all ≤ free + most_used layout → free < most_part_pages layout → enough_pages layout ≤ all → ⊥
some_free One all free uses few many = omega (arith, uses, few, many)
some_free Two all free uses few many = omega (arith, uses, few, many)

-- a change that takes no more than those of a state finds them
pub finds_pages : {T : Type 0} (result : Result T Fault) (s new : Stand) (contents : Contents) (state : State)
    → TakesAtMost (most_part_pages contents.layout) result s new → HoldsContents s contents state → IsState state → AreSized s.pages
    → enough_pages contents.layout ≤ length s.used → result ≢ Err FileFull
finds_pages (Ok x) s new contents state takes holds is sized many = λ e. cc
finds_pages (Err fault) s new contents state takes holds is sized many = λ e.
    (let full : fault ≡ FileFull = cc in
    let few : free_pages s.used < most_part_pages contents.layout = takes full in
    let uses = subst (λ layout. length s.used ≤ free_pages s.used + most_used layout) (sym holds.layout) (state_count s contents state holds is sized) in
    some_free contents.layout (length s.used) (free_pages s.used) uses few many)
