use Rattle.std.proofs.Common.{◌≡◌, ℕ, ◌+◌, ◌<◌, ◌≤◌, List, ◌∷◌, ◌++◌, drop, take, length, get_or, refl, sym, ◌∙◌, ap, subst, arith}
use Rattle.std.proofs.lemmas.List.{drop_all, drop_more, get_or-drop, get_or-take, length-set, length-take-le, take_all, take_more_set}
use Rattle.std.proofs.lemmas.Result.{err_from_is_err_and}
use Rattle.tune_pages.specs.Claim.{IsChainFault}
use Rattle.tune_pages.specs.declared.fault.ClaimFault.{ClaimFault}
use Rattle.tune_format.specs.declared.rows.Row.{Row}
use Rattle.tune_contents.specs.Inside.ClaimedParts.{AreTunesThere, ClaimsSoFar, tune_site}
use Rattle.tune_contents.proofs.ClaimedRowLemmas.{list_at, number_at_row}
use Rattle.tune_contents.proofs.ClaimStepLemmas.{compared_all, compared_start, compared_turn, compared_turn_fault, entries_turn, later_at, later_set}
use Rattle.tune_contents.proofs.claiming.compare_tunes.Goals as goal

pub loop-place-init : goal.loop-place-init
loop-place-init c = record {
  long = refl;
  later = refl;
  entries = refl;
  claims = λ pages front was claimed later has chains. compared_start pages front c.args.claims.now.runs was claimed c.args.rows.now later _ has chains;
}

pub compare_tune-requires-clause-place : goal.compare_tune-requires-clause-place
compare_tune-requires-clause-place c = omega (arith, c.requires.within, c.loop-place-test.true, c.loop-place.invariant.long)

pub compare_tune-requires-clause-number : goal.compare_tune-requires-clause-number
compare_tune-requires-clause-number c =
    let place : ℕ = c.loop-place.place in
    let list : List Row = c.args.rows.now in
    let numbers : List ℕ = c.args.claims.now.numbers in
    let d : Row = record { number = 0; revision = 0; first = 0; length = 0 } in
    let within : place < length list = omega (arith, c.loop-place-test.true, c.loop-place.invariant.long) in
    sym (get_or-drop c.args.from numbers place 0) ∙ sym (get_or-take (length list) (drop c.args.from numbers) place 0 within)
    ∙ ap (λ (l : List ℕ). get_or l place 0) c.requires.numbers ∙ number_at_row list place d refl
    ∙ ap (λ (row : Row). row.number) (sym (later_at c.loop-place.rows list place d c.loop-place.invariant.later))

pub returns-in_err-rows-clause-damaged : goal.returns-in_err-rows-clause-damaged
returns-in_err-rows-clause-damaged c =
    let inv = c.loop-place.invariant in
    let call = c.in_err-rows.ensures in
    let p = err_from_is_err_and c.from_residual.result c.from_residual.ensures.1 in
    let list : List Row = c.args.rows.now in
    let chains : List (List ℕ) = take (length list) c.args.chains.now in
    let place : ℕ = c.loop-place.place in
    let d : Row = record { number = 0; revision = 0; first = 0; length = 0 } in
    let next : Row = get_or c.loop-place.rows place d in
    let same : next ≡ get_or list place d = later_at c.loop-place.rows list place d inv.later in
    let within : place < length list = omega (arith, c.loop-place-test.true, inv.long) in
    let at : drop place list ≡ next ∷ drop (place + 1) list =
    list_at list place d within ∙ ap (λ (row : Row). row ∷ drop (place + 1) list) (sym same) in
    let size : length chains ≡ length list = length-take-le (length list) c.args.chains.now c.requires.room in
    let bytes : List ℕ = c.index-chains-place.result in
    let held : drop place chains ≡ bytes ∷ drop (place + 1) chains =
    drop_more chains place bytes (omega (arith, within, size))
    ∙ ap (λ (b : List ℕ). b ∷ drop (place + 1) chains) (get_or-take (length list) c.args.chains.now place bytes within ∙ sym c.index-chains-place.is) in
    rw p.1 (λ pages front was claimed later has ahead.
    subst (λ (f : ClaimFault). IsChainFault f (AreTunesThere (tune_site c.args.layout pages front c.args.claims.now.runs) (list ++ later))) (sym p.2)
    (compared_turn_fault c.in_err-rows.field-0.0 pages front _ (list ++ later) claimed _ list later chains place next _
    (inv.claims pages front was claimed later has ahead) at held call.damaged))

pub loop-place-preserved : goal.loop-place-preserved
loop-place-preserved c =
    let inv = c.loop-place.invariant in
    let call = c.in_ok-rows.ensures in
    let r : Row = c.in_ok-rows.field-0 in
    let list : List Row = c.args.rows.now in
    let rows : List Row = c.loop-place.rows in
    let chains : List (List ℕ) = take (length list) c.args.chains.now in
    let place : ℕ = c.loop-place.place in
    let d : Row = record { number = 0; revision = 0; first = 0; length = 0 } in
    let next : Row = get_or rows place d in
    let same : next ≡ get_or list place d = later_at rows list place d inv.later in
    let here : place < length rows = omega (arith, c.loop-place-test.true, inv.long) in
    let within : place < length list = omega (arith, c.loop-place-test.true, inv.long) in
    let at : drop place list ≡ next ∷ drop (place + 1) list =
    list_at list place d within ∙ ap (λ (row : Row). row ∷ drop (place + 1) list) (sym same) in
    let size : length chains ≡ length list = length-take-le (length list) c.args.chains.now c.requires.room in
    let bytes : List ℕ = c.index-chains-place.result in
    let held : drop place chains ≡ bytes ∷ drop (place + 1) chains =
    drop_more chains place bytes (omega (arith, within, size))
    ∙ ap (λ (b : List ℕ). b ∷ drop (place + 1) chains) (get_or-take (length list) c.args.chains.now place bytes within ∙ sym c.index-chains-place.is) in
    let put = take_more_set rows place r here in
    record {
      long = length-set rows place r ∙ inv.long;
      later = later_set rows list place r here inv.long inv.later;
      entries = entries_turn list _ _ place next r inv.entries at call.row put;
      claims = λ pages front was claimed later has ahead. compared_turn pages front _ (list ++ later) claimed _ _ list later chains place next r _
          (inv.claims pages front was claimed later has ahead) at held call.row call.holds put;
    }

pub returns-clause-claimed : goal.returns-clause-claimed
returns-clause-claimed c = λ pages front was claimed later has ahead.
    let inv = c.loop-place.invariant in
    let list : List Row = c.args.rows.now in
    let rows : List Row = c.loop-place.rows in
    let chains : List (List ℕ) = take (length list) c.args.chains.now in
    let place : ℕ = c.loop-place.place in
    let end : length list ≤ place = omega (arith, c.loop-place-test.false, inv.long) in
    let size : length chains ≡ length list = length-take-le (length list) c.args.chains.now c.requires.room in
    subst (λ (r : List Row). ClaimsSoFar (tune_site c.args.layout pages front c.args.claims.now.runs) (list ++ later) claimed r later)
    (take_all place rows (omega (arith, end, inv.long)))
    (compared_all pages front _ (list ++ later) claimed _ _ later _ (inv.claims pages front was claimed later has ahead)
    (drop_all place list end) (drop_all place chains (omega (arith, end, size))))
