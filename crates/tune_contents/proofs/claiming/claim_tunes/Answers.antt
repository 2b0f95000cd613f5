use Rattle.std.proofs.Common.{◌≡◌, ℕ, ◌-◌, ◌≤◌, List, drop, take, length, refl, sym, ◌∙◌, ap, subst, arith}
use Rattle.std.proofs.lemmas.List.{length-drop, length-map, length-take-le, take_all}
use Rattle.std.proofs.lemmas.Slice.{drop-put_mid, take-put_mid}
use Rattle.std.proofs.lemmas.Result.{err_from_is_err_and}
use Rattle.tune_pages.specs.Claim.{IsChainFault}
use Rattle.tune_pages.specs.declared.fault.ClaimFault.{ClaimFault}
use Rattle.index_keys.specs.Entries.{Entry}
use Rattle.tune_format.specs.Written.{row_entry}
use Rattle.tune_format.specs.declared.rows.Row.{Row}
use Rattle.tune_contents.specs.Inside.ClaimedParts.{AreTunesThere, ChainsClaimed, TunesClaimed, tune_site}
use Rattle.tune_contents.proofs.ClaimStepLemmas.{claims_start, claims_turn, turn_fault, entries_group, group_length, group_listing, group_numbers}
use Rattle.tune_contents.proofs.ClaimStepLemmas.{later_behind, lent_back}
use Rattle.tune_contents.proofs.claiming.claim_tunes.Goals as goal

pub loop-from-init : goal.loop-from-init
loop-from-init g c = record {
  honest = λ h. h;
  same = λ h. refl;
  pages = λ h. refl;
  count = refl;
  failures = refl;
  within = omega arith;
  room = c.in_ok-chains.ensures.count;
  long = refl;
  later = refl;
  entries = refl;
  claims = λ h front has. claims_start _ front _ _ _ _ refl has;
}

pub compare_tunes-requires-clause-numbers : goal.compare_tunes-requires-clause-numbers
compare_tunes-requires-clause-numbers g c =
    let inv = c.loop-from.invariant in
    let rows : List Row = c.loop-from.rows in
    let from : ℕ = c.loop-from.from in
    let to : ℕ = c.min-to.result in
    let within : to ≤ length rows = omega arith in
    let numbers : List ℕ = c.args.claims.now.numbers in
    let size = length-take-le (to - from) (drop from rows) (omega (arith, within, length-drop from rows)) in
    ap (λ (n : ℕ). take n (drop from numbers)) size ∙ group_numbers rows c.args.rows.now numbers from (to - from) c.requires inv.later

pub returns-in_err-claim_chains-clause-damaged : goal.returns-in_err-claim_chains-clause-damaged
returns-in_err-claim_chains-clause-damaged g c =
    let inv = c.loop-from.invariant in
    let call = c.in_err-claim_chains.ensures in
    let p = err_from_is_err_and c.from_residual-in_err-claim_chains.result c.from_residual-in_err-claim_chains.ensures.1 in
    let list : List Row = c.args.rows.now in
    let rows : List Row = c.loop-from.rows in
    let from : ℕ = c.loop-from.from in
    let to : ℕ = c.min-to.result in
    rw p.1 (λ h front has.
    let one = call.looks.was_honest h in
    subst (λ (f : ClaimFault). IsChainFault f (AreTunesThere (tune_site c.args.layout c.args.opening.now.pages front c.args.claims.now.runs) list)) (sym p.2)
    (turn_fault c.in_err-claim_chains.field-0.0 _ _ front c.args.claims.now.runs list _ _ (take (to - from) (drop from rows)) from to
    (inv.pages one) (inv.claims one front has) (group_listing rows list from to inv.later (omega arith))
    (λ before had. call.damaged h before had c.args.claims.now.runs (drop to list))))

pub returns-in_err-compare_tunes-clause-damaged : goal.returns-in_err-compare_tunes-clause-damaged
returns-in_err-compare_tunes-clause-damaged g c =
    let inv = c.loop-from.invariant in
    let read = c.in_ok-claim_chains.ensures in
    let call = c.in_err-compare_tunes.ensures in
    let p = err_from_is_err_and c.from_residual-in_err-compare_tunes.result c.from_residual-in_err-compare_tunes.ensures.1 in
    let list : List Row = c.args.rows.now in
    let rows : List Row = c.loop-from.rows in
    let from : ℕ = c.loop-from.from in
    let to : ℕ = c.min-to.result in
    let back = lent_back _ c.deref.result.now c.claim_chains.new.chains _ _ c.deref.ensures.value c.deref_mut.ensures.value c.deref_mut.ensures.len
    read.room in
    rw p.1 (λ h front has.
    let one = read.looks.was_honest h in
    subst (λ (f : ClaimFault). IsChainFault f (AreTunesThere (tune_site c.args.layout c.args.opening.now.pages front c.args.claims.now.runs) list)) (sym p.2)
    (turn_fault c.in_err-compare_tunes.field-0.0 _ _ front c.args.claims.now.runs list _ _ (take (to - from) (drop from rows)) from to
    (inv.pages one) (inv.claims one front has) (group_listing rows list from to inv.later (omega arith))
    (λ before had. call.damaged _ before _ _ (drop to list) had (subst (λ (l : List (List ℕ)). ChainsClaimed c.loop-from.opening.pages before
    c.claim_chains.new.opening.claimed (take (to - from) (drop from rows)) (take (length (take (to - from) (drop from rows))) l)) (sym back)
    (read.claims h before had)))))

pub loop-from-preserved : goal.loop-from-preserved
loop-from-preserved g c =
    let inv = c.loop-from.invariant in
    let read = c.in_ok-claim_chains.ensures in
    let call = c.in_ok-compare_tunes.ensures in
    let list : List Row = c.args.rows.now in
    let rows : List Row = c.loop-from.rows in
    let from : ℕ = c.loop-from.from in
    let to : ℕ = c.min-to.result in
    let more : List Row = c.compare_tunes.new.rows in
    let group : List Row = take (to - from) (drop from rows) in
    let on : from ≤ to = omega arith in
    let within : to ≤ length rows = omega arith in
    let sizes = ap (λ (l : List Entry). length l) call.same in
    let grouped = length-take-le (to - from) (drop from rows) (omega (arith, within, length-drop from rows)) in
    let size : length more ≡ to - from = omega (arith, sizes, length-map more row_entry, length-map group row_entry, grouped) in
    let back = lent_back _ c.deref.result.now c.claim_chains.new.chains _ _ c.deref.ensures.value c.deref_mut.ensures.value c.deref_mut.ensures.len
    read.room in
    let listing = group_listing rows list from to inv.later on in
    let pushed = take-put_mid from (to - from) rows more to (omega (arith, size, on)) inv.within in
    let behind = drop-put_mid from (to - from) rows more to (omega (arith, on)) inv.within size ∙ later_behind rows list from to inv.later on in
    let long = group_length _ rows more list from to pushed behind size on (omega (arith, within, inv.long)) inv.within in
    record {
      honest = λ h. inv.honest (read.looks.was_honest h);
      same = λ h. read.looks.same_state h ∙ inv.same (read.looks.was_honest h);
      pages = λ h. read.looks.same_pages h ∙ inv.pages (read.looks.was_honest h);
      count = read.looks.count ∙ inv.count;
      failures = read.looks.counted ∙ inv.failures;
      within = omega (arith, long, within, inv.long);
      room = ap (λ (l : List (List ℕ)). length l) (sym c.deref.ensures.value ∙ back) ∙ read.room
          ∙ ap (λ (l : List (List ℕ)). length l) c.deref_mut.ensures.value ∙ inv.room;
      long = long;
      later = behind;
      entries = entries_group list _ _ group more from to inv.entries listing call.same pushed;
      claims = λ h front has. claims_turn _ _ front _ list _ _ _ _ group more from to (inv.pages (read.looks.was_honest h))
          (inv.claims (read.looks.was_honest h) front has) listing
          (λ before had. call.claimed _ before _ _ (drop to list) had (subst (λ (l : List (List ℕ)). ChainsClaimed c.loop-from.opening.pages before
          c.claim_chains.new.opening.claimed group (take (length group) l)) (sym back) (read.claims h before had))) pushed;
    }

pub returns-clause-claimed : goal.returns-clause-claimed
returns-clause-claimed g c = λ h front has.
    let rows : List Row = c.loop-from.rows in
    let end : length rows ≤ c.loop-from.from = omega (arith, c.loop-from-test.false) in
    subst (λ (r : List Row). TunesClaimed (tune_site c.args.layout c.args.opening.now.pages front c.args.claims.now.runs) c.loop-from.opening.claimed r)
    (take_all c.loop-from.from rows end) (c.loop-from.invariant.claims h front has).so_far
