use Rattle.std.proofs.Common.{◌≡◌, ◌<◌, ◌++◌, ℕ, List, [], length, refl, ap, sym, subst, ◌∙◌, arith}
use Rattle.std.specs.Prelude.{map}
use Rattle.std.specs.Option.{option_map, option_to_list}
use Rattle.std.proofs.lemmas.Bool.Decides.{nat_tests}
use Rattle.std.proofs.lemmas.List.{nil_from_length}
use Rattle.tune_undo.specs.OldEntries.{step_value}
use Rattle.tune_undo.specs.OldItems.{IsItemLog, standing_after}
use Rattle.tune_undo.specs.Inside.Found.{found_value, place_of}
use Rattle.tune_undo.proofs.StepLaws.{log_from, standing_found}
use Rattle.tune_undo.proofs.steps.standing_steps.Goals as goal

pub loop-rest-init : goal.loop-rest-init
loop-rest-init c = rw c.new-steps.ensures.items (λ later log. (later, log, refl))

pub loop-rest-preserved : goal.loop-rest-preserved
loop-rest-preserved c =
    let some : 0 < length c.loop-rest.rest.now = grind (arith, nat_tests) in
    let found = option_map found_value c.in_ok-found.found in
    λ later log.
    let more = c.next_line.ensures.log later some log in
    let full = log_from c.loop-rest.top c.loop-rest.rest.now found later some c.in_ok-found.ensures more in
    let got = c.loop-rest.invariant (option_to_list found ++ later) full in (
      got.0,
      got.1,
      got.2 ∙ standing_found (map step_value c.loop-rest.steps.items) found later
          ∙ ap (λ ss. standing_after ss later) (sym c.in_ok-take_in.ensures),
    )

pub loop-rest-smaller : goal.loop-rest-smaller
loop-rest-smaller c =
    let some : 0 < length c.loop-rest.rest.now = grind (arith, nat_tests) in
    c.next_line.ensures.shorter some

pub returns : goal.returns
returns c =
    let none : c.loop-rest.rest.now ≡ [] = nil_from_length _ (grind (arith, nat_tests)) in
    let got = c.loop-rest.invariant [] (subst (λ (rest : List ℕ). IsItemLog (place_of c.loop-rest.top) rest []) (sym none) refl) in
    (got.0, got.1, sym got.2)
