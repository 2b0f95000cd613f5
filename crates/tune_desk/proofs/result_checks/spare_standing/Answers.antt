use Rattle.std.proofs.Common.{◌≡◌, true, false, refl, rules, Ok, Err, string_bytes, [], ◌∷◌}
use Rattle.std.specs.List.{Contains}
use Rattle.tune_desk.specs.DeskDeeds.{tested}
use Rattle.tune_desk.specs.Inside.Asks.{IsReplaceable}
use Rattle.tune_desk.specs.Results.{result_places, archive_head}
use Rattle.tune_desk.specs.Refusals.{HasFault}
use Rattle.tune_desk.proofs.AskLemmas.{tested_later}
use Rattle.tune_desk.proofs.DeedLists.{covers_front, covers_rest, first_of_one, apart-more}
use Rattle.tune_desk.proofs.result_checks.spare_standing.Goals as goal

pub returns-in-Ok-true : goal.returns-in-Ok-true
returns-in-Ok-true g c = λ out.
    let places = result_places (string_bytes c.args.file.now) out c.args.force in
    let target = string_bytes c.args.target.now in
    let differ : c.in_ok-are_same.field-0 ≡ false = search rules in
    let is : c.in-Ok-true.field-0 ≡ true = search rules in
    let deed = tested target archive_head (Ok true) in
    tested_later places target (Ok true) (λ since. Contains since deed) _ _ _ (rw is at c.in-Ok-true.ensures.deed)
    (λ since _. (covers_rest since (deed ∷ [])).each deed (first_of_one deed [])) (rw differ at c.in_ok-are_same.ensures)

pub returns-in-Ok-false : goal.returns-in-Ok-false
returns-in-Ok-false g c = λ out.
    let places = result_places (string_bytes c.args.file.now) out c.args.force in
    let target = string_bytes c.args.target.now in
    let differ : c.in_ok-are_same.field-0 ≡ false = search rules in
    let is : c.in-Ok-false.field-0 ≡ false = search rules in
    let leave : c.args.force ≡ true = search rules in
    let deed = tested target archive_head (Ok false) in
    tested_later places target (Ok false) (IsReplaceable places target) _ _ _ (rw is at c.in-Ok-false.ensures.deed)
    (λ since apart. record {
      leave = leave;
      other = apart-more (covers_front since (deed ∷ [])) target (string_bytes c.args.file.now) apart;
      no_archive = (covers_rest since (deed ∷ [])).each deed (first_of_one deed []);
    }) (rw differ at c.in_ok-are_same.ensures)

pub returns-in-Err : goal.returns-in-Err
returns-in-Err g c = λ out.
    let places = result_places (string_bytes c.args.file.now) out c.args.force in
    let target = string_bytes c.args.target.now in
    let differ : c.in_ok-are_same.field-0 ≡ false = search rules in
    let deed = tested target archive_head (Err c.in-Err.fault) in
    tested_later places target (Err c.in-Err.fault) (HasFault c.in-Err.fault) _ _ _ c.in-Err.ensures.deed
    (λ since _. (deed, refl, (covers_rest since (deed ∷ [])).each deed (first_of_one deed []))) (rw differ at c.in_ok-are_same.ensures)
