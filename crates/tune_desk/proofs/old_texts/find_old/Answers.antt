use Rattle.std.proofs.Common.{◌≡◌, ◌++◌, ◌∷◌, [], inr, refl, rules, false, None, Ok, string_bytes}
use Rattle.std.specs.List.{Contains}
use Rattle.tune_desk.specs.DeskDeeds.{looked, tested}
use Rattle.tune_desk.specs.Inside.Growths.{KnowsNothing}
use Rattle.tune_desk.specs.Results.{AreFoundApart, MayGrow, archive_head, result_places}
use Rattle.tune_desk.specs.declared.desk.Standing.TheVariants as standing
use Rattle.tune_desk.proofs.AskLemmas.{asks_first, asks_both}
use Rattle.tune_desk.proofs.DeedLists.{covers_front, covers_rest, first_of_one, apart-more}
use Rattle.tune_desk.proofs.old_texts.find_old.Goals as goal

pub returns-in_ok-spare_unknown-in-Ok-File : goal.returns-in_ok-spare_unknown-in-Ok-File
returns-in_ok-spare_unknown-in-Ok-File g c =
    let file = string_bytes c.args.file.now in
    let old = string_bytes c.args.old.now in
    let head = tested old archive_head (Ok false) in
    let deed = looked old (Ok standing.File) in
    let is : c.in-Ok-File.field-0 ≡ standing.File = search rules in
    asks_first (λ since. AreFoundApart old file since × Contains since head) (MayGrow (result_places file None false) old) _ _ _ deed
    (rw is at c.in-Ok-File.ensures.deed) refl
    (λ rest h. inr (first_of_one deed rest, apart-more (covers_rest (deed ∷ []) rest) old file h.0, (covers_rest (deed ∷ []) rest).each head h.1))
    (asks_both (λ since. AreFoundApart old file since × Contains since head) KnowsNothing (λ since. AreFoundApart old file since × Contains since head) _ _ _
    (λ front rest p q. (apart-more (covers_front front rest) old file p.0, (covers_front front rest).each head p.1))
    c.in_ok-spare_other-in-Ok-File.ensures c.spare_unknown.ensures)
