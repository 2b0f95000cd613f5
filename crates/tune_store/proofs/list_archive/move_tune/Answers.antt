use Rattle.std.proofs.Common.{◌<◌, length, refl, ap, sym, ◌∙◌, arith}
use Rattle.std.specs.List.{insert, remove}
use Rattle.tune_store.specs.Labels.{labels_of}
use Rattle.tune_store.proofs.InsertLemmas.{rises-taken, moves_by}
use Rattle.tune_store.proofs.PlanLemmas.{labels_long, place_none, number_of_label}
use Rattle.tune_store.proofs.list_archive.move_tune.Goals as goal

pub place_after-place-requires : goal.place_after-place-requires
place_after-place-requires c =
    let tunes = c.args.tunes.now.items in
    let within = c.in-Some.ensures.within in
    let l : c.in-Some.place < length tunes = omega (arith, labels_long tunes (labels_of tunes) refl) in
    let tune = c.remove-tune.result in
    rw c.remove-tune.ensures.items
    (rises-taken c.args.number tunes c.in-Some.place tune c.requires l
    (number_of_label c.args.number tunes c.in-Some.place within c.in-Some.ensures.found tune))

pub returns-in-Some : goal.returns-in-Some
returns-in-Some c =
    let tunes = c.args.tunes.now.items in
    let within = c.in-Some.ensures.within in
    let l : c.in-Some.place < length tunes = omega (arith, labels_long tunes (labels_of tunes) refl) in
    let tune = c.remove-tune.result in
    let after = rw c.remove-tune.ensures.items at c.place_after-place.ensures in
    let place = c.place_after-place.result in
    c.insert.ensures.items ∙ ap (λ ts. insert ts place c.renumber.new.self) c.remove-tune.ensures.items
    ∙ ap (λ new. insert (remove tunes c.in-Some.place) place new) c.renumber.ensures
    ∙ sym (moves_by c.args.number c.args.to tunes c.in-Some.place c.place_after-place.result tune c.requires l
    (number_of_label c.args.number tunes c.in-Some.place within c.in-Some.ensures.found) c.remove-tune.ensures.gone after)

pub returns-in_default : goal.returns-in_default
returns-in_default c = rw (place_none c.args.number c.args.tunes.now.items _ refl c.in_default.ensures.none) refl
