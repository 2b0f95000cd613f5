use Rattle.tune_store.proofs.PlanLemmas.{label_of_number, no_label_of_number}
use Rattle.tune_store.proofs.InsertLemmas.{no_place}
use Rattle.tune_store.proofs.list_archive.place_of.Goals as goal

pub returns-then-is_at-clause-found : goal.returns-then-is_at-clause-found
returns-then-is_at-clause-found c =
    λ d. label_of_number c.args.number c.args.tunes.now.items c.place_without_gaps-near.result d (c.is_at.ensures.within c.if-is_at.true)
    (c.is_at.ensures.named c.if-is_at.true)

pub returns-then-is_at-2-clause-found : goal.returns-then-is_at-2-clause-found
returns-then-is_at-2-clause-found c =
    λ d. label_of_number c.args.number c.args.tunes.now.items c.place_from-place.result d (c.is_at-2.ensures.within c.if-is_at-2.true)
    (c.is_at-2.ensures.named c.if-is_at-2.true)

pub returns-else-is_at-2-clause-none : goal.returns-else-is_at-2-clause-none
returns-else-is_at-2-clause-none c = λ place d.
    no_label_of_number c.args.number c.args.tunes.now.items place d
    (no_place c.args.number c.args.tunes.now.items c.place_from-place.result c.requires c.place_from-place.ensures (c.is_at-2.ensures.other c.if-is_at-2.false))
