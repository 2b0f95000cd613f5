use Rattle.tune_store.proofs.InsertLemmas.{place_behind, place_between}
use Rattle.tune_store.proofs.list_archive.place_after.Goals as goal

pub returns-then-is_at : goal.returns-then-is_at
returns-then-is_at c =
    place_behind c.args.number c.args.tunes.now.items c.place_from-place.result c.requires (c.is_at.ensures.within c.if-is_at.true)
    (c.is_at.ensures.named c.if-is_at.true)

pub returns-else-is_at : goal.returns-else-is_at
returns-else-is_at c =
    place_between c.args.number c.args.tunes.now.items c.place_from-place.result c.requires c.place_from-place.ensures
    (c.is_at.ensures.other c.if-is_at.false)
