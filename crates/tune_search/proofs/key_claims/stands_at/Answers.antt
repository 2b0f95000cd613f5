use Rattle.std.proofs.Common.{◌<◌, length, get_or, ap, ◌∙◌}
use Rattle.std.proofs.lemmas.List.{get_or_default, get_or_read}
use Rattle.index_keys.specs.Entries.{Entry}
use Rattle.tune_search.proofs.ClaimKeys.{compares_first, compares_more}
use Rattle.tune_search.proofs.key_claims.stands_at.Goals as goal

pub loop-key-init : goal.loop-key-init
loop-key-init g c = λ number is. compares_first number c.args.entries.now c.args.keys.now c.args.first is

pub loop-key-preserved : goal.loop-key-preserved
loop-key-preserved g c = λ number is.
    let es = c.args.entries.now in
    let keys = c.args.keys.now in
    let at = c.loop-key.at in
    let index = c.loop-key.key-index in
    let l : at < length es = c.if-at-entries.false in
    let m : index < length keys = c.loop-key-test.true in
    let here = ap (λ (e : Entry). e.0) (get_or_default es at (0, 0) c.index-entries-at.result l) in
    let same = here ∙ c.is_same.ensures.0 c.if-not-is_same.false ∙ get_or_read keys index c.key-item.result m c.key-item.is 0 in
    compares_more number es keys at index (get_or c.args.nexts.now at 0) (c.loop-key.invariant number is) l m same (c.requires.each at l)
