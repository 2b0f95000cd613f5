use Rattle.std.proofs.Common.{◌++◌, sym, ap, ◌∙◌, arith}
use Rattle.desk_questions.proofs.DumpLemmas.{set_begins, place_next, places_all}
use Rattle.desk_questions.proofs.dumps.put_set.Goals as goal

pub loop-row-init : goal.loop-row-init
loop-row-init c = c.in_ok-put_new.ensures ∙ ap (λ bytes. c.args.script.now.items ++ bytes) (sym (set_begins c.args.name.now))

pub loop-row-preserved : goal.loop-row-preserved
loop-row-preserved c =
    place_next c.args.name.now c.args.rows.now c.loop-row.row-index c.row-item.result c.args.script.now.items _ _ (omega arith) c.row-item.is
    c.loop-row.invariant c.in_ok-put_add.ensures

pub returns : goal.returns
returns c = places_all c.args.name.now c.args.rows.now c.loop-row.row-index c.args.script.now.items _ (omega arith) c.loop-row.invariant
