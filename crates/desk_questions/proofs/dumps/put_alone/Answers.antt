use Rattle.std.proofs.Common.{◌++◌, [], ap, ◌∙◌}
use Rattle.std.proofs.lemmas.Result.{on_ok_weaker}
use Rattle.desk_questions.specs.Dumps.{imported, script_bytes}
use Rattle.desk_questions.proofs.DumpLemmas.{brings_alone}
use Rattle.desk_questions.proofs.dumps.put_alone.Goals as goal

pub returns : goal.returns
returns c = on_ok_weaker c.put_renumber.result (λ written last is gap piece are.
    let old = c.args.script.now.items in
    let one = c.put_piece.new.script.items in
    let two = c.put_piece-2.new.script.items in
    let held = c.in_ok-put_in_piece.ensures [] c.in_ok-put_piece.ensures.begun in
    brings_alone last c.args.next c.args.tune.now piece _ old one two _ is gap c.in_ok-put_piece-2.ensures.begun
    (c.in_ok-put_piece.ensures.written ∙ ap (λ bytes. old ++ script_bytes (imported bytes)) are)
    (c.in_ok-put_piece-2.ensures.written ∙ ap (λ bytes. one ++ script_bytes (imported bytes)) held) written) c.put_renumber.ensures
