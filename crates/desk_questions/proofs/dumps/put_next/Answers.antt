use Rattle.std.proofs.Common.{◌++◌, [], length, ap, ◌∙◌, arith}
use Rattle.std.proofs.lemmas.Result.{on_ok_weaker}
use Rattle.desk_questions.specs.Dumps.{imported, script_bytes}
use Rattle.desk_questions.proofs.DumpLemmas.{brings_with, brings_next}
use Rattle.desk_questions.proofs.dumps.put_next.Goals as goal

pub returns-then-len-le-PIECE_SIZE : goal.returns-then-len-le-PIECE_SIZE
returns-then-len-le-PIECE_SIZE c = on_ok_weaker c.put_in_piece.result
    (λ held last next piece are. let same = ap length are in
    brings_with last c.args.tune.now piece _ c.args.script.now.items next (omega arith) (held piece are)) c.put_in_piece.ensures

pub returns : goal.returns
returns c = on_ok_weaker c.put_in_piece-2.result
    (λ held last next piece are. let same = ap length are in
    brings_next last c.args.tune.now piece _ c.args.script.now.items c.put_piece.new.script.items next (omega arith)
    (held [] c.in_ok-put_piece.ensures.begun)
    (c.in_ok-put_piece.ensures.written ∙ ap (λ bytes. c.args.script.now.items ++ script_bytes (imported bytes)) are)) c.put_in_piece-2.ensures
