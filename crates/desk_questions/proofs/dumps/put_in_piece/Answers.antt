use Rattle.std.proofs.Common.{◌≡◌, ◌<◌, ◌++◌, length, sym, ap, ◌∙◌, arith, codes}
use Rattle.std.proofs.lemmas.Result.{on_ok_weaker}
use Rattle.std.proofs.lemmas.Grind.{common_steps}
use Rattle.std.proofs.lemmas.List.{nil_from_length}
use Rattle.tune_books.specs.WrittenBooks.{written_tune}
use Rattle.desk_questions.proofs.DumpLemmas.{piece_begins, piece_more}
use Rattle.desk_questions.proofs.dumps.put_in_piece.Goals as goal

pub returns-then-not-is_empty : goal.returns-then-not-is_empty
returns-then-not-is_empty c =
    let some : 0 < length c.args.piece.now.items = grind (arith, common_steps) in
    on_ok_weaker c.write_tune.result (λ e tunes are. e ∙ sym (piece_more _ tunes _ are some)) c.write_tune.ensures

pub returns : goal.returns
returns c =
    let none : length c.args.piece.now.items ≡ 0 = grind (arith, common_steps) in
    let head : c.extend_from_slice.new.self.items ≡ codes "%abc-2.1\n" =
    c.in_ok-extend_from_slice.ensures.items ∙ ap (λ bytes. bytes ++ codes "%abc-2.1\n") (nil_from_length c.args.piece.now.items none) in
    on_ok_weaker c.write_tune-2.result (λ e tunes are. e
    ∙ ap (λ bytes. bytes ++ (codes "\n" ++ written_tune c.args.tune.now.number c.args.tune.now.text)) head
    ∙ sym (piece_begins _ tunes c.args.tune.now are none)) c.write_tune-2.ensures
