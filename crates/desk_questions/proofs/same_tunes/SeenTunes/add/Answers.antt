use Rattle.desk_questions.proofs.TwinLemmas.{seen_more, on_ok}
use Rattle.desk_questions.proofs.same_tunes.SeenTunes.add.Goals as goal

pub returns : goal.returns
returns c tunes = λ have.
    on_ok c.put_row.result
    (λ rows. seen_more tunes c.args.tune _ _ _ c.into_vec.result _ _ _ have c.in_ok-row.ensures c.into_vec.ensures c.in_ok-opening.ensures
    c.in_ok-by_text.ensures.first c.in_ok-by_text.ensures.put c.in_ok-by_opening.ensures.first c.in_ok-by_opening.ensures.put rows)
    c.put_row.ensures
