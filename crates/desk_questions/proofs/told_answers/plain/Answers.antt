use Rattle.std.proofs.Common.{◌≡◌, ◌≤◌, ◌<◌, ◌++◌, [], ◌∷◌, Ok, Err, true, false, map, take, drop, length, rules, refl, sym, ap, ◌∙◌, subst, arith, append-nil}
use Rattle.std.proofs.Common.{append_assoc, codes}
use Rattle.tune_asking.proofs.CallLemmas.{goes_none, goes_on, good_of, call_ok, call_err, call_no_memory, call_refused, call_refused_by, call_same}
use Rattle.desk_questions.specs.Told.{reply_told}
use Rattle.desk_questions.proofs.RowLemmas.{told_refused, told_ok}
use Rattle.desk_questions.proofs.told_answers.plain.Goals as goal

pub ask-requires : goal.ask-requires
ask-requires g c = c.requires

pub returns-in_err-reply : goal.returns-in_err-reply
returns-in_err-reply g c =
    let k = g.S.TuneStore in
    call_err k _ _ _ _ _ _ _ (goes_none k _) c.in_err-reply.ensures
    (λ is_open honest refused. told_refused (reply_told c.args.form) _ _ refused) (search rules)

pub returns-in_err-reply_bytes : goal.returns-in_err-reply_bytes
returns-in_err-reply_bytes g c =
    let k = g.S.TuneStore in
    call_no_memory k _ _ _ _ (goes_on k _ _ _ _ _ (goes_none k c.args.store.now) c.in_ok-reply.ensures) (search rules)

pub returns : goal.returns
returns g c =
    let k = g.S.TuneStore in
    let start = goes_none k c.args.store.now in
    call_ok k _ _ _ _ (goes_on k _ _ _ _ _ start c.in_ok-reply.ensures)
    (λ is_open honest. told_ok (reply_told c.args.form) _ _ (good_of k _ _ _ _ _ start c.in_ok-reply.ensures is_open honest)
    ∙ ap Ok (sym c.in_ok-reply_bytes.ensures))
