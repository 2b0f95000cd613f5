use Rattle.std.proofs.Common.{◌≡◌, ◌≤◌, ◌<◌, ◌++◌, [], ◌∷◌, Ok, Err, true, false, map, take, drop, length, rules, refl, sym, ap, ◌∙◌, subst, arith, append-nil}
use Rattle.std.proofs.Common.{append_assoc, codes, inl, inr}
use Rattle.tune_asking.proofs.CallLemmas.{goes_none, goes_on, good_of, call_ok, call_err, call_no_memory, call_refused, call_refused_by, call_same}
use Rattle.std.specs.Prelude.{MatchResult}
use Rattle.tune_asking.proofs.CallLemmas.{told_at}
use Rattle.desk_questions.proofs.told_answers.tell.Goals as goal

pub returns-clause-told : goal.returns-clause-told
returns-clause-told g c = λ is_open honest same. told_at g.S.TuneStore _ _ _ _ _ c.answer.ensures is_open honest same

pub returns-clause-asked : goal.returns-clause-asked
returns-clause-asked g c = c.answer.ensures.asked

pub returns-clause-stays : goal.returns-clause-stays
returns-clause-stays g c = c.answer.ensures.stays
