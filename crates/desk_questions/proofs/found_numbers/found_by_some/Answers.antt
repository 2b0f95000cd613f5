use Rattle.std.proofs.Common.{◌≡◌, ◌≤◌, ◌<◌, ◌++◌, [], ◌∷◌, Ok, Err, true, false, map, take, drop, length, rules, refl, sym, ap, ◌∙◌, subst, arith, append-nil}
use Rattle.std.proofs.Common.{append_assoc, codes, inl, inr}
use Rattle.tune_asking.proofs.CallLemmas.{goes_none, goes_on, good_of, call_ok, call_err, call_no_memory, call_refused, call_refused_by, call_same}
use Rattle.std.specs.Vec.Iter.{into_iter_items}
use Rattle.std.specs.List.{list_any}
use Rattle.tune_queries.specs.Queries.{is_bad}
use Rattle.desk_questions.specs.Inside.QuestionCalls.{AreFoundBySome}
use Rattle.desk_questions.proofs.FoundLemmas.{found_by_no, found_by_more, bad_among}
use Rattle.desk_questions.proofs.found_numbers.found_by_some.Goals as goal

pub returns-in_err-add_found : goal.returns-in_err-add_found
returns-in_err-add_found g c =
    let k = g.S.TuneStore in
    let was = c.loop-query.invariant in
    let taken : into_iter_items c.loop-query.query-iterator ≡ c.in-Some.query ∷ into_iter_items c.next.new.self = c.in-Some.ensures.steps.0 in
    let splits = ap (λ rest. c.loop-query.yielded ++ rest) (sym taken) ∙ was.left in
    call_err k _ _ _ _ _ _ _ was.goes c.in_err-add_found.ensures
    (λ is_open honest refused. (ap (list_any is_bad) (sym splits) ∙ bad_among c.loop-query.yielded c.in-Some.query _ refused.0, refused.1)) (search rules)

pub loop-query-preserved : goal.loop-query-preserved
loop-query-preserved g c =
    let k = g.S.TuneStore in
    let was = c.loop-query.invariant in
    let taken : into_iter_items c.loop-query.query-iterator ≡ c.in-Some.query ∷ into_iter_items c.next.new.self = c.in-Some.ensures.steps.0 in
    record {
      goes = goes_on k _ _ _ _ _ was.goes c.in_ok-add_found.ensures;
      found = λ is_open honest.
          let good = good_of k _ _ _ _ _ was.goes c.in_ok-add_found.ensures is_open honest in
          found_by_more c.loop-query.yielded c.in-Some.query _ _ _ (was.found is_open (c.in_ok-add_found.ensures.asked.was_honest honest)) good.0 good.1;
      left = append_assoc c.loop-query.yielded (c.in-Some.query ∷ []) (into_iter_items c.next.new.self)
          ∙ ap (λ rest. c.loop-query.yielded ++ rest) (sym taken) ∙ was.left;
    }

pub loop-query-init : goal.loop-query-init
loop-query-init g c = record {
  goes = goes_none g.S.TuneStore _;
  found = λ is_open honest. found_by_no _ _ (search rules);
  left = search rules;
}
