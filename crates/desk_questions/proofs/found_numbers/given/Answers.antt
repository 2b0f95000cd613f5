use Rattle.std.proofs.Common.{◌≡◌, ◌≤◌, ◌<◌, ◌++◌, [], ◌∷◌, Ok, Err, true, false, map, take, drop, length, rules, refl, sym, ap, ◌∙◌, subst, arith, append-nil}
use Rattle.std.proofs.Common.{append_assoc, codes, inl, inr}
use Rattle.tune_asking.proofs.CallLemmas.{goes_none, goes_on, good_of, call_ok, call_err, call_no_memory, call_refused, call_refused_by, call_same}
use Rattle.desk_questions.specs.Conditions.{has_no_words}
use Rattle.std.specs.List.{list_any}
use Rattle.tune_store.specs.declared.command.Refusal.{Refusal}
use Rattle.tune_queries.specs.Queries.{is_bad}
use Rattle.desk_questions.proofs.FoundLemmas.{asks_for_no_words, asks_too_long, asks_badly, asks_something, given_by}
use Rattle.desk_questions.proofs.found_numbers.given.Goals as goal

pub returns-then-has_no_words : goal.returns-then-has_no_words
returns-then-has_no_words g c =
    let k = g.S.TuneStore in
    let none : has_no_words c.args.condition.now ≡ true = search rules in
    call_refused k _ _ _ _ (goes_none k c.args.store.now) (λ is_open honest. (asks_for_no_words c.args.condition.now none, refl))

pub returns-in_err-queries : goal.returns-in_err-queries
returns-in_err-queries g c =
    let k = g.S.TuneStore in
    let start = goes_none k c.args.store.now in
    elim c.in_err-queries.ensures [
      | inl memory ↦ call_no_memory k _ _ _ _ start
          (subst (λ (refusal : Refusal). c.from_residual.result ≡ Err refusal) memory (search rules))
      | inr long ↦ call_refused_by k _ _ _ _ _ start (λ is_open honest. (asks_too_long c.args.condition.now long.1, long.0)) (search rules)
    ]

pub returns-in_err-numbers : goal.returns-in_err-numbers
returns-in_err-numbers g c =
    let k = g.S.TuneStore in
    call_err k _ _ _ _ _ _ _ (goes_none k _) c.in_err-numbers.ensures
    (λ is_open honest refused. (asks_badly c.args.condition.now (ap (list_any is_bad) (sym c.in_ok-queries.ensures.0) ∙ refused.0), refused.1)) (search rules)

pub returns-in_err-add_by_title : goal.returns-in_err-add_by_title
returns-in_err-add_by_title g c =
    let k = g.S.TuneStore in
    call_err k _ _ _ _ _ _ _ (goes_on k _ _ _ _ _ (goes_none k c.args.store.now) c.in_ok-numbers.ensures) c.in_err-add_by_title.ensures
    (λ is_open honest none. absurd none) (search rules)

pub returns : goal.returns
returns g c =
    let k = g.S.TuneStore in
    let start = goes_none k c.args.store.now in
    let by_queries = goes_on k _ _ _ _ _ start c.in_ok-numbers.ensures in
    call_ok k _ _ _ _ (goes_on k _ _ _ _ _ by_queries c.in_ok-add_by_title.ensures)
    (λ is_open honest.
    let some = good_of k _ _ _ _ _ start c.in_ok-numbers.ensures is_open (c.in_ok-add_by_title.ensures.asked.was_honest honest) in
    let words : has_no_words c.args.condition.now ≡ false = search rules in
    let made = c.in_ok-queries.ensures in
    given_by c.args.condition.now _ _ _ _
    (asks_something c.args.condition.now words made.1 (ap (list_any is_bad) (sym made.0) ∙ some.ask)) made.0 some
    (good_of k _ _ _ _ _ by_queries c.in_ok-add_by_title.ensures is_open honest))
