use Rattle.std.proofs.Common.{◌≡◌, ◌<◌, List, get_or, subst, ◌++◌, ◌+◌, ◌∙◌, Option, length, drop, sym, ap, arith, rules, append-nil}
use Rattle.std.proofs.Common.{append_assoc}
use Rattle.std.specs.Option.{option_to_list}
use Rattle.std.proofs.lemmas.List.{drop_all}
use Rattle.tune_asking.proofs.CallLemmas.{asked_more, goes_none, goes_on, good_of}
use Rattle.tune_changes.proofs.LookLemmas.{same_told}
use Rattle.tune_undo.specs.declared.old_entries.Part.{Part}
use Rattle.desk_changes.specs.TakenBack.{all_gone_by, gone_by}
use Rattle.desk_changes.proofs.UndoLemmas.{gone_next}
use Rattle.desk_changes.proofs.undone.taken_by.Goals as goal

pub loop-part-init : goal.loop-part-init
loop-part-init g c = record { goes = goes_none g.S.TuneStore _; texts = λ is_open h. search rules }

pub returns-in_err-gone-clause-asked : goal.returns-in_err-gone-clause-asked
returns-in_err-gone-clause-asked g c = asked_more g.S.TuneStore _ _ _ c.loop-part.invariant.goes.asked c.gone_by.ensures.asked

pub returns-in_err-put_gone-clause-asked : goal.returns-in_err-put_gone-clause-asked
returns-in_err-put_gone-clause-asked g c = asked_more g.S.TuneStore _ _ _ c.loop-part.invariant.goes.asked c.gone_by.ensures.asked

pub returns-clause-asked : goal.returns-clause-asked
returns-clause-asked g c = c.loop-part.invariant.goes.asked

pub returns-clause-gone : goal.returns-clause-gone
returns-clause-gone g c = record {
  stays = c.loop-part.invariant.goes.stays;
  was = λ is_open h. sym (c.loop-part.invariant.texts is_open h
      ∙ ap (λ some. c.loop-part.parts.items ++ all_gone_by some (g.S.TuneStore.state c.args.store.now))
      (drop_all c.loop-part.part-index c.args.entry.now.parts.items (omega arith)) ∙ append-nil c.loop-part.parts.items);
}

pub loop-part-preserved : goal.loop-part-preserved
loop-part-preserved g c =
    let k = g.S.TuneStore in
    let was = c.loop-part.invariant in
    let parts = c.args.entry.now.parts.items in
    let i = c.loop-part.part-index in
    let part = c.part-item.result in
    let state = k.state c.args.store.now in
    let so_far = c.loop-part.parts.items in
    let rest = all_gone_by (drop (i + 1) parts) state in
    let same : c.as_slice-part-items.result.now ≡ parts = search rules in
    record {
      goes = goes_on k _ _ _ _ _ was.goes c.in_ok-gone.ensures;
      texts = λ is_open h.
          let its : gone_by part state ≡ c.in_ok-gone.gone = same_told _ _ (good_of k _ _ _ _ _ was.goes c.in_ok-gone.ensures is_open h) in
          was.texts is_open (c.in_ok-gone.ensures.asked.was_honest h)
          ∙ ap (λ l. so_far ++ l) (gone_next parts i part state (subst (λ (l : List Part). i < length l) same c.loop-part-test.true)
          (subst (λ (l : List Part). part ≡ get_or l i part) same c.part-item.is))
          ∙ sym (append_assoc so_far (option_to_list (gone_by part state)) rest)
          ∙ ap (λ (o : Option Part). (so_far ++ option_to_list o) ++ rest) its
          ∙ ap (λ l. l ++ rest) (sym c.in_ok-put_gone.ensures);
    }
