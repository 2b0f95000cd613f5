use Rattle.std.proofs.Common.{◌≡◌, ◌∙◌, subst, get_or}
use Rattle.std.specs.Prelude.{MatchOption, []}
use Rattle.std.proofs.lemmas.List.{get_or_default}
use Rattle.abc_fields.specs.Inside.Shares.{RuleLines, StartAt}
use Rattle.abc_fields.proofs.ShareLemmas.{first_except}
use Rattle.abc_fields.proofs.shares.first_turn.Goals as goal
use Rattle.abc_fields.proofs.shares.first_turn.Goals.{then-index-except, else-index-except}

pub loop-index-preserved : goal.loop-index-preserved
loop-index-preserved c = elim c.if-index-except.branch [
  | then-index-except w ↦
      let rests = c.args.rests.now in
      let index = c.loop-index.index in
      let P : RuleLines → Type 0 = λ lines. MatchOption w.place.result (lines.marks ≡ []) (λ at. StartAt at lines.marks) in
      let read : (none : RuleLines) → w.index-rests-index.result ≡ get_or rests index none =
      λ none. w.index-rests-index.is ∙ get_or_default rests index w.index-rests-index.result none c.loop-index-test.true in
      rw w.found-is (w.earlier-found.ensures c.args.except rests w.if-index-except.true c.loop-index.invariant
      (λ none. subst P (read none) w.place.ensures))
  | else-index-except w ↦
      rw w.found-is (first_except c.loop-index.index c.args.except c.args.rests.now c.loop-index.found w.if-index-except.false
      c.loop-index.invariant)
]
