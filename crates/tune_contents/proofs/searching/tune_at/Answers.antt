use Rattle.std.proofs.Common.{◌≡◌, ℕ, List, Some, subst, sym}
use Rattle.tune_format.specs.declared.rows.Row.{Row}
use Rattle.tune_contents.specs.Inside.Searching.{IsTuneAt}
use Rattle.tune_contents.specs.Texts.{HoldsSomeText, HoldsText}
use Rattle.tune_contents.proofs.OldTuneLemmas.{some_text_there, tune_read}
use Rattle.tune_contents.proofs.searching.tune_at.Goals as goal

pub read_tune_where-requires : goal.read_tune_where-requires
read_tune_where-requires g c = record {
  there = λ h.
      (let s = c.args.edit.now.next in
      subst (λ (r : Row). HoldsSomeText c.args.layout s r.first) (sym c.at-row.ensures)
      (some_text_there c.args.layout s c.args.rows.now.items c.args.place c.at-row.result c.requires.place (c.requires.holds h)));
}

pub returns-in-Ok-clause-tune : goal.returns-in-Ok-clause-tune
returns-in-Ok-clause-tune g c = λ h ahead tunes are holds.
    (let s = c.args.edit.now.next in
    let text : List ℕ = c.in-Ok.text in
    let read = subst (λ (r : Row). (revision : ℕ) (other : List ℕ) → HoldsText c.args.layout s r.first revision other → text ≡ other) c.at-row.ensures
    (c.in-Ok.ensures.text h) in
    subst (λ (r : Row). IsTuneAt c.args.place tunes (Some (r.number, text))) (sym c.at-row.ensures)
    (tune_read c.args.layout s ahead tunes c.args.rows.now.items c.args.place c.at-row.result text c.requires.place are holds read))
