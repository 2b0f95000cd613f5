use Rattle.std.proofs.Common.{refl, sym, ◌∙◌, arith}
use Rattle.abc_notes.specs.Pitches.{in_force}
use Rattle.abc_notes.proofs.PastLemmas.{borne_change}
use Rattle.abc_notes.proofs.bar.Bar.take_change.Goals as goal

pub returns-clause-after : goal.returns-clause-after
unfolding in_force
returns-clause-after c = λ past kept. record {
  count = omega (arith, kept.count);
  current = refl;
  near = λ l o near. kept.near l o near ∙ borne_change c.args.signature past l o;
  clear = kept.clear;
  far = λ none l o far. sym (borne_change c.args.signature past l o) ∙ kept.far none l o far;
}
