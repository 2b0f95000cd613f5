use Rattle.std.proofs.Common.{None, refl, arith}
use Rattle.abc_notes.specs.Pitches.{borne, in_force}
use Rattle.abc_notes.specs.Inside.BarTables.{index_of}
use Rattle.abc_notes.proofs.PastLemmas.{none_anywhere}
use Rattle.abc_notes.proofs.bar.Bar.take_bar.Goals as goal

pub returns-then-not-self-clause-after : goal.returns-then-not-self-clause-after
unfolding in_force borne
returns-then-not-self-clause-after c = λ past kept. record {
  count = omega (arith, kept.count);
  current = kept.current;
  near = λ l o near. kept.clear c.if-not-self.true l o near;
  clear = λ none l o near. kept.clear c.if-not-self.true l o near;
  far = λ none l o far. refl;
}

pub returns-clause-after : goal.returns-clause-after
unfolding in_force borne
returns-clause-after c = λ past kept. record {
  count = omega (arith, kept.count);
  current = kept.current;
  near = λ l o near. none_anywhere None 112 (index_of l o);
  clear = λ none l o near. none_anywhere None 112 (index_of l o);
  far = λ none l o far. refl;
}
