use Rattle.std.proofs.Common.{None, refl, sym, ◌∙◌}
use Rattle.abc_notes.specs.Pitches.{in_force}
use Rattle.abc_notes.specs.Inside.BarTables.{index_of}
use Rattle.abc_notes.proofs.PastLemmas.{none_anywhere, borne_nothing}
use Rattle.abc_notes.proofs.bar.Bar.begin.Goals as goal

pub returns-clause-after : goal.returns-clause-after
unfolding in_force
returns-clause-after c = record {
  count = refl;
  current = sym c.again-self.ensures;
  near = λ l o near. none_anywhere None 112 (index_of l o) ∙ sym (borne_nothing l o);
  clear = λ none l o near. none_anywhere None 112 (index_of l o);
  far = λ none l o far. borne_nothing l o;
}
