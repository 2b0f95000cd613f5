use Rattle.std.proofs.Common.{rules, sym, ◌∙◌, arith}
use Rattle.std.proofs.lemmas.Bool.{true≢false}
use Rattle.abc_notes.specs.Inside.EventView.{written_note}
use Rattle.abc_notes.specs.Pitches.{in_force}
use Rattle.abc_notes.specs.Inside.BarTables.{IsNearOctave}
use Rattle.abc_notes.proofs.PastLemmas.{holds_set, borne_none, borne_far, borne_near}
use Rattle.abc_notes.proofs.bar.Bar.take_note.Goals as goal

pub returns-then-is_near-clause-after : goal.returns-then-is_near-clause-after
unfolding in_force
returns-then-is_near-clause-after c =
    let near : IsNearOctave c.args.written.octave = search rules in
    λ past kept. record {
      count = omega (arith, kept.count);
      current = kept.current;
      near =
          holds_set (written_note c.args.written) c.in-Some.accidental past c.args.self.now.entries c.set_entry.new.entries c.in-Some.is c.set_entry.ensures
          kept.near;
      clear = λ none l o near. absurd (true≢false none);
      far = λ none l o far. sym (borne_near (written_note c.args.written) past l o near far) ∙ kept.far none l o far;
    }

pub returns-else-is_near-clause-after : goal.returns-else-is_near-clause-after
unfolding in_force
returns-else-is_near-clause-after c =
    let far : IsNearOctave c.args.written.octave → ⊥ = search rules in
    λ past kept. record {
      count = omega (arith, kept.count);
      current = kept.current;
      near = λ l o near. kept.near l o near ∙ borne_far (written_note c.args.written) past l o far near;
      clear = kept.clear;
      far = λ none l o apart. absurd (true≢false none);
    }

pub returns-in_default-clause-after : goal.returns-in_default-clause-after
unfolding in_force
returns-in_default-clause-after c = λ past kept. record {
  count = omega (arith, kept.count);
  current = kept.current;
  near = λ l o near. kept.near l o near ∙ borne_none (written_note c.args.written) past l o c.in_default.is;
  clear = kept.clear;
  far = λ none l o far. sym (borne_none (written_note c.args.written) past l o c.in_default.is) ∙ kept.far none l o far;
}
