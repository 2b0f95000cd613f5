use Rattle.std.specs.Prelude.{◌||◌}
use Rattle.std.proofs.Common.{◌≡◌, true, ◌∷◌, ◌∙◌, sym, ap, refl, subst, List, arith}
use Rattle.abc_notes.specs.Events.{Event, note, change}
use Rattle.abc_notes.specs.declared.bar.Bar.{Bar}
use Rattle.abc_notes.specs.Inside.BarTables.{IsBarAfter}
use Rattle.abc_notes.specs.Inside.EventView.{event_of, written_note}
use Rattle.abc_notes.specs.Inside.KeptBar.{notes_left, past_of, asked_notes, IsKeptBar}
use Rattle.abc_notes.specs.Pitches.{sounded, accidental_of_note}
use Rattle.abc_notes.specs.declared.events.Event.{Event as CodeEvent}
use Rattle.abc_notes.proofs.KeptLemmas.{kept_on, notes_note, notes_change, is_asked, not_asked}
use Rattle.abc_notes.proofs.notes.heard.Goals as goal
use Rattle.abc_notes.proofs.notes.heard.Goals.{then-all-via-then-all, then-all-via-else-all+then-note}

-- a bar that is as it was
after_accidental : (old new : Bar) (bar_events : List Event) → new ≡ old → IsBarAfter (past_of old.since bar_events) old
    → IsBarAfter (past_of old.since bar_events) new
after_accidental old new bar_events same after = subst (λ (b : Bar). IsBarAfter (past_of old.since bar_events) b) (sym same) after

pub accidental_in_force-accidental-requires : goal.accidental_in_force-accidental-requires
accidental_in_force-accidental-requires c = c.requires.after

pub take_note-requires : goal.take_note-requires
take_note-requires c = omega (arith, ap (λ (b : Bar). b.since) c.accidental_in_force-accidental.ensures.same, c.requires.few)

pub take_note-requires-in-Note : goal.take_note-requires-in-Note
take_note-requires-in-Note c = omega (arith, c.requires.few)

pub take_change-requires : goal.take_change-requires
take_change-requires c = omega (arith, c.requires.few)

pub end_bar-requires : goal.end_bar-requires
end_bar-requires c =
    subst (λ (e : CodeEvent). IsKeptBar c.args.bar.now c.args.bar_events.now (event_of e ∷ c.args.events.now)) c.in-Bar.is c.requires

pub returns-then-all-clause-kept : goal.returns-then-all-clause-kept
returns-then-all-clause-kept c =
    let asked = c.accidental_in_force-accidental in
    let after = c.take_note.ensures.after _ (after_accidental c.args.bar.now asked.new.bar c.args.bar_events.now asked.ensures.same c.requires.after) in
    kept_on c.args.bar.now c.take_note.new.self c.args.bar_events.now (event_of c.args.event ∷ c.args.events.now) c.args.events.now
    (note (written_note c.in-Note.note))
    c.requires (ap (λ e. event_of e ∷ c.args.events.now) c.in-Note.is) after

pub returns-then-all-clause-notes : goal.returns-then-all-clause-notes
returns-then-all-clause-notes c =
    let asked = c.accidental_in_force-accidental in
    let after = c.take_note.ensures.after _ (after_accidental c.args.bar.now asked.new.bar c.args.bar_events.now asked.ensures.same c.requires.after) in
    let written = written_note c.in-Note.note in
    let wanted : (c.args.all || written.counts) ≡ true =
    elim c.then-all.branch [
      | then-all-via-then-all w ↦ rw w.if-all.true refl
      | then-all-via-else-all+then-note w ↦ rw (w.if-all.false, w.if-note.true) refl
    ] in
    let left = notes_left c.take_note.new.self c.args.bar_events.now c.args.events.now in
    let accidental = accidental_of_note c.args.bar.now.start (past_of c.args.bar.now.since c.args.bar_events.now) written in
    is_asked (sounded written accidental) (notes_left c.args.bar.now c.args.bar_events.now (event_of c.args.event ∷ c.args.events.now)) left c.args.all wanted
    (notes_note c.args.bar.now c.take_note.new.self c.args.bar_events.now (event_of c.args.event ∷ c.args.events.now) c.args.events.now written
    c.requires (ap (λ e. event_of e ∷ c.args.events.now) c.in-Note.is) after (c.take_note.ensures.start ∙ ap (λ (b : Bar). b.start) asked.ensures.same))
    ∙ ap (λ n. n ∷ asked_notes c.args.all left) (ap (sounded written) (sym asked.ensures.value) ∙ sym c.token.ensures)

pub returns-else-note-clause-kept : goal.returns-else-note-clause-kept
returns-else-note-clause-kept c =
    kept_on c.args.bar.now c.take_note-in-Note.new.self c.args.bar_events.now (event_of c.args.event ∷ c.args.events.now) c.args.events.now
    (note (written_note c.in-Note.note))
    c.requires (ap (λ e. event_of e ∷ c.args.events.now) c.in-Note.is) (c.take_note-in-Note.ensures.after _ c.requires.after)

pub returns-else-note-clause-notes : goal.returns-else-note-clause-notes
returns-else-note-clause-notes c =
    let written = written_note c.in-Note.note in
    let left = notes_left c.take_note-in-Note.new.self c.args.bar_events.now c.args.events.now in
    let accidental = accidental_of_note c.args.bar.now.start (past_of c.args.bar.now.since c.args.bar_events.now) written in
    not_asked (sounded written accidental) (notes_left c.args.bar.now c.args.bar_events.now (event_of c.args.event ∷ c.args.events.now)) left
    c.args.all c.if-all.false c.if-note.false
    (notes_note c.args.bar.now c.take_note-in-Note.new.self c.args.bar_events.now (event_of c.args.event ∷ c.args.events.now) c.args.events.now written
    c.requires (ap (λ e. event_of e ∷ c.args.events.now) c.in-Note.is) (c.take_note-in-Note.ensures.after _ c.requires.after)
    c.take_note-in-Note.ensures.start)

pub returns-in-Bar-clause-kept : goal.returns-in-Bar-clause-kept
returns-in-Bar-clause-kept c = c.end_bar.ensures.kept

pub returns-in-Bar-clause-notes : goal.returns-in-Bar-clause-notes
returns-in-Bar-clause-notes c =
    ap (asked_notes c.args.all)
    (ap (λ e. notes_left c.args.bar.now c.args.bar_events.now (event_of e ∷ c.args.events.now)) c.in-Bar.is ∙ c.end_bar.ensures.notes)

pub returns-in-Change-clause-kept : goal.returns-in-Change-clause-kept
returns-in-Change-clause-kept c =
    kept_on c.args.bar.now c.take_change.new.self c.args.bar_events.now (event_of c.args.event ∷ c.args.events.now) c.args.events.now
    (change c.of_text.result)
    c.requires (ap (λ e. event_of e ∷ c.args.events.now) c.in-Change.is ∙ ap (λ s. change s ∷ c.args.events.now) (sym c.of_text.ensures))
    (c.take_change.ensures.after _ c.requires.after)

pub returns-in-Change-clause-notes : goal.returns-in-Change-clause-notes
returns-in-Change-clause-notes c =
    ap (asked_notes c.args.all)
    (notes_change c.args.bar.now c.take_change.new.self c.args.bar_events.now (event_of c.args.event ∷ c.args.events.now) c.args.events.now
    c.of_text.result
    c.requires (ap (λ e. event_of e ∷ c.args.events.now) c.in-Change.is ∙ ap (λ s. change s ∷ c.args.events.now) (sym c.of_text.ensures))
    (c.take_change.ensures.after _ c.requires.after) c.take_change.ensures.start)
