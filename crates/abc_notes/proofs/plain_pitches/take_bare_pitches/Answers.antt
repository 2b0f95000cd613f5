use Rattle.std.proofs.Common.{◌≡◌, ◌<◌, ◌∙◌, ◌++◌, [], List, ℤ, length, map, take, sym, ap, subst, arith, true, FitsSigned, w8, to_z, of_z}
use Rattle.std.proofs.lemmas.Bool.{true≢false}
use Rattle.std.proofs.lemmas.Int.{ints}
use Rattle.std.proofs.lemmas.List.Elements.{AllWithin-more_set}
use Rattle.std.proofs.Math.Facts.{to_z-of_z}
use Rattle.abc_items.specs.ItemSpans.{ItemSpan}
use Rattle.abc_items.specs.ItemView.{item_span}
use Rattle.abc_items.specs.Plain.{begin_plain, is_plain_item}
use Rattle.abc_items.proofs.PlainItems.{plain_own}
use Rattle.abc_notes.specs.Inside.Bounds.{AreShort}
use Rattle.abc_notes.specs.Music.{line_events}
use Rattle.abc_notes.specs.Pitches.{counting, sounded_notes}
use Rattle.abc_notes.proofs.BareNotes.{bare_first, bare_passed, fewer_events, one_byte}
use Rattle.abc_notes.proofs.PlainPitches.{pitches_more}
use Rattle.abc_notes.proofs.plain_pitches.take_bare_pitches.Goals as goal

pub returns-then-taken-most-clause-pitches : goal.returns-then-taken-most-clause-pitches
returns-then-taken-most-clause-pitches c = λ tail.
    let s = c.args.letters.now in
    let span = item_span c.in-Some.item in
    let plain : is_plain_item span ≡ true = sym (c.in-Some.ensures.plain ∙ ap begin_plain c.in-Some.ensures.steps) in
    let small = c.bare_pitch.type_inv in
    let fits : FitsSigned w8 c.bare_pitch.result = grind (arith, ints) in
    let room : c.items.taken < length c.items.pitches = omega (arith, c.items.invariant.few, c.requires.room, c.items.auto.pitches) in
    c.items.invariant.pitches tail
    ∙ ap (λ notes. take c.items.taken c.items.pitches ++ map (λ n. n.pitch) (counting notes))
    (bare_first c.args.base s c.items.items c.next_plain.new.self span tail c.in-Some.ensures.steps (c.is_note.ensures.yes c.if-is_note.true)
    (plain_own span.bytes plain))
    ∙ pitches_more s c.args.base span (sounded_notes s [] (line_events c.args.base c.next_plain.new.self ++ tail)) c.items.pitches c.items.taken
    (to_z w8 (of_z w8 c.bare_pitch.result)) room (to_z-of_z fits ∙ c.bare_pitch.ensures s c.args.base c.row-row.ensures)

pub returns-then-taken-most-clause-fit : goal.returns-then-taken-most-clause-fit
returns-then-taken-most-clause-fit c =
    let small = c.bare_pitch.type_inv in
    let fits : FitsSigned w8 c.bare_pitch.result = grind (arith, ints) in
    let room : c.items.taken < length c.items.pitches = omega (arith, c.items.invariant.few, c.requires.room, c.items.auto.pitches) in
    AllWithin-more_set c.items.pitches c.items.taken (to_z w8 (of_z w8 c.bare_pitch.result)) room (FitsSigned w8) c.items.invariant.fit
    (subst (λ (z : ℤ). FitsSigned w8 z) (sym (to_z-of_z fits)) fits)

pub returns-then-taken-most-clause-fewer : goal.returns-then-taken-most-clause-fewer
returns-then-taken-most-clause-fewer c =
    omega (
      arith,
      fewer_events c.args.base c.items.items c.next_plain.new.self (item_span c.in-Some.item) c.in-Some.ensures.steps,
      c.items.invariant.fewer,
    )

pub items-preserved-else-taken-most : goal.items-preserved-else-taken-most
items-preserved-else-taken-most c =
    let s = c.args.letters.now in
    let span = item_span c.in-Some.item in
    let plain : is_plain_item span ≡ true = sym (c.in-Some.ensures.plain ∙ ap begin_plain c.in-Some.ensures.steps) in
    let small = c.bare_pitch.type_inv in
    let fits : FitsSigned w8 c.bare_pitch.result = grind (arith, ints) in
    let room : c.items.taken < length c.items.pitches = omega (arith, c.items.invariant.few, c.requires.room, c.items.auto.pitches) in
    record {
      few = omega (arith, c.items.invariant.few, c.if-taken-most.false);
      pitches = λ tail.
          c.items.invariant.pitches tail
          ∙ ap (λ notes. take c.items.taken c.items.pitches ++ map (λ n. n.pitch) (counting notes))
          (bare_first c.args.base s c.items.items c.next_plain.new.self span tail c.in-Some.ensures.steps (c.is_note.ensures.yes c.if-is_note.true)
          (plain_own span.bytes plain))
          ∙ pitches_more s c.args.base span (sounded_notes s [] (line_events c.args.base c.next_plain.new.self ++ tail)) c.items.pitches c.items.taken
          (to_z w8 (of_z w8 c.bare_pitch.result)) room (to_z-of_z fits ∙ c.bare_pitch.ensures s c.args.base c.row-row.ensures);
      fit = AllWithin-more_set c.items.pitches c.items.taken (to_z w8 (of_z w8 c.bare_pitch.result)) room (FitsSigned w8) c.items.invariant.fit
          (subst (λ (z : ℤ). FitsSigned w8 z) (sym (to_z-of_z fits)) fits);
      short = (subst (λ (items : List ItemSpan). AreShort c.args.base items) c.in-Some.ensures.steps c.items.invariant.short).1;
      fewer = omega (
        arith,
        fewer_events c.args.base c.items.items c.next_plain.new.self span c.in-Some.ensures.steps,
        c.items.invariant.fewer,
      );
    }

pub items-preserved : goal.items-preserved
items-preserved c =
    let s = c.args.letters.now in
    let span = item_span c.in-Some.item in
    let plain : is_plain_item span ≡ true = sym (c.in-Some.ensures.plain ∙ ap begin_plain c.in-Some.ensures.steps) in
    let one = one_byte span plain in
    let short = subst (λ (items : List ItemSpan). AreShort c.args.base items) c.in-Some.ensures.steps c.items.invariant.short in
    record {
      few = c.items.invariant.few;
      pitches = λ tail.
          c.items.invariant.pitches tail
          ∙ ap (λ notes. take c.items.taken c.items.pitches ++ map (λ n. n.pitch) (counting notes))
          (bare_passed c.args.base s c.items.items c.next_plain.new.self span tail c.in-Some.ensures.steps one
          (λ chord. absurd (omega (arith, one, short.0.brackets chord)))
          (λ named. absurd (true≢false (sym (c.is_note.ensures.no named) ∙ c.if-is_note.false))));
      fit = c.items.invariant.fit;
      short = short.1;
      fewer = omega (
        arith,
        fewer_events c.args.base c.items.items c.next_plain.new.self span c.in-Some.ensures.steps,
        c.items.invariant.fewer,
      );
    }
