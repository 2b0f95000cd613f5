use Rattle.std.proofs.Common.{◌≡◌, ◌+◌, false, sym, ◌∙◌, length, arith}
use Rattle.abc_fields.specs.Tunes.{is_key_line, tune_run}
use Rattle.abc_fields.specs.Inside.LinesLeft.{contents_of}
use Rattle.abc_fields.specs.Inside.ToldLines.{spans_at}
use Rattle.abc_fields.proofs.ToldLemmas.{so_far_more, so_far_other, so_far_key}
use Rattle.abc_fields.proofs.TuneParts.{header_more, header_near, header_key, spans_more}
use Rattle.abc_fields.proofs.tune_lines.read_to_key.Goals as goal
use Rattle.abc_fields.proofs.tune_lines.read_to_key.Goals.{then-is_told, else-is_told}

pub overflow_add-from : goal.overflow_add-from
overflow_add-from c =
    omega (arith, header_near _ _ _ _ _ c.loop-line.invariant.header c.in-Some.ensures.1 c.in-Some.ensures.0 c.requires)

pub new-place-requires-clause-from : goal.new-place-requires-clause-from
new-place-requires-clause-from c =
    omega (arith, header_near _ _ _ _ _ c.loop-line.invariant.header c.in-Some.ensures.1 c.in-Some.ensures.0 c.requires)

pub new-place-requires-clause-to : goal.new-place-requires-clause-to
new-place-requires-clause-to c = header_near _ _ _ _ _ c.loop-line.invariant.header c.in-Some.ensures.1 c.in-Some.ensures.0 c.requires

pub returns-then-is_key_line : goal.returns-then-is_key_line
returns-then-is_key_line c =
    let is = sym c.is_key_line.ensures ∙ c.if-is_key_line.true in (
      header_key _ _ _ _ _ c.loop-line.invariant.header c.in-Some.ensures.1 c.in-Some.ensures.0 is,
      λ few. rw c.new-place.ensures
          (so_far_key _ _ _ _ _ _ c.loop-line.invariant.told (spans_more _ _ _ _ c.in-Some.ensures.1 c.in-Some.ensures.0) is few),
    )

pub loop-line-preserved : goal.loop-line-preserved
loop-line-preserved c =
    let line = c.in-Some.line.text.now in
    let from = c.loop-line.from in
    let all = spans_at 0 (tune_run (contents_of c.args.lines.now)) in
    let left = spans_at (from + (length line + 1)) (tune_run (contents_of c.next_of_tune.new.lines)) in
    let other : is_key_line line ≡ false = sym c.is_key_line.ensures ∙ c.if-is_key_line.false in
    let step = spans_more from _ line _ c.in-Some.ensures.1 c.in-Some.ensures.0 in
    record {
      header = rw c.in_part_after-in_part.ensures
          (header_more _ _ _ _ _ _ c.loop-line.invariant.header c.in-Some.ensures.1 c.in-Some.ensures.0 other);
      told = elim c.if-is_told.branch [
        | then-is_told w ↦
            rw (w.places-is, w.count-is)
            (so_far_more all _ _ left c.loop-line.places _ c.loop-line.count _ c.loop-line.invariant.told step other (sym c.is_told.ensures ∙ w.if-is_told.true)
            (rw c.new-place.ensures at w.keep_place-count.ensures))
        | else-is_told w ↦
            rw (w.places-is, w.count-is)
            (so_far_other all _ _ left c.loop-line.places c.loop-line.count c.loop-line.invariant.told step other (sym c.is_told.ensures ∙ w.if-is_told.false))
      ];
    }
