use Rattle.std.proofs.Common.{◌≡◌, sym, ◌∙◌, arith}
use Rattle.abc_fields.specs.Tunes.{joined, tune_run}
use Rattle.abc_fields.specs.Fields.{header_of}
use Rattle.abc_fields.specs.FileHeaders.{has_letter}
use Rattle.abc_fields.specs.Inside.LinesLeft.{contents_of}
use Rattle.abc_fields.specs.Inside.HeaderRows.{taken_lines, with_rows}
use Rattle.abc_fields.proofs.TuneParts.{IsPlaced, tune_part, told_part, put_longer}
use Rattle.abc_fields.proofs.tune_lines.text_of_tune.Goals as goal

pub read_to_end-requires : goal.read_to_end-requires
read_to_end-requires c =
    let run = tune_run (contents_of c.args.lines.now) in
    rw c.again-after.ensures (omega (arith, put_longer (taken_lines (has_letter (header_of run)) c.args.header.now) run, c.requires.good.fits))

-- the tune is a part of its book
placed : (c : goal.In-Some-part_before)
    → IsPlaced c.in-Some-part_before.part.now c.as_slice-put.result.now
    (taken_lines (has_letter (header_of (tune_run (contents_of c.args.lines.now)))) c.args.header.now) (tune_run (contents_of c.args.lines.now)) c.in-Some.key
placed c =
    let run = tune_run (contents_of c.args.lines.now) in
    let bytes = rw c.again.ensures at c.in_ok-change_to.ensures.bytes in
    let same : joined (taken_lines (has_letter (header_of run)) c.args.header.now) ≡ c.as_slice-put.result.now = sym (c.as_slice-put.ensures.value ∙ bytes) in
    tune_part (contents_of c.args.lines.now) (contents_of c.read_to_end.new.lines) c.in-Some-part_before.part.now c.as_slice-put.result.now
    (taken_lines (has_letter (header_of run)) c.args.header.now) c.in-Some.key
    (rw c.again-after.ensures at c.in-Some.ensures.0) c.in-Some.ensures.1 c.in-Some-part_before.ensures same

pub text_of_part-requires-clause-within : goal.text_of_part-requires-clause-within
text_of_part-requires-clause-within c = (placed c).within

pub text_of_part-requires-clause-good : goal.text_of_part-requires-clause-good
text_of_part-requires-clause-good c = rw (placed c).text c.requires.good

pub text_of_part-requires-clause-key : goal.text_of_part-requires-clause-key
text_of_part-requires-clause-key c = (placed c).key

pub text_of_part-requires-clause-told : goal.text_of_part-requires-clause-told
text_of_part-requires-clause-told c =
    let read = rw c.again-after.ensures at c.in-Some.ensures in
    told_part (contents_of c.args.lines.now) (contents_of c.read_to_end.new.lines) c.in-Some-part_before.part.now c.in-Some.key c.in-Some.told
    read.0 read.1 c.in-Some-part_before.ensures read.2

pub returns-in-Some-part_before-clause-text : goal.returns-in-Some-part_before-clause-text
returns-in-Some-part_before-clause-text c =
    let run = tune_run (contents_of c.args.lines.now) in
    let bytes = rw c.again.ensures at c.in_ok-change_to.ensures.bytes in
    let same : joined (taken_lines (has_letter (header_of run)) c.args.header.now) ≡ c.as_slice-put.result.now = sym (c.as_slice-put.ensures.value ∙ bytes) in
    let is = tune_part (contents_of c.args.lines.now) (contents_of c.read_to_end.new.lines) c.in-Some-part_before.part.now c.as_slice-put.result.now
    (taken_lines (has_letter (header_of run)) c.args.header.now) c.in-Some.key
    (rw c.again-after.ensures at c.in-Some.ensures.0) c.in-Some.ensures.1 c.in-Some-part_before.ensures same in
    rw is.text at c.text_of_part.ensures

pub from_vec-requires : goal.from_vec-requires
from_vec-requires c =
    let run = tune_run (contents_of c.args.lines.now) in
    let put = taken_lines (has_letter (header_of run)) c.args.header.now in
    let bytes = rw c.again.ensures at c.in_ok-change_to.ensures.bytes in
    let same : joined put ≡ c.as_slice-put.result.now = sym (c.as_slice-put.ensures.value ∙ bytes) in
    let written = rw c.clear.ensures.items at (c.in_ok-write_tune.ensures.text put same) in
    let text : c.in_ok-from_slice.field-0.items ≡ joined (with_rows c.args.header.now run) = c.in_ok-from_slice.ensures.items ∙ c.as_slice.ensures.value
    ∙ written in
    rw text c.requires.good

pub returns-clause-text : goal.returns-clause-text
returns-clause-text c =
    let run = tune_run (contents_of c.args.lines.now) in
    let put = taken_lines (has_letter (header_of run)) c.args.header.now in
    let bytes = rw c.again.ensures at c.in_ok-change_to.ensures.bytes in
    let same : joined put ≡ c.as_slice-put.result.now = sym (c.as_slice-put.ensures.value ∙ bytes) in
    let written = rw c.clear.ensures.items at (c.in_ok-write_tune.ensures.text put same) in
    c.from_vec.ensures ∙ c.in_ok-from_slice.ensures.items ∙ c.as_slice.ensures.value ∙ written
