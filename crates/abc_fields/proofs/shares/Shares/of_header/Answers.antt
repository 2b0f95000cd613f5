use Rattle.std.proofs.Common.{◌≡◌, ◌∙◌, ◌<◌, true, subst, sym, arith, List, take, length}
use Rattle.std.proofs.lemmas.List.{length-map, length-take-le}
use Rattle.abc_fields.specs.Inside.HeaderRows.{HeaderRow, row_list}
use Rattle.abc_fields.specs.Inside.Shares.{AreShares}
use Rattle.abc_fields.specs.declared.file_header.HeaderLine.{HeaderLine}
use Rattle.abc_fields.proofs.ShareLemmas.{rows_more}
use Rattle.abc_fields.proofs.shares.Shares.of_header.Goals as goal

pub loop-place-preserved : goal.loop-place-preserved
loop-place-preserved c =
    let lines = c.lines-lines.result.now in
    let place = c.loop-place.place in
    let within : place < length lines = c.loop-place-test.true in
    let rows = row_list (take place lines) in
    let long : place ≡ length rows = sym (length-map (take place lines) (λ (l : HeaderLine). record { rule = l.rule; text = l.text.now })
    ∙ length-take-le place lines (omega (arith, within))) in
    let step = c.in_ok-add_to_share.ensures rows long c.loop-place.invariant.are in
    let P : List HeaderRow → Type 0 = λ rs. AreShares (λ _. true) 0 rs c.add_to_share.new.shares.items in
    record {
      are = subst P (sym (rows_more lines place _ within)) step;
      few = omega (arith, c.loop-place.invariant.few, c.change-changes.ensures);
    }
