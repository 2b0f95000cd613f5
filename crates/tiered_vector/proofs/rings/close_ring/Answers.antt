use Rattle.std.proofs.Common.{◌≡◌, [], ◌+◌, ◌-◌, length, get_or, set, arith, ◌∙◌, ap}
use Rattle.std.specs.List.{remove}
use Rattle.std.proofs.lemmas.Slice.{put_mid-rotated}
use Rattle.std.proofs.lemmas.List.{set_at, get_or_at}
use Rattle.std.proofs.lemmas.List.Edits.{length-remove}
use Rattle.tiered_vector.proofs.rings.close_ring.Goals as goal

pub returns-clause-gone : goal.returns-clause-gone
returns-clause-gone g c =
    let ring = c.args.ring.now in
    let place = c.args.place in
    let left = remove ring place in
    let gone = c.replace.result in
    let turned = put_mid-rotated place (length ring - place) ring c.rotate_left.new.self gone (omega arith) (omega arith) c.rotate_left.ensures.after in
    let count : length left + 1 ≡ length ring = length-remove ring place (omega arith) in
    c.replace.ensures.value ∙ ap (λ xs. get_or xs 1022 c.index-ring.result) turned
    ∙ get_or_at left (get_or ring place gone) [] c.index-ring.result 1022 (omega arith)

pub returns-clause-items : goal.returns-clause-items
returns-clause-items g c =
    let ring = c.args.ring.now in
    let place = c.args.place in
    let left = remove ring place in
    let last = c.args.last in
    let turned = put_mid-rotated place (length ring - place) ring c.rotate_left.new.self last (omega arith) (omega arith) c.rotate_left.ensures.after in
    let count : length left + 1 ≡ length ring = length-remove ring place (omega arith) in
    rw c.replace.ensures.after (ap (λ xs. set xs 1022 last) turned ∙ set_at left (get_or ring place last) [] last 1022 (omega arith))
