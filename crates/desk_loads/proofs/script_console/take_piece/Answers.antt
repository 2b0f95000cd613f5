use Rattle.std.proofs.Common.{◌+◌, ◌-◌, ◌++◌, ◌<◌, take, drop, sym, ap, ◌∙◌, arith, length, [], ◌∷◌}
use Rattle.std.proofs.lemmas.List.{length-take-le, length-append, length-drop}
use Rattle.std.specs.List.{list_all}
use Rattle.tune_scripts.specs.Consoles.{is_inside}
use Rattle.tune_scripts.proofs.ReadLemmas.{copied_front, feed_shown, inside_shown, some_of}
use Rattle.desk_loads.proofs.RestLemmas.{rest_of}
use Rattle.desk_loads.proofs.script_console.take_piece.Goals as goal

pub returns-in-Some-clause-bytes : goal.returns-in-Some-clause-bytes
returns-in-Some-clause-bytes c =
    let rest = c.args.rest.now in
    let most = c.min-most.result in
    let n = c.in-Some.n in
    let high = c.in-Some.ensures.0.high in
    let size = length-take-le most rest (omega arith) in
    let room = c.args.room.now in
    let copied = c.copy_from_slice.new.self in
    let is = copied_front rest copied (drop n room) n c.copy_from_slice.ensures.after (omega (arith, high)) in
    let feed = feed_shown rest most n (omega arith) (omega (arith, high)) c.in-Some.ensures.1 in (
      omega (
        arith,
        high,
        length-append copied (drop n room),
        length-drop n room,
        ap length c.copy_from_slice.ensures.after,
        length-take-le n rest (omega (arith, high)),
      ),
      ap (list_all is_inside) is ∙ inside_shown rest most n (omega arith) (omega (arith, high)) (λ j l. c.in-Some.ensures.0.before j (omega arith) l),
      rest_of (n + 1) rest ∙ ap (λ l. l ++ take (length rest - (n + 1)) (drop (n + 1) rest)) (feed ∙ ap (λ l. l ++ 10 ∷ []) (sym is)),
    )

pub returns-in-None-clause-bytes : goal.returns-in-None-clause-bytes
returns-in-None-clause-bytes c =
    let rest = c.args.rest.now in
    let most = c.min-most.result in
    let size = length-take-le most rest (omega arith) in
    let room = c.args.room.now in
    let some : 0 < most = omega (arith, c.requires, some_of (length rest) (sym c.is_empty.ensures ∙ c.if-is_empty.false)) in
    let copied = c.copy_from_slice-in-None.new.self in
    let is = copied_front rest copied (drop most room) most c.copy_from_slice-in-None.ensures.after (omega arith) in (
      some,
      omega (arith, length-append copied (drop most room), length-drop most room),
      ap (list_all is_inside) is ∙ inside_shown rest most most (omega arith) (omega arith) (λ j l. c.in-None.ensures j (omega arith) (omega (arith, size))),
      rest_of most rest ∙ ap (λ l. l ++ take (length rest - most) (drop most rest)) (sym is),
    )
