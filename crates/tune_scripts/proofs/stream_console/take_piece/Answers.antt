use Rattle.std.proofs.Common.{◌+◌, ◌++◌, ◌<◌, drop, subst, sym, ap, ◌∙◌, arith, length, [], ◌∷◌}
use Rattle.std.proofs.lemmas.List.{length-take-le, length-append, length-drop}
use Rattle.std.proofs.BufReadLemmas.{Consumes_shown}
use Rattle.std.specs.List.{list_all}
use Rattle.std.specs.Io.KnownBytes.{Consumes}
use Rattle.std.specs.Io.BufRead.{FillKeeps}
use Rattle.tune_scripts.specs.Consoles.{is_inside}
use Rattle.tune_scripts.proofs.ReadLemmas.{copied_front, feed_shown, inside_shown, some_of}
use Rattle.tune_scripts.proofs.stream_console.take_piece.Goals as goal

pub returns-in-Some : goal.returns-in-Some
returns-in-Some g c =
    let shown = c.in-Ok.shown.now in
    let most = c.min-most.result in
    let n = c.in-Some.n in
    let high = c.in-Some.ensures.0.high in
    let size = length-take-le most shown (omega arith) in
    let room = c.args.room.now in
    let copied = c.copy_from_slice.new.self in
    let is = copied_front shown copied (drop n room) n c.copy_from_slice.ensures.after (omega (arith, high)) in
    let rested = c.fill_buf.follows.lender-at-none in
    let filled = subst (FillKeeps _ (g.R.Read.remaining rested) (g.R.BufRead.consumable_len rested)) c.in-Ok.is c.fill_buf.follows.holds-at-none in
    let front = c.in-Ok.ensures.front in
    let moved = Consumes_shown _ _ _ _ shown (n + 1) (omega (arith, high)) front c.in-Ok.ensures.end filled.0 filled.1 c.consume.ensures.bytes in
    let feed = feed_shown shown most n (omega arith) (omega (arith, high)) c.in-Some.ensures.1 in (
      omega (
        arith,
        high,
        length-append copied (drop n room),
        length-drop n room,
        ap length c.copy_from_slice.ensures.after,
        length-take-le n shown (omega (arith, high)),
      ),
      ap (list_all is_inside) is ∙ inside_shown shown most n (omega arith) (omega (arith, high)) (λ j l. c.in-Some.ensures.0.before j (omega arith) l),
      subst (Consumes _ _) (feed ∙ ap (λ l. l ++ 10 ∷ []) (sym is)) moved.0,
    )

pub returns-in-None : goal.returns-in-None
returns-in-None g c =
    let shown = c.in-Ok.shown.now in
    let most = c.min-most.result in
    let size = length-take-le most shown (omega arith) in
    let room = c.args.room.now in
    let some : 0 < most = omega (arith, c.requires, some_of (length shown) (sym c.is_empty.ensures ∙ c.if-is_empty.false)) in
    let copied = c.copy_from_slice-in-None.new.self in
    let is = copied_front shown copied (drop most room) most c.copy_from_slice-in-None.ensures.after (omega arith) in
    let rested = c.fill_buf.follows.lender-at-none in
    let filled = subst (FillKeeps _ (g.R.Read.remaining rested) (g.R.BufRead.consumable_len rested)) c.in-Ok.is c.fill_buf.follows.holds-at-none in
    let moved = Consumes_shown _ _ _ _ shown most (omega arith) c.in-Ok.ensures.front c.in-Ok.ensures.end filled.0 filled.1 c.consume-in-None.ensures.bytes in (
      some,
      omega (arith, length-append copied (drop most room), length-drop most room),
      ap (list_all is_inside) is ∙ inside_shown shown most most (omega arith) (omega arith) (λ j l. c.in-None.ensures j (omega arith) (omega (arith, size))),
      subst (Consumes _ _) (sym is) moved.0,
    )
