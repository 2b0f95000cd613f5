use Rattle.std.proofs.Common.{◌≡◌, ◌<◌, take, subst, sym, ◌∙◌, arith, rules, length, refl, ap}
use Rattle.std.proofs.lemmas.Bool.{true≢false}
use Rattle.std.proofs.lemmas.List.{length-take-le}
use Rattle.std.proofs.BufReadLemmas.{Consumes_shown}
use Rattle.std.specs.Io.BufRead.{FillKeeps, DropsConsumable}
use Rattle.tune_scripts.proofs.ReadLemmas.{some_of}
use Rattle.tune_scripts.proofs.stream_console.take_part.Goals.{then-is_wanted, else-is_wanted}
use Rattle.tune_scripts.proofs.stream_console.take_part.Goals as goal

pub returns : goal.returns
returns g c =
    let shown = c.in-Ok.shown.now in
    let count = c.min-count.result in
    let some : 0 < count = omega (arith, c.requires, some_of (length shown) (sym c.is_empty.ensures ∙ c.if-is_empty.false)) in
    let rested = c.fill_buf.follows.lender-at-none in
    let filled = subst (FillKeeps _ (g.R.Read.remaining rested) (g.R.BufRead.consumable_len rested)) c.in-Ok.is c.fill_buf.follows.holds-at-none in
    let same : c.if-is_wanted.reader ≡ rested = search rules in
    let drops = subst (λ r. DropsConsumable (g.R.Read.remaining r) (g.R.Read.remaining c.consume.new.self) (g.R.BufRead.consumable_len r) count) same
    c.consume.ensures.bytes in
    let moved = Consumes_shown _ _ _ _ shown count (omega arith) c.in-Ok.ensures.front c.in-Ok.ensures.end filled.0 filled.1 drops in (
      some,
      omega arith,
      take count shown,
      length-take-le count shown (omega arith),
      moved.0,
      λ kept. elim c.if-is_wanted.branch [
        | then-is_wanted w ↦ (
          w.if-is_wanted.true,
          ap (λ book. book.items) w.book-is ∙ w.extend_from_slice.ensures.items
              ∙ rw (sym w.is_ok-is_kept.ensures.value ∙ sym w.is_kept-is ∙ kept) refl,
        )
        | else-is_wanted w ↦ absurd (true≢false (sym kept ∙ w.is_kept-is ∙ w.if-is_wanted.false))
      ],
    )
