use Rattle.std.proofs.Common.{◌<◌, take, sym, ◌∙◌, arith, length, refl, ap}
use Rattle.std.proofs.lemmas.Bool.{true≢false}
use Rattle.std.proofs.lemmas.List.{length-take-le}
use Rattle.tune_scripts.proofs.ReadLemmas.{some_of}
use Rattle.desk_loads.proofs.script_console.take_part.Goals.{then-is_wanted, else-is_wanted}
use Rattle.desk_loads.proofs.RestLemmas.{rest_of}
use Rattle.desk_loads.proofs.script_console.take_part.Goals as goal

pub returns-clause-bytes : goal.returns-clause-bytes
returns-clause-bytes c =
    let rest = c.args.rest.now in
    let count = c.min-count.result in
    let some : 0 < count = omega (arith, c.requires, some_of (length rest) (sym c.is_empty.ensures ∙ c.if-is_empty.false)) in (
      some,
      omega arith,
      take count rest,
      length-take-le count rest (omega arith),
      rest_of count rest,
      λ kept. elim c.if-is_wanted.branch [
        | then-is_wanted w ↦ (
          w.if-is_wanted.true,
          ap (λ book. book.items) w.book-is ∙ w.extend_from_slice.ensures.items
              ∙ rw (sym w.is_ok-is_kept.ensures.value ∙ sym w.is_kept-is ∙ kept) refl,
        )
        | else-is_wanted w ↦ absurd (true≢false (sym kept ∙ w.is_kept-is ∙ w.if-is_wanted.false))
      ],
    )
