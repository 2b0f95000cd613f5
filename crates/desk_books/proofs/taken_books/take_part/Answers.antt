use Rattle.std.proofs.Common.{◌≡◌, true, false, inl, refl, Ok, Err, subst}
use Rattle.abc_fields.specs.Books.{book_answer}
use Rattle.tune_store.specs.Limits.{longest_text}
use Rattle.desk_books.proofs.taken_books.take_part.Goals as goal

pub returns-in-Ok-import-clause-takes : goal.returns-in-Ok-import-clause-takes
returns-in-Ok-import-clause-takes g c =
    let layout = c.of.result.layout in
    let texts = subst (λ bytes. book_answer (longest_text layout) bytes ≡ Ok c.in-Ok.brought.texts.items) c.as_slice.ensures c.in-Ok.ensures.texts in
    inl (
      g.K.Desk.deeds c.keep.new.desk,
      c.keep.new.course,
      Ok c.in-Ok-import.field-0,
      c.in-Ok-keep.ensures.keeps c.args.part layout texts,
      record { carried = c.in-Ok-import.ensures.carried; deeds = refl; course = c.in-Ok-import.ensures.course },
      λ zero. refl,
      λ ok. refl,
    )

pub returns-in-Err-import-clause-takes : goal.returns-in-Err-import-clause-takes
returns-in-Err-import-clause-takes g c = λ status refused.
    let layout = c.of.result.layout in
    let texts = subst (λ bytes. book_answer (longest_text layout) bytes ≡ Ok c.in-Ok.brought.texts.items) c.as_slice.ensures c.in-Ok.ensures.texts in
    inl (
      g.K.Desk.deeds c.keep.new.desk,
      c.keep.new.course,
      Err c.in-Err-import.refusal,
      c.in-Ok-keep.ensures.keeps c.args.part layout texts,
      record { carried = c.in-Err-import.ensures.carried; deeds = refl; course = c.in-Err-import.ensures.course },
      λ zero. absurd (refused zero),
      λ ok. let no : false ≡ true = ok in cc,
    )
