use Rattle.std.proofs.Common.{ap, ◌∙◌, arith}
use Rattle.std.specs.Prelude.{vec_len}
use Rattle.chosen_books.proofs.PartLemmas.{closed_part, closed_none, empty_texts, full_texts}
use Rattle.chosen_books.proofs.part_writer.Part.close_full.Goals as goal
use Rattle.chosen_books.proofs.part_writer.Part.close_full.Goals.{then-not-is_empty+in_ok-book+in_ok-push, else-not-is_empty}

pub returns-clause-texts : goal.returns-clause-texts
returns-clause-texts c = λ longest done fit go.
    let texts = c.args.self.now.texts.items in
    let count = vec_len c.args.self.now.texts in
    elim c.if-not-is_empty.branch [
      | then-not-is_empty+in_ok-book+in_ok-push w ↦ closed_part longest done texts c.args.parts.now.items c.if-not-is_empty.parts.items
          c.new.result.texts.items w.in_ok-book.field-0 go
          (w.in_ok-book.ensures longest (full_texts texts count w.if-not-is_empty.ensures (omega arith)) fit)
          (ap (λ v. v.items) w.parts-is ∙ w.in_ok-push.ensures.items) c.new.ensures.texts
      | else-not-is_empty w ↦ closed_none longest done texts c.args.parts.now.items c.if-not-is_empty.parts.items
          c.new.result.texts.items go (empty_texts texts count w.if-not-is_empty.ensures (omega arith))
          (ap (λ v. v.items) w.parts-is) c.new.ensures.texts
    ]
