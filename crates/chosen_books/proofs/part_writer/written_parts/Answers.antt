use Rattle.std.proofs.Common.{◌≡◌, ◌++◌, [], ap, sym, ◌∙◌, subst, append-nil, arith}
use Rattle.std.specs.Vec.Iter.{into_iter_items}
use Rattle.std.specs.Prelude.{vec_len}
use Rattle.chosen_books.specs.ChosenTunes.{GoIn, texts_of}
use Rattle.chosen_books.specs.Inside.WrittenParts.{TextsFit, IsClosed}
use Rattle.chosen_books.proofs.PartLemmas.{closed_more, closed_end, closed_last, no_texts, part_fits, fit_back, empty_texts, full_texts}
use Rattle.chosen_books.proofs.part_writer.written_parts.Goals as goal
use Rattle.chosen_books.proofs.part_writer.written_parts.Goals.{then-not-is_empty+in_ok-book+in_ok-push, else-not-is_empty}

pub loop-tune-preserved : goal.loop-tune-preserved
loop-tune-preserved c = record {
  is = c.in_ok-add.ensures.is;
  closed = λ longest fit.
      let was = c.loop-tune.invariant.closed longest fit in
      let texts = c.loop-tune.part.texts.items in
      let later = texts_of (into_iter_items c.loop-tune.tune-iterator) in
      closed_more longest (texts_of c.args.tunes.items) c.loop-tune.parts.items c.close_full.new.parts.items texts later
      c.close_full.new.self.texts.items c.add.new.self.texts.items (texts_of (into_iter_items c.next.new.self)) c.in-Some.tune.text was
      (c.in_ok-close_full.ensures.texts longest was.done (part_fits longest (texts_of c.args.tunes.items) c.loop-tune.parts.items texts later fit was) was.go)
      (ap texts_of c.in-Some.ensures.steps.0) c.in_ok-add.ensures.texts;
}

pub returns : goal.returns
returns c = λ longest fit.
    let all = texts_of c.args.tunes.items in
    let texts = c.loop-tune.part.texts.items in
    let none : texts_of (into_iter_items c.loop-tune.tune-iterator) ≡ [] =
    no_texts (into_iter_items c.loop-tune.tune-iterator) (sym c.loop-tune.tune-iterator.rest.ok.0 ∙ c.in-None.ensures.steps.0) in
    let was = c.loop-tune.invariant.closed longest fit in
    let last : IsClosed longest all c.loop-tune.parts.items texts =
    subst (IsClosed longest all c.loop-tune.parts.items) (ap (λ ts. texts ++ ts) none ∙ append-nil texts) was in
    let fits : TextsFit longest texts = fit_back longest last.done texts (subst (TextsFit longest) (sym last.whole) fit) in
    elim c.if-not-is_empty.branch [
      | then-not-is_empty+in_ok-book+in_ok-push w ↦ subst (λ ps. GoIn longest ps all) (sym (ap (λ v. v.items) w.parts-is ∙ w.in_ok-push.ensures.items))
          (closed_last longest all c.loop-tune.parts.items texts w.in_ok-book.field-0 last
          (w.in_ok-book.ensures longest (full_texts texts (vec_len c.loop-tune.part.texts) w.if-not-is_empty.ensures (omega arith)) fits))
      | else-not-is_empty w ↦ subst (λ ps. GoIn longest ps all) (sym (ap (λ v. v.items) w.parts-is))
          (closed_end longest all c.loop-tune.parts.items texts last
          (empty_texts texts (vec_len c.loop-tune.part.texts) w.if-not-is_empty.ensures (omega arith)))
    ]
