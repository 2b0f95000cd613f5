use Rattle.std.proofs.Common.{◌≡◌, arith, ap, sym, ◌∙◌, subst, length, cond}
use Rattle.std.proofs.lemmas.Result.{IfOk-weaker}
use Rattle.chosen_books.specs.BookTunes.{book_tunes}
use Rattle.chosen_books.specs.ChosenTunes.{GoIn, bad_tunes, chosen_tunes, good_tunes, new_tunes, texts_of}
use Rattle.chosen_books.specs.Inside.WrittenParts.{TextsFit}
use Rattle.chosen_books.proofs.ChoiceLemmas.{all_found, all_tunes, chosen_fit}
use Rattle.chosen_books.proofs.choices.chosen_books.Goals as goal

pub returns-then-stays_whole-clause-whole : goal.returns-then-stays_whole-clause-whole
returns-then-stays_whole-clause-whole c = IfOk-weaker c.whole_book.result _ _ (λ chosen one whole. one) c.whole_book.ensures.one

pub returns-then-stays_whole-clause-bad : goal.returns-then-stays_whole-clause-bad
returns-then-stays_whole-clause-bad c =
    IfOk-weaker c.whole_book.result _ _ (λ chosen is. (is c.args.how c.args.known.now (sym c.stays_whole.ensures ∙ c.if-stays_whole.true)).bad)
    c.whole_book.ensures.texts

pub returns-then-stays_whole-clause-none_lost : goal.returns-then-stays_whole-clause-none_lost
returns-then-stays_whole-clause-none_lost c =
    IfOk-weaker c.whole_book.result _ _ (λ chosen is. (is c.args.how c.args.known.now (sym c.stays_whole.ensures ∙ c.if-stays_whole.true)).none_lost)
    c.whole_book.ensures.texts

pub returns-then-stays_whole-clause-taken : goal.returns-then-stays_whole-clause-taken
returns-then-stays_whole-clause-taken c =
    IfOk-weaker c.whole_book.result _ _ (λ chosen is. (is c.args.how c.args.known.now (sym c.stays_whole.ensures ∙ c.if-stays_whole.true)).taken)
    c.whole_book.ensures.texts

pub returns-clause-parts : goal.returns-clause-parts
returns-clause-parts c =
    let how = c.args.how in
    let longest = c.args.longest in
    let sums = c.args.known.now in
    let book = c.args.book in
    let good = c.in_ok-found.ensures.good ∙ ap (λ b. good_tunes longest (book_tunes how.carry b)) c.as_slice-2.ensures in
    let same : c.in_ok-tunes.tunes.items ≡ chosen_tunes how longest sums book =
    c.in_ok-tunes.ensures.kept ∙ ap (λ ts. cond how.only_new (new_tunes sums ts) ts) good in
    let fit : TextsFit longest (texts_of c.in_ok-tunes.tunes.items) = subst (λ ts. TextsFit longest (texts_of ts)) (sym same)
    (chosen_fit how longest sums book) in
    subst (λ ts. GoIn longest c.in_ok-written_parts.field-0.items (texts_of ts)) same (c.in_ok-written_parts.ensures longest fit)

pub returns-clause-none_lost : goal.returns-clause-none_lost
returns-clause-none_lost c =
    let how = c.args.how in
    let longest = c.args.longest in
    let good = ap length (c.in_ok-found.ensures.good ∙ ap (λ b. good_tunes longest (book_tunes how.carry b)) c.as_slice-2.ensures) in
    let bad = ap length (c.in_ok-found.ensures.bad ∙ ap (λ b. bad_tunes longest (book_tunes how.carry b)) c.as_slice-2.ensures) in
    omega (
      arith,
      good,
      bad,
      c.len.ensures,
      c.len-2.ensures,
      c.len-count.ensures,
      c.in_ok-tunes.ensures.few,
      all_found longest (book_tunes how.carry c.args.book),
      all_tunes how.carry c.args.book,
    )
