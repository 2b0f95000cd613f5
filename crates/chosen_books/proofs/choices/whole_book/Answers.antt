use Rattle.std.proofs.Common.{false, [], ◌∷◌, ◌++◌, ap, sym, ◌∙◌, arith, length, inl, inr}
use Rattle.std.specs.Prelude.{count_by}
use Rattle.abc_fields.specs.Books.{book_answer}
use Rattle.chosen_books.specs.BookTunes.{book_tunes}
use Rattle.chosen_books.specs.ChosenTunes.{bad_tunes, carries_some, good_tunes, most_carried, texts_of}
use Rattle.chosen_books.proofs.ChoiceLemmas.{all_found}
use Rattle.chosen_books.proofs.WholeLaw.{accepted, is_whole, length_lines, length_texts, none_carry, none_most, one_part, own_runs, own_tunes, refused_whole}
use Rattle.chosen_books.proofs.WholeLaw.{whole_chosen, whole_refusal}
use Rattle.chosen_books.proofs.choices.whole_book.Goals as goal

pub returns-in-Err-clause-refused : goal.returns-in-Err-clause-refused
returns-in-Err-clause-refused c = λ how whole. elim c.in-Err.ensures.refusal [
  | inl memory ↦ inl memory
  | inr told ↦ inr (refused_whole how c.args.longest c.args.book c.in-Err.fault whole (ap (book_answer c.args.longest) (sym c.as_slice.ensures) ∙ told))
]

pub returns-clause-texts : goal.returns-clause-texts
returns-clause-texts c = λ how sums whole.
    let book = c.args.book in
    let longest = c.args.longest in
    let is = is_whole how book whole in
    let answer = ap (book_answer c.args.longest) (sym c.as_slice.ensures) ∙ c.in-Ok.ensures.texts in
    let taken = accepted longest book c.in-Ok.judged is.short answer in
    let tunes = book_tunes false book in
    let same = whole_chosen how longest sums book whole in
    let parts = c.in_ok-push.ensures.items ∙ ap (λ ps. ps ++ book ∷ []) c.new-parts.ensures.items in
    record {
      parts = one_part longest book c.push.new.self.items c.in-Ok.judged _ parts answer (ap texts_of same ∙ taken.good);
      tunes = omega (arith, c.count-tunes.ensures, ap length taken.good, length_texts (good_tunes longest tunes), ap length same);
      bad = c.new.ensures.items ∙ sym (ap (λ b. bad_tunes longest (book_tunes b book)) is.carry ∙ taken.bad);
      none_lost = omega (
        arith,
        c.count-tunes.ensures,
        ap length taken.good,
        length_texts (good_tunes longest tunes),
        c.new.ensures.len,
        all_found longest tunes,
        ap length taken.bad,
        length_lines tunes,
        ap length (own_runs book),
      );
      lines = sym (ap most_carried same ∙ none_most longest 1 tunes (own_tunes book));
      carrying = sym (ap (count_by carries_some) same ∙ none_carry longest 1 tunes (own_tunes book));
      taken = whole_refusal how longest book whole ∙ taken.taken;
    }
