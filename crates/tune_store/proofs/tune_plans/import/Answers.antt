use Rattle.std.proofs.Common.{◌≡◌, sym, ◌∙◌, Ok, ◌+◌, ◌≤◌, length, ap, arith}
use Rattle.abc_fields.specs.Books.{book_answer}
use Rattle.tune_store.specs.Limits.{longest_text, most_tunes, greatest_number}
use Rattle.tune_store.specs.State.{greatest}
use Rattle.tune_store.specs.TuneSteps.{tunes_step}
use Rattle.tune_store.proofs.PlanLemmas.{labels_long, import_adds}
use Rattle.tune_store.proofs.ChangeLemmas.{some_texts}
use Rattle.tune_store.proofs.tune_plans.import.Goals as goal

pub returns-clause-planned : goal.returns-clause-planned
returns-clause-planned g c = λ state is kind same.
    let tunes = state.tunes in
    let judged = c.in_ok-judged.judged in
    let many = labels_long tunes _ same in
    let top : c.last_number-greatest.result ≡ greatest tunes = c.last_number-greatest.ensures.greatest tunes is.rises same in
    let layout = c.layout-layout.ensures ∙ kind in
    let long = c.longest_text.ensures.longest ∙ ap longest_text layout in
    let most = c.most_tunes-most.ensures.most ∙ ap most_tunes layout in
    let room : length tunes + length judged ≤ most_tunes state.layout =
    omega (arith, many, most, c.count-count.ensures, c.len-len.ensures.count, c.if-count-most.false, c.if-len-most.false) in
    let texts : book_answer (longest_text state.layout) c.args.book.now ≡ Ok judged =
    ap (λ n. book_answer n c.args.book.now) (sym long) ∙ c.in_ok-judged.ensures.texts in
    let numbers : greatest tunes + length judged ≤ greatest_number = omega (arith, top, c.count-count.ensures, c.if-last.false) in
    rw (texts, c.change.ensures.change, c.change.ensures.reply, c.in_ok-texts.ensures)
    (ap (tunes_step state) (import_adds state.layout tunes judged _ _ room numbers (omega (arith, top)) (omega (arith, top, c.count-count.ensures))))

pub returns-clause-possible : goal.returns-clause-possible
returns-clause-possible g c =
    let texts = ap length c.in_ok-texts.ensures in
    let many = c.in_ok-texts.texts.ok.0 in
    let count = c.count-count.ensures in
    let most = c.most_tunes-most.ensures.most ∙ ap most_tunes c.layout-layout.ensures in
    rw c.change.ensures.change (
      omega (arith, texts, many, count, most, c.len-len.ensures.count, c.if-count-most.false, c.if-len-most.false),
      omega (arith, texts, many, count, c.if-last.false),
      c.last_number-greatest.ensures.above,
      omega arith,
    )

pub returns-clause-alters : goal.returns-clause-alters
returns-clause-alters g c =
    let some = some_texts _ c.args.book.now c.in_ok-judged.judged c.in_ok-judged.ensures.texts in
    rw c.change.ensures.change (omega (arith, ap length c.in_ok-texts.ensures, c.in_ok-texts.texts.ok.0))
