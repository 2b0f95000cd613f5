use Rattle.std.proofs.Common.{inl}
use Rattle.std.proofs.lemmas.Result.{err_from_is_err_and}
use Rattle.desk_books.proofs.KnownLemmas.{chooses, not_chosen}
use Rattle.desk_books.proofs.chosen_parts.choose.Goals as goal

pub returns-in_err-lost : goal.returns-in_err-lost
returns-in_err-lost g c = let p = err_from_is_err_and c.from_residual.result c.from_residual.ensures.1 in rw p.1 (inl p.2)

pub returns-in_err-shown : goal.returns-in_err-shown
returns-in_err-shown g c =
    let p = err_from_is_err_and c.from_residual-in_err-shown.result c.from_residual-in_err-shown.ensures.1 in rw p.1 (inl p.2)

pub returns-in_err-parts : goal.returns-in_err-parts
returns-in_err-parts g c =
    let p = err_from_is_err_and c.from_residual-in_err-parts.result c.from_residual-in_err-parts.ensures.1 in
    rw p.1 (not_chosen c.args.choosing.how c.args.choosing.layout c.args.book.bytes c.longest_text-longest.result _ p.0
    c.longest_text-longest.ensures.longest p.2 c.in_err-parts.ensures.refused)

pub returns : goal.returns
returns g c =
    let chosen = c.in_ok-parts.ensures in
    chooses c.args.choosing.how c.args.choosing.layout c.args.book.bytes c.args.known.now c.chosen_books.new.known _ c.longest_text-longest.result
    c.longest_text-longest.ensures.longest chosen.taken chosen.parts chosen.whole chosen.sums
