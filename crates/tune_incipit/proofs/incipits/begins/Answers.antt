use Rattle.std.proofs.Common.{sym, drop, length}
use Rattle.std.proofs.lemmas.Bool.Decides.{Decides-int_eq}
use Rattle.std.proofs.lemmas.Slice.Eq.{starts_is}
use Rattle.tune_incipit.proofs.incipits.begins.Goals as goal

pub returns : goal.returns
returns c =
    let front = c.args.front.now in
    let whole = c.args.whole.now in
    let value = c.starts_with.ensures.value in
    let is = starts_is Decides-int_eq whole front c.starts_with.result (rw (← c.as_slice.ensures.steps, ← c.as_slice-2.ensures.steps) value) in
    (λ yes. (drop (length front) whole, sym (is.0 yes)), λ begun. is.1 begun.0 (sym begun.1))
