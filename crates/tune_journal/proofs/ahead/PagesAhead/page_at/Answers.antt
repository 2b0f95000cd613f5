use Rattle.std.proofs.Common.{◌≡◌, ◌+◌, ◌-◌, ◌*◌, ◌<◌, ◌∙◌, take, drop, ap, sym, arith, rules}
use Rattle.tune_journal.specs.FileOffsets.{block_bytes}
use Rattle.tune_journal.specs.Inside.ReadAhead.{buffer_in}
use Rattle.tune_journal.proofs.AheadPages.{page_in_run}
use Rattle.tune_journal.proofs.ahead.PagesAhead.page_at.Goals as goal

pub returns : goal.returns
returns c =
    let p = c.args.place in
    let few : p < c.self.inside.count = search rules in
    let is : c.deref.result.now ≡ buffer_in c.self.inside.buffer = c.deref.ensures.value ∙ sym (ap buffer_in c.in-Some.is) in
    let size : p * 4096 + 4096 - p * 4096 ≡ block_bytes = omega arith in
    let from : p * 4096 ≡ block_bytes * p = omega arith in
    rw (← c.self.view_is) (page_in_run c.self.inside.first p c.self.inside.count (buffer_in c.self.inside.buffer) _ few c.self.invariant.0
    (λ t. take (size t) (drop (from t) (is t))))
