use Rattle.std.proofs.Common.{◌<◌, ◌≤◌, ◌++◌, List, ℕ, length, arith, rules}
use Rattle.tune_journal.specs.ChangeList.{padded_image}
use Rattle.tune_pages.specs.Stand.{Stand}
use Rattle.tune_pages.specs.Work.{stand_on}
use Rattle.tune_pages.proofs.Counting.{answers_for, ok_from, none_at_first}
use Rattle.tune_pages.proofs.Putting.{laid_alone}
use Rattle.tune_pages.proofs.Links.{link_last, link_padded}
use Rattle.tune_pages.proofs.pages.Pages.put_chain.Goals as goal

-- Bytes that one page has room for.
pub returns-then-bytes-le-ROOM-clause-chain : goal.returns-then-bytes-le-ROOM-clause-chain
returns-then-bytes-le-ROOM-clause-chain g c =
    let bytes : List ℕ = c.args.bytes.now in
    let image : List ℕ = padded_image (c.head_of.result ++ bytes) in
    let old : Stand = stand_on c.args.self.now.pages c.args.self.now.used c.args.work.now in
    let now : Stand = stand_on c.args.self.now.pages c.args.self.now.used c.take_least.new.work in
    let some : 0 < length bytes = search rules in
    let few : length bytes ≤ 4090 = omega arith in
    let link = link_last bytes image some few (link_padded c.head_of.result bytes c.head_of.ensures) in
    let call = c.take_least.ensures in
    ok_from c.take_least.result _ _ _ _
    (λ page least within stand. laid_alone old now page image bytes stand least within.0 within.2 link.0 link.1 link.2 link.3
    some few)
    call.least call.within call.stand

pub returns-then-bytes-le-ROOM-clause-answer : goal.returns-then-bytes-le-ROOM-clause-answer
returns-then-bytes-le-ROOM-clause-answer g c =
    let old : Stand = stand_on c.args.self.now.pages c.args.self.now.used c.args.work.now in
    let some : 0 < length c.args.bytes.now = search rules in
    answers_for c.take_least.result c.args.self.now.closed _ _ (none_at_first old (length c.args.bytes.now) some) c.take_least.ensures.answer
