use Rattle.std.proofs.Common.{◌≡◌, List, ℕ, rules, subst}
use Rattle.tune_pages.specs.Inside.Cached.{KeepsOneMore}
use Rattle.tune_pages.proofs.CacheLemmas.{one_or_none, one_more_of}
use Rattle.tune_pages.proofs.cached.keep_in.Goals as goal

pub returns-in-Some-clause-only : goal.returns-in-Some-clause-only
returns-in-Some-clause-only c =
    let old = c.args.cache.now.entries in
    let now = c.copy_of.new.cache in
    let new = c.put.new.self in
    let copy = c.in-Some.copy in
    let image : copy.value.bytes ≡ c.args.image.now.bytes = search rules in
    let one = one_or_none c.put.result now new c.args.page copy c.put.ensures.entries c.put.ensures.err in
    one_more_of old now.entries new.entries c.args.page c.args.image.now.bytes c.copy_of.ensures.only
    (subst (λ (bytes : List ℕ). KeepsOneMore now.entries new.entries c.args.page bytes) image one)
