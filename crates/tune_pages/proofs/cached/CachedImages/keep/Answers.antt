use Rattle.std.proofs.Common.{◌≡◌, List, rules, subst, ◌∙◌}
use Rattle.tune_pages.specs.Inside.Cached.{CachedImage, KeepsOneMore}
use Rattle.tune_pages.proofs.cached.CachedImages.keep.Goals as goal

pub returns-in-Some : goal.returns-in-Some
returns-in-Some c =
    let is : c.in-Some.cache.entries ≡ c.begin.new.self = search rules in
    subst (λ (was : List CachedImage). KeepsOneMore was c.keep_in.new.cache.entries c.args.page c.args.image.now.bytes)
    (is ∙ c.begin.ensures) c.keep_in.ensures.only
