use Rattle.std.proofs.Common.{◌≡◌, List, rules, subst}
use Rattle.tune_pages.specs.Inside.Cached.{CachedImage, KeepsOnly}
use Rattle.tune_pages.proofs.cached.CachedImages.add_link.Goals as goal

pub returns-in-Some-clause-only : goal.returns-in-Some-clause-only
returns-in-Some-clause-only c =
    let is : c.in-Some.cache.entries ≡ c.args.self.now = search rules in
    subst (λ (was : List CachedImage). KeepsOnly was c.add_link_in.new.cache.entries) is c.add_link_in.ensures.only
