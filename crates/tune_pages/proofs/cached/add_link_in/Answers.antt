use Rattle.std.proofs.Common.{◌≡◌, Some, subst, rules, nat_eq, sym}
use Rattle.std.specs.Map.{lookup}
use Rattle.lru.specs.LruCache.{promoted}
use Rattle.lru.proofs.CallerLemmas.{Contains-promoted}
use Rattle.tune_pages.specs.Inside.Cached.{KeepsOnly, HasImage}
use Rattle.tune_pages.proofs.CacheLemmas.{found_image, link_found}
use Rattle.tune_pages.proofs.cached.add_link_in.Goals as goal

pub returns-in-Some-clause-link : goal.returns-in-Some-clause-link
returns-in-Some-clause-link c =
    let value : lookup (nat_eq c.args.page) c.args.cache.now.entries ≡ Some c.in-Some.kept.now = search rules in
    let found = found_image c.args.page c.args.cache.now.entries c.in-Some.kept.now value in
    let here : c.in-Some.kept.now.value.bytes ≡ c.deref.result.now.bytes = search rules in
    link_found c.add_link.result c.args.cache.now.entries c.args.page c.deref.result.now.bytes c.args.bytes.now.items c.add_link.new.bytes.items
    (subst (HasImage c.args.cache.now.entries c.args.page) here found) c.add_link.ensures.link

pub returns-in-Some-clause-only : goal.returns-in-Some-clause-only
returns-in-Some-clause-only c =
    let order : c.get.follows.lender-at-none.entries ≡ promoted (nat_eq c.args.page) c.args.cache.now.entries = search rules in
    subst (KeepsOnly c.args.cache.now.entries) (sym order) (Contains-promoted (nat_eq c.args.page) c.args.cache.now.entries)

pub returns-in-None-clause-only : goal.returns-in-None-clause-only
returns-in-None-clause-only c =
    let order : c.get.follows.lender-at-none.entries ≡ promoted (nat_eq c.args.page) c.args.cache.now.entries = search rules in
    subst (KeepsOnly c.args.cache.now.entries) (sym order) (Contains-promoted (nat_eq c.args.page) c.args.cache.now.entries)
