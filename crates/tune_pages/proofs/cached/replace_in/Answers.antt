use Rattle.std.proofs.Common.{◌≡◌, ℕ, List, Bool, Option, Some, None, true, false, nat_eq, rules, refl, sym, ◌∙◌, subst}
use Rattle.std.specs.Box.{with_value}
use Rattle.std.specs.Global.{Box}
use Rattle.std.specs.Map.{lookup, set_value}
use Rattle.std.proofs.lemmas.Option.{none-some}
use Rattle.lru.specs.LruCache.{promoted}
use Rattle.tune_journal.specs.ChangeList.{image_of}
use Rattle.tune_journal.specs.declared.changes.PageImage.{PageImage}
use Rattle.tune_pages.specs.Inside.Cached.{CachedImage, Replaces}
use Rattle.tune_pages.proofs.CacheLemmas.{none_replaced, one_replaced}
use Rattle.tune_pages.proofs.cached.replace_in.Goals as goal

-- a look for what is there finds it
is_found : (found : Bool) (looked : Option (List ℕ)) (image new : List ℕ) → looked ≡ Some image → (found ≡ true → looked ≡ Some new)
    → (found ≡ false → looked ≡ None) → looked ≡ Some new
is_found true looked image new there finds misses = finds refl
is_found false looked image new there finds misses = absurd (none-some image (sym (misses refl) ∙ there))

pub returns-in-Some-clause-only : goal.returns-in-Some-clause-only
returns-in-Some-clause-only c =
    let entries = c.args.cache.now.entries in
    let changes = c.args.changes.now in
    let page = c.page_at-page.result in
    let new : Box PageImage = with_value c.in-Some.kept.now c.read.new.image in
    let after : List CachedImage = set_value (nat_eq page) (promoted (nat_eq page) entries) new in
    let found : lookup (nat_eq page) entries ≡ Some c.in-Some.kept.now = search rules in
    let changed : image_of page changes ≡ Some c.read.new.image.bytes =
    is_found c.read.result _ _ _ c.page_at-page.ensures.found c.read.ensures.found c.read.ensures.missing in
    subst (λ (p : ℕ). Replaces entries after changes p) c.page_at-page.ensures.page
    (one_replaced page entries changes c.in-Some.kept.now new c.len-count.ensures.valid.0 found changed)

pub returns-in_default-clause-only : goal.returns-in_default-clause-only
returns-in_default-clause-only c =
    let entries = c.args.cache.now.entries in
    let changes = c.args.changes.now in
    let none : lookup (nat_eq c.page_at-page.result) entries ≡ None = search rules in
    subst (λ (p : ℕ). Replaces entries entries changes p) c.page_at-page.ensures.page (none_replaced c.page_at-page.result entries changes none)
