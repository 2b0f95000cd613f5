-- What caches keep.
use Rattle.std.proofs.Common.{◌≡◌, ◌≢◌, ℕ, suc, ◌+◌, ◌<◌, ◌≤◌, [], ◌∷◌, length, arith, true, false, ◌⊎◌, inl, inr, List}
use Rattle.std.proofs.Common.{◌++◌, All, Contains, Option, Some, None, IfSome}
use Rattle.std.proofs.Common.{Result, Ok, Err, OnOk, OnErr, refl, sym, ◌∙◌, ap, subst, map, option_map, nat_eq, rules}
use Rattle.std.specs.Cmp.{nat_eq_equiv}
use Rattle.std.specs.Global.{Box}
use Rattle.std.specs.List.{IsDistinct}
use Rattle.std.specs.List.Sorted.{IsStrictlyIncreasing}
use Rattle.std.specs.Map.{lookup, lookup_entry, remove_entry, set_value, keys_of}
use Rattle.std.proofs.lemmas.Bool.{cases_eq, cases_lt, true≢false}
use Rattle.std.proofs.lemmas.List.Elements.{All-head, All-tail}
use Rattle.std.proofs.lemmas.Map.{lookup-remove_entry}
use Rattle.lru.specs.LruCache.{LruCache, lru_cache, promoted, put_entries}
use Rattle.lru.proofs.CallerLemmas.{Contains-lookup, Contains-lookup_entry, Contains-put_entries, Contains-remove_entry}
use Rattle.lru.proofs.Matching.{none_found}
use Rattle.lru.proofs.Pairs.{lookup-lookup_entry}
use Rattle.lru.proofs.Splits.{Contains-cons}
use Rattle.tune_journal.specs.ChangeList.{image_of, changed_page}
use Rattle.tune_journal.specs.Pages.{page_at, pages_after}
use Rattle.tune_journal.specs.declared.changes.PageImage.{PageImage}
use Rattle.tune_journal.proofs.Above.{page_kept_after, page_changed_after, length-pages_after}
use Rattle.tune_journal.proofs.Puts.{image_past}
use Rattle.tune_pages.specs.Chain.{next_page_of, piece_of, IsLink}
use Rattle.tune_pages.specs.Inside.Cached.{CachedImage, KeepsOnly, KeepsOneMore, HasImage, HasLinkImage, Replaces, ReplacesAll, AreKept}

equal : (k page : ℕ) → nat_eq page k ≡ true → k ≡ page
equal k page is = search rules

-- what is found is the image of the page
pub found_image : (page : ℕ) (entries : List CachedImage) (kept : Box PageImage) → lookup (nat_eq page) entries ≡ Some kept
    → HasImage entries page kept.value.bytes
found_image page entries kept is =
    let at = Contains-lookup (nat_eq page) entries kept is in
    (kept, subst (λ (k : ℕ). Contains entries (k, kept)) (equal at.0 page at.2) at.1, refl)

-- where it is of a page of a chain, its bytes that count are added
pub link_found : (next : Option ℕ) (entries : List CachedImage) (page : ℕ) (image before after : List ℕ) → HasImage entries page image
    → IfSome next (λ n. IsLink image × (n ≡ next_page_of image) × (after ≡ before ++ piece_of image))
    → IfSome next (λ n. HasLinkImage entries page n before after)
link_found None entries page image before after has some = tt
link_found (Some n) entries page image before after has some = (image, has, some.0, some.1, some.2)

-- what is put is the image of the page, whatever was there
pub put_one : (cache : LruCache ℕ (Box PageImage)) (page : ℕ) (copy : Box PageImage)
    → KeepsOneMore cache.entries (put_entries nat_eq cache page copy) page copy.value.bytes
put_one cache page copy entry in_new = elim (Contains-put_entries nat_eq cache page copy entry in_new) [
  | inl old ↦ inl old
  | inr put ↦ elim put.1 [
    | inl key ↦ inr (key, ap (λ (b : Box PageImage). b.value.bytes) put.0)
    | inr was ↦ inr (equal entry.0 page was.2, ap (λ (b : Box PageImage). b.value.bytes) put.0)
  ]
]

-- where there is no memory nothing is put
pub one_or_none : {T E : Type 0} (result : Result T E) (old new : LruCache ℕ (Box PageImage)) (page : ℕ) (copy : Box PageImage)
    → OnOk result (new ≡ lru_cache (put_entries nat_eq old page copy) old.cap) → OnErr result (new ≡ old)
    → KeepsOneMore old.entries new.entries page copy.value.bytes
one_or_none (Ok value) old new page copy ok err =
    subst (λ (after : LruCache ℕ (Box PageImage)). KeepsOneMore old.entries after.entries page copy.value.bytes) (sym ok) (put_one old page copy)
one_or_none (Err value) old new page copy ok err =
    subst (λ (after : LruCache ℕ (Box PageImage)). KeepsOneMore old.entries after.entries page copy.value.bytes) (sym err) (λ entry has. inl has)

-- what was there before a place was made for the image was there before that
pub one_more_of : (old now new : List CachedImage) (page : ℕ) (image : List ℕ) → KeepsOnly old now → KeepsOneMore now new page image
    → KeepsOneMore old new page image
one_more_of old now new page image only more entry has = elim (more entry has) [
  | inl was ↦ inl (only entry was)
  | inr put ↦ inr put
]

-- ANOTHER IMAGE OF A PAGE
same_test : (page x y : ℕ) → nat_eq page x ≡ true → nat_eq page y ≡ nat_eq x y
same_test page x y is = subst (λ (k : ℕ). nat_eq page y ≡ nat_eq k y) (sym (equal x page is)) refl

differs : (page k : ℕ) → nat_eq page k ≡ false → k ≢ page
differs page k false_is = λ is. (let yes : nat_eq page k ≡ true = subst (λ (n : ℕ). nat_eq page n ≡ true) (sym is) (nat_eq_equiv.refl page) in
    absurd (true≢false (sym yes ∙ false_is)))

-- of a page that has no image, no image is replaced
pub none_replaced : (page : ℕ) (entries : List CachedImage) (changes : List (ℕ × List ℕ)) → lookup (nat_eq page) entries ≡ None
    → Replaces entries entries changes page
none_replaced page entries changes none entry has = inl (has, differs page entry.0 (none_found (nat_eq page) entries none entry has))

-- the others have no image of it
others : (page : ℕ) (entries : List CachedImage) → IsDistinct nat_eq (keys_of entries) → (entry : CachedImage)
    → Contains (remove_entry (nat_eq page) entries) entry
    → entry.0 ≢ page
others page entries distinct entry has =
    let yes = nat_eq_equiv.refl page in
    let none : lookup (nat_eq page) (remove_entry (nat_eq page) entries) ≡ None =
    lookup-remove_entry nat_eq_equiv (nat_eq page) (same_test page) page entries distinct ∙ rw yes refl in
    differs page entry.0 (none_found (nat_eq page) (remove_entry (nat_eq page) entries) none entry has)

entry_of : (page : ℕ) (entries : List CachedImage) (kept : Box PageImage) → lookup (nat_eq page) entries ≡ Some kept
    → (entry : CachedImage) × (lookup_entry (nat_eq page) entries ≡ Some entry)
entry_of page entries kept is =
    let same : option_map (λ (e : CachedImage). e.1) (lookup_entry (nat_eq page) entries) ≡ lookup (nat_eq page) entries =
    lookup-lookup_entry (nat_eq page) entries in
    (elim (lookup_entry (nat_eq page) entries) as (λ o. lookup_entry (nat_eq page) entries ≡ o
    → (entry : CachedImage) × (lookup_entry (nat_eq page) entries ≡ Some entry)) [
      | None ↦ λ none. (let never : Some kept ≡ None = sym is ∙ sym same ∙ ap (option_map (λ (e : CachedImage). e.1)) none in absurd cc)
      | Some entry ↦ λ found. (entry, found)
    ]) refl

-- where it has one, that one is
pub one_replaced : (page : ℕ) (entries : List CachedImage) (changes : List (ℕ × List ℕ)) (kept new : Box PageImage) → IsDistinct nat_eq (keys_of entries)
    → lookup (nat_eq page) entries ≡ Some kept → image_of page changes ≡ Some new.value.bytes
    → Replaces entries (set_value (nat_eq page) (promoted (nat_eq page) entries) new) changes page
one_replaced page entries changes kept new distinct is changed =
    let found = entry_of page entries kept is in
    let first = found.0 in
    let there = Contains-lookup_entry (nat_eq page) entries first found.1 in
    let after : set_value (nat_eq page) (promoted (nat_eq page) entries) new ≡ (first.0, new) ∷ remove_entry (nat_eq page) entries =
    rw (found.1, there.1) refl in
    let key : first.0 ≡ page = equal first.0 page there.1 in
    subst (λ (l : List CachedImage). Replaces entries l changes page) (sym after)
    (λ entry has. elim (Contains-cons (first.0, new) (remove_entry (nat_eq page) entries) entry has) [
      | inl put ↦ inr (ap (λ (e : CachedImage). image_of e.0 changes) (sym put) ∙ ap (λ (p : ℕ). image_of p changes) key ∙ changed
          ∙ ap (λ (e : CachedImage). Some e.1.value.bytes) put)
      | inr other ↦ inl (Contains-remove_entry (nat_eq page) entries entry other, others page entries distinct entry other)
    ])

-- IMAGES OF PAGES THAT CHANGE
-- the images of the first n pages that change are replaced
abbrev pub ReplacesFirst : List (ℕ × List ℕ) → ℕ → List CachedImage → List CachedImage → Type 0
ReplacesFirst changes n old new = (entry : CachedImage) → Contains new entry
    → (Contains old entry × ((k : ℕ) → k < n → entry.0 ≢ changed_page changes k)) ⊎ (image_of entry.0 changes ≡ Some entry.1.value.bytes)

pub replaced_more : (changes : List (ℕ × List ℕ)) (n : ℕ) (old now new : List CachedImage) → ReplacesFirst changes n old now
    → Replaces now new changes (changed_page changes n) → ReplacesFirst changes (n + 1) old new
replaced_more changes n old now new first more entry has = elim (more entry has) [
  | inl was ↦ elim (first entry was.0) [
    | inl kept ↦ inl (
      kept.0,
      λ k lt. elim (cases_lt k n) [
        | inl before ↦ kept.1 k before
        | inr there ↦ (let same : k ≡ n = omega (arith, lt, there) in λ is. was.1 (is ∙ ap (changed_page changes) same))
      ],
    )
    | inr put ↦ inr put
  ]
  | inr put ↦ inr put
]

page_none : (page : ℕ) (changes : List (ℕ × List ℕ)) → ((k : ℕ) → k < length changes → page ≢ changed_page changes k) → image_of page changes ≡ None
page_none page [] ne = refl
page_none page (c ∷ cs) ne = image_past page c cs (ne 0 (omega arith)) ∙ page_none page cs (λ k lt. ne (suc k) (omega (arith, lt)))

pub replaced_all : (changes : List (ℕ × List ℕ)) (old new : List CachedImage) → ReplacesFirst changes (length changes) old new → ReplacesAll old new changes
replaced_all changes old new first entry has = elim (first entry has) [
  | inl kept ↦ inl (kept.0, page_none entry.0 changes kept.1)
  | inr put ↦ inr put
]

-- WHAT IS KEPT
-- what is added of the image that is kept is what the page holds
pub link_kept : (pages : List (List ℕ)) (entries : List CachedImage) (next : Option ℕ) (page : ℕ) (image before after : List ℕ) → AreKept pages entries
    → page_at pages page ≡ image → IfSome next (λ n. HasLinkImage entries page n before after)
    → IfSome next (λ n. IsLink image × (n ≡ next_page_of image) × (after ≡ before ++ piece_of image))
link_kept pages entries None page image before after kept is some = tt
link_kept pages entries (Some n) page image before after kept is some =
    let same : some.0 ≡ image = sym some.1.2 ∙ (kept (page, some.1.0) some.1.1).1 ∙ is in
    subst (λ (i : List ℕ). IsLink i × (n ≡ next_page_of i) × (after ≡ before ++ piece_of i)) same (some.2, some.3, some.4)

pub kept_more : (pages : List (List ℕ)) (old new : List CachedImage) (page : ℕ) (image : List ℕ) → AreKept pages old → KeepsOneMore old new page image
    → page < length pages → image ≡ page_at pages page → AreKept pages new
kept_more pages old new page image kept more below is entry has = elim (more entry has) [
  | inl was ↦ kept entry was
  | inr put ↦ (omega (arith, put.0, below), put.1 ∙ is ∙ sym (ap (page_at pages) put.0))
]

named_below : (m : ℕ) (changes : List (ℕ × List ℕ)) (page : ℕ) (image : List ℕ) → All (λ c. c.0 < m) changes → image_of page changes ≡ Some image → page < m
named_below m [] page image below some = absurd (let e = some in cc)
named_below m (c ∷ cs) page image below some = elim (cases_eq page c.0) [
  | inl same ↦ omega (arith, same, All-head (λ (d : ℕ × List ℕ). d.0 < m) c cs below)
  | inr other ↦ named_below m cs page image (All-tail (λ (d : ℕ × List ℕ). d.0 < m) c cs below) (sym (image_past page c cs other) ∙ some)
]

pub kept_after : (pages : List (List ℕ)) (m : ℕ) (changes : List (ℕ × List ℕ)) (old new : List CachedImage) → AreKept pages old → ReplacesAll old new changes
    → IsStrictlyIncreasing (map (λ c. c.0) changes) → All (λ c. c.0 < m) changes → length pages ≤ m → AreKept (pages_after pages m changes) new
kept_after pages m changes old new kept all rising below le entry has =
    let size = length-pages_after pages m changes le in
    elim (all entry has) [
      | inl was ↦ (let before = kept entry was.0 in
          (omega (arith, before.0, le, size), before.1 ∙ sym (page_kept_after pages m changes entry.0 before.0 was.1)))
      | inr put ↦ (let lt = named_below m changes entry.0 entry.1.value.bytes below put in
          (omega (arith, lt, size), sym (page_changed_after pages m changes entry.0 entry.1.value.bytes rising le lt put)))
    ]
