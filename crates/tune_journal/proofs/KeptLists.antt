-- Changes by the first bytes of their images, and by whole ones: where these stand, and how many there are.
use Rattle.std.proofs.Common.{◌≡◌, ◌≢◌, ℕ, zero, suc, ◌+◌, ◌-◌, ◌<◌, ◌≤◌, List, [], ◌∷◌, ◌++◌, length, get_or, set, take, drop, replicate}
use Rattle.std.proofs.Common.{refl, sym, ◌∙◌, ap, subst, arith, length-append}
use Rattle.std.specs.List.{insert}
use Rattle.std.proofs.lemmas.List.{drop-append-le, take-append-le, length-drop, length-replicate, drop_at, take_all}
use Rattle.std.proofs.lemmas.List.{map-append, map-set, length-map, get_or_append_left, get_or-append_right, get_or-set_same, get_or-set_other, length-set}
use Rattle.tune_journal.specs.declared.changes.ChangedPage.{ChangedPage}
use Rattle.tune_journal.specs.declared.changes.Kept.{Kept}
use Rattle.tune_journal.specs.declared.changes.Kept.TheVariants.{Start, Whole}
use Rattle.tune_journal.specs.declared.changes.PageImage.{PageImage}
use Rattle.tune_journal.specs.ChangeList.{with_change, padded_image}
use Rattle.tune_journal.specs.Inside.ChangeOrder.{IsChangeList, AreAbove, PagesRise, FoundAt, MissingAt}
use Rattle.tune_journal.specs.Inside.ListedChanges.{wholes, image_in, change_in, listed_changes, HasPlace, HavePlaces, start_in, start_count, HoldsChanges}
use Rattle.tune_journal.specs.FileOffsets.{block_bytes}
use Rattle.tune_journal.proofs.ChangeLists.{Change, with_change_found, with_change_missing, in_listed, change_there, listed_inserted}
use Rattle.tune_journal.proofs.ChangeLists.{found_inserted, keeps_order}

module _ (s : List ℕ) where
  -- ONE MORE WHOLE IMAGE behind the others: what is held stays
  place_more : (pages : List ℕ) (p page : ℕ) (kept : Kept) → HasPlace (length s) pages page kept → HasPlace (length s) (pages ++ p ∷ []) page kept
  place_more pages p page (Start from size) has = has
  place_more pages p page (Whole place) has =
      (omega (arith, has.0, length-append pages (p ∷ [])), get_or_append_left pages (p ∷ []) 0 place has.0 ∙ has.1)

  pub places_more : (pages : List ℕ) (p : ℕ) (items : List ChangedPage) → HavePlaces (length s) pages items → HavePlaces (length s) (pages ++ p ∷ []) items
  places_more pages p [] have = tt
  places_more pages p (c ∷ cs) have = (place_more pages p c.page c.kept have.0, places_more pages p cs have.1)

  image_more : (pages : List ℕ) (w : List PageImage) (i : PageImage) (page : ℕ) (kept : Kept) → length pages ≡ length w → HasPlace (length s) pages page kept
      → image_in s (w ++ i ∷ []) kept ≡ image_in s w kept
  image_more pages w i page (Start from size) marks has = refl
  image_more pages w i page (Whole place) marks has =
      ap (λ (l : List (List ℕ)). get_or l place []) (map-append (λ (i : PageImage). i.bytes) w (i ∷ []))
      ∙ get_or_append_left (wholes w) (i.bytes ∷ []) [] place (omega (arith, marks, has.0, length-map w (λ (i : PageImage). i.bytes)))

  pub listed_more : (pages : List ℕ) (w : List PageImage) (i : PageImage) (items : List ChangedPage) → length pages ≡ length w
      → HavePlaces (length s) pages items
      → listed_changes s (w ++ i ∷ []) items ≡ listed_changes s w items
  listed_more pages w i [] marks have = refl
  listed_more pages w i (c ∷ cs) marks have =
      ap (λ (b : List ℕ). (c.page, b) ∷ listed_changes s (w ++ i ∷ []) cs) (image_more pages w i c.page c.kept marks have.0)
      ∙ ap (λ (l : List Change). change_in s w c ∷ l) (listed_more pages w i cs marks have.1)

  pub image_last : (w : List PageImage) (i : PageImage) → image_in s (w ++ i ∷ []) (Whole (length w)) ≡ i.bytes
  image_last w i =
      ap (λ (l : List (List ℕ)). get_or l (length w) []) (map-append (λ (i : PageImage). i.bytes) w (i ∷ []))
      ∙ get_or-append_right (wholes w) (i.bytes ∷ []) (length w) (length w) [] (length-map w (λ (i : PageImage). i.bytes)) (omega arith)
      ∙ (let none : length w - length w ≡ 0 = omega arith in ap (λ (n : ℕ). get_or (i.bytes ∷ []) n []) none)

  pub place_last : (pages : List ℕ) (page n : ℕ) → length pages ≡ n → HasPlace (length s) (pages ++ page ∷ []) page (Whole n)
  place_last pages page n size = (
    omega (arith, size, length-append pages (page ∷ [])),
    get_or-append_right pages (page ∷ []) n n 0 size (omega arith)
        ∙ (let none : n - n ≡ 0 = omega arith in ap (λ (m : ℕ). get_or (page ∷ []) m 0) none),
  )

  -- A WHOLE IMAGE REPLACED: that of no other page changes
  image_apart : (pages : List ℕ) (w : List PageImage) (k : ℕ) (i : PageImage) (page other : ℕ) (kept : Kept) → HasPlace (length s) pages other kept
      → get_or pages k 0 ≡ page
      → other ≢ page → image_in s (set w k i) kept ≡ image_in s w kept
  image_apart pages w k i page other (Start from size) has its ne = refl
  image_apart pages w k i page other (Whole place) has its ne =
      ap (λ (l : List (List ℕ)). get_or l place []) (map-set (λ (i : PageImage). i.bytes) w k i)
      ∙ get_or-set_other (wholes w) k place i.bytes [] (λ same. ne (sym has.1 ∙ ap (λ (n : ℕ). get_or pages n 0) same ∙ its))

  listed_apart : (pages : List ℕ) (w : List PageImage) (k : ℕ) (i : PageImage) (page : ℕ) (items : List ChangedPage) → HavePlaces (length s) pages items
      → get_or pages k 0 ≡ page → AreAbove page (listed_changes s w items) → listed_changes s (set w k i) items ≡ listed_changes s w items
  listed_apart pages w k i page [] have its above = refl
  listed_apart pages w k i page (c ∷ cs) have its above =
      ap (λ (b : List ℕ). (c.page, b) ∷ listed_changes s (set w k i) cs)
      (image_apart pages w k i page c.page c.kept have.0 its (λ is. absurd (omega (arith, above.0, is))))
      ∙ ap (λ (l : List Change). change_in s w c ∷ l) (listed_apart pages w k i page cs have.1 its above.1)

  image_set : (w : List PageImage) (k : ℕ) (i : PageImage) (kept : Kept) → k < length w → kept ≡ Whole k → image_in s (set w k i) kept ≡ i.bytes
  image_set w k i kept lt is =
      ap (image_in s (set w k i)) is ∙ ap (λ (l : List (List ℕ)). get_or l k []) (map-set (λ (i : PageImage). i.bytes) w k i)
      ∙ get_or-set_same (wholes w) k i.bytes [] (omega (arith, lt, length-map w (λ (i : PageImage). i.bytes)))

  pub listed_set : (pages : List ℕ) (w : List PageImage) (k : ℕ) (i : PageImage) (page at : ℕ) (items : List ChangedPage) (x : ChangedPage)
      → HavePlaces (length s) pages items → get_or pages k 0 ≡ page → k < length w → PagesRise (listed_changes s w items)
      → FoundAt page at (listed_changes s w items)
      → x ≡ get_or items at x
      → x.kept ≡ Whole k
      → listed_changes s (set w k i) items ≡ set (listed_changes s w items) at (page, i.bytes)
  listed_set pages w k i page at [] x have its lt rises found is whole = absurd (omega (arith, found.in_range))
  listed_set pages w k i page zero (c ∷ cs) x have its lt rises found is whole =
      ap (λ (p : ℕ). (p, image_in s (set w k i) c.kept) ∷ listed_changes s (set w k i) cs) found.is_its
      ∙ ap (λ (b : List ℕ). (page, b) ∷ listed_changes s (set w k i) cs) (image_set w k i c.kept lt (ap (λ (c : ChangedPage). c.kept) (sym is) ∙ whole))
      ∙ ap (λ (l : List Change). (page, i.bytes) ∷ l)
      (listed_apart pages w k i page cs have.1 its (subst (λ (p : ℕ). AreAbove p (listed_changes s w cs)) found.is_its rises.0))
  listed_set pages w k i page (suc at) (c ∷ cs) x have its lt rises found is whole =
      let rest : FoundAt page at (listed_changes s w cs) = record { in_range = omega (arith, found.in_range); is_its = found.is_its; below = found.below.1 } in
      ap (λ (b : List ℕ). (c.page, b) ∷ listed_changes s (set w k i) cs)
      (image_apart pages w k i page c.page c.kept have.0 its (λ same. absurd (omega (arith, found.below.0, same))))
      ∙ ap (λ (l : List Change). change_in s w c ∷ l) (listed_set pages w k i page at cs x have.1 its lt rises.1 rest is whole)

  -- A CHANGE REPLACED, AND ONE INSERTED
  pub place_there : (pages : List ℕ) (items : List ChangedPage) (at : ℕ) (x : ChangedPage) → HavePlaces (length s) pages items → at < length items
      → x ≡ get_or items at x
      → HasPlace (length s) pages x.page x.kept
  place_there pages [] at x have lt is = absurd (omega (arith, lt))
  place_there pages (c ∷ cs) zero x have lt is = subst (λ (y : ChangedPage). HasPlace (length s) pages y.page y.kept) (sym is) have.0
  place_there pages (c ∷ cs) (suc at) x have lt is = place_there pages cs at x have.1 (omega (arith, lt)) is

  pub places_set : (pages : List ℕ) (items : List ChangedPage) (at : ℕ) (new : ChangedPage) → HavePlaces (length s) pages items
      → HasPlace (length s) pages new.page new.kept
      → HavePlaces (length s) pages (set items at new)
  places_set pages [] at new have has = tt
  places_set pages (c ∷ cs) zero new have has = (has, have.1)
  places_set pages (c ∷ cs) (suc at) new have has = (have.0, places_set pages cs at new have.1 has)

  pub places_inserted : (pages : List ℕ) (items : List ChangedPage) (at : ℕ) (new : ChangedPage) → HavePlaces (length s) pages items
      → HasPlace (length s) pages new.page new.kept
      → HavePlaces (length s) pages (insert items at new)
  places_inserted pages items zero new have has = (has, have)
  places_inserted pages [] (suc at) new have has = (has, tt)
  places_inserted pages (c ∷ cs) (suc at) new have has = (have.0, places_inserted pages cs at new have.1 has)

  pub start_count_set : (items : List ChangedPage) (at : ℕ) (old new : ChangedPage) → at < length items → old ≡ get_or items at old
      → start_count (set items at new) + start_in old.kept ≡ start_count items + start_in new.kept
  start_count_set [] at old new lt is = absurd (omega (arith, lt))
  start_count_set (c ∷ cs) zero old new lt is =
      let same : start_in old.kept ≡ start_in c.kept = ap (λ (y : ChangedPage). start_in y.kept) is in omega (arith, same)
  start_count_set (c ∷ cs) (suc at) old new lt is = (let rest = start_count_set cs at old new (omega (arith, lt)) is in omega (arith, rest))

  pub start_count_inserted : (items : List ChangedPage) (at : ℕ) (new : ChangedPage) → start_count (insert items at new) ≡ start_count items + start_in new.kept
  start_count_inserted items zero new = omega arith
  start_count_inserted [] (suc at) new = omega arith
  start_count_inserted (c ∷ cs) (suc at) new = (let rest = start_count_inserted cs at new in omega (arith, rest))

  pub length-inserted : (items : List ChangedPage) (at : ℕ) (new : ChangedPage) → length (insert items at new) ≡ length items + 1
  length-inserted items zero new = omega arith
  length-inserted [] (suc at) new = omega arith
  length-inserted (c ∷ cs) (suc at) new = (let rest = length-inserted cs at new in omega (arith, rest))

  -- WHAT KEEPS A LIST OF CHANGES
  pub kept_in : (w : List PageImage) (items : List ChangedPage) (less room : ℕ) → HoldsChanges s w items less → less ≤ room → HoldsChanges s w items room
  kept_in w items less room kept le = record {
    pages = kept.pages;
    order = kept.order;
    marks = kept.marks;
    places = kept.places;
    count = kept.count;
    fits = omega (arith, kept.fits, le);
  }

  -- the change at a place
  module _ (w : List PageImage) (items : List ChangedPage) (room : ℕ) (kept : HoldsChanges s w items room)
      (at : ℕ) (x : ChangedPage) (is : x ≡ get_or items at x) where
    pub place_in : (k : ℕ) → at < length items → x.kept ≡ Whole k → k < length w
    place_in k within whole =
        let has : HasPlace (length s) kept.pages x.page (Whole k) =
        subst (HasPlace (length s) kept.pages x.page) whole (place_there kept.pages items at x kept.places within is) in
        omega (arith, has.0, kept.marks)

    pub start_place_in : (from size : ℕ) → at < length items → x.kept ≡ Start from size → (from + size ≤ length s) × (size ≤ block_bytes)
    start_place_in from size within short = subst (HasPlace (length s) kept.pages x.page) short (place_there kept.pages items at x kept.places within is)

    -- the same of a place among the changes that contracts see
    module _ (seen : List Change) (are : listed_changes s w items ≡ seen) (lt : at < length seen) where
      among : at < length items
      among = in_listed s w items at (omega (arith, ap length are, lt))

      pub place_at : (k : ℕ) → x.kept ≡ Whole k → k < length w
      place_at k whole = place_in k among whole

      pub start_place_at : (from size : ℕ) → x.kept ≡ Start from size → (from + size ≤ length s) × (size ≤ block_bytes)
      start_place_at from size short = start_place_in from size among short

    -- it gets another image
    module _ (page : ℕ) (found : FoundAt page at (listed_changes s w items)) (i : PageImage) (size : length i.bytes ≡ block_bytes) where
      within : at < length items
      within = in_listed s w items at found.in_range

      its : x.page ≡ page
      its = sym (ap (λ (c : Change). c.0) (change_there s w items at x found.in_range is)) ∙ found.is_its

      -- where it has a whole one
      pub set_listed : (k : ℕ) → x.kept ≡ Whole k → listed_changes s (set w k i) items ≡ with_change page i.bytes (listed_changes s w items)
      set_listed k whole =
          let has : HasPlace (length s) kept.pages x.page (Whole k) =
          subst (HasPlace (length s) kept.pages x.page) whole (place_there kept.pages items at x kept.places within is) in
          listed_set kept.pages w k i page at items x kept.places (has.1 ∙ its) (place_in k within whole) kept.order.rising found is whole
          ∙ sym (with_change_found page at i.bytes (listed_changes s w items) found)

      pub set_kept : (k : ℕ) → x.kept ≡ Whole k → HoldsChanges s (set w k i) items room
      set_kept k whole = record {
        pages = kept.pages;
        order = keeps_order page i.bytes (listed_changes s w items) (listed_changes s (set w k i) items) (set_listed k whole) size kept.order;
        marks = kept.marks ∙ sym (length-set w k i);
        places = kept.places;
        count = omega (arith, kept.count, length-set w k i);
        fits = kept.fits;
      }

      -- where it has not
      module _ (one : start_in x.kept ≡ 1) (new : ChangedPage) (same : new.page ≡ page) (whole : new.kept ≡ Whole (length w)) where
        new_is : change_in s (w ++ i ∷ []) new ≡ (page, i.bytes)
        new_is =
            ap (λ (p : ℕ). (p, image_in s (w ++ i ∷ []) new.kept)) same
            ∙ ap (λ (k : Kept). (page, image_in s (w ++ i ∷ []) k)) whole
            ∙ ap (λ (b : List ℕ). (page, b)) (image_last w i)

        pub whole_listed : listed_changes s (w ++ i ∷ []) (set items at new) ≡ with_change page i.bytes (listed_changes s w items)
        whole_listed =
            map-set (change_in s (w ++ i ∷ [])) items at new
            ∙ ap (λ (l : List Change). set l at (change_in s (w ++ i ∷ []) new)) (listed_more kept.pages w i items kept.marks kept.places)
            ∙ ap (λ (c : Change). set (listed_changes s w items) at c) new_is
            ∙ sym (with_change_found page at i.bytes (listed_changes s w items) found)

        fewer : start_count (set items at new) + 1 ≡ start_count items
        fewer =
            let none : start_in new.kept ≡ 0 = ap start_in whole in
            omega (arith, start_count_set items at x new within is, one, none)

        pub room_left : length w < room
        room_left = omega (arith, fewer, kept.count, kept.fits)

        pub whole_kept : HoldsChanges s (w ++ i ∷ []) (set items at new) room
        whole_kept = record {
          pages = kept.pages ++ page ∷ [];
          order = keeps_order page i.bytes (listed_changes s w items) (listed_changes s (w ++ i ∷ []) (set items at new)) whole_listed size kept.order;
          marks = omega (arith, kept.marks, length-append kept.pages (page ∷ []), length-append w (i ∷ []));
          places = places_set (kept.pages ++ page ∷ []) items at new (places_more kept.pages page items kept.places) has;
          count = omega (arith, fewer, kept.count, length-append w (i ∷ []), length-set items at new);
          fits = omega (arith, kept.fits, length-set items at new);
        }
          where
            has : HasPlace (length s) (kept.pages ++ page ∷ []) new.page new.kept
            has =
                subst (λ (p : ℕ). HasPlace (length s) (kept.pages ++ page ∷ []) p new.kept) (sym same)
                (subst (HasPlace (length s) (kept.pages ++ page ∷ []) page) (sym whole) (place_last kept.pages page (length w) kept.marks))

  -- a change that is added by its first bytes
  module _ (w : List PageImage) (items : List ChangedPage) (room : ℕ) (kept : HoldsChanges s w items room)
      (page at : ℕ) (missing : MissingAt page at (listed_changes s w items))
      (new : ChangedPage) (same : new.page ≡ page) (image : List ℕ) (holds : image_in s w new.kept ≡ image) where
    pub added_listed : listed_changes s w (insert items at new) ≡ with_change page image (listed_changes s w items)
    added_listed =
        listed_inserted s w at items new (subst (λ (p : ℕ). MissingAt p at (listed_changes s w items)) (sym same) missing)
        ∙ ap (λ (p : ℕ). with_change p (image_in s w new.kept) (listed_changes s w items)) same
        ∙ ap (λ (b : List ℕ). with_change page b (listed_changes s w items)) holds

    pub added_found : FoundAt page at (listed_changes s w (insert items at new))
    added_found =
        subst (FoundAt page at) (sym (added_listed ∙ with_change_missing page at image (listed_changes s w items) missing))
        (found_inserted page at image (listed_changes s w items) missing)

    pub added_kept : (more : ℕ) → length items < more → start_in new.kept ≡ 1 → HasPlace (length s) kept.pages new.page new.kept → length image ≡ block_bytes
        → HoldsChanges s w (insert items at new) more
    added_kept more fits one has size = record {
      pages = kept.pages;
      order = keeps_order page image (listed_changes s w items) (listed_changes s w (insert items at new)) added_listed size kept.order;
      marks = kept.marks;
      places = places_inserted kept.pages items at new kept.places has;
      count = omega (arith, kept.count, start_count_inserted items at new, length-inserted items at new, one);
      fits = omega (arith, fits, length-inserted items at new);
    }

-- MORE BYTES behind the others: what is held stays
place_further : (n m : ℕ) (pages : List ℕ) (page : ℕ) (kept : Kept) → n ≤ m → HasPlace n pages page kept → HasPlace m pages page kept
place_further n m pages page (Start from size) le has = (omega (arith, le, has.0), has.1)
place_further n m pages page (Whole place) le has = has

places_further : (n m : ℕ) (pages : List ℕ) (items : List ChangedPage) → n ≤ m → HavePlaces n pages items → HavePlaces m pages items
places_further n m pages [] le have = tt
places_further n m pages (c ∷ cs) le have = (place_further n m pages c.page c.kept le have.0, places_further n m pages cs le have.1)

bytes_further : (s b : List ℕ) (from size : ℕ) → from + size ≤ length s → take size (drop from (s ++ b)) ≡ take size (drop from s)
bytes_further s b from size within =
    ap (λ (l : List ℕ). take size l) (drop-append-le from s b (omega (arith, within)))
    ∙ take-append-le size (drop from s) b (omega (arith, within, length-drop from s))

image_further : (s b : List ℕ) (w : List PageImage) (pages : List ℕ) (page : ℕ) (kept : Kept) → HasPlace (length s) pages page kept
    → image_in (s ++ b) w kept ≡ image_in s w kept
image_further s b w pages page (Start from size) has = ap padded_image (bytes_further s b from size has.0)
image_further s b w pages page (Whole place) has = refl

pub listed_further : (s b : List ℕ) (w : List PageImage) (pages : List ℕ) (items : List ChangedPage) → HavePlaces (length s) pages items
    → listed_changes (s ++ b) w items ≡ listed_changes s w items
listed_further s b w pages [] have = refl
listed_further s b w pages (c ∷ cs) have =
    ap (λ (i : List ℕ). (c.page, i) ∷ listed_changes (s ++ b) w cs) (image_further s b w pages c.page c.kept have.0)
    ∙ ap (λ (l : List Change). change_in s w c ∷ l) (listed_further s b w pages cs have.1)

pub image_of_start : (s b : List ℕ) (w : List PageImage) (size : ℕ) → length b ≡ size → image_in (s ++ b) w (Start (length s) size) ≡ padded_image b
image_of_start s b w size is = ap padded_image (ap (λ (l : List ℕ). take size l) (drop_at s b (length s) refl) ∙ take_all size b (omega (arith, is)))

pub length-padded : (start : List ℕ) → length start ≤ block_bytes → length (padded_image start) ≡ block_bytes
length-padded start few = omega (arith, few, length-append start (replicate (4096 - length start) 0), length-replicate {A = ℕ})

pub kept_further : (s b : List ℕ) (w : List PageImage) (items : List ChangedPage) (room : ℕ) → HoldsChanges s w items room → HoldsChanges (s ++ b) w items room
kept_further s b w items room kept = record {
  pages = kept.pages;
  order = subst IsChangeList (sym (listed_further s b w kept.pages items kept.places)) kept.order;
  marks = kept.marks;
  places = places_further (length s) (length (s ++ b)) kept.pages items (omega (arith, length-append s b)) kept.places;
  count = kept.count;
  fits = kept.fits;
}

-- THE SAME LISTS under other names
module _ (s t : List ℕ) (w v : List PageImage) (items others : List ChangedPage) (starts : t ≡ s) (wholes : v ≡ w) (same : others ≡ items) where
  pub listed_same : listed_changes t v others ≡ listed_changes s w items
  listed_same =
      ap (λ (t : List ℕ). listed_changes t v others) starts ∙ ap (λ (v : List PageImage). listed_changes s v others) wholes ∙ ap (listed_changes s w) same

  pub kept_same : (room : ℕ) → HoldsChanges s w items room → HoldsChanges t v others room
  kept_same room kept =
      subst (λ (t : List ℕ). HoldsChanges t v others room) (sym starts)
      (subst (λ (v : List PageImage). HoldsChanges s v others room) (sym wholes)
      (subst (λ (l : List ChangedPage). HoldsChanges s w l room) (sym same) kept))
