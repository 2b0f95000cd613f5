-- What an archive holds once it is made or opened, and what a stop leaves meanwhile.
use Rattle.std.proofs.Common.{◌≡◌, ◌≢◌, inl, inr, ℕ, ◌-◌, ◌<◌, ◌≤◌, List, [], ◌∷◌, ◌++◌, Bool, true, false, Option, Some, None, length, replicate}
use Rattle.std.proofs.Common.{Result, Ok, Err, IfOk, IfErr, refl, sym, ◌∙◌, ap, subst, arith}
use Rattle.std.proofs.lemmas.Bool.{cases_eq}
use Rattle.std.proofs.lemmas.List.{length-replicate}
use Rattle.tune_disk.specs.Disk.{DiskState, MayLeave}
use Rattle.tune_disk.specs.Stops.{LeavesOnly, SinceThen}
use Rattle.tune_disk.proofs.Moments.{since_weaker}
use Rattle.tune_journal.specs.Image.{StandsFor, gate_of}
use Rattle.tune_journal.specs.FileOffsets.{gate_open}
use Rattle.tune_journal.specs.Making.{StandsForNoneOr}
use Rattle.tune_journal.specs.Moments.{LeftOrSame}
use Rattle.tune_journal.specs.Refusal.{IsSynced}
use Rattle.tune_journal.specs.declared.open_fault.OpenFault.{OpenFault}
use Rattle.tune_journal.specs.declared.open_fault.OpenFault.TheVariants.{NotArchive, Damaged}
use Rattle.tune_journal.specs.declared.open_fault.OpenFault.TheVariants.{NotEmpty, OutOfMemory}
use Rattle.tune_journal.specs.declared.open_fault.OpenFault.TheVariants.{Device}
use Rattle.tune_journal.specs.declared.open_fault.Refused.{Refused}
use Rattle.tune_journal.proofs.Above.{stands_once}
use Rattle.tune_pages.specs.Kept.{Kept, HonestAt, state_at}
use Rattle.tune_pages.specs.OpenedPages.{only_root, IsUndoneFor, IsUnopenedFor, LeavesSame}
use Rattle.tune_pages.specs.Stand.{Stand}
use Rattle.tune_pages.proofs.Chains.{length-marked}
use Rattle.tune_index.specs.Indexes.{Shape}
use Rattle.tune_parts.specs.Parts.{Part, AreParts, IsPart, chain_part}
use Rattle.tune_parts.proofs.PartLemmas.{open_parts, held_parts}
use Rattle.tune_search.specs.Empty.{no_indexes, no_leaves}
use Rattle.tune_search.specs.IndexParts.{HoldsIndex, IndexParts, KeepsIndex}
use Rattle.tune_search.specs.SearchPages.{AreListed}
use Rattle.tune_search.specs.Searches.{HoldsKeys, SearchParts, SearchShape, key_bytes}
use Rattle.tune_store.specs.State.{State, IsState, empty_of}
use Rattle.tune_store.specs.declared.layout.Layout.TheVariants.{Two}
use Rattle.tune_format.specs.Filed.{archive_parts}
use Rattle.tune_format.specs.RootOffsets.{most_pages_of}
use Rattle.tune_format.specs.Searched.{IsSearchIndex}
use Rattle.tune_format.specs.States.{IsStateOf, Holds}
use Rattle.tune_format.specs.Written.{IsRoot, no_firsts}
use Rattle.tune_format.specs.declared.root.Firsts.{Firsts}
use Rattle.tune_format.proofs.StateLemmas.{same_layout, file_read, empty_within, empty_state_of, none_among}
use Rattle.tune_format.proofs.TextLemmas.{none_held}
use Rattle.tune_contents.specs.Claimed.{AreRows, IsClaimed}
use Rattle.tune_contents.specs.Holds.{HoldsContents, KeepsTexts}
use Rattle.tune_contents.specs.declared.contents.Contents.{Contents}
use Rattle.tune_contents.proofs.ClaimListLemmas.{state_some}
use Rattle.tune_pages.specs.Edited.{stand_of}
use Rattle.tune_archive.specs.Inside.Holding.{HoldsState, IsShelf}
use Rattle.tune_archive.specs.Inside.Opening.{IsUnclaimedFor}
use Rattle.tune_archive.specs.OpenedArchive.{disk_left_of, StandsForNoneOrEmpty, KeepsStates, IsUnopenedArchiveFor}
use Rattle.tune_archive.specs.Shelf.{Shelf, IsSound, state_on, StandsForOneOf}

-- WHAT PAGES HOLD
-- pages on which a state was claimed hold it, and nothing else is in use
pub claims_hold : (pages : List (List ℕ)) (claimed : List Bool) (limit : ℕ) (contents : Contents) → length pages ≤ limit
    → (is : IsClaimed pages contents claimed)
    → HoldsContents (record { pages = pages; used = claimed ++ replicate (limit - length pages) false }) contents
    (record { layout = contents.layout; tunes = is.tunes; sets = contents.sets })
claims_hold pages claimed limit contents few is =
    let used = claimed ++ replicate (limit - length pages) false in
    let filed = is.filed in
    let parts = archive_parts filed.numbers filed.searches filed.set_lists filed.texts in
    record {
      layout = refl;
      notes = is.notes;
      filed = filed;
      holds = held_parts (record { pages = pages; used = used }) limit parts filed.parts few
          (open_parts pages claimed used limit parts filed.parts few is.marks refl);
      listed = is.listed;
      numbers = is.numbers;
      numbers_listed = is.numbers_listed;
      searches = is.searches;
      searches_listed = is.searches_listed;
      sets = refl;
      firsts = is.firsts;
    }

-- no bytes are no chain, and an index without an entry is one without a leaf
abbrev no_part : Part
no_part = chain_part 0 [] []

abbrev no_index : IndexParts
no_index = record { list = no_part; leaves = [] }

abbrev no_searches : SearchParts
no_searches = record { titles = no_index; rhythms = no_index; scales = no_index; incipits = no_index }

none_there : (image : List ℕ) → IsPart (image ∷ []) no_part
none_there image = record { leads = refl; holds = refl }

none_filed : (image : List ℕ) → AreParts (image ∷ []) (archive_parts no_index no_searches no_part [])
none_filed image =
    let none = none_there image in
    record { stand = (none, (none, (none, (none, (none, (none, tt)))))); apart = (refl, tt) }

none_in_index : (width : ℕ) → HoldsIndex width no_index []
none_in_index width = record { is_chain = refl; leaves = tt; listed = refl; hold = refl; rising = tt }

none_kept : (width : ℕ) → KeepsIndex width no_leaves no_index []
none_kept width = record {
  is_chain = refl;
  leaves = tt;
  first = refl;
  pages = refl;
  heads = refl;
  listed = λ e. refl;
  hold = refl;
  rising = tt;
  fit = tt;
}

abbrev none_held_there : (width : ℕ) (keys_of : List ℕ → List ℕ) → HoldsKeys width keys_of [] no_leaves no_index
none_held_there width keys_of = record {
  entries = [];
  keeps = none_kept width;
  exact = record { held = λ tune key c. absurd (none_among tune c); only = λ entry c. absurd (none_among entry c) };
}

none_searched : (width : ℕ) (keys_of : List ℕ → List ℕ) → IsSearchIndex width keys_of [] no_index
none_searched width keys_of = record { entries = []; holds = none_in_index width; exact = (none_held_there width keys_of).exact }

-- contents of memory in which nothing is yet
pub record IsNothing (contents : Contents) : Type 0 where
  pub layout : contents.layout ≡ Two
  pub rows : contents.rows.items ≡ []
  pub sets : contents.sets ≡ []
  pub numbers : contents.numbers ≡ no_leaves
  pub searches : contents.searches ≡ no_indexes 12
  pub firsts : contents.firsts ≡ no_firsts

none_listed : AreListed (no_indexes 12)
none_listed = record { titles = refl; rhythms = refl; scales = refl; incipits = refl }

none_kept_texts : KeepsTexts (no_indexes 12) no_searches []
none_kept_texts = record {
  titles = none_held_there _ _;
  rhythms = none_held_there _ _;
  scales = none_held_there _ _;
  incipits = none_held_there _ _;
}

-- a root that says where nothing begins
pub root_of_none : (image : List ℕ) (firsts : Firsts) → firsts ≡ no_firsts → IsRoot Two image firsts → IsRoot Two image no_firsts
root_of_none image firsts same root = subst (IsRoot Two image) same root

-- a root alone that names no chain holds no tunes and no sets
pub root_holds : (image : List ℕ) (limit : ℕ) (contents : Contents) → IsRoot Two image no_firsts → 1 ≤ limit → IsNothing contents
    → HoldsContents (record { pages = image ∷ []; used = only_root limit }) contents (empty_of Two)
root_holds image limit contents root some is = record {
  layout = is.layout;
  notes = ap (λ (shape : SearchShape). shape.notes) is.searches;
  filed = record {
    numbers = no_index;
    searches = no_searches;
    set_lists = no_part;
    texts = [];
    parts = none_filed image;
    root = root;
    are_numbers = none_in_index key_bytes;
    are_searches = record {
      titles = none_searched _ _;
      rhythms = none_searched _ _;
      scales = none_searched _ _;
      incipits = none_searched _ _;
    };
    sets_are_chain = refl;
    are_sets = refl;
    are_tunes = none_held;
  };
  holds = held_parts (record { pages = image ∷ []; used = only_root limit }) limit (archive_parts no_index no_searches no_part [])
      (none_filed image) some refl;
  listed = is.rows;
  numbers = subst (λ (shape : Shape). KeepsIndex key_bytes shape no_index []) (sym is.numbers) (none_kept key_bytes);
  numbers_listed = ap (λ (shape : Shape). shape.listed) is.numbers;
  searches = subst (λ (shape : SearchShape). KeepsTexts shape no_searches []) (sym is.searches) none_kept_texts;
  searches_listed = subst AreListed (sym is.searches) none_listed;
  sets = is.sets;
  firsts = is.firsts;
}

-- THE STATE OF A DISK
-- what a read of an honest disk gives may stay
pub shown_stays : {D : Type 0} (honest : D → Type 0) (state : D → DiskState) → ((disk : D) → honest disk → MayLeave (state disk).now (state disk).seen)
    → (held : Option D) → HonestAt honest held → MayLeave (state_at state held).now (state_at state held).seen
shown_stays honest state stays None h = absurd h
shown_stays honest state stays (Some disk) h = stays disk h

-- the state that pages hold is the one that their disk is read as
pub disk_holds : {D : Type 0} (state : D → DiskState) (kept : Kept D) (contents : Contents) (s : State)
    → MayLeave (state_at state kept.disk).now (state_at state kept.disk).seen → LeavesOnly (state_at state kept.disk).now (StandsFor kept.pages)
    → length kept.pages ≤ most_pages_of s.layout → IsState s → HoldsContents (stand_of kept) contents s → HoldsState state kept contents
disk_holds state kept contents s stays rest few within holds =
    let file = (state_at state kept.disk).seen in
    let read : state_on state kept.disk ≡ s = file_read file s (record {
      pages = kept.pages;
      stands = rest file stays;
      is = record { filed = holds.filed; within = within; few = few };
    }) in
    record {
      holds = subst (λ (x : State). HoldsContents (stand_of kept) contents x) (sym read) holds;
      within = subst IsState (sym read) within;
      few = subst (λ (x : State). length kept.pages ≤ most_pages_of x.layout) (sym read) few;
      rest = rest;
    }

-- STOPS
-- Where each file that a stop may leave at first stands for one of two states, so does each during an opening.
pub opening_keeps_states : (old new : DiskState) → MayLeave old.now old.seen → SinceThen old new (LeftOrSame old) → KeepsStates old new
opening_keeps_states old new stays since = λ a b leaves. since_weaker (LeftOrSame old) (StandsForOneOf a b) (one a b leaves) old new since
  where
    same : (s : State) (pages : List (List ℕ)) (file : List ℕ) → StandsFor pages old.seen → StandsFor pages file → Holds old.seen s
        → Holds file s
    same s pages file here there stands = record {
      pages = stands.pages;
      stands = subst (λ (l : List (List ℕ)). StandsFor l file) (stands_once pages stands.pages old.seen here stands.stands) there;
      is = stands.is;
    }

    either : (a b : State) (pages : List (List ℕ)) (file : List ℕ) → StandsFor pages old.seen → StandsFor pages file → StandsForOneOf a b old.seen
        → StandsForOneOf a b file
    either a b pages file here there (inl stands) = inl (same a pages file here there stands)
    either a b pages file here there (inr stands) = inr (same b pages file here there stands)

    one : (a b : State) → LeavesOnly old.now (StandsForOneOf a b) → (file : List ℕ) → LeftOrSame old file → StandsForOneOf a b file
    one a b leaves file (inl left) = leaves file left
    one a b leaves file (inr it) = either a b it.0 file it.1 it.2 (leaves old.seen stays)

-- A file that is being made stands for no archive, or for an empty one.
pub making_keeps : (image : List ℕ) (old new : DiskState) → IsRoot Two image no_firsts → SinceThen old new (StandsForNoneOr image)
    → SinceThen old new StandsForNoneOrEmpty
making_keeps image old new root since = since_weaker (StandsForNoneOr image) StandsForNoneOrEmpty one old new since
  where
    one : (file : List ℕ) → StandsForNoneOr image file → StandsForNoneOrEmpty file
    one file (inl none) = inl none
    one file (inr stands) = inr (record { pages = image ∷ []; stands = stands; is = empty_state_of Two image root })

-- REFUSALS
-- why pages are not opened, of an archive
pub pages_refused : (why : OpenFault) (old new : DiskState) → IsUnopenedFor why old new → IsUnopenedArchiveFor why old new
pages_refused NotArchive old new is = is
pages_refused Damaged old new is = record {
  magic = is.1;
  long = is.2;
  stateless = λ s stands. is.3 stands.pages stands.stands;
  rest = inl is.0;
}
pages_refused NotEmpty old new is = is
pages_refused OutOfMemory old new is = is
pages_refused Device old new is = tt

-- The disk shows these pages and no others. It was synced, where its gate was closed; a stop now leaves the same pages.
pub record Shown (pages : List (List ℕ)) (old new : DiskState) : Type 0 where
  pub stands : StandsFor pages old.seen
  pub only : (other : List (List ℕ)) → StandsFor other old.seen → other ≡ pages
  pub synced : gate_of old.seen ≢ gate_open → IsSynced old new
  pub rest : LeavesOnly new.now (StandsFor pages)

same_pages_left : (pages : List (List ℕ)) (old new : DiskState) → Shown pages old new → LeavesSame old new
same_pages_left pages old new shown = record { pages = pages; stood = shown.stands; rest = shown.rest }

-- why they are not claimed
pub claims_refused : (why : OpenFault) (pages : List (List ℕ)) (old new : DiskState) → Shown pages old new → IsUnclaimedFor why pages
    → IsUnopenedArchiveFor why old new
claims_refused NotArchive pages old new shown is = absurd is
claims_refused Damaged pages old new shown is = record {
  magic = shown.stands.headed.magic;
  long = omega (arith, shown.stands.headed.long);
  stateless = λ s stands. is s (subst (λ (l : List (List ℕ)). IsStateOf l s) (shown.only stands.pages stands.stands) stands.is);
  rest = elim (cases_eq (gate_of old.seen) gate_open) [
    | inl is_open ↦ inr (is_open, same_pages_left pages old new shown)
    | inr shut ↦ inl (shown.synced shut)
  ];
}
claims_refused NotEmpty pages old new shown is = is
claims_refused OutOfMemory pages old new shown is = same_pages_left pages old new shown
claims_refused Device pages old new shown is = tt

-- pages of which there are too many for the layout that was claimed stand for no state
undone : (why : OpenFault) (pages new : List (List ℕ)) (contents : Contents) (claimed : List Bool) → new ≡ pages
    → (0 < length pages → IsClaimed pages contents claimed) → IsUndoneFor why (most_pages_of contents.layout) (length new) → IsUnclaimedFor why pages
undone Damaged pages new contents claimed same claims less = λ s is.
    let its = claims (state_some pages (s, is)) in
    let layout : s.layout ≡ contents.layout =
    same_layout s.layout contents.layout (sym is.filed.root.is_version ∙ its.filed.root.is_version) in
    let few : length pages ≤ most_pages_of contents.layout = subst (λ l. length pages ≤ most_pages_of l) layout is.few in
    omega (arith, few, less, ap (λ (l : List (List ℕ)). length l) same)
undone OutOfMemory pages new contents claimed same claims less = tt
undone NotArchive pages new contents claimed same claims less = absurd less
undone NotEmpty pages new contents claimed same claims less = absurd less
undone Device pages new contents claimed same claims less = absurd less

pub unclaimed : {D : Type 0} (honest : D → Type 0) (disk : D) (pages new : List (List ℕ)) (contents : Contents) (claimed : List Bool)
    (result : Result (Shelf D) (Refused D)) → disk_left_of result ≡ Some disk → (honest disk → new ≡ pages)
    → (honest disk → 0 < length pages → IsClaimed pages contents claimed)
    → IfErr result (λ refused. IsUndoneFor refused.why (most_pages_of contents.layout) (length new))
    → IfErr result (λ refused. honest refused.disk → IsUnclaimedFor refused.why pages)
unclaimed honest disk pages new contents claimed (Ok archive) same on claims less = tt
unclaimed honest disk pages new contents claimed (Err refused) same on claims less = λ h.
    let here : honest disk = subst (HonestAt honest) same h in
    undone refused.why pages new contents claimed (on here) (claims here) less

-- AN ARCHIVE OF PAGES
-- of pages whose state was claimed
pub opened_shelf : {D : Type 0} (honest : D → Type 0) (state : D → DiskState) → ((disk : D) → honest disk → MayLeave (state disk).now (state disk).seen)
    → (disk : D) (kept : Kept D) (pages : List (List ℕ)) (claimed : List Bool) (contents : Contents) → kept.disk ≡ Some disk → kept.pages ≡ pages
    → kept.used ≡ claimed ++ replicate (most_pages_of contents.layout - length pages) false → kept.closed ≡ false
    → length kept.used ≡ most_pages_of contents.layout → length pages ≤ most_pages_of contents.layout → 0 < length kept.pages
    → AreRows contents.layout contents.rows.items
    → (honest disk → LeavesOnly (state disk).now (StandsFor pages))
    → (honest disk → 0 < length pages → IsClaimed pages contents claimed)
    → IsShelf honest state kept contents false
opened_shelf honest state stays disk kept pages claimed contents same_disk same_pages same_used is_open marks few some rows rest claims = record {
  rows = rows;
  marks = λ e. marks;
  is_open = λ e. is_open;
  holds = λ h e.
      let here = subst (HonestAt honest) same_disk h in
      let is = claims here (subst (λ (l : List (List ℕ)). 0 < length l) same_pages some) in
      let s : State = record { layout = contents.layout; tunes = is.tunes; sets = contents.sets } in
      let holds = claims_hold pages claimed (most_pages_of contents.layout) contents few is in
      disk_holds state kept contents s (shown_stays honest state stays kept.disk h)
      (subst (λ (l : List (List ℕ)). LeavesOnly (state_at state kept.disk).now (StandsFor l)) (sym same_pages)
      (subst (λ (d : Option _). LeavesOnly (state_at state d).now (StandsFor pages)) (sym same_disk) (rest here)))
      (subst (λ (l : List (List ℕ)). length l ≤ most_pages_of contents.layout) (sym same_pages) few) is.within
      (subst (λ (st : Stand). HoldsContents st contents s)
      (λ i. record { pages = sym same_pages i; used = sym same_used i }) holds);
}

-- The state of such an archive stands on its pages, and it is sound.
state_there : {D : Type 0} (state : D → DiskState) (kept : Kept D) (contents : Contents) → HoldsState state kept contents
    → IsStateOf kept.pages (state_on state kept.disk)
state_there state kept contents held = record {
  filed = held.holds.filed;
  within = held.within;
  few = held.few;
}

pub opened_state : {D : Type 0} (honest : D → Type 0) (state : D → DiskState) (disk : D) (kept : Kept D) (pages : List (List ℕ)) (contents : Contents)
    (archive : Shelf D) → IsShelf honest state kept contents false → kept.disk ≡ Some disk → kept.pages ≡ pages → archive.pages ≡ kept → honest disk
    → IsStateOf pages (state_on state archive.pages.disk)
opened_state {D} honest state disk kept pages contents archive shelf same_disk same_pages same h =
    let here : HonestAt honest kept.disk = subst (HonestAt honest) (sym same_disk) h in
    subst (λ (k : Kept D). IsStateOf pages (state_on state k.disk)) (sym same)
    (subst (λ (l : List (List ℕ)). IsStateOf l (state_on state kept.disk)) same_pages (state_there state kept contents (shelf.holds here refl)))

-- of the pages that the disk shows, and so did before they were claimed
pub claimed_state : {D : Type 0} (honest : D → Type 0) (state : D → DiskState) (disk : D) (old new : List (List ℕ))
    (result : Result (Shelf D) (Refused D)) → disk_left_of result ≡ Some disk → (honest disk → new ≡ old)
    → IfOk result (λ archive. honest disk → IsStateOf new (state_on state archive.pages.disk))
    → IfOk result (λ archive. HonestAt honest archive.pages.disk → IsStateOf old (state_on state archive.pages.disk))
claimed_state honest state disk old new (Err refused) same pages is = tt
claimed_state honest state disk old new (Ok archive) same pages is = λ h.
    let here : honest disk = subst (HonestAt honest) same h in
    subst (λ (l : List (List ℕ)). IsStateOf l (state_on state archive.pages.disk)) (pages here) (is here)

pub opened_sound : {D : Type 0} (honest : D → Type 0) (state : D → DiskState) (kept : Kept D) (contents : Contents) (archive : Shelf D)
    → IsShelf honest state kept contents false → archive.pages ≡ kept → IsSound honest state archive
opened_sound {D} honest state kept contents archive shelf same = record {
  within = subst (λ (k : Kept D). HonestAt honest k.disk → IsState (state_on state k.disk)) (sym same) (λ h. (shelf.holds h refl).within);
  rest = λ here e. (subst
      (λ (k : Kept D). HonestAt honest k.disk → LeavesOnly (state_at state k.disk).now (λ file. Holds file (state_on state k.disk))) (sym same)
      (λ h file may.
      let held = shelf.holds h refl in
      record { pages = kept.pages; stands = held.rest file may; is = state_there state kept contents held })) here;
}

-- of the root alone
pub made_shelf : {D : Type 0} (honest : D → Type 0) (state : D → DiskState) → ((disk : D) → honest disk → MayLeave (state disk).now (state disk).seen)
    → (kept : Kept D) (image : List ℕ) (contents : Contents) → (HonestAt honest kept.disk → kept.pages ≡ image ∷ [])
    → kept.used ≡ only_root 4000000 → kept.closed ≡ false → IsRoot Two image no_firsts
    → (HonestAt honest kept.disk → LeavesOnly (state_at state kept.disk).now (StandsFor (image ∷ [])))
    → IsNothing contents → IsShelf honest state kept contents false
made_shelf honest state stays kept image contents pages used is_open root rest is = record {
  rows = subst (AreRows contents.layout) (sym is.rows) (record { rise = tt; numbers = tt; few = omega arith });
  marks = λ e.
      ap (λ (l : List Bool). length l) used ∙ length-marked true (0 ∷ []) (replicate 4000000 false) ∙ length-replicate 4000000 false
      ∙ ap most_pages_of (sym is.layout);
  is_open = λ e. is_open;
  holds = λ h e.
      disk_holds state kept contents (empty_of Two) (shown_stays honest state stays kept.disk h)
      (subst (λ (l : List (List ℕ)). LeavesOnly (state_at state kept.disk).now (StandsFor l)) (sym (pages h)) (rest h))
      (subst (λ (l : List (List ℕ)). length l ≤ most_pages_of Two) (sym (pages h)) (omega arith)) (empty_within Two)
      (subst (λ (st : Stand). HoldsContents st contents (empty_of Two))
      (λ i. record { pages = sym (pages h) i; used = sym used i })
      (root_holds image 4000000 contents root (omega arith) is));
}

-- A root alone is read as the state in which nothing is yet.
pub made_state : {D : Type 0} (honest : D → Type 0) (state : D → DiskState) → ((disk : D) → honest disk → MayLeave (state disk).now (state disk).seen)
    → (held : Option D) (image : List ℕ) → IsRoot Two image no_firsts → HonestAt honest held
    → LeavesOnly (state_at state held).now (StandsFor (image ∷ [])) → state_on state held ≡ empty_of Two
made_state honest state stays held image root h rest =
    let file = (state_at state held).seen in
    file_read file (empty_of Two) (record {
      pages = image ∷ [];
      stands = rest file (shown_stays honest state stays held h);
      is = empty_state_of Two image root;
    })

pub made_sound : {D : Type 0} (honest : D → Type 0) (state : D → DiskState) → ((disk : D) → honest disk → MayLeave (state disk).now (state disk).seen)
    → (archive : Shelf D) (image : List ℕ) → IsRoot Two image no_firsts
    → (HonestAt honest archive.pages.disk → LeavesOnly (state_at state archive.pages.disk).now (StandsFor (image ∷ []))) → IsSound honest state archive
made_sound honest state stays archive image root rest = record {
  within = λ h. subst IsState (sym (made_state honest state stays archive.pages.disk image root h (rest h))) (empty_within Two);
  rest = λ h e file left.
      subst (Holds file) (sym (made_state honest state stays archive.pages.disk image root h (rest h)))
      (record { pages = image ∷ []; stands = rest h file left; is = empty_state_of Two image root });
}

-- Pages that could not be claimed are those that the disk shows, so they tell of its file.
pub archive_refused : {D : Type 0} (honest : D → Type 0) (state : D → DiskState) (disk : D) (pages : List (List ℕ)) (old : DiskState)
    → (result : Result (Shelf D) (Refused D))
    → (HonestAt honest (disk_left_of result) → honest disk × (state_at state (disk_left_of result) ≡ state disk))
    → (honest disk → Shown pages old (state disk))
    → IfErr result (λ refused. honest refused.disk → IsUnclaimedFor refused.why pages)
    → IfErr result (λ refused. honest refused.disk → IsUnopenedArchiveFor refused.why old (state refused.disk))
archive_refused honest state disk pages old (Ok archive) same shown is = tt
archive_refused honest state disk pages old (Err refused) same shown is = λ h.
    let was = same h in
    claims_refused refused.why pages old (state refused.disk) (subst (Shown pages old) (sym was.1) (shown was.0)) (is h)
