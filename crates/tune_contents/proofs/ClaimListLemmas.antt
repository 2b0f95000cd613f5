-- What the root names, claimed one after another.
use Rattle.std.proofs.Common.{◌≡◌, ℕ, ◌*◌, ◌<◌, ◌≤◌, List, [], ◌∷◌, ◌++◌, length, Bool, sym, ◌∙◌, ap, subst, append_assoc, arith}
use Rattle.std.proofs.lemmas.List.{length-map}
use Rattle.index_keys.specs.Entries.{Entry}
use Rattle.tune_search.specs.Loaded.{search_with}
use Rattle.tune_index.specs.ListedLeaves.{index_with, pages_claimed}
use Rattle.tune_index.specs.Indexes.{Shape}
use Rattle.tune_journal.specs.Pages.{page_at}
use Rattle.tune_pages.specs.Claim.{IsChainFault}
use Rattle.tune_pages.specs.OpenedPages.{only_root}
use Rattle.tune_pages.specs.declared.fault.ClaimFault.{ClaimFault}
use Rattle.tune_pages.specs.declared.fault.ClaimFault.TheVariants.{Damaged, OutOfMemory, Device}
use Rattle.tune_pages.proofs.Claiming.{fault_as}
use Rattle.tune_parts.specs.Parts.{AreParts, Part}
use Rattle.tune_parts.proofs.Once.{none_free}
use Rattle.tune_parts.proofs.PartLemmas.{no_parts}
use Rattle.tune_search.specs.LoadedParts.{HasClaimed, HoldEachAtMost, HoldsAtMost}
use Rattle.tune_search.specs.LoadedParts as loaded
use Rattle.tune_search.specs.IndexParts.{IndexParts, parts_of_index}
use Rattle.tune_search.specs.Searches.{SearchParts, SearchRuns, SearchShape, key_bytes, parts_of_search}
use Rattle.tune_search.specs.declared.loading.SearchFirsts.{SearchFirsts}
use Rattle.tune_search.proofs.FewEntries.{few_by_incipit, few_by_rhythm, few_by_scale, few_by_title}
use Rattle.tune_store.specs.Limits.{layout_number, most_tunes, notes_of}
use Rattle.tune_store.specs.State.{State}
use Rattle.tune_store.specs.declared.layout.Layout.{Layout}
use Rattle.tune_store.specs.declared.tune.Tune.{Tune}
use Rattle.tune_format.specs.Filed.{numbered_texts, rows_of_tunes}
use Rattle.tune_format.specs.States.{IsStateOf}
use Rattle.tune_format.specs.RootOffsets.{version_offset}
use Rattle.tune_format.specs.Written.{IsRoot, number_at, number_entries, row_entry}
use Rattle.tune_format.specs.declared.root.Firsts.{Firsts}
use Rattle.tune_format.proofs.StateLemmas.{same_layout}
use Rattle.tune_format.proofs.TextLemmas.{rows_count}
use Rattle.tune_contents.specs.Most.{most_sets_pages}
use Rattle.tune_contents.specs.Inside.ClaimedParts.{AreBlocks, ClaimsIndex, ClaimsLists, ClaimsPart, ClaimsSearch, IsIndexThere, IsPartThere, IsSearchThere}
use Rattle.tune_contents.specs.Inside.ClaimedParts.{IsStateThere, runs_filed}
use Rattle.tune_contents.proofs.ClaimLemmas.{at_pages, its_part}
use Rattle.tune_contents.proofs.ClaimSizes.{sets_few}

pub no_front : (pages : List (List ℕ)) (claimed : List Bool) → claimed ≡ only_root (length pages) → 0 < length pages → HasClaimed pages claimed []
no_front pages claimed is some = record { are = no_parts pages some; marks = is }

pub state_some : (pages : List (List ℕ)) → IsStateThere pages → 0 < length pages
state_some pages there = none_free (length pages) 0 there.1.filed.parts.apart.0

-- where something is there, a fault may be shown of it
pub fault_where : (f : ClaimFault) (There : Type 0) → (There → IsChainFault f There) → IsChainFault f There
fault_where Damaged There none = λ there. none there there
fault_where OutOfMemory There none = tt
fault_where Device There none = tt

-- THE ROOT
-- a root of another version is that of no state
pub root_none : (image : List ℕ) (pages : List (List ℕ)) → image ≡ page_at pages 0
    → ((layout : Layout) → number_at version_offset image ≡ layout_number layout → ⊥) → IsStateThere pages → ⊥
root_none image pages is none (state, its) = none state.layout (ap (λ (l : List ℕ). number_at version_offset l) is ∙ its.filed.root.is_version)

pub root_at : {layout : Layout} → (image : List ℕ) (pages : List (List ℕ)) (firsts : Firsts) → image ≡ page_at pages 0 → IsRoot layout image firsts
    → IsRoot layout (page_at pages 0) firsts
root_at {layout} image pages firsts is root = subst (λ (l : List ℕ). IsRoot layout l firsts) is root

-- and each state that stands there is of the layout that the root says
pub layout_there : {layout : Layout} → (pages : List (List ℕ)) (firsts : Firsts) → IsRoot layout (page_at pages 0) firsts → (state : State)
    → IsStateOf pages state → state.layout ≡ layout
layout_there {layout} pages firsts root state is = same_layout state.layout layout (sym is.filed.root.is_version ∙ root.is_version)

most_there : {layout : Layout} → (pages : List (List ℕ)) (firsts : Firsts) (factor most : ℕ) → IsRoot layout (page_at pages 0) firsts
    → factor * most_tunes layout ≤ most → (state : State) → IsStateOf pages state → factor * most_tunes state.layout ≤ most
most_there pages firsts factor most root le state is =
    subst (λ (l : Layout). factor * most_tunes l ≤ most) (sym (layout_there pages firsts root state is)) le

-- HOW MANY ENTRIES
numbers_few : (pages : List (List ℕ)) (state : State) (is : IsStateOf pages state) (most : ℕ) → 1 * most_tunes state.layout ≤ most
    → HoldsAtMost key_bytes most is.filed.numbers (number_entries (rows_of_tunes state.tunes is.filed.texts))
numbers_few pages state is most le =
    let rows = rows_of_tunes state.tunes is.filed.texts in
    let count = rows_count state.tunes is.filed.texts is.filed.are_tunes in
    let few = is.within.tunes.count in
    record { holds = is.filed.are_numbers; few = omega (arith, count, few, le, length-map rows row_entry) }

numbered_few : (tunes : List Tune) → length (numbered_texts tunes) ≡ length tunes
numbered_few tunes = length-map tunes (λ (tune : Tune). (tune.number, tune.text))

pub searches_few : (pages : List (List ℕ)) (state : State) (is : IsStateOf pages state) (most : ℕ) → 8 * most_tunes state.layout ≤ most
    → HoldEachAtMost most is.filed.searches (runs_filed is.filed.are_searches)
searches_few pages state is most le =
    let tunes = numbered_texts state.tunes in
    let few = is.within.tunes.count in
    let count = numbered_few state.tunes in
    let are = is.filed.are_searches in
    let titles = few_by_title tunes are.titles.entries are.titles.holds.rising are.titles.exact in
    let rhythms = few_by_rhythm tunes are.rhythms.entries are.rhythms.holds.rising are.rhythms.exact in
    let scales = few_by_scale tunes are.scales.entries are.scales.holds.rising are.scales.exact in
    let incipits = few_by_incipit (notes_of state.layout) tunes are.incipits.entries are.incipits.holds.rising are.incipits.exact in
    record {
      titles = record { holds = are.titles.holds; few = omega (arith, titles, few, count, le) };
      rhythms = record { holds = are.rhythms.holds; few = omega (arith, rhythms, few, count, le) };
      scales = record { holds = are.scales.holds; few = omega (arith, scales, few, count, le) };
      incipits = record { holds = are.incipits.holds; few = omega (arith, incipits, few, count, le) };
    }

-- WHAT A STATE HAS THERE
-- where its search indexes begin
searches_begin : {layout : Layout} → (pages : List (List ℕ)) (state : State) (is : IsStateOf pages state) (firsts : Firsts)
    → IsRoot layout (page_at pages 0) firsts → loaded.search_firsts_of is.filed.searches ≡ firsts.searches
searches_begin pages state is firsts root = λ i. record {
  titles = (sym is.filed.root.titles ∙ root.titles) i;
  rhythms = (sym is.filed.root.rhythms ∙ root.rhythms) i;
  scales = (sym is.filed.root.scales ∙ root.scales) i;
  incipits = (sym is.filed.root.incipits ∙ root.incipits) i;
}

numbers_there : {layout : Layout} → (pages : List (List ℕ)) (firsts : Firsts) (most : ℕ) → IsRoot layout (page_at pages 0) firsts → 1 * most_tunes layout ≤ most
    → IsStateThere pages → IsIndexThere most pages [] firsts.numbers
numbers_there pages firsts most root le (state, is) = record {
  parts = is.filed.numbers;
  entries = number_entries (rows_of_tunes state.tunes is.filed.texts);
  more = parts_of_search is.filed.searches ++ is.filed.set_lists ∷ is.filed.texts;
  are = is.filed.parts;
  holds = numbers_few pages state is most (most_there pages firsts 1 most root le state is);
  is_first = sym is.filed.root.numbers ∙ root.numbers;
}

-- its parts, where the index of numbers is this one
behind_numbers : (pages : List (List ℕ)) (state : State) (is : IsStateOf pages state) (numbers : IndexParts) → is.filed.numbers ≡ numbers
    → AreParts pages (parts_of_index numbers ++ (parts_of_search is.filed.searches ++ is.filed.set_lists ∷ is.filed.texts))
behind_numbers pages state is numbers same =
    subst (λ n. AreParts pages (parts_of_index n ++ (parts_of_search is.filed.searches ++ is.filed.set_lists ∷ is.filed.texts))) same is.filed.parts

searches_there : {layout : Layout} → (pages : List (List ℕ)) (firsts : Firsts) (most : ℕ) (numbers : IndexParts) → IsRoot layout (page_at pages 0) firsts
    → 8 * most_tunes layout ≤ most
    → (there : IsStateThere pages) → there.1.filed.numbers ≡ numbers → IsSearchThere (notes_of layout) most pages (parts_of_index numbers) firsts.searches
searches_there pages firsts most numbers root le (state, is) same = record {
  parts = is.filed.searches;
  runs = runs_filed is.filed.are_searches;
  same = ap notes_of (layout_there pages firsts root state is);
  more = is.filed.set_lists ∷ is.filed.texts;
  are = behind_numbers pages state is numbers same;
  holds = searches_few pages state is most (most_there pages firsts 8 most root le state is);
  are_first = searches_begin pages state is firsts root;
}

-- its parts, where the search indexes are these
behind_searches : (pages : List (List ℕ)) (state : State) (is : IsStateOf pages state) (numbers : IndexParts) (searches : SearchParts)
    → is.filed.numbers ≡ numbers → is.filed.searches ≡ searches
    → AreParts pages ((parts_of_index numbers ++ parts_of_search searches) ++ is.filed.set_lists ∷ is.filed.texts)
behind_searches pages state is numbers searches same also =
    subst (AreParts pages) (sym (append_assoc (parts_of_index numbers) (parts_of_search searches) (is.filed.set_lists ∷ is.filed.texts)))
    (subst (λ s. AreParts pages (parts_of_index numbers ++ (parts_of_search s ++ is.filed.set_lists ∷ is.filed.texts))) also
    (behind_numbers pages state is numbers same))

sets_there : {layout : Layout} → (pages : List (List ℕ)) (firsts : Firsts) (numbers : IndexParts) (searches : SearchParts)
    → IsRoot layout (page_at pages 0) firsts → AreBlocks pages
    → (there : IsStateThere pages) → there.1.filed.numbers ≡ numbers → there.1.filed.searches ≡ searches
    → IsPartThere pages (parts_of_index numbers ++ parts_of_search searches) firsts.sets most_sets_pages
sets_there pages firsts numbers searches root sized (state, is) same also =
    let are = behind_searches pages state is numbers searches same also in
    let front = parts_of_index numbers ++ parts_of_search searches in
    record {
      part = is.filed.set_lists;
      more = is.filed.texts;
      are = are;
      is_chain = is.filed.sets_are_chain;
      is_first = sym is.filed.root.sets ∙ root.sets;
      few = sets_few pages sized is.filed.set_lists is.filed.sets_are_chain (its_part pages front is.filed.set_lists is.filed.texts are) state.sets
          is.filed.are_sets is.within.sets;
    }

-- WHAT WAS CLAIMED
-- what was claimed is what a state has
same_numbers : {layout : Layout} → (pages : List (List ℕ)) (now : List Bool) (firsts : Firsts) (most : ℕ) (shape : Shape) (entries : List Entry)
    → IsRoot layout (page_at pages 0) firsts
    → 1 * most_tunes layout ≤ most → (first : ClaimsIndex most (pages_claimed pages now) [] firsts.numbers (index_with shape entries)) (state : State)
    (is : IsStateOf pages state)
    → (is.filed.numbers ≡ first.parts) × (number_entries (rows_of_tunes state.tunes is.filed.texts) ≡ entries)
same_numbers pages now firsts most shape entries root le first state is =
    first.only is.filed.numbers (number_entries (rows_of_tunes state.tunes is.filed.texts))
    (parts_of_search is.filed.searches ++ is.filed.set_lists ∷ is.filed.texts) is.filed.parts
    (numbers_few pages state is most (most_there pages firsts 1 most root le state is)) (sym is.filed.root.numbers ∙ root.numbers)

same_searches : {layout : Layout} → (pages : List (List ℕ)) (now : List Bool) (firsts : Firsts) (most : ℕ) (numbers : IndexParts)
    (shape : SearchShape) (runs : SearchRuns) → IsRoot layout (page_at pages 0) firsts
    → 8 * most_tunes layout ≤ most → (then : ClaimsSearch most (pages_claimed pages now) (parts_of_index numbers) firsts.searches (search_with shape runs))
    → shape.notes ≡ notes_of layout
    → (state : State) (is : IsStateOf pages state) → is.filed.numbers ≡ numbers
    → (is.filed.searches ≡ then.parts) × (runs_filed is.filed.are_searches ≡ runs)
same_searches pages now firsts most numbers shape runs root le then notes state is same =
    then.only is.filed.searches (runs_filed is.filed.are_searches) (is.filed.set_lists ∷ is.filed.texts)
    (behind_numbers pages state is numbers same)
    (ap notes_of (layout_there pages firsts root state is) ∙ sym notes ∙ sym then.held.notes)
    (searches_few pages state is most (most_there pages firsts 8 most root le state is)) (searches_begin pages state is firsts root)

-- THE CALLS, ONE AFTER ANOTHER
pub numbers_fault : {layout : Layout} → (f : ClaimFault) (now pages : List (List ℕ)) (claimed : List Bool) (firsts : Firsts) (most : ℕ) → now ≡ pages
    → claimed ≡ only_root (length pages) → IsRoot layout (page_at pages 0) firsts → 1 * most_tunes layout ≤ most
    → ((front : List Part) → HasClaimed now claimed front → IsChainFault f (IsIndexThere most now front firsts.numbers))
    → IsChainFault f (IsStateThere pages)
numbers_fault f now pages claimed firsts most on marks root le call = fault_where f (IsStateThere pages) (λ there.
    fault_as f (IsIndexThere most pages [] firsts.numbers) (IsStateThere pages) (numbers_there pages firsts most root le)
    (at_pages (λ l front. IsChainFault f (IsIndexThere most l front firsts.numbers)) now pages claimed [] on
    (no_front pages claimed marks (state_some pages there)) call))

-- the index of numbers, claimed first
pub numbers_claimed : (now pages : List (List ℕ)) (claimed then : List Bool) (first most : ℕ) (shape : Shape) (entries : List Entry) → now ≡ pages
    → claimed ≡ only_root (length pages) → 0 < length pages
    → ((front : List Part) → HasClaimed now claimed front → ClaimsIndex most (pages_claimed now then) front first (index_with shape entries))
    → ClaimsIndex most (pages_claimed pages then) [] first (index_with shape entries)
numbers_claimed now pages claimed then first most shape entries on marks some call =
    at_pages (λ l front. ClaimsIndex most (pages_claimed l then) front first (index_with shape entries)) now pages claimed [] on
    (no_front pages claimed marks some) call

pub searches_fault : {layout : Layout} → (f : ClaimFault) (now pages : List (List ℕ)) (then : List Bool) (firsts : Firsts)
    (most many notes : ℕ) (shape : Shape) (entries : List Entry) → notes ≡ notes_of layout → now ≡ pages → IsRoot layout (page_at pages 0) firsts
    → 1 * most_tunes layout ≤ most → 8 * most_tunes layout ≤ many
    → (0 < length pages → ClaimsIndex most (pages_claimed pages then) [] firsts.numbers (index_with shape entries))
    → ((front : List Part) → HasClaimed now then front → IsChainFault f (IsSearchThere notes many now front firsts.searches))
    → IsChainFault f (IsStateThere pages)
searches_fault f now pages then firsts most many notes shape entries by on root le less claims call = fault_where f (IsStateThere pages) (λ there.
    let first = claims (state_some pages there) in
    let front = parts_of_index first.parts in
    fault_as f (IsSearchThere notes many pages front firsts.searches) (IsStateThere pages)
    (λ (some : IsStateThere pages). subst (λ (n : ℕ). IsSearchThere n many pages front firsts.searches) (sym by)
    (searches_there pages firsts many first.parts root less some
    (same_numbers pages then firsts most shape entries root le first some.0 some.1).0))
    (at_pages (λ l front. IsChainFault f (IsSearchThere notes many l front firsts.searches)) now pages then front on first.held.has call))

pub searches_claimed : (now pages : List (List ℕ)) (then last : List Bool) (first most many : ℕ) (firsts : SearchFirsts) (shape : Shape)
    (entries : List Entry)
    (shapes : SearchShape) (runs : SearchRuns) → now ≡ pages → (head : ClaimsIndex most (pages_claimed pages then) [] first (index_with shape entries))
    → ((front : List Part) → HasClaimed now then front → ClaimsSearch many (pages_claimed now last) front firsts (search_with shapes runs))
    → ClaimsSearch many (pages_claimed pages last) (parts_of_index head.parts) firsts (search_with shapes runs)
searches_claimed now pages then last first most many firsts shape entries shapes runs on head call =
    at_pages (λ l front. ClaimsSearch many (pages_claimed l last) front firsts (search_with shapes runs)) now pages then (parts_of_index head.parts) on
    head.held.has call

-- Both indexes of numbers and of texts were claimed.
pub record ClaimsBoth (most many : ℕ) (pages : List (List ℕ)) (then last : List Bool) (firsts : Firsts) (shape : Shape) (entries : List Entry)
    (shapes : SearchShape) (runs : SearchRuns) : Type 0 where
  pub head : ClaimsIndex most (pages_claimed pages then) [] firsts.numbers (index_with shape entries)
  pub tail : ClaimsSearch many (pages_claimed pages last) (parts_of_index head.parts) firsts.searches (search_with shapes runs)

abbrev front_of : {most many : ℕ} {pages : List (List ℕ)} {then last : List Bool} {firsts : Firsts} {shape : Shape} {entries : List Entry}
    {shapes : SearchShape} {runs : SearchRuns} → ClaimsBoth most many pages then last firsts shape entries shapes runs → List Part
front_of both = parts_of_index both.head.parts ++ parts_of_search both.tail.parts

pub both_claimed : (mid now pages : List (List ℕ)) (claimed then last : List Bool) (firsts : Firsts) (most many : ℕ) (shape : Shape) (entries : List Entry)
    (shapes : SearchShape) (runs : SearchRuns) → mid ≡ pages → now ≡ pages → claimed ≡ only_root (length pages) → 0 < length pages
    → ((front : List Part) → HasClaimed mid claimed front → ClaimsIndex most (pages_claimed mid then) front firsts.numbers (index_with shape entries))
    → ((front : List Part) → HasClaimed now then front → ClaimsSearch many (pages_claimed now last) front firsts.searches (search_with shapes runs))
    → ClaimsBoth most many pages then last firsts shape entries shapes runs
both_claimed mid now pages claimed then last firsts most many shape entries shapes runs on also marks some call more =
    let head = numbers_claimed mid pages claimed then firsts.numbers most shape entries on marks some call in
    record {
      head = head;
      tail = searches_claimed now pages then last firsts.numbers most many firsts.searches shape entries shapes runs also head more;
    }

pub sets_fault : {layout : Layout} → (f : ClaimFault) (now pages : List (List ℕ)) (then last : List Bool) (firsts : Firsts) (most many : ℕ) (shape : Shape)
    (entries : List Entry)
    (shapes : SearchShape) (runs : SearchRuns) → now ≡ pages → IsRoot layout (page_at pages 0) firsts → 1 * most_tunes layout ≤ most
    → 8 * most_tunes layout ≤ many → AreBlocks pages → shapes.notes ≡ notes_of layout
    → (0 < length pages → ClaimsBoth most many pages then last firsts shape entries shapes runs)
    → ((front : List Part) → HasClaimed now last front → IsChainFault f (IsPartThere now front firsts.sets most_sets_pages))
    → IsChainFault f (IsStateThere pages)
sets_fault f now pages then last firsts most many shape entries shapes runs on root le less sized notes claims call =
    fault_where f (IsStateThere pages) (λ there.
    let both = claims (state_some pages there) in
    let front = front_of both in
    fault_as f (IsPartThere pages front firsts.sets most_sets_pages) (IsStateThere pages)
    (λ (some : IsStateThere pages).
    let same = (same_numbers pages then firsts most shape entries root le both.head some.0 some.1).0 in
    let also = (same_searches pages last firsts many both.head.parts shapes runs root less both.tail notes some.0 some.1 same).0 in
    sets_there pages firsts both.head.parts both.tail.parts root sized some same also)
    (at_pages (λ l front. IsChainFault f (IsPartThere l front firsts.sets most_sets_pages)) now pages last front on both.tail.held.has call))

pub lists_claimed : {layout : Layout} → (now pages : List (List ℕ)) (then last end : List Bool) (firsts : Firsts) (most many : ℕ) (shape : Shape)
    (entries : List Entry) (shapes : SearchShape) (runs : SearchRuns) (bytes : List ℕ) → now ≡ pages → IsRoot layout (page_at pages 0) firsts
    → 1 * most_tunes layout ≤ most
    → 8 * most_tunes layout ≤ many → shapes.notes ≡ notes_of layout → ClaimsBoth most many pages then last firsts shape entries shapes runs
    → ((front : List Part) → HasClaimed now last front → ClaimsPart now front end firsts.sets bytes)
    → ClaimsLists layout (pages_claimed pages end) firsts (index_with shape entries) (search_with shapes runs) bytes
lists_claimed now pages then last end firsts most many shape entries shapes runs bytes on root le less notes both call =
    let front = front_of both in
    let sets : ClaimsPart pages front end firsts.sets bytes =
    at_pages (λ l front. ClaimsPart l front end firsts.sets bytes) now pages last front on both.tail.held.has call in
    let head = both.head in
    let tail = both.tail in
    record {
      numbers = head.parts;
      searches = tail.parts;
      set_lists = sets.part;
      has = subst (HasClaimed pages end) (append_assoc (parts_of_index head.parts) (parts_of_search tail.parts) (sets.part ∷ [])) sets.has;
      root = root;
      firsts_are = λ i. record { numbers = sym head.held.begins i; searches = sym tail.held.begin i; sets = sym sets.is_first i };
      keeps = head.held.keeps;
      listed = head.listed;
      notes = notes;
      of_runs = tail.held.notes;
      titles = tail.held.titles;
      rhythms = tail.held.rhythms;
      scales = tail.held.scales;
      incipits = tail.held.incipits;
      all_listed = tail.listed;
      sets_are_chain = sets.is_chain;
      sets_hold = sets.holds;
      only = λ state is.
          let same = same_numbers pages then firsts most shape entries root le head state is in
          let also = same_searches pages last firsts many head.parts shapes runs root less tail notes state is same.0 in
          record {
            are_numbers = same.0;
            are_searches = also.0;
            are_sets = sets.only is.filed.set_lists is.filed.sets_are_chain
                (its_part pages front is.filed.set_lists is.filed.texts (behind_searches pages state is head.parts tail.parts same.0 also.0))
                (sym is.filed.root.sets ∙ root.sets);
            are_entries = same.1;
            are_runs = also.1;
          };
    }
