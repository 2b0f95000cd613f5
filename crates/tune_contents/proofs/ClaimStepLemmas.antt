-- The tunes of rows, claimed one after another.
use Rattle.std.proofs.Common.{◌≡◌, ℕ, ◌+◌, ◌-◌, ◌<◌, ◌≤◌, List, [], ◌∷◌, ◌++◌, length, drop, take, get_or, set, Bool, refl, sym, ◌∙◌, ap, subst}
use Rattle.std.proofs.Common.{append_assoc, arith}
use Rattle.std.proofs.lemmas.List.{append-nil, drop-drop, drop-map, drop-set-lt, drop_all, drop_more, get_or-drop, length-append, length-drop, length-map}
use Rattle.std.proofs.lemmas.List.{length-take-le, map-append, take-append-drop, take-map, take_all}
use Rattle.index_keys.specs.Entries.{Entry}
use Rattle.tune_pages.specs.Claim.{IsChainFault}
use Rattle.tune_pages.specs.declared.fault.ClaimFault.{ClaimFault}
use Rattle.tune_pages.proofs.Claiming.{fault_as}
use Rattle.tune_parts.specs.Parts.{Part, AreParts}
use Rattle.tune_parts.proofs.Lists.{all_join}
use Rattle.tune_search.specs.LoadedParts.{HasClaimed}
use Rattle.tune_search.specs.SearchClaims.{StandsAtKeys}
use Rattle.tune_search.specs.Searches.{SearchRuns}
use Rattle.tune_store.specs.declared.layout.Layout.{Layout}
use Rattle.tune_store.specs.State.{IsTune}
use Rattle.tune_store.specs.declared.tune.Tune.{Tune}
use Rattle.tune_format.specs.Filed.{row_of_tune}
use Rattle.tune_format.specs.Written.{number_entries, row_entry}
use Rattle.tune_format.specs.declared.rows.Row.{Row}
use Rattle.tune_format.proofs.TextLemmas.{none_held, one_held, first_held, later_held, texts_join, rows_join}
use Rattle.tune_contents.specs.Most.{most_tune_pages}
use Rattle.tune_contents.specs.Inside.ClaimedParts.{AreTunesThere, ChainsClaimed, ClaimsPart, ClaimsSoFar, ClaimsTune, HoldsTune, HoldsTuneOf}
use Rattle.tune_contents.specs.Inside.ClaimedParts.{IsPartThere, IsTuneThere, TunesStand, tune_site}
use Rattle.tune_contents.specs.Inside.TuneRows.{numbers_of_rows}
use Rattle.tune_contents.proofs.ClaimLemmas.{at_pages, claimed_as, its_part, tune_claimed}
use Rattle.tune_contents.proofs.ClaimSizes.{tune_few}
use Rattle.tune_contents.proofs.ClaimedRowLemmas.{entry_first, entry_number, first_entry, later_entries, none_behind}

-- A list that goes on has a first tune, with a part of its own, and others.
record FirstTune (layout : Layout) (pages : List (List ℕ)) (front : List Part) (runs : SearchRuns) (row : Row) (rows : List Row) : Type 0 where
  pub tune : Tune
  pub part : Part
  pub tail : List Tune
  pub more : List Part
  pub stand : TunesStand (tune_site layout pages front runs) (row ∷ rows) (tune ∷ tail) (part ∷ more)

first_of_tunes : {layout : Layout} → (pages : List (List ℕ)) (front : List Part) (runs : SearchRuns) (row : Row) (rows : List Row) (tunes : List Tune)
    (texts : List Part) → TunesStand (tune_site layout pages front runs) (row ∷ rows) tunes texts → FirstTune layout pages front runs row rows
first_of_tunes pages front runs row rows [] texts stand = absurd (let size = ap (λ (l : List Entry). length l) stand.listed in omega arith)
first_of_tunes pages front runs row rows (tune ∷ tail) [] stand = absurd (let size = ap (λ (l : List Entry). length l) stand.listed in omega arith)
first_of_tunes pages front runs row rows (tune ∷ tail) (part ∷ more) stand =
    record { tune = tune; part = part; tail = tail; more = more; stand = stand }

first_tune : {layout : Layout} → (pages : List (List ℕ)) (front : List Part) (runs : SearchRuns) (row : Row) (rows : List Row)
    → AreTunesThere (tune_site layout pages front runs) (row ∷ rows) → FirstTune layout pages front runs row rows
first_tune pages front runs row rows (tunes, texts, stand) = first_of_tunes pages front runs row rows tunes texts stand

-- its entry
its_entry : {layout : Layout} → (pages : List (List ℕ)) (front : List Part) (runs : SearchRuns) (row : Row) (rows : List Row)
    (f : FirstTune layout pages front runs row rows) → row_entry (row_of_tune f.tune f.part) ≡ row_entry row
its_entry pages front runs row rows f = first_entry _ _ _ _ f.stand.listed

-- where the tunes of rows stand, the first of them does
pub tune_there : {layout : Layout} → (pages : List (List ℕ)) (front : List Part) (runs : SearchRuns) (row : Row) (rows : List Row)
    → AreTunesThere (tune_site layout pages front runs) (row ∷ rows) → IsTuneThere (tune_site layout pages front runs) row.number row.first
tune_there {layout} pages front runs row rows all =
    let f = first_tune pages front runs row rows all in
    let stand = f.stand in
    let entry = its_entry pages front runs row rows f in
    let its : IsTune layout f.tune = stand.each.0 in
    let written = first_held f.part f.more f.tune f.tail stand.hold in
    record {
      there = record {
        part = f.part;
        more = f.more;
        are = stand.are;
        is_chain = stand.hold.are_chains.0;
        is_first = entry_first (row_of_tune f.tune f.part) row entry;
        few = tune_few pages stand.sized f.part stand.hold.are_chains.0 (its_part pages front f.part f.more stand.are) layout f.tune written its.fits;
      };
      revision = f.tune.revision;
      text = f.tune.text;
      tune = record { written = sym written; revised = its.revised; few = its.revision; good = record { tune_text = its.text; fits = its.fits } };
      keys = subst (λ (n : ℕ). StandsAtKeys runs n f.tune.text) (entry_number (row_of_tune f.tune f.part) row entry) stand.keys.0;
    }

-- and the others stand behind it
tunes_behind_as : {layout : Layout} → (pages : List (List ℕ)) (front : List Part) (runs : SearchRuns) (row : Row) (rows : List Row)
    (now : List Bool) (bytes : List ℕ) (first : ℕ) → first ≡ row.first → (claims : ClaimsPart pages front now first bytes)
    → AreTunesThere (tune_site layout pages front runs) (row ∷ rows) → AreTunesThere (tune_site layout pages (front ++ claims.part ∷ []) runs) rows
tunes_behind_as {layout} pages front runs row rows now bytes first alike claims all =
    let f = first_tune pages front runs row rows all in
    let stand = f.stand in
    let begins : f.part.first ≡ first = entry_first (row_of_tune f.tune f.part) row (its_entry pages front runs row rows f) ∙ sym alike in
    let same : f.part ≡ claims.part = claims.only f.part stand.hold.are_chains.0 (its_part pages front f.part f.more stand.are) begins in
    let listing : front ++ f.part ∷ f.more ≡ (front ++ claims.part ∷ []) ++ f.more =
    ap (λ p. front ++ p ∷ f.more) same ∙ sym (append_assoc front (claims.part ∷ []) f.more) in (
      f.tail,
      f.more,
      record {
        sized = stand.sized;
        are = subst (AreParts pages) listing stand.are;
        hold = later_held f.part f.more f.tune f.tail stand.hold;
        listed = later_entries _ _ _ _ stand.listed;
        each = stand.each.1;
        keys = stand.keys.1;
      },
    )

-- CLAIMS SO FAR
pub claims_start : {layout : Layout} → (pages : List (List ℕ)) (front : List Part) (runs : SearchRuns) (list : List Row) (claimed : List Bool)
    (rows : List Row) → rows ≡ [] → HasClaimed pages claimed front → ClaimsSoFar (tune_site layout pages front runs) list claimed rows list
claims_start {layout} pages front runs list claimed rows none has = record {
  so_far = record {
    tunes = [];
    texts = [];
    has = claimed_as pages claimed front (front ++ []) (sym (append-nil front)) has;
    hold = none_held;
    rows_are = none;
    each = tt;
    keys = tt;
  };
  goes_on = λ there. subst (λ l. AreTunesThere (tune_site layout pages l runs) list) (sym (append-nil front)) there;
}

-- the part of the next tune is the one that was claimed
claims_behind : {layout : Layout} → (pages : List (List ℕ)) (front : List Part) (runs : SearchRuns) (list : List Row) (claimed now : List Bool)
    (rows : List Row) (next : Row) (later : List Row) (row : Row) (so : ClaimsSoFar (tune_site layout pages front runs) list claimed rows (next ∷ later))
    → row_entry row ≡ row_entry next → (claims : ClaimsTune (tune_site layout pages (front ++ so.so_far.texts) runs) now row)
    → AreTunesThere (tune_site layout pages front runs) list
    → AreTunesThere (tune_site layout pages (front ++ (so.so_far.texts ++ claims.claims.part ∷ [])) runs) later
claims_behind {layout} pages front runs list claimed now rows next later row so same claims there =
    let texts = so.so_far.texts in
    let part = claims.claims.part in
    subst (λ l. AreTunesThere (tune_site layout pages l runs) later) (append_assoc front texts (part ∷ []))
    (tunes_behind_as pages (front ++ texts) runs next later now claims.bytes row.first (entry_first row next same) claims.claims (so.goes_on there))

claims_more : {layout : Layout} → (pages : List (List ℕ)) (front : List Part) (runs : SearchRuns) (list : List Row) (claimed now : List Bool)
    (rows : List Row) (next : Row) (later : List Row) (row : Row) (so : ClaimsSoFar (tune_site layout pages front runs) list claimed rows (next ∷ later))
    → row_entry row ≡ row_entry next → ClaimsTune (tune_site layout pages (front ++ so.so_far.texts) runs) now row
    → ClaimsSoFar (tune_site layout pages front runs) list now (rows ++ row ∷ []) later
claims_more {layout} pages front runs list claimed now rows next later row so same claims =
    let s = so.so_far in
    let part = claims.claims.part in
    let tune : Tune = record { number = row.number; revision = row.revision; text = claims.text } in
    let listing : (front ++ s.texts) ++ part ∷ [] ≡ front ++ (s.texts ++ part ∷ []) = append_assoc front s.texts (part ∷ []) in
    let holds : part.bytes ≡ claims.bytes = claims.claims.holds in
    let its = one_held part tune claims.claims.is_chain (holds ∙ sym claims.tune.written) in
    let its_row : row_of_tune tune part ≡ row =
    (λ i. record { number = row.number; revision = row.revision; first = claims.claims.is_first i; length = sym claims.measured i }) in
    record {
      so_far = record {
        tunes = s.tunes ++ tune ∷ [];
        texts = s.texts ++ part ∷ [];
        has = claimed_as pages now _ _ listing claims.claims.has;
        hold = texts_join s.texts (part ∷ []) s.tunes (tune ∷ []) s.hold its;
        rows_are = (λ i. s.rows_are i ++ sym its_row i ∷ []) ∙ sym (rows_join s.texts (part ∷ []) s.tunes (tune ∷ []) s.hold);
        each = all_join (IsTune layout) s.tunes (tune ∷ []) s.each (
          record {
            revised = claims.tune.revised;
            revision = claims.tune.few;
            text = claims.tune.good.tune_text;
            fits = claims.tune.good.fits;
          },
          tt,
        );
        keys = all_join (λ (t : Tune). StandsAtKeys runs t.number t.text) s.tunes (tune ∷ []) s.keys (claims.keys, tt);
      };
      goes_on = claims_behind pages front runs list claimed now rows next later row so same claims;
    }

-- CHAINS OF A GROUP
chains_more : (pages : List (List ℕ)) (front : List Part) (claimed now : List Bool) (rows : List Row) (chains : List (List ℕ)) (row : Row) (bytes : List ℕ)
    → ChainsClaimed pages front claimed rows chains
    → ((before : List Part) → HasClaimed pages claimed before → ClaimsPart pages before now row.first bytes)
    → ChainsClaimed pages front now (rows ++ row ∷ []) (chains ++ bytes ∷ [])
chains_more pages front claimed now [] [] row bytes so call = let its = call front so in (now, its, its.has)
chains_more pages front claimed now [] (b ∷ chains) row bytes so call = absurd so
chains_more pages front claimed now (r ∷ rows) [] row bytes so call = absurd so
chains_more pages front claimed now (r ∷ rows) (b ∷ chains) row bytes (mid, claims, more) call =
    (mid, claims, chains_more pages (front ++ claims.part ∷ []) claimed now rows chains row bytes more call)

-- where the tunes of all rows stand, a chain stands behind those that were claimed
chains_fault : (layout : Layout) (f : ClaimFault) (pages : List (List ℕ)) (front : List Part) (runs : SearchRuns) (claimed : List Bool) (rows : List Row)
    (chains : List (List ℕ)) (next : Row) (later : List Row) → ChainsClaimed pages front claimed rows chains
    → ((before : List Part) → HasClaimed pages claimed before → IsChainFault f (IsPartThere pages before next.first (most_tune_pages layout)))
    → IsChainFault f (AreTunesThere (tune_site layout pages front runs) (rows ++ next ∷ later))
chains_fault layout f pages front runs claimed [] [] next later so call =
    fault_as f (IsPartThere pages front next.first (most_tune_pages layout)) (AreTunesThere (tune_site layout pages front runs) (next ∷ later))
    (λ there. (tune_there pages front runs next later there).there) (call front so)
chains_fault layout f pages front runs claimed [] (b ∷ chains) next later so call = absurd so
chains_fault layout f pages front runs claimed (r ∷ rows) [] next later so call = absurd so
chains_fault layout f pages front runs claimed (r ∷ rows) (b ∷ chains) next later (mid, claims, more) call =
    let behind = front ++ claims.part ∷ [] in
    fault_as f (AreTunesThere (tune_site layout pages behind runs) (rows ++ next ∷ later))
    (AreTunesThere (tune_site layout pages front runs) (r ∷ (rows ++ next ∷ later)))
    (λ there. tunes_behind_as pages front runs r (rows ++ next ∷ later) mid b r.first refl claims there)
    (chains_fault layout f pages behind runs claimed rows chains next later more call)

-- A turn, as the code has it.
pub chains_turn : (old pages : List (List ℕ)) (front : List Part) (claimed now : List Bool) (rows : List Row) (chains then : List (List ℕ)) (place : ℕ)
    (row : Row) (bytes : List ℕ) → old ≡ pages → ChainsClaimed pages front claimed (take place rows) (take place chains)
    → ((before : List Part) → HasClaimed old claimed before → ClaimsPart old before now row.first bytes)
    → take (place + 1) rows ≡ take place rows ++ row ∷ [] → take (place + 1) then ≡ take place chains ++ bytes ∷ []
    → ChainsClaimed pages front now (take (place + 1) rows) (take (place + 1) then)
chains_turn old pages front claimed now rows chains then place row bytes on so call more_rows more_chains =
    subst (λ (r : List Row). ChainsClaimed pages front now r (take (place + 1) then)) (sym more_rows)
    (subst (λ (b : List (List ℕ)). ChainsClaimed pages front now (take place rows ++ row ∷ []) b) (sym more_chains)
    (chains_more pages front claimed now (take place rows) (take place chains) row bytes so
    (λ before has. at_pages (λ l f. ClaimsPart l f now row.first bytes) old pages claimed before on has call)))

pub chains_turn_fault : (layout : Layout) (f : ClaimFault) (old pages : List (List ℕ)) (front : List Part) (runs : SearchRuns) (claimed : List Bool)
    (rows : List Row) (chains : List (List ℕ)) (place : ℕ) (next : Row) (later : List Row) → old ≡ pages
    → ChainsClaimed pages front claimed (take place rows) (take place chains) → drop place rows ≡ next ∷ drop (place + 1) rows
    → ((before : List Part) → HasClaimed old claimed before → IsChainFault f (IsPartThere old before next.first (most_tune_pages layout)))
    → IsChainFault f (AreTunesThere (tune_site layout pages front runs) (rows ++ later))
chains_turn_fault layout f old pages front runs claimed rows chains place next later on so at call =
    let behind : List Row = drop (place + 1) rows ++ later in
    let listing : take place rows ++ next ∷ behind ≡ rows ++ later =
    ap (λ (l : List Row). take place rows ++ (l ++ later)) (sym at) ∙ sym (append_assoc (take place rows) (drop place rows) later)
    ∙ ap (λ (l : List Row). l ++ later) (take-append-drop place rows) in
    subst (λ (l : List Row). IsChainFault f (AreTunesThere (tune_site layout pages front runs) l)) listing
    (chains_fault layout f pages front runs claimed (take place rows) (take place chains) next behind so
    (λ before has. at_pages (λ l b. IsChainFault f (IsPartThere l b next.first (most_tune_pages layout))) old pages claimed before on has call))

-- TUNES OF A GROUP
-- So far of a group, whose chains were all claimed: the tunes of these rows were compared, and behind them stand the chains of the rest of it.
pub record ComparedSoFar (layout : Layout) (pages : List (List ℕ)) (front : List Part) (runs : SearchRuns) (list : List Row) (claimed : List Bool)
    (rows rest later : List Row) (chains : List (List ℕ)) : Type 0 where
  pub mid : List Bool
  pub so : ClaimsSoFar (tune_site layout pages front runs) list mid rows (rest ++ later)
  pub ahead : ChainsClaimed pages (front ++ so.so_far.texts) claimed rest chains

pub compared_start : {layout : Layout} → (pages : List (List ℕ)) (front : List Part) (runs : SearchRuns) (was claimed : List Bool) (rows later : List Row)
    (chains : List (List ℕ)) → HasClaimed pages was front → ChainsClaimed pages front claimed rows chains
    → ComparedSoFar layout pages front runs (rows ++ later) claimed [] rows later chains
unfolding claims_start
compared_start pages front runs was claimed rows later chains has ahead = record {
  mid = was;
  so = claims_start pages front runs (rows ++ later) was [] refl has;
  ahead = subst (λ l. ChainsClaimed pages l claimed rows chains) (sym (append-nil front)) ahead;
}

compared_more : {layout : Layout} → (pages : List (List ℕ)) (front : List Part) (runs : SearchRuns) (list : List Row) (claimed : List Bool) (rows : List Row)
    (next : Row) (rest later : List Row) (bytes : List ℕ) (chains : List (List ℕ)) (row : Row)
    → ComparedSoFar layout pages front runs list claimed rows (next ∷ rest) later (bytes ∷ chains) → row_entry row ≡ row_entry next
    → HoldsTuneOf layout runs bytes row → ComparedSoFar layout pages front runs list claimed (rows ++ row ∷ []) rest later chains
unfolding claims_more
compared_more {layout} pages front runs list claimed rows next rest later bytes chains row g same holds =
    let texts = g.so.so_far.texts in
    let claims = g.ahead.1 in
    let first = entry_first row next same in
    let its : ClaimsTune (tune_site layout pages (front ++ texts) runs) g.ahead.0 row = record {
      bytes = bytes;
      claims = record {
        part = claims.part;
        has = claims.has;
        is_chain = claims.is_chain;
        is_first = claims.is_first ∙ sym first;
        holds = claims.holds;
        only = λ other kind is begins. claims.only other kind is (begins ∙ first);
      };
      text = holds.text;
      tune = holds.tune;
      measured = holds.measured;
      keys = holds.keys;
    } in
    record {
      mid = g.ahead.0;
      so = claims_more pages front runs list g.mid g.ahead.0 rows next (rest ++ later) row g.so same its;
      ahead = subst (λ l. ChainsClaimed pages l claimed rest chains) (append_assoc front texts (claims.part ∷ [])) g.ahead.2;
    }

-- A turn, as the code has it.
pub compared_turn : {layout : Layout} → (pages : List (List ℕ)) (front : List Part) (runs : SearchRuns) (list : List Row) (claimed : List Bool)
    (rows items all later : List Row) (chains : List (List ℕ)) (place : ℕ) (next row : Row) (bytes : List ℕ)
    → ComparedSoFar layout pages front runs list claimed rows (drop place all) later (drop place chains)
    → drop place all ≡ next ∷ drop (place + 1) all → drop place chains ≡ bytes ∷ drop (place + 1) chains → row_entry row ≡ row_entry next
    → HoldsTuneOf layout runs bytes row → items ≡ rows ++ row ∷ []
    → ComparedSoFar layout pages front runs list claimed items (drop (place + 1) all) later (drop (place + 1) chains)
compared_turn {layout} pages front runs list claimed rows items all later chains place next row bytes g at held same holds pushed =
    let one = subst (λ rest. ComparedSoFar layout pages front runs list claimed rows rest later (drop place chains)) at g in
    let two = subst (λ l. ComparedSoFar layout pages front runs list claimed rows (next ∷ drop (place + 1) all) later l) held one in
    subst (λ r. ComparedSoFar layout pages front runs list claimed r (drop (place + 1) all) later (drop (place + 1) chains)) (sym pushed)
    (compared_more pages front runs list claimed rows next (drop (place + 1) all) later bytes (drop (place + 1) chains) row two same holds)

-- where the tunes of all rows stand, the next chain holds one
compared_fault : {layout : Layout} → (f : ClaimFault) (pages : List (List ℕ)) (front : List Part) (runs : SearchRuns) (list : List Row) (claimed : List Bool)
    (rows : List Row) (next : Row) (rest later : List Row) (bytes : List ℕ) (chains : List (List ℕ))
    → ComparedSoFar layout pages front runs list claimed rows (next ∷ rest) later (bytes ∷ chains)
    → IsChainFault f (HoldsTune layout runs next.number bytes) → IsChainFault f (AreTunesThere (tune_site layout pages front runs) list)
compared_fault {layout} f pages front runs list claimed rows next rest later bytes chains g none =
    let ahead = front ++ g.so.so_far.texts in
    fault_as f (HoldsTune layout runs next.number bytes) (AreTunesThere (tune_site layout pages front runs) list)
    (λ there. (let is = tune_there pages ahead runs next (rest ++ later) (g.so.goes_on there) in record {
      revision = is.revision;
      text = is.text;
      tune = tune_claimed pages ahead runs g.ahead.0 next.number next.first bytes g.ahead.1 is;
      keys = is.keys;
    })) none

pub compared_turn_fault : {layout : Layout} → (f : ClaimFault) (pages : List (List ℕ)) (front : List Part) (runs : SearchRuns) (list : List Row)
    (claimed : List Bool) (rows all later : List Row) (chains : List (List ℕ)) (place : ℕ) (next : Row) (bytes : List ℕ)
    → ComparedSoFar layout pages front runs list claimed rows (drop place all) later (drop place chains)
    → drop place all ≡ next ∷ drop (place + 1) all → drop place chains ≡ bytes ∷ drop (place + 1) chains
    → IsChainFault f (HoldsTune layout runs next.number bytes) → IsChainFault f (AreTunesThere (tune_site layout pages front runs) list)
compared_turn_fault {layout} f pages front runs list claimed rows all later chains place next bytes g at held none =
    let one = subst (λ rest. ComparedSoFar layout pages front runs list claimed rows rest later (drop place chains)) at g in
    let two = subst (λ l. ComparedSoFar layout pages front runs list claimed rows (next ∷ drop (place + 1) all) later l) held one in
    compared_fault f pages front runs list claimed rows next (drop (place + 1) all) later bytes (drop (place + 1) chains) two none

-- all of it was compared
pub compared_all : {layout : Layout} → (pages : List (List ℕ)) (front : List Part) (runs : SearchRuns) (list : List Row) (claimed : List Bool)
    (rows rest later : List Row) (chains : List (List ℕ)) → ComparedSoFar layout pages front runs list claimed rows rest later chains → rest ≡ []
    → chains ≡ [] → ClaimsSoFar (tune_site layout pages front runs) list claimed rows later
compared_all {layout} pages front runs list claimed rows rest later chains g none empty =
    let one = subst (λ r. ComparedSoFar layout pages front runs list claimed rows r later chains) none g in
    let two = subst (λ c. ComparedSoFar layout pages front runs list claimed rows [] later c) empty one in
    let s = two.so.so_far in
    record {
      so_far = record { tunes = s.tunes; texts = s.texts; has = two.ahead; hold = s.hold; rows_are = s.rows_are; each = s.each; keys = s.keys };
      goes_on = two.so.goes_on;
    }

-- GROUP AFTER GROUP
claims_join : {layout : Layout} → (pages : List (List ℕ)) (front : List Part) (runs : SearchRuns) (list : List Row) (claimed now : List Bool)
    (rows more behind later : List Row) (so : ClaimsSoFar (tune_site layout pages front runs) list claimed rows behind)
    → ClaimsSoFar (tune_site layout pages (front ++ so.so_far.texts) runs) behind now more later
    → ClaimsSoFar (tune_site layout pages front runs) list now (rows ++ more) later
claims_join {layout} pages front runs list claimed now rows more behind later so next =
    let s = so.so_far in
    let n = next.so_far in
    record {
      so_far = record {
        tunes = s.tunes ++ n.tunes;
        texts = s.texts ++ n.texts;
        has = claimed_as pages now _ _ (append_assoc front s.texts n.texts) n.has;
        hold = texts_join s.texts n.texts s.tunes n.tunes s.hold n.hold;
        rows_are = (λ i. s.rows_are i ++ n.rows_are i) ∙ sym (rows_join s.texts n.texts s.tunes n.tunes s.hold);
        each = all_join (IsTune layout) s.tunes n.tunes s.each n.each;
        keys = all_join (λ (t : Tune). StandsAtKeys runs t.number t.text) s.tunes n.tunes s.keys n.keys;
      };
      goes_on = λ there. subst (λ l. AreTunesThere (tune_site layout pages l runs) later) (append_assoc front s.texts n.texts)
          (next.goes_on (so.goes_on there));
    }

-- a group and the rows behind it
pub group_listing : (rows list : List Row) (from to : ℕ) → drop from rows ≡ drop from list → from ≤ to
    → take (to - from) (drop from rows) ++ drop to list ≡ drop from list
group_listing rows list from to later on =
    let sum : to ≡ from + (to - from) = omega (arith, on) in
    ap (λ (l : List Row). take (to - from) l ++ drop to list) later
    ∙ ap (λ (n : ℕ). take (to - from) (drop from list) ++ drop n list) sum
    ∙ ap (λ (l : List Row). take (to - from) (drop from list) ++ l) (sym (drop-drop (to - from) from list)) ∙ take-append-drop (to - from) (drop from list)

-- what stands behind a group
pub later_behind : (rows list : List Row) (from to : ℕ) → drop from rows ≡ drop from list → from ≤ to → drop to rows ≡ drop to list
later_behind rows list from to later on =
    let sum : to ≡ from + (to - from) = omega (arith, on) in
    ap (λ (n : ℕ). drop n rows) sum ∙ sym (drop-drop (to - from) from rows) ∙ ap (λ (l : List Row). drop (to - from) l) later
    ∙ drop-drop (to - from) from list ∙ ap (λ (n : ℕ). drop n list) (sym sum)

-- the rows with a group put back
pub group_length : (put rows more list : List Row) (from to : ℕ) → take to put ≡ take from rows ++ more → drop to put ≡ drop to list
    → length more ≡ to - from → from ≤ to → to ≤ length list → from ≤ length rows → length put ≡ length list
group_length put rows more list from to pushed later size on within before =
    let all = ap (λ (l : List Row). length l) (sym (take-append-drop to put)) ∙ length-append (take to put) (drop to put) in
    let first = ap (λ (l : List Row). length l) pushed ∙ length-append (take from rows) more in
    let left = length-take-le from rows before in
    let last = ap (λ (l : List Row). length l) later ∙ length-drop to list in
    omega (arith, all, first, left, last, size, on, within)

-- what a vector holds behind a call that was lent a slice of it
pub lent_back : {X : Type 0} → (n : ℕ) (seen now lent items : List X) → seen ≡ take n (now ++ drop (length now) items) → lent ≡ items
    → length lent ≡ n → length now ≡ length lent → seen ≡ now
lent_back n seen now lent items is same long alike =
    let sizes = ap (λ l. length l) same in
    is ∙ ap (λ l. take n (now ++ l)) (drop_all (length now) items (omega (arith, alike, sizes))) ∙ ap (λ l. take n l) (append-nil now)
    ∙ take_all n now (omega (arith, alike, long))

-- the numbers of a group
pub group_numbers : (rows list : List Row) (numbers : List ℕ) (from n : ℕ) → numbers ≡ numbers_of_rows list → drop from rows ≡ drop from list
    → take n (drop from numbers) ≡ numbers_of_rows (take n (drop from rows))
group_numbers rows list numbers from n are later =
    ap (λ (l : List ℕ). take n (drop from l)) are ∙ ap (λ (l : List ℕ). take n l) (drop-map (λ (row : Row). row.number) from list)
    ∙ take-map (λ (row : Row). row.number) n (drop from list) ∙ ap (λ (l : List Row). numbers_of_rows (take n l)) (sym later)

-- A turn, as the code has it.
pub claims_turn : {layout : Layout} → (old pages : List (List ℕ)) (front : List Part) (runs : SearchRuns) (list : List Row) (claimed now : List Bool)
    (rows items group more : List Row) (from to : ℕ) → old ≡ pages → ClaimsSoFar (tune_site layout pages front runs) list claimed rows (drop from list)
    → group ++ drop to list ≡ drop from list
    → ((before : List Part) → HasClaimed old claimed before → ClaimsSoFar (tune_site layout old before runs) (group ++ drop to list) now more (drop to list))
    → items ≡ rows ++ more → ClaimsSoFar (tune_site layout pages front runs) list now items (drop to list)
claims_turn {layout} old pages front runs list claimed now rows items group more from to on so listing call pushed =
    let ahead = front ++ so.so_far.texts in
    let its = at_pages (λ l before. ClaimsSoFar (tune_site layout l before runs) (group ++ drop to list) now more (drop to list)) old pages claimed ahead on
    so.so_far.has call in
    subst (λ r. ClaimsSoFar (tune_site layout pages front runs) list now r (drop to list)) (sym pushed)
    (claims_join pages front runs list claimed now rows more (drop from list) (drop to list) so
    (subst (λ l. ClaimsSoFar (tune_site layout pages ahead runs) l now more (drop to list)) listing its))

-- where the tunes of all rows stand, those of the rows that are left do
pub turn_fault : {layout : Layout} → (f : ClaimFault) (old pages : List (List ℕ)) (front : List Part) (runs : SearchRuns) (list : List Row)
    (claimed : List Bool) (rows group : List Row) (from to : ℕ) → old ≡ pages
    → ClaimsSoFar (tune_site layout pages front runs) list claimed rows (drop from list)
    → group ++ drop to list ≡ drop from list
    → ((before : List Part) → HasClaimed old claimed before → IsChainFault f (AreTunesThere (tune_site layout old before runs) (group ++ drop to list)))
    → IsChainFault f (AreTunesThere (tune_site layout pages front runs) list)
turn_fault {layout} f old pages front runs list claimed rows group from to on so listing call =
    let ahead = front ++ so.so_far.texts in
    fault_as f (AreTunesThere (tune_site layout pages ahead runs) (group ++ drop to list)) (AreTunesThere (tune_site layout pages front runs) list)
    (λ there. subst (λ l. AreTunesThere (tune_site layout pages ahead runs) l) (sym listing) (so.goes_on there))
    (at_pages (λ l before. IsChainFault f (AreTunesThere (tune_site layout l before runs) (group ++ drop to list))) old pages claimed ahead on so.so_far.has
    call)

-- ENTRIES
pub entries_turn : (list rows items : List Row) (place : ℕ) (next row : Row) → number_entries rows ++ number_entries (drop place list) ≡ number_entries list
    → drop place list ≡ next ∷ drop (place + 1) list → row_entry row ≡ row_entry next → items ≡ rows ++ row ∷ []
    → number_entries items ++ number_entries (drop (place + 1) list) ≡ number_entries list
entries_turn list rows items place next row so at same pushed =
    let later = number_entries (drop (place + 1) list) in
    ap (λ (r : List Row). number_entries r ++ later) pushed ∙ ap (λ (l : List Entry). l ++ later) (map-append row_entry rows (row ∷ []))
    ∙ append_assoc (number_entries rows) (row_entry row ∷ []) later ∙ ap (λ (e : Entry). number_entries rows ++ e ∷ later) same
    ∙ ap (λ (r : List Row). number_entries rows ++ number_entries r) (sym at) ∙ so

-- the same of a group
pub entries_group : (list rows items group more : List Row) (from to : ℕ) → number_entries rows ++ number_entries (drop from list) ≡ number_entries list
    → group ++ drop to list ≡ drop from list → number_entries more ≡ number_entries group → items ≡ rows ++ more
    → number_entries items ++ number_entries (drop to list) ≡ number_entries list
entries_group list rows items group more from to so listing same pushed =
    let later = number_entries (drop to list) in
    ap (λ (r : List Row). number_entries r ++ later) pushed ∙ ap (λ (l : List Entry). l ++ later) (map-append row_entry rows more)
    ∙ append_assoc (number_entries rows) (number_entries more) later ∙ ap (λ (e : List Entry). number_entries rows ++ (e ++ later)) same
    ∙ ap (λ (l : List Entry). number_entries rows ++ l) (sym (map-append row_entry group (drop to list)))
    ∙ ap (λ (l : List Row). number_entries rows ++ number_entries l) listing ∙ so

pub entries_all : (list rows : List Row) (place : ℕ) → length list ≤ place
    → number_entries rows ++ number_entries (drop place list) ≡ number_entries list → number_entries rows ≡ number_entries list
entries_all list rows place end so =
    sym (append-nil (number_entries rows)) ∙ ap (λ (r : List Row). number_entries rows ++ number_entries r) (sym (none_behind list place end)) ∙ so

-- IN PLACE
-- where two lists go on alike from a place, they have the same row there, and go on alike behind it, whatever is put there
pub later_at : (rows list : List Row) (place : ℕ) (d : Row) → drop place rows ≡ drop place list → get_or rows place d ≡ get_or list place d
later_at rows list place d later =
    let here : place ≡ place + 0 = omega arith in
    ap (λ (n : ℕ). get_or rows n d) here ∙ sym (get_or-drop place rows 0 d) ∙ ap (λ (l : List Row). get_or l 0 d) later ∙ get_or-drop place list 0 d
    ∙ ap (λ (n : ℕ). get_or list n d) (sym here)

pub later_set : (rows list : List Row) (place : ℕ) (row : Row) → place < length rows → length rows ≡ length list → drop place rows ≡ drop place list
    → drop (place + 1) (set rows place row) ≡ drop (place + 1) list
later_set rows list place row lt long later =
    let also : place < length list = omega (arith, lt, long) in
    drop-set-lt (place + 1) rows place row (omega arith)
    ∙ ap (λ (l : List Row). drop 1 l) (sym (drop_more rows place row lt) ∙ later ∙ drop_more list place row also)

-- Rows that were changed in place are what a vector has then.
written_back : (n : ℕ) (rows items : List Row) → number_entries rows ≡ number_entries items → n ≡ length items
    → take n (rows ++ drop (length rows) items) ≡ rows
written_back n rows items same all =
    let sizes = ap (λ (l : List Entry). length l) same in
    let long : length items ≤ length rows = omega (arith, sizes, length-map rows row_entry, length-map items row_entry) in
    let as_many : length rows ≤ n = omega (arith, sizes, all, length-map rows row_entry, length-map items row_entry) in
    ap (λ (l : List Row). take n (rows ++ l)) (none_behind items (length rows) long) ∙ ap (λ (l : List Row). take n l) (append-nil rows)
    ∙ take_all n rows as_many

-- so seen behind a call that was lent a slice of it
pub seen_back : (n : ℕ) (seen lent rows items : List Row) → seen ≡ take n (rows ++ drop (length rows) items) → lent ≡ items → length lent ≡ n
    → number_entries rows ≡ number_entries lent → seen ≡ rows
seen_back n seen lent rows items is same long alike =
    is ∙ written_back n rows items (alike ∙ ap number_entries same) (sym long ∙ ap (λ (l : List Row). length l) same)
