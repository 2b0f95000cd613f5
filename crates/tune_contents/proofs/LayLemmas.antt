-- Tunes that a change lays on other chains.
use Rattle.std.proofs.Common.{◌≡◌, ◌<◌, ◌+◌, ℕ, List, [], ◌∷◌, ◌++◌, length, slice_set, refl, sym, ◌∙◌, ap, subst, arith}
use Rattle.std.proofs.Common.{append_assoc, Bool, true, false, nat_eq, ◌&&◌, Result, Ok, Err, IfOk, OnOk}
use Rattle.std.specs.List.{remove}
use Rattle.std.proofs.lemmas.Bool.Decides.{nat_tests}
use Rattle.tune_journal.specs.Pages.{page_at}
use Rattle.tune_pages.proofs.Putting.{placed_here}
use Rattle.tune_pages.specs.Stand.{Stand, with_page, PutsChain, HasChain, HasSomeChain, without_pages}
use Rattle.tune_pages.specs.declared.fault.Fault.{Fault}
use Rattle.tune_parts.specs.Parts.{Part, HoldsParts, chain_part}
use Rattle.tune_parts.proofs.PartLemmas.{has_part, root_parts}
use Rattle.tune_sets.specs.SetBytes.{written_sets}
use Rattle.tune_sets.specs.declared.set_lists.TuneSet.{TuneSet}
use Rattle.tune_store.specs.declared.layout.Layout.{Layout}
use Rattle.tune_store.specs.declared.tune.Tune.{Tune}
use Rattle.tune_store.specs.TuneSteps.{numbered}
use Rattle.tune_store.proofs.StateLemmas.{numbered_next}
use Rattle.tune_format.specs.Filed.{row_of_tune, rows_of_tunes, HoldsTuneAt}
use Rattle.tune_format.specs.Written.{stored_tune, IsRoot}
use Rattle.tune_format.specs.declared.root.Firsts.{Firsts}
use Rattle.tune_format.specs.declared.rows.Row.{Row}
use Rattle.tune_format.proofs.ChangeLemmas.{has_text, row_at_place, add_text, put_text, cut_text, swap_part}
use Rattle.tune_format.proofs.TextLemmas.{one_held, text_at, texts_join, texts_put, texts_cut, rows_join, rows_count, rows_put, rows_cut}
use Rattle.tune_contents.specs.Inside.Laying.{SwapsChain, LaysRoot, LaysSets, HoldsSets, HoldsTunes, HoldsSomeTunes, LaysTunes}

-- a chain freed, and then another one put
pub swaps : (s mid new : Stand) (first next : ℕ) (bytes : List ℕ) → ((trail all : List ℕ) → HasChain s first trail all → mid ≡ without_pages trail s)
    → (along : List ℕ) × PutsChain mid new next along bytes → SwapsChain s new first next bytes
swaps s mid new first next bytes freed put =
    λ trail all has. (put.0, subst (λ (m : Stand). PutsChain m new next put.0 bytes) (freed trail all has) put.1)

-- this is where the chain of the row at a place begins
abbrev pub IsFirstAt : List Row → ℕ → ℕ → Type 0
IsFirstAt rows place first = (before after : List Row) (row : Row) → rows ≡ before ++ row ∷ after → length before ≡ place → first ≡ row.first

module _ (s : Stand) (ahead : List Part) (tunes : List Tune) (rows : List Row) (place first : ℕ) (l : place < length rows) (is : IsFirstAt rows place first)
    (holds : HoldsTunes s ahead tunes rows) where
  abbrev there : HoldsTuneAt holds.texts tunes place
  there = text_at holds.texts tunes place holds.are_tunes (omega (arith, l, rows_count tunes holds.texts holds.are_tunes, ap length holds.listed))

  chain_there : HasChain s first there.part.trail there.part.bytes
  chain_there =
      let row = row_at_place holds.texts tunes place there in
      let same : first
      ≡ there.part.first = is (rows_of_tunes there.front there.before) (rows_of_tunes there.back there.after) (row_of_tune there.tune there.part)
      (holds.listed ∙ row.0) row.1 in
      subst (λ (n : ℕ). HasChain s n there.part.trail there.part.bytes) (sym same) (has_text s ahead holds.texts tunes place holds.holds there)

pub some_chain : (s : Stand) (rows : List Row) (place first : ℕ) → place < length rows → IsFirstAt rows place first → HoldsSomeTunes s rows
    → HasSomeChain s first
some_chain s rows place first l is (ahead, tunes, holds) =
    let at = there s ahead tunes rows place first l is holds in
    (at.part.trail, at.part.bytes, chain_there s ahead tunes rows place first l is holds)

pub puts_tune : (s new : Stand) (rows : List Row) (place first next : ℕ) (tune : Tune) → place < length rows → IsFirstAt rows place first
    → SwapsChain s new first next (stored_tune tune)
    → LaysTunes s new rows (slice_set rows place (record { number = tune.number; revision = tune.revision; first = next; length = length tune.text }))
    (λ tunes. slice_set tunes place tune)
puts_tune s new rows place first next tune l is swap = λ ahead tunes holds.
    (let at = there s ahead tunes rows place first l is holds in
    let put = swap at.part.trail at.part.bytes (chain_there s ahead tunes rows place first l is holds) in
    let part : Part = chain_part next put.0 (stored_tune tune) in
    record {
      texts = slice_set holds.texts place part;
      holds = put_text s new ahead holds.texts tunes place next put.0 (stored_tune tune) holds.holds at put.1;
      are_tunes = texts_put holds.texts tunes place part tune holds.are_tunes refl refl;
      listed = ap (λ (r : List Row). slice_set r place (row_of_tune tune part)) holds.listed ∙ sym (rows_put holds.texts tunes place part tune);
    })

pub takes_tune : (s new : Stand) (rows : List Row) (place first : ℕ) → place < length rows → IsFirstAt rows place first
    → ((trail all : List ℕ) → HasChain s first trail all → new ≡ without_pages trail s)
    → LaysTunes s new rows (remove rows place) (λ tunes. remove tunes place)
takes_tune s new rows place first l is freed = λ ahead tunes holds.
    (let at = there s ahead tunes rows place first l is holds in
    let gone = freed at.part.trail at.part.bytes (chain_there s ahead tunes rows place first l is holds) in
    let left : HoldsTunes (without_pages at.part.trail s) ahead (remove tunes place) (remove rows place) = record {
      texts = remove holds.texts place;
      holds = cut_text s ahead holds.texts tunes place holds.holds at;
      are_tunes = texts_cut holds.texts tunes place holds.are_tunes;
      listed = ap (λ (r : List Row). remove r place) holds.listed ∙ sym (rows_cut holds.texts tunes place holds.are_tunes);
    } in
    subst (λ (t : Stand). HoldsTunes t ahead (remove tunes place) (remove rows place)) (sym gone) left)

pub adds_tune : (s new : Stand) (rows : List Row) (next : ℕ) (tune : Tune) (along : List ℕ) → PutsChain s new next along (stored_tune tune)
    → LaysTunes s new rows (rows ++ record { number = tune.number; revision = tune.revision; first = next; length = length tune.text } ∷ [])
    (λ tunes. tunes ++ tune ∷ [])
adds_tune s new rows next tune along put = λ ahead tunes holds.
    (let part : Part = chain_part next along (stored_tune tune) in
    record {
      texts = holds.texts ++ part ∷ [];
      holds = add_text s new ahead holds.texts next along (stored_tune tune) holds.holds put;
      are_tunes = texts_join holds.texts (part ∷ []) tunes (tune ∷ []) holds.are_tunes (one_held part tune refl refl);
      listed = ap (λ (r : List Row). r ++ row_of_tune tune part ∷ []) holds.listed ∙ sym (rows_join holds.texts (part ∷ []) tunes (tune ∷ []) holds.are_tunes);
    })

-- the same of an answer, on a disk that is honest
pub swaps_where : (result : Result ℕ Fault) (Honest : Type 0) (s mid new : Stand) (first : ℕ) (bytes : List ℕ)
    → (Honest → (trail all : List ℕ) → HasChain s first trail all → mid ≡ without_pages trail s)
    → IfOk result (λ next. (along : List ℕ) × PutsChain mid new next along bytes)
    → IfOk result (λ next. Honest → SwapsChain s new first next bytes)
swaps_where (Ok next) Honest s mid new first bytes freed put = λ h. swaps s mid new first next bytes (freed h) put
swaps_where (Err fault) Honest s mid new first bytes freed put = tt

-- changes one after another
pub lays_more : (a b c : Stand) (rows mid left : List Row) (first number : ℕ) (texts : List (List ℕ)) (text : List ℕ) → number ≡ first + length texts
    → LaysTunes a b rows mid (λ tunes. tunes ++ numbered first texts) → LaysTunes b c mid left (λ tunes. tunes ++ numbered number (text ∷ []))
    → LaysTunes a c rows left (λ tunes. tunes ++ numbered first (texts ++ text ∷ []))
lays_more a b c rows mid left first number texts text is one two = λ ahead tunes holds.
    subst (λ (l : List Tune). HoldsTunes c ahead l left)
    (append_assoc tunes (numbered first texts) (numbered number (text ∷ []))
    ∙ ap (λ (l : List Tune). tunes ++ l) (numbered_next first number texts text is))
    (two ahead (tunes ++ numbered first texts) (one ahead tunes holds))

-- SET LISTS
sets_swapped : (s new : Stand) (first next : ℕ) (changes : Bool) (sets : List TuneSet) → SwapsChain s new first next (written_sets sets)
    → LaysSets s new first next changes sets
sets_swapped s new first next changes sets swap = λ before after held same holds.
    (let part = holds.part in
    let has : HasChain s first part.trail part.bytes = subst (λ (n : ℕ). HasChain s n part.trail part.bytes) holds.is_first
    (has_part s part before after holds.is_chain holds.holds) in
    let put = swap part.trail part.bytes has in
    record {
      part = chain_part next put.0 (written_sets sets);
      holds = swap_part s new part next put.0 (written_sets sets) before after holds.holds put.1;
      is_chain = refl;
      is_first = refl;
      bytes = refl;
    })

pub sets_laid : (result : Result ℕ Fault) (Honest : Type 0) (s new : Stand) (first : ℕ) (changes : Bool) (sets : List TuneSet)
    → IfOk result (λ next. Honest → SwapsChain s new first next (written_sets sets)) → IfOk result (λ next. Honest → LaysSets s new first next changes sets)
sets_laid (Ok next) Honest s new first changes sets swaps = λ h. sets_swapped s new first next changes sets (swaps h)
sets_laid (Err fault) Honest s new first changes sets swaps = tt

pub sets_stay : (s : Stand) (first : ℕ) (changes : Bool) (sets : List TuneSet) → changes ≡ false → LaysSets s s first first changes sets
sets_stay s first changes sets none = λ before after held same holds. subst (HoldsSets s before after first) (same none) holds

-- THE ROOT
-- one that is put
lays_root : (layout : Layout) (s new : Stand) (image : List ℕ) (firsts : Firsts) → IsRoot layout image firsts → new ≡ with_page 0 image s
    → LaysRoot layout s new firsts
lays_root layout s new image firsts is put = record {
  root = subst (λ (t : Stand). IsRoot layout (page_at t.pages 0) firsts) (sym put)
      (subst (λ (i : List ℕ). IsRoot layout i firsts) (sym (placed_here 0 image s.pages (omega arith))) is);
  parts = λ parts holds. subst (λ (t : Stand). HoldsParts t parts) (sym put) (root_parts s image parts holds).0;
}

pub root_laid : {T : Type 0} (result : Result T Fault) (layout : Layout) (Honest : Type 0) (s mid new : Stand) (image : List ℕ) (firsts : Firsts)
    → IsRoot layout image firsts → (Honest → mid ≡ s) → OnOk result (new ≡ with_page 0 image mid) → OnOk result (Honest → LaysRoot layout s new firsts)
root_laid (Ok x) layout Honest s mid new image firsts is same put = λ h.
    lays_root layout s new image firsts is (put ∙ ap (with_page 0 image) (same h))
root_laid (Err fault) layout Honest s mid new image firsts is same put = tt

-- one that says so already
pub root_stays : (layout : Layout) (s new : Stand) (firsts : Firsts) → IsRoot layout (page_at s.pages 0) firsts → new ≡ s → LaysRoot layout s new firsts
root_stays layout s new firsts is same = record {
  root = subst (λ (t : Stand). IsRoot layout (page_at t.pages 0) firsts) (sym same) is;
  parts = λ parts holds. subst (λ (t : Stand). HoldsParts t parts) (sym same) holds;
}

-- what a test of equality says
both : (a b : Bool) → a && b ≡ true → (a ≡ true) × (b ≡ true)
both true b t = (refl, t)
both false b t = cc

same_number : (n m : ℕ) → nat_eq n m ≡ true → n ≡ m
same_number n m t = grind (arith, nat_tests)

pub same_firsts : (one other : Firsts) (test : Bool)
    → test ≡ (nat_eq one.numbers other.numbers && ((nat_eq one.searches.titles other.searches.titles && (nat_eq one.searches.rhythms other.searches.rhythms
    && (nat_eq one.searches.scales other.searches.scales && nat_eq one.searches.incipits other.searches.incipits))) && nat_eq one.sets other.sets))
    → test ≡ true → one ≡ other
same_firsts one other test is t =
    let all = both (nat_eq one.numbers other.numbers) _ (sym is ∙ t) in
    let rest = both (nat_eq one.searches.titles other.searches.titles && (nat_eq one.searches.rhythms other.searches.rhythms
    && (nat_eq one.searches.scales other.searches.scales && nat_eq one.searches.incipits other.searches.incipits))) (nat_eq one.sets other.sets) all.1 in
    let first = both (nat_eq one.searches.titles other.searches.titles) _ rest.0 in
    let second = both (nat_eq one.searches.rhythms other.searches.rhythms) _ first.1 in
    let third = both (nat_eq one.searches.scales other.searches.scales) (nat_eq one.searches.incipits other.searches.incipits) second.1 in
    let numbers = same_number one.numbers other.numbers all.0 in
    let titles = same_number one.searches.titles other.searches.titles first.0 in
    let rhythms = same_number one.searches.rhythms other.searches.rhythms second.0 in
    let scales = same_number one.searches.scales other.searches.scales third.0 in
    let incipits = same_number one.searches.incipits other.searches.incipits third.1 in
    let sets = same_number one.sets other.sets rest.1 in
    λ i. record {
      numbers = numbers i;
      searches = record { titles = titles i; rhythms = rhythms i; scales = scales i; incipits = incipits i };
      sets = sets i;
    }
