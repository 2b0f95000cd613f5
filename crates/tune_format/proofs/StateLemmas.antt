-- The state that pages stand for, and the one that they are read as.
use Rattle.std.proofs.Common.{◌≡◌, ◌⊎◌, inl, inr, ℕ, ◌*◌, ◌^◌, ◌<◌, ◌≤◌, List, [], ◌∷◌, refl, sym, ◌∙◌, ap, arith, ◌==◌, if◌then◌else◌}
use Rattle.std.specs.List.{Contains}
use Rattle.tune_journal.specs.Image.{StandsForEither}
use Rattle.tune_store.specs.Limits.{layout_number, notes_of}
use Rattle.tune_store.specs.State.{State, IsState, empty_of}
use Rattle.tune_format.specs.Filed.{Filed}
use Rattle.tune_parts.specs.Parts.{Part, chain_part}
use Rattle.tune_format.specs.States.{IsStateOf, Holds, state_of_pages, state_in}
use Rattle.tune_format.specs.Searched.{IsSearchIndex}
use Rattle.tune_format.specs.RootOffsets.{most_pages_of, version_offset}
use Rattle.tune_format.specs.Reading.{layout_in}
use Rattle.tune_format.specs.Written.{IsRoot, no_firsts, number_at}
use Rattle.tune_journal.specs.Pages.{page_at}
use Rattle.tune_incipit.specs.ScaleAndIncipitKeys.{incipit_keys, scale_keys}
use Rattle.tune_search.specs.IndexParts.{HoldsIndex, IndexParts}
use Rattle.tune_search.specs.Searches.{key_bytes}
use Rattle.tune_store.specs.declared.layout.Layout.{Layout}
use Rattle.tune_store.specs.declared.layout.Layout.TheVariants.{One, Two}
use Rattle.tune_titles.specs.TitleAndRhythmKeys.{rhythm_keys, title_keys}
use Rattle.tune_format.proofs.FileLemmas.{pages_read, tunes_filed, sets_filed}
use Rattle.tune_format.proofs.TextLemmas.{none_held}

-- THE LAYOUT
-- in each, pages have numbers of four bytes
pub few_pages : (layout : Layout) → most_pages_of layout < 2 ^ 32
few_pages One = omega arith
few_pages Two = omega arith

-- layouts of one number are the same
pub same_layout : (one other : Layout) → layout_number one ≡ layout_number other → one ≡ other
same_layout One One same = refl
same_layout One Two same = absurd (omega (arith, same))
same_layout Two One same = absurd (omega (arith, same))
same_layout Two Two same = refl

-- and it is read off the root that says it
layout_read : (layout : Layout) (pages : List (List ℕ)) → number_at version_offset (page_at pages 0) ≡ layout_number layout → layout_in pages ≡ layout
layout_read One pages is = ap (λ (n : ℕ). if n == layout_number Two then Two else One) is
layout_read Two pages is = ap (λ (n : ℕ). if n == layout_number Two then Two else One) is

-- THE STATE
pub state_read : (pages : List (List ℕ)) (state : State) → IsStateOf pages state → state_of_pages pages ≡ state
state_read pages state is =
    let tunes = tunes_filed pages state.tunes state.sets is.filed is.within.tunes (omega (arith, is.few, few_pages state.layout)) in
    let sets = sets_filed pages state.tunes state.sets is.filed is.within.sets in
    let layout = layout_read state.layout pages is.filed.root.is_version in
    (λ i. record { layout = layout i; tunes = tunes i; sets = sets i })

pub file_read : (file : List ℕ) (state : State) → Holds file state → state_in file ≡ state
unfolding state_in
file_read file state stands = ap state_of_pages (pages_read stands.pages file stands.stands) ∙ state_read stands.pages state stands.is

pub state_once : (file : List ℕ) (one other : State) → Holds file one → Holds file other → one ≡ other
state_once file one other stands also = sym (file_read file one stands) ∙ file_read file other also

pub either_state : (before after : List (List ℕ)) (old new : State) (file : List ℕ) → IsStateOf before old → IsStateOf after new
    → StandsForEither before after file → Holds file old ⊎ Holds file new
either_state before after old new file is also (inl stands) = inl (record { pages = before; stands = stands; is = is })
either_state before after old new file is also (inr stands) = inr (record { pages = after; stands = stands; is = also })

-- no bytes are no chain, and an index without an entry is one without a leaf
no_part : Part
no_part = chain_part 0 [] []

no_index : IndexParts
no_index = record { list = chain_part 0 [] []; leaves = [] }

none_held_there : (width : ℕ) → HoldsIndex width no_index []
unfolding no_index
none_held_there width = record { is_chain = refl; leaves = tt; listed = refl; hold = refl; rising = tt }

pub none_among : {X : Type 0} (x : X) → Contains {X = X} [] x → ⊥
none_among x (k, l, e) = omega arith

no_entries : (width : ℕ) (keys_of : List ℕ → List ℕ) → IsSearchIndex width keys_of [] no_index
no_entries width keys_of = record {
  entries = [];
  holds = none_held_there width;
  exact = record { held = λ tune key c. absurd (none_among tune c); only = λ entry c. absurd (none_among entry c) };
}

pub empty_filed : (layout : Layout) (image : List ℕ) → IsRoot layout image no_firsts → Filed layout (image ∷ []) [] []
unfolding no_part no_index
empty_filed layout image root = record {
  numbers = no_index;
  searches = record { titles = no_index; rhythms = no_index; scales = no_index; incipits = no_index };
  set_lists = no_part;
  texts = [];
  parts = record {
    stand = (
      record { leads = refl; holds = refl },
      (
        record { leads = refl; holds = refl },
        (
          record { leads = refl; holds = refl },
          (record { leads = refl; holds = refl }, (record { leads = refl; holds = refl }, (record { leads = refl; holds = refl }, tt))),
        ),
      ),
    );
    apart = (refl, tt);
  };
  root = root;
  are_numbers = none_held_there key_bytes;
  are_searches = record {
    titles = no_entries key_bytes title_keys;
    rhythms = no_entries key_bytes rhythm_keys;
    scales = no_entries key_bytes scale_keys;
    incipits = no_entries (4 * notes_of layout) (incipit_keys (notes_of layout));
  };
  sets_are_chain = refl;
  are_sets = refl;
  are_tunes = none_held;
}

pub empty_within : (layout : Layout) → IsState (empty_of layout)
empty_within One = record {
  tunes = record { rises = tt; numbers = omega arith; each = tt; count = omega arith };
  sets = record { rises = tt; each = tt; count = omega arith };
  named = tt;
}
empty_within Two = record {
  tunes = record { rises = tt; numbers = omega arith; each = tt; count = omega arith };
  sets = record { rises = tt; each = tt; count = omega arith };
  named = tt;
}

few_of_one : (layout : Layout) → 1 ≤ most_pages_of layout
few_of_one One = omega arith
few_of_one Two = omega arith

pub empty_state_of : (layout : Layout) (image : List ℕ) → IsRoot layout image no_firsts → IsStateOf (image ∷ []) (empty_of layout)
empty_state_of layout image root = record { filed = empty_filed layout image root; within = empty_within layout; few = few_of_one layout }
