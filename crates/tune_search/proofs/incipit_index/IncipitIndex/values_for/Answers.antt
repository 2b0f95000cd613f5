use Rattle.std.proofs.Common.{◌≡◌, ℕ, List, Contains, true, sym, ap, ◌∙◌, subst, arith}
use Rattle.std.proofs.lemmas.Result.{IfOk-weaker}
use Rattle.tune_index.specs.ListedLeaves.{index_with}
use Rattle.index_keys.specs.Entries.{Entry, values_within}
use Rattle.index_keys.specs.Cuts.{cut_number}
use Rattle.index_keys.specs.Holdings.{HoldsEntries}
use Rattle.index_keys.specs.KeyLists.{HasKeyWithin}
use Rattle.index_keys.proofs.Holding.{holds_within}
use Rattle.tune_incipit.specs.Incipits.{finds_steps, incipit_of, tune_notes}
use Rattle.tune_incipit.proofs.KeyLaws.{incipit_found}
use Rattle.tune_incipit.specs.ScaleAndIncipitKeys.{bytes_of_steps, incipit_keys}
use Rattle.tune_index.specs.Indexes.{Shape, entries_of}
use Rattle.tune_search.specs.IncipitForms.{notes_of_index, shape_of}
use Rattle.tune_search.specs.IndexParts.{HoldsIndexAmong, HoldsSomeIndex}
use Rattle.tune_search.specs.Searches.{incipit_bytes}
use Rattle.tune_search.specs.declared.incipit_index.IncipitIndex.{IncipitIndex}
use Rattle.tune_search.proofs.AmongLemmas.{among_pages, among_index, among_entries}
use Rattle.tune_search.proofs.incipit_index.IncipitIndex.values_for.Goals as goal

pub candidates-requires : goal.candidates-requires
candidates-requires g c =
    let s = c.args.edit.now.next in
    let shape = c.in-Twelve.index in
    let is = λ (i : IncipitIndex). HoldsSomeIndex (incipit_bytes (notes_of_index i)) s (shape_of i) in (
      omega arith,
      (
        omega arith,
        (
          (λ h. let some = subst is c.in-Twelve.is (c.requires.holds h) in among_pages 48 s shape some.0 some.1 some.2 some.3 some.4),
          (λ h. let some = subst is c.in-Twelve.is (c.requires.holds h) in among_index 48 s shape some.0 some.1 some.2 some.3 some.4),
        ),
      ),
    )

-- what the query finds has a key in the range, at which its number stands
pub returns-in-Twelve-clause-finds : goal.returns-in-Twelve-clause-finds
returns-in-Twelve-clause-finds g c = IfOk-weaker c.candidates.result _ _
    (λ values are h before after parts entries among tunes held tune there found.
    let s = c.args.edit.now.next in
    let shape : Shape = c.in-Twelve.index in
    let front = c.args.front.now in
    let all : List Entry = entries_of 48 s shape.pages in
    let low = cut_number 48 0 (bytes_of_steps front.steps) in
    let high = cut_number 48 255 (bytes_of_steps front.steps) in
    let its : HoldsIndexAmong 48 s (index_with shape entries) before after parts =
    subst (λ (i : IncipitIndex). HoldsIndexAmong (incipit_bytes (notes_of_index i)) s (index_with (shape_of i) entries) before after parts) c.in-Twelve.is
    among in
    let own : HoldsEntries (incipit_keys 12) tunes entries =
    subst (λ (i : IncipitIndex). HoldsEntries (incipit_keys (notes_of_index i)) tunes entries) c.in-Twelve.is held in
    let finds : finds_steps 12 front.steps tune.1 ≡ true =
    subst (λ (i : IncipitIndex). finds_steps (notes_of_index i) front.steps tune.1 ≡ true) c.in-Twelve.is found in
    let law : HasKeyWithin (incipit_keys 12 tune.1) low high = incipit_found 48 (incipit_of 12 (tune_notes tune.1)) front.steps front.some finds in
    let range : values_within c.range-low.result.0 c.range-low.result.1 all ≡ values_within low high all =
    ap (λ (k : ℕ). values_within k c.range-low.result.1 all) c.range-low.ensures.low
    ∙ ap (λ (k : ℕ). values_within low k all) c.range-low.ensures.high in
    let known : values.items ≡ values_within low high entries =
    are h ∙ range ∙ ap (values_within low high) (among_entries 48 s shape before after parts entries its) in
    subst (λ (list : List ℕ). Contains list tune.0) (sym known) (holds_within (incipit_keys 12) tunes entries low high own tune there law))
    c.candidates.ensures.values
