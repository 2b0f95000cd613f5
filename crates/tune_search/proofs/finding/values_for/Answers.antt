use Rattle.std.proofs.Common.{◌≡◌, ℕ, List, Contains, sym, ap, ◌∙◌, subst, arith}
use Rattle.std.proofs.lemmas.Result.{IfOk-weaker}
use Rattle.index_keys.specs.Entries.{Entry, values_within}
use Rattle.index_keys.specs.KeyLists.{HasKeyWithin}
use Rattle.index_keys.proofs.Holding.{holds_within}
use Rattle.tune_index.specs.Indexes.{entries_of}
use Rattle.tune_search.specs.Searches.{key_bytes}
use Rattle.tune_search.proofs.AmongLemmas.{among_pages, among_index, among_entries}
use Rattle.tune_search.proofs.finding.values_for.Goals as goal

pub candidates-requires : goal.candidates-requires
candidates-requires g c =
    let s = c.args.edit.now.next in
    let shape = c.args.index.now in (
      omega arith,
      (
        omega arith,
        (
          (λ h. let some = c.requires.holds h in among_pages key_bytes s shape some.0 some.1 some.2 some.3 some.4),
          (λ h. let some = c.requires.holds h in among_index key_bytes s shape some.0 some.1 some.2 some.3 some.4),
        ),
      ),
    )

-- what the query finds has a key in the range, at which its number stands
pub returns-clause-finds : goal.returns-clause-finds
returns-clause-finds g c = IfOk-weaker c.candidates.result _ _
    (λ values are h before after parts entries among tunes held tune there found.
    let kind = g.K.Keyed in
    let s = c.args.edit.now.next in
    let all : List Entry = entries_of key_bytes s c.args.index.now.pages in
    let low = kind.low_of c.args.query.now in
    let high = kind.high_of c.args.query.now in
    let law : HasKeyWithin (kind.keys_of tune.1) low high = g.met.K.Keyed.law c.args.query.now tune.1 found in
    let range : values_within c.range-low.result.0 c.range-low.result.1 all ≡ values_within low high all =
    ap (λ (k : ℕ). values_within k c.range-low.result.1 all) c.range-low.ensures.low
    ∙ ap (λ (k : ℕ). values_within low k all) c.range-low.ensures.high in
    let known : values.items ≡ values_within low high entries =
    are h ∙ range ∙ ap (values_within low high) (among_entries key_bytes s c.args.index.now before after parts entries among) in
    subst (λ (list : List ℕ). Contains list tune.0) (sym known) (holds_within kind.keys_of tunes entries low high held tune there law))
    c.candidates.ensures.values
