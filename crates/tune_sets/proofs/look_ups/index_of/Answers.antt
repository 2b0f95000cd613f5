use Rattle.std.proofs.Common.{rules}
use Rattle.std.specs.Cmp.Lexicographic.{slice_cmp}
use Rattle.std.specs.Ordering.{nat_cmp}
use Rattle.std.specs.declared.cmp.Ordering.{Ordering}
use Rattle.std.proofs.lemmas.Fn.{always_returns_same}
use Rattle.tune_sets.specs.declared.set_lists.TuneSet.{TuneSet}
use Rattle.tune_sets.proofs.SearchLemmas.{found_from, missing_from}
use Rattle.tune_sets.proofs.look_ups.index_of.Goals as goal

pub returns-clause-found : goal.returns-clause-found
returns-clause-found c =
    let key : TuneSet → Ordering = λ set. slice_cmp nat_cmp set.name c.args.name.now in
    let position = c.binary_search_by.ensures.position key (search (rules, always_returns_same)) in
    found_from c.args.name.now c.args.sets.now c.binary_search_by.result c.binary_search_by.ensures.bound position

pub returns-clause-missing : goal.returns-clause-missing
returns-clause-missing c =
    let key : TuneSet → Ordering = λ set. slice_cmp nat_cmp set.name c.args.name.now in
    let position = c.binary_search_by.ensures.position key (search (rules, always_returns_same)) in
    missing_from c.args.name.now c.args.sets.now c.binary_search_by.result c.requires c.binary_search_by.ensures.bound position
