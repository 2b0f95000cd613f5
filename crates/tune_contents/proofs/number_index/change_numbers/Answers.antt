use Rattle.std.proofs.Common.{◌≡◌, ◌≤◌, ℕ, length, subst}
use Rattle.index_keys.specs.Entries.{inserted_all, removed_all}
use Rattle.tune_search.specs.Searches.{key_bytes}
use Rattle.tune_search.proofs.FewEntries.{few_among}
use Rattle.tune_contents.proofs.NumberTakes.{leaves_take}
use Rattle.tune_contents.proofs.number_index.change_numbers.Goals as goal

pub returns-clause-takes : goal.returns-clause-takes
returns-clause-takes g c = λ h before after parts entries among.
    (let s0 = c.args.edit.now.next in
    let s1 = c.take_run.new.edit.next in
    let s2 = c.put_run.new.edit.next in
    let s3 = c.store_list.new.edit.next in
    let taken = c.in_ok-take_run.ensures in
    let put = c.in_ok-put_run.ensures in
    let h2 = c.store_list.ensures.edits.looks.was_honest h in
    let first = taken.lays (put.edits.looks.was_honest h2) before after parts entries among in
    let less = removed_all c.deref.result.now entries in
    let second = put.lays h2 before after first.0 less first.1 in
    let few = few_among key_bytes s2 c.put_run.new.index before after second.0 (inserted_all c.deref-2.result.now less) second.1 in
    let count = length (inserted_all c.args.runs.now.come.items (removed_all c.args.runs.now.gone.items entries)) in
    let same : length (inserted_all c.deref-2.result.now less) ≡ count =
    λ i. length (inserted_all (c.deref-2.ensures.value i) (removed_all (c.deref.ensures.value i) entries)) in
    leaves_take c.store_list.result s0 s1 s2 s3 c.args.numbers.now.pages c.take_run.new.index.pages c.put_run.new.index.pages count taken.balance put.balance
    (subst (λ (n : ℕ). length c.put_run.new.index.pages ≤ n) same few) (c.store_list.ensures.takes h))
