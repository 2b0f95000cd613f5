use Rattle.std.proofs.Common.{rules, ◌≡◌, List, ℕ, sym, ap}
use Rattle.index_keys.specs.Groups.{grouped_entries}
use Rattle.index_keys.proofs.Grouping.{IsLast, puts_same}
use Rattle.index_keys.proofs.grouped_entries.GroupedEntriesEntryList.put_behind.Goals as goal

pub returns-then-is_same-clause-yes : goal.returns-then-is_same-clause-yes
returns-then-is_same-clause-yes g c = λ _.
    let keys : List ℕ = c.self.inside.keys.items in
    let places : List (ℕ × ℕ) = c.self.inside.places.items in
    let last : IsLast keys places c.len-count.result c.index.result.now c.index-then-last-value.result.now = record {
      grouped = c.self.invariant;
      rising = rw (sym (ap grouped_entries c.self.view_is)) at c.requires.rising;
      counted = search rules;
      some = search rules;
      place = c.index.ensures;
      key = c.index-then-last-value.ensures;
    } in
    let same : c.index-then-last-value.result.now ≡ c.args.key = c.is_same.ensures.0 c.if-is_same.true in
    rw (sym (ap grouped_entries c.self.view_is)) (puts_same keys places c.len-count.result c.index.result.now c.index-then-last-value.result.now c.args.key
    c.args.value c.push.new.self.items last same (search rules) c.in_ok-push.ensures.items)
