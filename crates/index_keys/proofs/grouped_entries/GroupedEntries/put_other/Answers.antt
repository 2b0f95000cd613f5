use Rattle.std.proofs.Common.{rules, ◌≡◌, ◌++◌, [], ◌∷◌, length, List, ℕ, map, sym, ap}
use Rattle.index_keys.specs.Entries.{IsRising, rank}
use Rattle.index_keys.specs.Groups.{grouped_entries, placed_entry}
use Rattle.index_keys.proofs.Grouping.{IsLast, not_below, refuses, puts_other, grouped_more, rises_first, rises_behind}
use Rattle.index_keys.proofs.grouped_entries.GroupedEntries.put_other.Goals as goal
use Rattle.index_keys.proofs.grouped_entries.GroupedEntries.put_other.Goals.{then-count-gt0+else-not-is_before, else-count-gt0}

pub returns-then-not-is_before-clause-no : goal.returns-then-not-is_before-clause-no
returns-then-not-is_before-clause-no g c = λ _ up.
    let keys : List ℕ = c.self.inside.keys.items in
    let places : List (ℕ × ℕ) = c.self.inside.places.items in
    let last : IsLast keys places c.len-count.result c.index.result.now c.index-then-count-gt0.result.now = record {
      grouped = c.self.invariant;
      rising = rw (sym (ap grouped_entries c.self.view_is)) at c.requires.rising;
      counted = search rules;
      some = search rules;
      place = c.index.ensures;
      key = c.index-then-count-gt0.ensures;
    } in
    refuses keys places c.len-count.result c.index.result.now c.index-then-count-gt0.result.now last (c.args.key, c.args.value)
    (not_below (rank (c.index-then-count-gt0.result.now, c.index.result.now.1)) (rank (c.args.key, c.args.value)) c.is_before.result c.is_before.ensures.1
    c.if-not-is_before.true)
    (rw (sym (ap grouped_entries c.self.view_is)) at up)

pub invariant_of-self-2 : goal.invariant_of-self-2
invariant_of-self-2 g c =
    let keys : List ℕ = c.self.inside.keys.items in
    let places : List (ℕ × ℕ) = c.self.inside.places.items in
    let now : c.push-2.new.self.items ≡ places ++ (length keys, c.args.value) ∷ [] = search rules in
    grouped_more keys places c.args.key c.args.value c.push.new.self.items c.push-2.new.self.items c.self.invariant (search rules) now

pub returns-clause-yes : goal.returns-clause-yes
returns-clause-yes g c = λ _.
    let keys : List ℕ = c.self.inside.keys.items in
    let places : List (ℕ × ℕ) = c.self.inside.places.items in
    let now : c.push-2.new.self.items ≡ places ++ (length keys, c.args.value) ∷ [] = search rules in
    let up : IsRising (map (placed_entry keys) places ++ (c.args.key, c.args.value) ∷ []) = elim c.if-count-gt0.branch [
      | then-count-gt0+else-not-is_before w ↦ let last : IsLast keys places c.len-count.result w.index.result.now w.index-then-count-gt0.result.now = record {
        grouped = c.self.invariant;
        rising = rw (sym (ap grouped_entries c.self.view_is)) at c.requires.rising;
        counted = search rules;
        some = search rules;
        place = w.index.ensures;
        key = w.index-then-count-gt0.ensures;
      } in
          rises_behind keys places c.len-count.result w.index.result.now w.index-then-count-gt0.result.now last (c.args.key, c.args.value)
          (w.is_before.ensures.0 w.if-not-is_before.false)
      | else-count-gt0 w ↦ rises_first keys places (c.args.key, c.args.value) (search rules)
    ] in
    rw (sym (ap grouped_entries c.self.view_is)) (puts_other keys places c.args.key c.args.value c.push.new.self.items c.push-2.new.self.items
    c.self.invariant up (search rules) now)
