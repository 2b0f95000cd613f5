use Rattle.std.proofs.Common.{◌≡◌, ◌++◌, ◌∷◌, [], ◌+◌, ◌∙◌, Some, List, ℕ, length, map, take, drop, ap, sym, string_bytes, arith}
use Rattle.std.proofs.lemmas.Grind.{common_steps}
use Rattle.std.proofs.lemmas.Option.{none-some}
use Rattle.std.specs.Path.{path_file_name}
use Rattle.desk_backups.proofs.ListedLemmas.{listed_by, more_names, numbered_more, numbered_same}
use Rattle.desk_backups.proofs.copy_names.numbers_in.Goals as goal
use Rattle.desk_backups.proofs.copy_names.numbers_in.Goals.{in-Some-number_of+in_ok-push, in_default-number_of}

pub loop-name-preserved : goal.loop-name-preserved
loop-name-preserved c =
    let names : List (List ℕ) = map string_bytes (take c.loop-name.name-index c.args.names.now) in
    let more : List (List ℕ) = map string_bytes (take (c.loop-name.name-index + 1) c.args.names.now) in
    let name : List ℕ = c.as_str-in-loop-name.result.now in
    let e : more ≡ names ++ name ∷ [] =
    more_names string_bytes c.args.names.now c.loop-name.name-index c.name-item.result c.loop-name-test.true c.name-item.is
    ∙ ap (λ n. names ++ n ∷ []) (sym c.as_str-in-loop-name.ensures.value) in
    elim c.match-number_of.branch [
      | in-Some-number_of+in_ok-push w ↦ rw (w.numbers-is, w.in_ok-push.ensures.items)
          (numbered_more c.in-Some.last.now name names more c.loop-name.numbers.items c.loop-name.invariant e w.in-Some-number_of.number
          w.in-Some-number_of.ensures.is w.in-Some-number_of.ensures.each)
      | in_default-number_of w ↦ rw w.numbers-is
          (numbered_same c.in-Some.last.now name names more c.loop-name.numbers.items c.loop-name.invariant e
          (λ n h. none-some n (w.in_default-number_of.ensures.each n h)))
    ]

pub returns : goal.returns
returns c =
    let all : take c.loop-name.name-index c.args.names.now ≡ c.args.names.now = grind (arith, common_steps) in
    let e : path_file_name (string_bytes c.args.copy.now) ≡ Some c.in-Some.last.now = cc (c.in-Some.ensures) in
    let value = c.as_mut_slice.ensures.value in
    let sorted : List ℕ = c.sort_unstable.new.self in
    let back : take c.loop-name.numbers.len (sorted ++ drop (length sorted) c.loop-name.numbers.items) ≡ sorted = grind (arith, common_steps) in
    rw back (listed_by (string_bytes c.args.copy.now) c.in-Some.last.now (map string_bytes c.args.names.now) c.loop-name.numbers.items sorted e
    (rw all at c.loop-name.invariant) (rw value at c.sort_unstable.ensures.permutation))
