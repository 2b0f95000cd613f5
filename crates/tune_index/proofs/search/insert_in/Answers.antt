use Rattle.std.proofs.Common.{◌≡◌, ◌∙◌, sym, rules, List}
use Rattle.index_keys.specs.Entries.{Entry, rank, IsRising}
use Rattle.tune_index.specs.Inside.EntryPlaces.{AllBelow}
use Rattle.tune_index.proofs.Edits.{Searched, inserts, keeps}
use Rattle.std.proofs.Common.{subst}
use Rattle.tune_index.proofs.Ends.{inserted_end}
use Rattle.tune_index.proofs.search.insert_in.Goals as goal

pub returns-in_ok-insert-clause-ok : goal.returns-in_ok-insert-clause-ok
returns-in_ok-insert-clause-ok g c = λ up.
    let h : Searched c.args.entries.now.items c.deref-2.result.now c.deref-3.result.now c.place_of-place.result (c.args.key, c.args.value) c.is_at.result =
    record {
      first = c.deref-2.ensures.value;
      second = c.deref-3.ensures.value;
      place = c.place_of-place.ensures.place;
      here = c.is_at.ensures.here;
      equal = c.is_at.ensures.equal;
      other = c.is_at.ensures.other;
    } in
    c.in_ok-insert.ensures.items ∙ inserts _ _ _ _ _ _ h (search rules) up

pub returns-else-not-is_at-clause-ok : goal.returns-else-not-is_at-clause-ok
returns-else-not-is_at-clause-ok g c = λ up.
    let h : Searched c.args.entries.now.items c.deref-2.result.now c.deref-3.result.now c.place_of-place.result (c.args.key, c.args.value) c.is_at.result =
    record {
      first = c.deref-2.ensures.value;
      second = c.deref-3.ensures.value;
      place = c.place_of-place.ensures.place;
      here = c.is_at.ensures.here;
      equal = c.is_at.ensures.equal;
      other = c.is_at.ensures.other;
    } in
    keeps _ _ _ _ _ _ h (search rules) up

pub returns-then-follows_all-clause-ok : goal.returns-then-follows_all-clause-ok
returns-then-follows_all-clause-ok g c = λ up.
    let e : Entry = (c.args.key, c.args.value) in
    let v : c.deref.result.now ≡ c.args.entries.now.items = c.deref.ensures.value in
    let all : AllBelow (rank e) c.args.entries.now.items =
    subst (λ (x : List Entry). AllBelow (rank e) x) v (c.follows_all.ensures (subst (λ (x : List Entry). IsRising x) (sym v) up) (search rules)) in
    c.in_ok-push.ensures.items ∙ sym (inserted_end c.args.entries.now.items e all)
