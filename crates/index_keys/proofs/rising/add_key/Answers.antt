use Rattle.std.proofs.Common.{rules}
use Rattle.index_keys.proofs.KeyPlaces.{Searched, adds, keeps, puts_last}
use Rattle.index_keys.proofs.rising.add_key.Goals as goal

pub returns-then-not-is_at-clause-added : goal.returns-then-not-is_at-clause-added
returns-then-not-is_at-clause-added g c = λ up.
    let h : Searched c.args.keys.now.items c.as_slice.result.now c.as_slice-else-place-len.result.now c.place_of-place.result
    c.args.key c.is_at.result = record {
      first = c.as_slice.ensures.value;
      second = c.as_slice-else-place-len.ensures.value;
      place = c.place_of-place.ensures.place;
      here = c.is_at.ensures.here;
      equal = c.is_at.ensures.equal;
      other = c.is_at.ensures.other;
    } in
    adds _ _ _ _ _ _ _ h (search rules) c.insert.ensures.items up

pub returns-else-not-is_at-clause-added : goal.returns-else-not-is_at-clause-added
returns-else-not-is_at-clause-added g c = λ up.
    let h : Searched c.args.keys.now.items c.as_slice.result.now c.as_slice-else-place-len.result.now c.place_of-place.result
    c.args.key c.is_at.result = record {
      first = c.as_slice.ensures.value;
      second = c.as_slice-else-place-len.ensures.value;
      place = c.place_of-place.ensures.place;
      here = c.is_at.ensures.here;
      equal = c.is_at.ensures.equal;
      other = c.is_at.ensures.other;
    } in
    keeps _ _ _ _ _ _ h (search rules) up

pub returns-then-place-len-clause-added : goal.returns-then-place-len-clause-added
returns-then-place-len-clause-added g c = λ up.
    puts_last _ _ _ _ _ c.as_slice.ensures.value c.place_of-place.ensures.place (search rules) c.push.ensures.items up
