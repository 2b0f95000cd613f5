use Rattle.std.proofs.Common.{◌≡◌, ◌++◌, [], ◌∷◌, Some, None, get_or, take, subst, rules}
use Rattle.std.proofs.lemmas.List.{take_more, take_all}
use Rattle.tune_store.specs.Candidates.{ArePlacesOf}
use Rattle.tune_store.proofs.NumberLemmas.{IsNextPlace, places_none, places_more, places_are, above_taken}
use Rattle.tune_contents.specs.Holds.{labels_in}
use Rattle.tune_archive.proofs.FetchLemmas.{labels_rise, label_inside, label_found, label_none}
use Rattle.tune_archive.proofs.places.places_of_rising.Goals as goal
use Rattle.tune_archive.proofs.places.places_of_rising.Goals.{in-Some+in_ok-push, in_default}

pub loop-number-preserved : goal.loop-number-preserved
loop-number-preserved c =
    let rows = c.args.rows.now.items in
    let labels = labels_in rows in
    let numbers = c.args.numbers.now in
    let i = c.loop-number.number-index in
    let kept = c.loop-number.invariant in
    let number = get_or numbers i 0 in
    let more = take_more numbers i 0 c.loop-number-test.true in
    elim c.match-place_of.branch [
      | in-Some+in_ok-push w ↦
          let place = w.in-Some.place in
          let is : IsNextPlace (take i numbers) number labels place = record {
            rise = labels_rise 0 rows c.requires.rows;
            above = above_taken numbers i c.requires.numbers c.loop-number-test.true;
            within = label_inside rows place w.in-Some.ensures.within;
            has = label_found rows number (Some place) w.in-Some.ensures.within w.in-Some.ensures.found;
          } in
          let added : c.match-place_of.places.items ≡ c.loop-number.places.items ++ place ∷ [] = search rules in
          rw (added, more) record {
            rise = places_more (take i numbers) number labels place _ is kept.rise kept.are;
            are = places_are (take i numbers) number labels place _ is kept.are;
          }
      | in_default w ↦
          let stays : c.match-place_of.places.items ≡ c.loop-number.places.items = search rules in
          rw (stays, more) record {
            rise = kept.rise;
            are = places_none (take i numbers) number labels _ (label_none rows number None c.requires.rows w.in_default.ensures.none) kept.are;
          }
    ]

pub returns-clause-places : goal.returns-clause-places
returns-clause-places c =
    let all : take c.loop-number.number-index c.args.numbers.now ≡ c.args.numbers.now = take_all _ _ c.loop-number-test.false in
    subst (λ ns. ArePlacesOf ns (labels_in c.args.rows.now.items) c.loop-number.places.items) all c.loop-number.invariant.are
