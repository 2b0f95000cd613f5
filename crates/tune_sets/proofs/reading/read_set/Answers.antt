use Rattle.std.proofs.Common.{◌≡◌, ◌∙◌, sym, ap, inr, refl, arith, length, true}
use Rattle.tune_sets.specs.Names.{is_good_name}
use Rattle.tune_sets.specs.SetBytes.{written_numbers}
use Rattle.tune_sets.specs.declared.set_lists.TuneSet.{TuneSet}
use Rattle.tune_sets.proofs.ByteLemmas.{name_same, set_parts, set_read, length-written_numbers}
use Rattle.tune_sets.proofs.reading.read_set.Goals as goal

pub returns-in_default-new-clause-damaged : goal.returns-in_default-new-clause-damaged
returns-in_default-new-clause-damaged c = inr (
  refl,
  λ set later is e.
      let name = (name_same set.name c.in-Some.name_bytes.now _ c.in-Some.rest.now (sym (set_parts set later) ∙ e ∙ sym c.in-Some.ensures.found)).0 in
      let good : is_good_name c.in-Some.name_bytes.now ≡ true = ap is_good_name (sym name) ∙ is.name in
      let some = c.in_default-new.ensures.good.1 good in
      cc,
)

pub returns-in_default-places_at_front-clause-damaged : goal.returns-in_default-places_at_front-clause-damaged
returns-in_default-places_at_front-clause-damaged c = inr (
  refl,
  λ set later is e.
      let rest = (name_same set.name c.in-Some.name_bytes.now _ c.in-Some.rest.now (sym (set_parts set later) ∙ e ∙ sym c.in-Some.ensures.found)).1 in
      c.in_default-places_at_front.ensures.none (length set.numbers) (written_numbers set.numbers) later is.places (length-written_numbers set.numbers) rest,
)

pub returns-clause-ok : goal.returns-clause-ok
returns-clause-ok c =
    let name = c.in-Some-new.name in
    let set : TuneSet = record { name = name; numbers = c.in_ok-numbers.numbers } in
    let found = c.in-Some-places_at_front.ensures.found in
    let named = c.in-Some-new.ensures.value in
    let read =
    set_read set c.in-Some.name_bytes.now c.in-Some-places_at_front.places.now c.in-Some-places_at_front.rest.now c.in-Some.rest.now c.args.bytes.now found.0
    named c.in_ok-numbers.ensures.same found.2 found.3 c.in-Some.ensures.found in
    let good : is_good_name name ≡ true = ap is_good_name named ∙ c.in-Some-new.ensures.good.0 refl in
    (record { name = good; places = omega (arith, read.0, found.1); numbers = c.in_ok-numbers.ensures.narrow }, read.1)
