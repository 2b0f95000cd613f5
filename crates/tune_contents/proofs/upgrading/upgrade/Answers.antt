use Rattle.std.proofs.Common.{ℕ, Ok, Err, refl, subst, arith}
use Rattle.std.proofs.lemmas.Result.{err_from_is_err_and}
use Rattle.tune_pages.specs.Stand.{Stand}
use Rattle.tune_store.specs.declared.layout.Layout.TheVariants.{Two}
use Rattle.tune_contents.specs.Holds.{Memory}
use Rattle.tune_contents.specs.Inside.Upgrading.{LengthensTexts}
use Rattle.tune_contents.proofs.UpgradeLemmas.{IsUpgraded, some_incipits, some_tunes_within, upgrade_takes, upgraded}
use Rattle.tune_contents.proofs.upgrading.upgrade.Goals as goal

pub incipits_of-requires-clause-holds : goal.incipits_of-requires-clause-holds
incipits_of-requires-clause-holds g c = λ h.
    (let s = c.args.edit.now.next in
    some_tunes_within s c.args.contents.now c.requires.layout (c.requires.holds h))

pub lengthen-requires-clause-holds : goal.lengthen-requires-clause-holds
lengthen-requires-clause-holds g c = λ h.
    (let s = c.args.edit.now.next in
    let run = c.in_ok-incipits.ensures in
    let are = run.run h in
    some_incipits s c.incipits_of.new.edit.next c.args.contents.now c.in-Ok-copy_searches.searches c.in_ok-incipits.incipits c.requires.layout
    (run.consults.stand.same h) c.in-Ok-copy_searches.ensures.searches are (c.requires.holds (run.consults.looks.was_honest h)))

pub returns-in_err-lengthen-clause-takes : goal.returns-in_err-lengthen-clause-takes
returns-in_err-lengthen-clause-takes g c = λ h state holds is.
    (let p = err_from_is_err_and c.from_residual-in_err-lengthen.result c.from_residual-in_err-lengthen.ensures.1 in
    let s = c.args.edit.now.next in
    let run = c.in_ok-incipits.ensures in
    let back = c.in_err-lengthen.ensures.edits.looks.was_honest h in
    let are = run.run back in
    let takes = upgrade_takes {T = ℕ} (Err c.in_err-lengthen.field-0.0) s c.incipits_of.new.edit.next
    c.lengthen.new.edit.next c.args.contents.now c.in-Ok-copy_searches.searches c.in_ok-incipits.incipits c.requires.layout
    (run.consults.stand.same back) c.in-Ok-copy_searches.ensures.searches are (c.in_err-lengthen.ensures.takes h) state holds is in
    rw (p.1, p.2) takes)

pub returns-in_err-lay_root-clause-takes : goal.returns-in_err-lay_root-clause-takes
returns-in_err-lay_root-clause-takes g c = λ h state holds is.
    (let p = err_from_is_err_and c.from_residual-in_err-lay_root.result c.from_residual-in_err-lay_root.ensures.1 in
    let none = c.in_err-lay_root.ensures.takes h in
    rw (p.1, p.2) (λ e. (let lt = none e in absurd (omega (arith, lt)))))

pub returns-clause-lays : goal.returns-clause-lays
returns-clause-lays g c = λ h.
    (let s = c.args.edit.now.next in
    let mid = c.lengthen.new.edit.next in
    let new = c.lay_root.new.edit.next in
    let old = c.args.contents.now in
    let run = c.in_ok-incipits.ensures in
    let longer = c.in_ok-lengthen.ensures in
    let h2 = c.in_ok-lay_root.ensures.edits.looks.was_honest h in
    let h1 = longer.edits.looks.was_honest h2 in
    let are = run.run h1 in
    let left : Memory = record {
      layout = Two;
      rows = old.rows.items;
      numbers = c.in-Ok.numbers;
      searches = c.lengthen.new.searches;
      sets = c.in-Ok-copy.sets;
      firsts = record { numbers = old.firsts.numbers; searches = c.in_ok-lengthen.field-0; sets = old.firsts.sets };
    } in
    let lengthens = subst (λ (t : Stand). LengthensTexts t mid c.in-Ok-copy_searches.searches left.searches c.in_ok-incipits.incipits)
    (run.consults.stand.same h1)
    (longer.lays h2) in
    let kept : IsUpgraded old left = record {
      layout = refl;
      rows = refl;
      numbers = c.in-Ok.ensures.numbers;
      sets = c.in-Ok-copy.ensures;
      notes = longer.notes;
      listed = longer.listed;
      first_numbers = refl;
      first_searches = longer.firsts;
      first_sets = refl;
    } in
    upgraded s mid new old left c.in-Ok-copy_searches.searches c.in_ok-incipits.incipits c.requires.layout c.in-Ok-copy_searches.ensures.searches are lengthens
    (c.in_ok-lay_root.ensures.root h) kept)

pub returns-clause-takes : goal.returns-clause-takes
returns-clause-takes g c = λ h state holds is.
    (let s = c.args.edit.now.next in
    let run = c.in_ok-incipits.ensures in
    let longer = c.in_ok-lengthen.ensures in
    let h2 = c.in_ok-lay_root.ensures.edits.looks.was_honest h in
    let h1 = longer.edits.looks.was_honest h2 in
    let are = run.run h1 in
    let first = upgrade_takes {T = ℕ} (Ok 0) s c.incipits_of.new.edit.next c.lengthen.new.edit.next
    c.args.contents.now c.in-Ok-copy_searches.searches c.in_ok-incipits.incipits c.requires.layout
    (run.consults.stand.same h1) c.in-Ok-copy_searches.ensures.searches are
    (longer.takes h2) state holds is in
    let second = c.in_ok-lay_root.ensures.takes h in
    omega (arith, first, second))
