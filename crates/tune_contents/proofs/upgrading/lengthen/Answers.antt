use Rattle.tune_contents.proofs.UpgradeLemmas.{longer_full, longer_takes}
use Rattle.tune_contents.proofs.upgrading.lengthen.Goals as goal

pub store-requires : goal.store-requires
store-requires g c = record {
  holds = λ h.
      (let some = c.requires.holds (c.in-Ok.ensures.edits.looks.was_honest h) in
      let next = c.in-Ok.ensures.holds h some.0 some.1 some.2 some.3 some.4 some.5 in
      (some.0, some.1, next.0, some.3, next.1));
}

pub returns-in-Ok-store-clause-lays : goal.returns-in-Ok-store-clause-lays
returns-in-Ok-store-clause-lays g c = λ h before after parts tunes are texts.
    (let next = c.in-Ok.ensures.holds (c.in-Ok-store.ensures.edits.looks.was_honest h) before after parts tunes are texts in
    c.in-Ok-store.ensures.holds h before after next.0 tunes next.1)

pub returns-in-Ok-store-clause-takes : goal.returns-in-Ok-store-clause-takes
returns-in-Ok-store-clause-takes g c = λ h before after parts tunes are texts.
    (let mid = c.lengthen_incipits.new.edit.next in
    let longer = c.lengthen_incipits.new.self in
    let h1 = c.in-Ok-store.ensures.edits.looks.was_honest h in
    let next = c.in-Ok.ensures.holds h1 before after parts tunes are texts in
    longer_takes c.args.edit.now.next mid c.store.new.edit.next c.args.searches.now longer tunes
    (c.law_of_search_pages.ensures.leaves mid longer before after next.0 tunes next.1) (c.in-Ok.ensures.balance h1) (c.in-Ok-store.ensures.takes h))

pub returns-in-Err-store-clause-takes : goal.returns-in-Err-store-clause-takes
returns-in-Err-store-clause-takes g c = λ h before after parts tunes are texts full.
    (let mid = c.lengthen_incipits.new.edit.next in
    let longer = c.lengthen_incipits.new.self in
    let h1 = c.in-Err-store.ensures.edits.looks.was_honest h in
    let next = c.in-Ok.ensures.holds h1 before after parts tunes are texts in
    longer_full c.args.edit.now.next mid c.args.searches.now longer tunes
    (c.law_of_search_pages.ensures.leaves mid longer before after next.0 tunes next.1) (c.in-Ok.ensures.balance h1) (c.in-Err-store.ensures.takes h full))
