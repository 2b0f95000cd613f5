use Rattle.clap.specs.Words.{found_of, rows_of}
use Rattle.desk_words.specs.OrderMeanings.{chooses_in, counts_in, finds_in, lists_in, lists_sets, lists_titles, lists_twins, set_in, shows_in}
use Rattle.desk_words.proofs.order_meanings.order_of.Goals as goal

pub returns-in-Find : goal.returns-in-Find
returns-in-Find c =
    let rows = rows_of (found_of c.args.found.now) in
    rw c.in-Find.is (c.told.ensures (finds_in rows) c.find.ensures)

pub returns-in-Count : goal.returns-in-Count
returns-in-Count c =
    let rows = rows_of (found_of c.args.found.now) in
    rw c.in-Count.is (c.told-in-Count.ensures (counts_in rows) c.count.ensures)

pub returns-in-Random : goal.returns-in-Random
returns-in-Random c =
    let rows = rows_of (found_of c.args.found.now) in
    rw c.in-Random.is (c.told-in-Random.ensures (chooses_in c.args.chance rows) c.random.ensures)

pub returns-in-Titles : goal.returns-in-Titles
returns-in-Titles c =
    let rows = rows_of (found_of c.args.found.now) in
    rw c.in-Titles.is (c.told-in-Titles.ensures (lists_in lists_titles rows) c.titles.ensures)

pub returns-in-Sets : goal.returns-in-Sets
returns-in-Sets c =
    let rows = rows_of (found_of c.args.found.now) in
    rw c.in-Sets.is (c.told-in-Sets.ensures (lists_in lists_sets rows) c.sets.ensures)

pub returns-in-Set : goal.returns-in-Set
returns-in-Set c =
    let rows = rows_of (found_of c.args.found.now) in
    rw c.in-Set.is (c.told-in-Set.ensures (set_in rows) c.set.ensures)

pub returns-in-Twins : goal.returns-in-Twins
returns-in-Twins c =
    let rows = rows_of (found_of c.args.found.now) in
    rw c.in-Twins.is (c.told-in-Twins.ensures (lists_in lists_twins rows) c.twins.ensures)

pub returns-in-Show : goal.returns-in-Show
returns-in-Show c =
    let rows = rows_of (found_of c.args.found.now) in
    rw c.in-Show.is (c.told-in-Show.ensures (shows_in rows) c.show.ensures)
