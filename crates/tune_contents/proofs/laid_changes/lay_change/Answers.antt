use Rattle.std.proofs.Common.{◌≡◌, List, ap, refl, ◌∙◌, subst, sym, arith}
use Rattle.std.proofs.lemmas.Result.{err_from_is_err_and}
use Rattle.tune_search.specs.Searches.{SearchShape}
use Rattle.tune_sets.specs.declared.set_lists.TuneSet.{TuneSet}
use Rattle.tune_contents.specs.Inside.Indexed.{HoldsIndexed, HoldsSomeIndexed, Keeps, LaysIndexed, keeps_of}
use Rattle.tune_contents.specs.Inside.Takes.{sets_pages}
use Rattle.tune_contents.specs.Next.{rows_after}
use Rattle.tune_contents.specs.declared.next.Next.{Next}
use Rattle.tune_contents.proofs.ChangePages.{change_count}
use Rattle.tune_contents.proofs.ContentsLemmas.{SaysWhere, indexed_of, keeps_in, sets_there, some_indexed, state_laid}
use Rattle.tune_contents.proofs.laid_changes.lay_change.Goals as goal

pub lay_indexed-requires-clause-holds : goal.lay_indexed-requires-clause-holds
lay_indexed-requires-clause-holds g c = λ h.
    (let s = c.args.edit.now.next in
    let old = c.args.contents.now in
    let same : keeps_of c.in-Ok.numbers c.in-Ok-copy_searches.searches old.rows.items ≡ keeps_in old =
    λ i. keeps_of (c.in-Ok.ensures.numbers i) (c.in-Ok-copy_searches.ensures.searches i) old.rows.items in
    subst (λ (k : Keeps). HoldsSomeIndexed old.layout s k) (sym same) (some_indexed s old (c.requires.holds h)))

pub lay_sets_where-requires : goal.lay_sets_where-requires
lay_sets_where-requires g c = record {
  chain = λ h.
      (let s = c.args.edit.now.next in
      let mid = c.lay_indexed.new.edit.next in
      let old = c.args.contents.now in
      let is = keeps_of c.lay_indexed.new.indexes.numbers c.lay_indexed.new.indexes.searches (rows_after c.in_ok-rows.rows old.rows.items) in
      let same : keeps_of c.in-Ok.numbers c.in-Ok-copy_searches.searches old.rows.items ≡ keeps_in old =
      λ i. keeps_of (c.in-Ok.ensures.numbers i) (c.in-Ok-copy_searches.ensures.searches i) old.rows.items in
      let lays = subst (λ (k : Keeps). LaysIndexed old.layout s mid k is c.args.change.now) same (c.in_ok-rows.ensures.lays h) in
      sets_there s mid old is c.args.change.now c.requires.possible lays (c.requires.holds (c.in_ok-rows.ensures.edits.looks.was_honest h)));
}

pub returns-clause-lays : goal.returns-clause-lays
returns-clause-lays g c = λ h.
    (let s = c.args.edit.now.next in
    let mid = c.lay_indexed.new.edit.next in
    let late = c.lay_sets_where.new.edit.next in
    let new = c.lay_root.new.edit.next in
    let old = c.args.contents.now in
    let next : Next = record {
      layout = old.layout;
      rows = c.in_ok-rows.rows;
      numbers = c.lay_indexed.new.indexes.numbers;
      searches = c.lay_indexed.new.indexes.searches;
      sets = c.in-Ok-sets_after.sets;
      firsts = record { numbers = c.in_ok-rows.numbers; searches = c.in_ok-rows.searches; sets = c.in_ok-sets_first.sets_first };
    } in
    let h2 = c.in_ok-lay_root.ensures.edits.looks.was_honest h in
    let h1 = c.in_ok-sets_first.ensures.edits.looks.was_honest h2 in
    let same : keeps_of c.in-Ok.numbers c.in-Ok-copy_searches.searches old.rows.items ≡ keeps_in old =
    λ i. keeps_of (c.in-Ok.ensures.numbers i) (c.in-Ok-copy_searches.ensures.searches i) old.rows.items in
    let is = keeps_of next.numbers next.searches (rows_after next.rows old.rows.items) in
    let lays = subst (λ (k : Keeps). LaysIndexed old.layout s mid k is c.args.change.now) same (c.in_ok-rows.ensures.lays h1) in
    let named = rw c.changes_sets-names.ensures at c.in_ok-sets_first.ensures.lays h2 in
    let lists = c.in_ok-rows.ensures.lists in
    let says : SaysWhere next.numbers next.searches next.firsts = record {
      first = lists.0;
      numbers_listed = lists.1;
      others = lists.2;
      searches_listed = lists.3;
    } in
    state_laid s mid late new old next c.args.change.now c.requires.possible lays named (c.in_ok-lay_root.ensures.root h) refl
    (c.in_ok-rows.ensures.notes ∙ ap (λ (s : SearchShape). s.notes) c.in-Ok-copy_searches.ensures.searches) c.in-Ok-sets_after.ensures.sets says
    c.requires.stays)

pub returns-clause-rows : goal.returns-clause-rows
returns-clause-rows g c = c.in_ok-rows.ensures.rows c.args.contents.now.layout c.args.contents.now.sets c.requires.possible

pub returns-in_err-rows-clause-takes : goal.returns-in_err-rows-clause-takes
returns-in_err-rows-clause-takes g c = λ h state holds within is.
    (let p = err_from_is_err_and c.from_residual.result c.from_residual.ensures.1 in
    let s = c.args.edit.now.next in
    let old = c.args.contents.now in
    let same : keeps_of c.in-Ok.numbers c.in-Ok-copy_searches.searches old.rows.items ≡ keeps_in old =
    λ i. keeps_of (c.in-Ok.ensures.numbers i) (c.in-Ok-copy_searches.ensures.searches i) old.rows.items in
    let first = c.in_err-rows.ensures.takes h state.tunes old.sets
    (subst (λ (k : Keeps). HoldsIndexed old.layout s k state.tunes) (sym same) (indexed_of s old state within holds)) c.requires.possible in
    let most = change_count s old c.args.change.now state holds c.requires.possible is c.requires.stays in
    rw (p.1, p.2) (λ e. (let lt = first e in omega (arith, lt, most))))

pub returns-in_err-sets_first-clause-takes : goal.returns-in_err-sets_first-clause-takes
returns-in_err-sets_first-clause-takes g c = λ h state holds within is.
    (let p = err_from_is_err_and c.from_residual-in_err-sets_first.result c.from_residual-in_err-sets_first.ensures.1 in
    let s = c.args.edit.now.next in
    let old = c.args.contents.now in
    let h1 = c.in_err-sets_first.ensures.edits.looks.was_honest h in
    let same : keeps_of c.in-Ok.numbers c.in-Ok-copy_searches.searches old.rows.items ≡ keeps_in old =
    λ i. keeps_of (c.in-Ok.ensures.numbers i) (c.in-Ok-copy_searches.ensures.searches i) old.rows.items in
    let first = c.in_ok-rows.ensures.takes h1 state.tunes old.sets
    (subst (λ (k : Keeps). HoldsIndexed old.layout s k state.tunes) (sym same) (indexed_of s old state within holds)) c.requires.possible in
    let sets = ap (λ (l : List TuneSet). sets_pages l) c.in-Ok-sets_after.ensures.sets in
    let second = c.in_err-sets_first.ensures.takes h in
    let most = change_count s old c.args.change.now state holds c.requires.possible is c.requires.stays in
    rw (p.1, p.2) (λ e. (let lt = second e in omega (arith, lt, first, sets, most))))

pub returns-in_err-lay_root-clause-takes : goal.returns-in_err-lay_root-clause-takes
returns-in_err-lay_root-clause-takes g c = λ h state holds within is.
    (let p = err_from_is_err_and c.from_residual-in_err-lay_root.result c.from_residual-in_err-lay_root.ensures.1 in
    let third = c.in_err-lay_root.ensures.takes h in
    rw (p.1, p.2) (λ e. (let lt = third e in absurd (omega (arith, lt)))))

pub returns-clause-takes : goal.returns-clause-takes
returns-clause-takes g c = λ h state holds within is.
    (let s = c.args.edit.now.next in
    let old = c.args.contents.now in
    let h2 = c.in_ok-lay_root.ensures.edits.looks.was_honest h in
    let h1 = c.in_ok-sets_first.ensures.edits.looks.was_honest h2 in
    let same : keeps_of c.in-Ok.numbers c.in-Ok-copy_searches.searches old.rows.items ≡ keeps_in old =
    λ i. keeps_of (c.in-Ok.ensures.numbers i) (c.in-Ok-copy_searches.ensures.searches i) old.rows.items in
    let first = c.in_ok-rows.ensures.takes h1 state.tunes old.sets
    (subst (λ (k : Keeps). HoldsIndexed old.layout s k state.tunes) (sym same) (indexed_of s old state within holds)) c.requires.possible in
    let sets = ap (λ (l : List TuneSet). sets_pages l) c.in-Ok-sets_after.ensures.sets in
    let second = c.in_ok-sets_first.ensures.takes h2 in
    let third = c.in_ok-lay_root.ensures.takes h in
    let most = change_count s old c.args.change.now state holds c.requires.possible is c.requires.stays in
    omega (arith, first, second, third, sets, most))
