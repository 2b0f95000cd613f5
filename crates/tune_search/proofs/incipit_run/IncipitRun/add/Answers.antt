use Rattle.std.proofs.Common.{◌∙◌, List, subst, sym, OnOk, Result, Ok, Err}
use Rattle.index_keys.specs.Entries.{Entry}
use Rattle.tune_incipit.specs.ScaleAndIncipitKeys.{incipit_keys}
use Rattle.tune_search.specs.IncipitRuns.{GathersIncipits}
use Rattle.tune_search.proofs.TextRuns.{gathered_one, shown_alone}
use Rattle.tune_search.proofs.incipit_run.IncipitRun.add.Goals as goal

-- what holds where a call succeeded, by two things that held there
both_on_ok : {T E A B P Q : Type 0} (r : Result T E) → OnOk r A → (P → OnOk r B) → (A → (P → B) → Q) → OnOk r Q
both_on_ok (Ok done) a b so = so a b
both_on_ok (Err failed) a b so = tt

-- the entry of the tune lies behind those of the others
pub returns : goal.returns
returns c =
    let number = c.args.number in
    let text = c.args.text.now in
    let was : List Entry = c.self.inside.entries.items in
    let is : List Entry = c.add_entries.new.run.items in
    let keys = c.as_slice.result.now in
    let put = c.add_entries.ensures in
    let own = shown_alone c.key_of_twelve_notes.result keys c.as_slice.ensures ∙ c.key_of_twelve_notes.ensures in
    both_on_ok c.add_entries.result put.added put.fit (λ added fit tunes came.
    let gathers : GathersIncipits tunes was = subst (λ (run : List Entry). GathersIncipits tunes run) (sym c.self.view_is) came in
    record { added = gathered_one (incipit_keys 12) tunes number text keys was is own added gathers.added; fit = fit gathers.fit })
