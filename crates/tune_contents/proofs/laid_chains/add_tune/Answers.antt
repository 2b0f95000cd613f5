use Rattle.tune_pages.specs.Faults.{pages_for}
use Rattle.tune_contents.proofs.TakesLemmas.{put_count}
use Rattle.std.proofs.Common.{append_assoc, length, ◌+◌, arith, ◌≡◌, [], ◌∷◌, ◌++◌, ◌∙◌, ap, refl, sym, subst, List, ℕ, rules}
use Rattle.tune_pages.specs.Stand.{PutsChain}
use Rattle.tune_store.specs.declared.tune.Tune.{Tune}
use Rattle.tune_format.specs.Written.{written_text, stored_tune}
use Rattle.tune_format.specs.declared.rows.Row.{Row}
use Rattle.tune_contents.specs.Inside.Laying.{LaysTunes}
use Rattle.tune_contents.proofs.LayLemmas.{adds_tune}
use Rattle.tune_contents.proofs.laid_chains.add_tune.Goals as goal

pub returns-clause-lays : goal.returns-clause-lays
returns-clause-lays g c = λ rows.
    (let tune : Tune = record { number = c.args.number; revision = 1; text = c.args.text.now } in
    let row : Row = record { number = c.args.number; revision = 1; first = c.in_ok-first.first; length = length c.args.text.now } in
    let bytes : c.deref.result.now ≡ stored_tune tune = c.deref.ensures.value ∙ c.in-Ok.ensures
    ∙ ap (λ (text : List ℕ). written_text 1 text) c.bytes.ensures.value in
    let pushed : c.push.new.self.items ≡ c.args.more.now.items ++ row ∷ [] = search rules in
    let old = c.args.edit.now.next in
    let new = c.put_chain.new.self.next in
    let put = c.in_ok-first.ensures.chain in
    let held = c.args.more.now.items in
    subst (λ (left : List Row). LaysTunes old new (rows ++ held) left (λ tunes. tunes ++ tune ∷ []))
    (append_assoc rows held (row ∷ []) ∙ ap (λ (l : List Row). rows ++ l) (sym pushed))
    (adds_tune old new (rows ++ held) c.in_ok-first.first tune put.0 (subst (PutsChain old new c.in_ok-first.first put.0) bytes put.1)))

pub returns-clause-row : goal.returns-clause-row
returns-clause-row g c =
    let row : Row = record { number = c.args.number; revision = 1; first = c.in_ok-first.first; length = length c.args.text.now } in
    let pushed : c.push.new.self.items ≡ c.args.more.now.items ++ row ∷ [] = search rules in
    (row, pushed, refl)

pub returns-clause-takes : goal.returns-clause-takes
returns-clause-takes g c =
    let old = c.args.edit.now.next in
    let new = c.put_chain.new.self.next in
    let put = c.in_ok-first.ensures.chain in
    let size : length c.deref.result.now ≡ length c.args.text.now + 2 = search rules in
    let taken = put_count old new c.in_ok-first.first put.0 c.deref.result.now put.1 in
    let same : pages_for (length c.deref.result.now) ≡ pages_for (length c.args.text.now + 2) = ap pages_for size in
    omega (arith, taken, same)
