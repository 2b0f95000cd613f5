use Rattle.std.proofs.Common.{◌≡◌, ◌∙◌, ap, refl, subst, List, ℕ}
use Rattle.tune_format.specs.Written.{written_text, stored_tune}
use Rattle.tune_contents.specs.Inside.Laying.{SwapsChain}
use Rattle.tune_contents.proofs.LayLemmas.{some_chain, puts_tune}
use Rattle.tune_contents.proofs.laid_chains.put_tune.Goals as goal

pub swap_chain-requires : goal.swap_chain-requires
swap_chain-requires g c = record {
  chain = λ h.
      some_chain c.args.edit.now.next c.args.rows.now.items c.args.place c.first_at.result c.requires.place
      c.first_at.ensures (c.requires.holds h);
}

pub returns-clause-lays : goal.returns-clause-lays
returns-clause-lays g c = λ h. rw c.bytes-2.ensures.value
    (let tune = c.args.tune.now in
    let bytes : c.deref.result.now ≡ stored_tune tune = c.deref.ensures.value ∙ c.in-Ok.ensures
    ∙ ap (λ (text : List ℕ). written_text tune.revision text) c.bytes.ensures.value in
    let old = c.args.edit.now.next in
    let new = c.swap_chain.new.edit.next in
    puts_tune old new c.args.rows.now.items c.args.place c.first_at.result c.in_ok-first.first tune c.requires.place
    c.first_at.ensures
    (subst (SwapsChain old new c.first_at.result c.in_ok-first.first) bytes (c.in_ok-first.ensures.swaps h)))

pub returns-clause-row : goal.returns-clause-row
returns-clause-row g c =
    let tune = c.args.tune.now in
    (record { number = tune.number; revision = tune.revision; first = c.in_ok-first.first; length = _ }, c.requires.place, refl, refl)
