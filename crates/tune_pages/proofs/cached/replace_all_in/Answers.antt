use Rattle.std.proofs.Common.{◌≤◌, inl, inr, length, refl, ◌∙◌, arith}
use Rattle.tune_pages.proofs.CacheLemmas.{replaced_more, replaced_all}
use Rattle.tune_pages.proofs.cached.replace_all_in.Goals as goal

pub loop-place-init : goal.loop-place-init
loop-place-init c = record {
  only = λ entry has. inl (has, λ k lt. absurd (omega (arith, lt)));
  cap = refl;
}

pub loop-place-preserved : goal.loop-place-preserved
loop-place-preserved c = record {
  only = replaced_more c.args.changes.now c.loop-place.place c.args.cache.now.entries c.loop-place.cache.entries c.replace_in.new.cache.entries
      c.loop-place.invariant.only c.replace_in.ensures.only;
  cap = c.replace_in.ensures.cap ∙ c.loop-place.invariant.cap;
}

pub returns-clause-only : goal.returns-clause-only
returns-clause-only c =
    let end : length c.args.changes.now ≤ c.loop-place.place = omega (arith, c.loop-place-test.false, c.len-place-end.ensures.len) in
    replaced_all c.args.changes.now c.args.cache.now.entries c.loop-place.cache.entries
    (λ entry has. elim (c.loop-place.invariant.only entry has) [
      | inl kept ↦ inl (kept.0, λ k lt. kept.1 k (omega (arith, lt, end)))
      | inr put ↦ inr put
    ])
