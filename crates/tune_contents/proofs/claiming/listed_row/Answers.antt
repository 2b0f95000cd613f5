use Rattle.std.proofs.Common.{inl, inr, ap, arith}
use Rattle.std.proofs.lemmas.Bool.{cases_lt}
use Rattle.index_keys.specs.Entries.{Entry}
use Rattle.tune_store.specs.Limits.{greatest_number}
use Rattle.tune_contents.proofs.claiming.listed_row.Goals as goal

pub returns-in_default-clause-none : goal.returns-in_default-clause-none
returns-in_default-clause-none c = λ row same above. elim (cases_lt greatest_number row.number) [
  | inl lt ↦ lt
  | inr le ↦ absurd (c.in_default.ensures.none row.number (omega (arith, le)) (ap (λ (e : Entry). e.0) same))
]
