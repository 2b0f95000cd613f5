use Rattle.std.proofs.Common.{rules, refl, sym, ℕ}
use Rattle.std.specs.Cmp.{ranked}
use Rattle.std.proofs.lemmas.Bool.{false≢true}
use Rattle.std.proofs.lemmas.Fn.{always_returns_same}
use Rattle.tune_format.specs.declared.rows.Row.{Row}
use Rattle.tune_contents.proofs.ClaimedRowLemmas.{ordered, cmp_rises, no_place, has_at, has_none}
use Rattle.tune_contents.proofs.claiming.has_row.Goals as goal

pub returns-in-Ok : goal.returns-in-Ok
returns-in-Ok c =
    let key : Row → ℕ = λ row. row.number in
    let d : Row = record { number = 0; revision = 0; first = 0; length = 0 } in
    let equal = c.in-Ok.ensures.position key (always_returns_same _ _ _ (λ a r f' k. (search rules, search rules))) in
    ((λ yes. has_at c.args.number c.args.rows.now c.in-Ok.field-0 d c.in-Ok.ensures.bound (ranked _ _ _ (sym (equal d)))), (λ has. refl))

pub returns-in-Err : goal.returns-in-Err
returns-in-Err c =
    let key : Row → ℕ = λ row. row.number in
    let parts = c.in-Err.ensures.position key (always_returns_same _ _ _ (λ a r f' k. (search rules, search rules)))
    (λ i j d le l. cmp_rises _ _ _ (ordered 0 c.args.rows.now i j d c.requires le l)) in (
      (λ yes. absurd (false≢true yes)),
      (λ has. absurd (has_none c.args.number c.args.rows.now (no_place c.args.number c.args.rows.now c.in-Err.field-0 parts.0 parts.1) has)),
    )
