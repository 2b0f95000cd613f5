use Rattle.std.proofs.Common.{◌≡◌, ◌≢◌, ℕ, refl, arith}
use Rattle.tune_store.specs.Limits.{layout_number}
use Rattle.tune_store.specs.declared.layout.Layout.{Layout}
use Rattle.tune_store.specs.declared.layout.Layout.TheVariants.{One, Two}
use Rattle.desk_books.proofs.stocks.layout_of.Goals as goal

is_one : (layout : Layout) (number : ℕ) → number ≡ 1 → number ≡ layout_number layout → One ≡ layout
is_one One number a b = refl
is_one Two number a b = absurd (omega (arith, a, b))

is_two : (layout : Layout) (number : ℕ) → number ≢ 1 → number ≡ layout_number layout → Two ≡ layout
is_two One number a b = absurd (a b)
is_two Two number a b = refl

pub returns-then-number-eq1 : goal.returns-then-number-eq1
returns-then-number-eq1 c = λ layout e. is_one layout c.args.number c.if-number-eq1.true e

pub returns-else-number-eq1 : goal.returns-else-number-eq1
returns-else-number-eq1 c = λ layout e. is_two layout c.args.number c.if-number-eq1.false e
