-- What is put behind a list in four steps.
use Rattle.std.proofs.Common.{◌≡◌, List, ◌++◌, Result, Ok, Err, OnOk, ap, ◌∙◌}
use Rattle.std.proofs.lemmas.List.{append_assoc}

module _ {X : Type 0} (a b c d e x y z w : List X) where
  pub after_four : b ≡ a ++ x → c ≡ b ++ y → d ≡ c ++ z → e ≡ d ++ w → e ≡ a ++ (x ++ (y ++ (z ++ w)))
  after_four first second third fourth =
      fourth ∙ ap (λ t. t ++ w) (third ∙ ap (λ t. t ++ z) (second ∙ ap (λ t. t ++ y) first))
      ∙ append_assoc ((a ++ x) ++ y) z w ∙ append_assoc (a ++ x) y (z ++ w) ∙ append_assoc a x (y ++ (z ++ w))

  -- the last step may fail
  pub ok_after_four : {E : Type 0} (r : Result (Unit {0}) E) → b ≡ a ++ x → c ≡ b ++ y → d ≡ c ++ z → OnOk r (e ≡ d ++ w)
      → OnOk r (e ≡ a ++ (x ++ (y ++ (z ++ w))))
  ok_after_four (Ok done) first second third fourth = after_four first second third fourth
  ok_after_four (Err fault) first second third fourth = fourth
