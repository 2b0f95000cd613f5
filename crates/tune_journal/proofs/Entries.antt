-- An entry of the log in the place of another: the number of its page, and then its image.
use Rattle.std.proofs.Common.{◌≡◌, ℕ, List, [], ◌++◌, length, take, drop, ◌∙◌, ap, arith}
use Rattle.std.proofs.lemmas.List.{append-nil, take_all, take_at, drop_all, drop_at}
use borrow.Rule.Slice.PartMut.{mid_of, post_of, put_mid}

module _ (head tail : List ℕ) (four : length head ≡ 4) (size : length tail ≡ 4096) where
  pub tail_of : mid_of 4 4096 (head ++ tail) ≡ tail
  tail_of = ap (take 4096) (drop_at head tail 4 four) ∙ take_all 4096 tail (omega (arith, size))

  none : post_of 4 4096 (head ++ tail) ≡ []
  none = ap (drop 4096) (drop_at head tail 4 four) ∙ drop_all 4096 tail (omega (arith, size))

  pub with_tail : (image : List ℕ) → put_mid 4 4096 (head ++ tail) image ≡ head ++ image
  with_tail image =
      ap (λ (l : List ℕ). l ++ (image ++ post_of 4 4096 (head ++ tail))) (take_at head tail 4 four)
      ∙ ap (λ (l : List ℕ). head ++ (image ++ l)) none ∙ ap (λ (l : List ℕ). head ++ l) (append-nil image)
