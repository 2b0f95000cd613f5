use Rattle.std.proofs.Common.{◌≡◌, ◌<◌, ◌++◌, ℕ, All, List, [], ◌∷◌, Bool, false, set, length, sym, refl, ◌∙◌, ap, subst, arith}
use Rattle.std.proofs.lemmas.List.Elements.{All-tail}
use Rattle.tune_pages.specs.Stand.{marked}
use Rattle.tune_pages.proofs.Chains.{length-marked}
use Rattle.tune_pages.proofs.page_marks.unmark_all.Goals as goal

marked_both : (a b : List ℕ) (m : List Bool) → marked false (a ++ b) m ≡ marked false b (marked false a m)
marked_both [] b m = refl
marked_both (p ∷ a) b m = marked_both a b (set m p false)

all_second : (Q : ℕ → Type 0) (a b : List ℕ) → All Q (a ++ b) → All Q b
all_second Q [] b all = all
all_second Q (p ∷ a) b all = all_second Q a b (All-tail Q p (a ++ b) all)

pub unmark-requires-2 : goal.unmark-requires-2
unmark-requires-2 c =
    let all = subst (All (λ p. p < length c.args.written.now.items)) (sym c.as_slices.ensures.items) c.requires in
    let long : length c.unmark.new.written.items ≡ length c.args.written.now.items = ap (λ (m : List Bool). length m) c.unmark.ensures.marks
    ∙ length-marked false c.as_slices.result.0.now c.args.written.now.items in
    λ k d lt. (let a = all_second (λ p. p < length c.args.written.now.items) c.as_slices.result.0.now c.as_slices.result.1.now all k d lt in
    omega (arith, a, long))

pub returns-clause-marks : goal.returns-clause-marks
returns-clause-marks c =
    c.unmark-2.ensures.marks ∙ ap (marked false c.as_slices.result.1.now) c.unmark.ensures.marks
    ∙ sym (marked_both c.as_slices.result.0.now c.as_slices.result.1.now c.args.written.now.items)
    ∙ ap (λ (l : List ℕ). marked false l c.args.written.now.items) c.as_slices.ensures.items
