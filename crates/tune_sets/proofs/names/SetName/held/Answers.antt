use Rattle.std.proofs.Common.{◌≡◌, ℕ, ◌-◌, ◌≤◌, List, ◌++◌, length, drop, true, ap, sym, ◌∙◌, arith}
use Rattle.std.proofs.Math.Seq.{take-append_seam}
use Rattle.std.proofs.Math.ListN.{replicate}
use Rattle.std.proofs.lemmas.Bool.Decides.{nat_tests}
use Rattle.std.proofs.lemmas.List.{drop-replicate}
use Rattle.tune_sets.specs.Limits.{longest_name}
use Rattle.tune_sets.specs.Names.{is_good_name}
use Rattle.tune_sets.specs.Inside.HeldNames.{IsHeldName, padded_name}
use Rattle.tune_sets.proofs.names.SetName.held.Goals as goal

short_name : (name : List ℕ) → is_good_name name ≡ true → length name ≤ longest_name
short_name name good = grind (arith, nat_tests)

-- a good name with the rest of a row of zeros after it
held : (name front tail : List ℕ) → is_good_name name ≡ true → front ≡ name → tail ≡ drop (length name) (replicate longest_name 0)
    → IsHeldName (length name) (front ++ tail)
held name front tail good copied rest =
    let zeros : tail ≡ replicate (longest_name - length name) 0 = rest ∙ drop-replicate (length name) longest_name 0 in
    let begins = take-append_seam name tail in
    rw copied record {
      short = short_name name good;
      size = ap length begins;
      good = ap is_good_name begins ∙ good;
      zeros = ap padded_name begins ∙ ap (λ more. name ++ more) (sym zeros);
    }

pub invariant_of-result : goal.invariant_of-result
invariant_of-result c =
    held c.args.name.now c.copy_from_slice.new.self c.split_at_mut-front.result.1.now c.requires c.copy_from_slice.ensures.after
    c.split_at_mut-front.ensures.back
