-- Names by the names of files.
use Rattle.std.proofs.Common.{◌≡◌, ◌≢◌, ◌⊎◌, ℕ, ◌<◌, Bool, List, [], ◌++◌, length, codes, Some, inl, inr, sym, ◌∙◌, ap, subst}
use Rattle.std.proofs.lemmas.List.{append_cancel_left, append_cancel_right}
use Rattle.std.specs.Bool.{Decides}
use Rattle.std.specs.Char.{IsAsciiDigit}
use Rattle.std.specs.List.{All}
use Rattle.std.specs.Path.{path_file_name}
use Rattle.tune_desk.specs.Inside.Asks.{FitsKinship, FitsEnding}
use Rattle.tune_desk.specs.KeptNames.{EndsAs, IsNamesake, IsKeptName, IsKeptEnding, IsNumbered}
use Rattle.tune_desk.specs.declared.kept_names.Kinship.{Kinship}
use Rattle.tune_desk.specs.declared.kept_names.Kinship.TheVariants.{Other, Namesake, Kept}

module _ (path file name of_file : List ℕ) (e : path_file_name path ≡ Some name) (k : path_file_name file ≡ Some of_file) where
  pub ending_of : (ending : List ℕ) → EndsAs ending path file → name ≡ of_file ++ ending
  ending_of ending h = let p = h.of_path in let q = h.of_other in cc

  pub unlike : ((rest : List ℕ) → name ≢ of_file ++ rest) → ¬ (IsNamesake path file ⊎ IsKeptName path file)
  unlike none = λ kin. elim kin [
    | inl h ↦ none [] (ending_of [] h)
    | inr h ↦ none h.ending (ending_of h.ending h.ends)
  ]

  pub like : (ending : List ℕ) → name ≡ of_file ++ ending → (kind : Kinship) → FitsEnding ending kind → FitsKinship path file kind
  like ending same Other fits = λ kin. elim kin [
    | inl h ↦ fits (inl (append_cancel_left of_file ending [] (sym same ∙ ending_of [] h)))
    | inr h ↦
        let e : h.ending ≡ ending = append_cancel_left of_file h.ending ending (sym (ending_of h.ending h.ends) ∙ same) in
        fits (inr (subst IsKeptEnding e h.kept))
  ]
  like ending same Namesake fits = record {
    name = of_file;
    of_path = e ∙ ap (λ n. Some n) (same ∙ ap (λ l. of_file ++ l) fits);
    of_other = k;
  }
  like ending same Kept fits = record {
    ending = ending;
    kept = fits;
    ends = record { name = of_file; of_path = e ∙ ap (λ n. Some n) same; of_other = k };
  }

pub numbered_by : (ending rest digits : List ℕ) (result : Bool) → ending ≡ codes "." ++ rest → rest ≡ digits ++ codes ".old" → 0 < length digits
    → Decides result (All IsAsciiDigit digits) → Decides result (IsNumbered ending)
numbered_by ending rest digits result front back some decides = (
  λ is. record { digits = digits; some = some; each = decides.0 is; written = front ∙ ap (λ l. codes "." ++ l) back },
  λ n.
      let tail : rest ≡ n.digits ++ codes ".old" = append_cancel_left (codes ".") rest (n.digits ++ codes ".old") (sym front ∙ n.written) in
      let same : n.digits ≡ digits = append_cancel_right n.digits digits (codes ".old") (sym tail ∙ back) in
      decides.1 (subst (All IsAsciiDigit) same n.each),
)
