-- Nine digits write a number that fits.
use Rattle.std.proofs.Common.{◌≡◌, refl, ℕ, ◌≤◌, Bool, true, false, ◌&&◌, List, [], ◌∷◌, Result, Ok, Err, length, arith, leb-true, le-leb}
use Rattle.std.specs.Prelude.{not, nat_le, ◌==◌}
use Rattle.std.specs.List.{list_all}
use Rattle.std.specs.Str.Parse.{ParsesUnsigned, digits_value}
use Rattle.std.proofs.lemmas.Str.Parse.{IsDigitsTest, numerals_by_value, digits_value_short, parse_gives}
use Rattle.desk_words.specs.Given.{is_digit, is_digits}

both : (a b : Bool) → (a && b) ≡ true → (a ≡ true) × (b ≡ true)
both true b e = (refl, e)
both false b e = cc

tells : IsDigitsTest (λ ds. list_all is_digit ds ≡ true)
tells = record {
  empty = refl;
  parts = λ c cs e. let k = both (is_digit c) (list_all is_digit cs) e in let m = both (nat_le 48 c) (nat_le c 57) k.0 in
      ((leb-true 48 c m.0, leb-true c 57 m.1), k.1);
  more = λ c cs k e i. (le-leb 48 c k.0 i && le-leb c 57 k.1 i) && e i;
}

pub always_reads : {E : Type 0} (word : List ℕ) (r : Result ℕ E) (e : E) → ParsesUnsigned 32 10 word r → is_digits word ≡ true → length word ≤ 9
    → r ≡ Err e → ⊥
always_reads [] r e reads digits le is = cc
always_reads (c ∷ cs) r e reads digits le is =
    let own = numerals_by_value (λ ds. list_all is_digit ds ≡ true) tells in
    let all = (both (not (length (c ∷ cs) == 0)) (list_all is_digit (c ∷ cs)) digits).1 in
    let small = digits_value_short own (c ∷ cs) 9 all le in
    let gives : r ≡ Ok (digits_value 10 (c ∷ cs)) = parse_gives own 32 (c ∷ cs) r reads all (omega arith) (omega (arith, small)) in
    cc
