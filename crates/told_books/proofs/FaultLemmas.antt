-- Why a tune is refused, by the room that is left.
use Rattle.std.proofs.Common.{◌≡◌, ℕ, ◌+◌, ◌-◌, ◌<◌, ◌≤◌, true, false, Some, None, List, length, refl, ap, sym, ◌∙◌, arith}
use Rattle.std.proofs.Common.{inl, inr}
use Rattle.std.specs.Prelude.{nat_le}
use Rattle.std.proofs.lemmas.Bool.{cases_Bool, leb-true, leb-false, lt-ltb, le-ltb}
use Rattle.abc_fields.specs.Tunes.{has_key, joined}
use Rattle.abc_fields.specs.Fields.{header_of}
use Rattle.abc_fields.specs.FileHeaders.{with_header, has_letter, carried}
use Rattle.abc_fields.specs.declared.book.TuneFault.TheVariants.{NoKey, TooLong}
use Rattle.abc_fields.specs.declared.carry_rules.CarryRule.TheVariants.{Never}
use Rattle.abc_fields.proofs.TuneLemmas.{key_before, none_before, before_length}
use Rattle.told_books.specs.ToldTunes.{fault_of_tune}
use Rattle.told_books.specs.Inside.Rooms.{room_after}
use Rattle.told_books.specs.Inside.Sums.{sum_carried_by, AreHeaderSums}
use Rattle.told_books.specs.declared.sums.RuleSum.{RuleSum}

-- a tune without a key
pub no_key : (longest : ℕ) (header run : List (List ℕ)) → has_key run ≡ false → Some NoKey ≡ fault_of_tune longest (with_header header run)
no_key longest header run none =
    let same : with_header header run ≡ run = none_before (carried (has_letter (header_of run)) Never header) run none in
    sym (ap (fault_of_tune longest) same ∙ rw none refl)

keyed_long : (longest : ℕ) (run : List (List ℕ)) → has_key run ≡ true → longest < length (joined run) → Some TooLong ≡ fault_of_tune longest run
keyed_long longest run keyed over = rw (keyed, lt-ltb longest (length (joined run)) over) refl

keyed_good : (longest : ℕ) (run : List (List ℕ)) → has_key run ≡ true → length (joined run) ≤ longest → None ≡ fault_of_tune longest run
keyed_good longest run keyed fits = rw (keyed, le-ltb longest (length (joined run)) fits) refl

-- what the text of a tune with a key has, with what it carries
whole_length : (header run : List (List ℕ)) → has_key run ≡ true
    → length (joined (with_header header run)) ≡ length (joined run) + length (joined (carried (has_letter (header_of run)) Never header))
whole_length header run keyed = before_length (carried (has_letter (header_of run)) Never header) run keyed

whole_key : (header run : List (List ℕ)) → has_key run ≡ true → has_key (with_header header run) ≡ true
whole_key header run keyed = key_before (carried (has_letter (header_of run)) Never header) run keyed

room_none : (longest n : ℕ) → room_after (Some longest) n ≡ None → longest < n
room_none longest n none = elim (cases_Bool (nat_le n longest)) [
  | inl fits ↦ absurd (let h = rw fits at none in cc)
  | inr over ↦ leb-false n longest over
]

room_some : (longest n room : ℕ) → room_after (Some longest) n ≡ Some room → room + n ≡ longest
room_some longest n room some = elim (cases_Bool (nat_le n longest)) [
  | inl fits ↦ let h = rw fits at some in let left : longest - n ≡ room = cc in omega (arith, leb-true n longest fits)
  | inr over ↦ absurd (let h = rw over at some in cc)
]

-- the lines of a tune are too long by themselves
pub none_left : (longest : ℕ) (header run : List (List ℕ)) → has_key run ≡ true → room_after (Some longest) (length (joined run)) ≡ None
    → Some TooLong ≡ fault_of_tune longest (with_header header run)
none_left longest header run keyed none =
    keyed_long longest (with_header header run) (whole_key header run keyed)
    (omega (arith, whole_length header run keyed, room_none longest (length (joined run)) none))

-- they are too long with what the tune carries
pub some_over : (longest room : ℕ) (sums : List RuleSum) (header run : List (List ℕ)) → has_key run ≡ true
    → room_after (Some longest) (length (joined run)) ≡ Some room → AreHeaderSums sums header
    → nat_le (sum_carried_by (has_letter (header_of run)) sums) room ≡ false → Some TooLong ≡ fault_of_tune longest (with_header header run)
some_over longest room sums header run keyed some are over =
    keyed_long longest (with_header header run) (whole_key header run keyed)
    (omega (
      arith,
      whole_length header run keyed,
      room_some longest (length (joined run)) room some,
      are (has_letter (header_of run)),
      leb-false (sum_carried_by (has_letter (header_of run)) sums) room over,
    ))

-- they are not
pub all_fit : (longest room : ℕ) (sums : List RuleSum) (header run : List (List ℕ)) → has_key run ≡ true
    → room_after (Some longest) (length (joined run)) ≡ Some room → AreHeaderSums sums header
    → nat_le (sum_carried_by (has_letter (header_of run)) sums) room ≡ true → None ≡ fault_of_tune longest (with_header header run)
all_fit longest room sums header run keyed some are fits =
    keyed_good longest (with_header header run) (whole_key header run keyed)
    (omega (
      arith,
      whole_length header run keyed,
      room_some longest (length (joined run)) room some,
      are (has_letter (header_of run)),
      leb-true (sum_carried_by (has_letter (header_of run)) sums) room fits,
    ))
