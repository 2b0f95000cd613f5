use Rattle.std.proofs.Common.{◌≡◌, ℕ, ◌<◌, ◌≤◌, ◌||◌, not}
use Rattle.told_books.specs.Inside.LetterTables.{letter_in_table}
use Rattle.told_books.proofs.tune_letters.add_lacking.Given as goal

abbrev pub invariant-loop-i : goal.invariant-loop-i
invariant-loop-i l = record {
  below : (letter : ℕ) → letter < l.i → letter_in_table l.unless letter ≡ (not (letter_in_table l.letters.table letter) || letter_in_table l.fn.unless letter);
  above : (letter : ℕ) → l.i ≤ letter → letter_in_table l.unless letter ≡ letter_in_table l.fn.unless letter;
}
