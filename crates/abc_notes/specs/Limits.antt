-- How far a note lies from the staff: its octave marks stand in a text no longer than a book.
use Rattle.std.specs.Prelude.{◌+◌, ◌*◌, ℤ, pos, ◌-ℤ◌}
use Rattle.abc_fields.specs.Limits.{longest_book}

-- semitones from C: 12 for each octave, up to 11 for a letter, and 2 for an accidental
abbrev pub lowest_pitch : ℤ
lowest_pitch = pos 0 -ℤ pos (12 * longest_book + 2)

abbrev pub highest_pitch : ℤ
highest_pitch = pos (12 * longest_book + 13)
