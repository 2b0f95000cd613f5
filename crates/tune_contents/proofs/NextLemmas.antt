-- What becomes of the rows with a change.
use Rattle.std.proofs.Common.{ℕ, List}
use Rattle.tune_format.specs.declared.rows.Row.{Row}
use Rattle.tune_contents.specs.Inside.ChangedRows.{IsMadeOf, IsSingle}
use Rattle.tune_contents.specs.Next.{FitsRows}
use Rattle.tune_contents.specs.declared.next.RowChange.{RowChange}
use Rattle.tune_contents.specs.declared.next.RowChange.TheVariants.{Stay, Add, Put, Take, Move, Whole}

-- a change of one row needs no room
pub single_fits : (made : RowChange) (rows : List Row) (room : ℕ) → IsSingle made rows → FitsRows made rows room
single_fits Stay rows room single = tt
single_fits (Add more) rows room single = absurd single
single_fits (Put place row) rows room single = single
single_fits (Take place) rows room single = single
single_fits (Move place to row) rows room single = single
single_fits (Whole all) rows room single = absurd single

pub single_made : (made : RowChange) (rows : List Row) → IsSingle made rows → IsMadeOf made rows
single_made Stay rows single = tt
single_made (Add more) rows single = absurd single
single_made (Put place row) rows single = single
single_made (Take place) rows single = single
single_made (Move place to row) rows single = single
single_made (Whole all) rows single = absurd single
