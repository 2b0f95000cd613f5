use Rattle.std.proofs.Common.{arith}
use Rattle.tune_pages.proofs.Looking.{stand_count, stand_marks}
use Rattle.tune_pages.proofs.Uses.{stand_root, stand_inside}
use Rattle.tune_pages.proofs.laws.law_of_works.Goals as goal

pub returns-clause-root : goal.returns-clause-root
returns-clause-root c = stand_root

pub returns-clause-inside : goal.returns-clause-inside
returns-clause-inside c = stand_inside

pub returns-clause-marks : goal.returns-clause-marks
returns-clause-marks c = stand_marks

pub returns-clause-count : goal.returns-clause-count
returns-clause-count c = λ pages used work fits few.
    omega (arith, stand_count pages used work, stand_marks pages used work fits, fits.within, few)
