-- What a read of a file gives is one of the files that a stop may leave.
use Rattle.std.specs.Prelude.{ℕ, List, [], ◌∷◌, length}
use Rattle.std.proofs.Common.{◌∙◌, arith}
use Rattle.tune_disk.specs.Disk.{Medium, MayLeave, Torn, touched}
use Rattle.tune_disk.specs.Inside.MayStay.{TellingMayStay}
use Rattle.tune_disk.specs.FileTold.{History, Course, told_at, course, at_opening, AnswerFits}
use Rattle.tune_disk.specs.FileTold.{AnswersFit}
use Rattle.tune_disk.proofs.Overwrites.{length_after_rises, put_written}
use Rattle.tune_disk.proofs.Stays.{written_stays, settled_stays}
use Rattle.tune_disk.specs.declared.file.told.Told.{Told}
use Rattle.tune_disk.specs.declared.file.told.Told.TheVariants.{Length, Byte, Ended, Begun, Put}
use Rattle.tune_disk.specs.declared.file.told.Told.TheVariants.{Wrote, Broke, Synced}

torn_stays : (m : Medium) (at n : ℕ) (old new : List ℕ) → MayLeave m old → Torn at n old new
    → MayLeave (touched at n m) new
torn_stays m at n old new stays torn =
    let rises = length_after_rises at n (length old) m.reach stays.no_longer in
    record {
      no_shorter = omega (arith, stays.no_shorter, torn.no_shorter);
      no_longer = omega (arith, torn.no_longer, rises);
      same = λ i lt out. torn.outside i out.0 ∙ stays.same i lt out.1;
    }

told_stays : (h : History) (at : ℕ) (one : Told) (c : Course) → MayLeave c.state.now c.state.seen
    → AnswerFits h c at one → MayLeave (told_at h at one c).state.now (told_at h at one c).state.seen
told_stays h at (Length n) c stays fits = stays
told_stays h at (Byte b) c stays fits = stays
told_stays h at Ended c stays fits = stays
told_stays h at Begun c stays fits = stays
told_stays h at (Put b) c stays fits = stays
told_stays h at Wrote c stays fits =
    written_stays c.state.now at c.hand c.state.seen _ stays (put_written at c.hand c.state.seen)
told_stays h at (Broke n) c stays fits = torn_stays c.state.now at n c.state.seen _ stays fits
told_stays h at Synced c stays fits = settled_stays c.state.seen

course_stays : (h : History) (c : Course) (all : List (ℕ × Told))
    → MayLeave c.state.now c.state.seen → AnswersFit h c all
    → MayLeave (course h c all).state.now (course h c all).state.seen
course_stays h c [] stays fit = stays
course_stays h c (one ∷ more) stays fit =
    let after = told_at h one.0 one.1 c in
    course_stays h after more (told_stays h one.0 one.1 c stays fit.0) fit.1

-- whatever a file told
pub telling_stays : (log : List (ℕ × Told)) → TellingMayStay log
telling_stays log h opened fit = course_stays h (at_opening h) log opened fit
