use Rattle.std.proofs.Common.{◌≡◌, ◌++◌, ◌∷◌, [], refl, rules, sym, ap, subst, true, false, None, Ok, Err, string_bytes, codes}
use Rattle.tune_desk.specs.DeskDeeds.{grown}
use Rattle.tune_desk.specs.Inside.Asks.{Asks}
use Rattle.tune_desk.specs.Inside.Growths.{FindsOld}
use Rattle.tune_desk.specs.OldTexts.{IsPieceOf}
use Rattle.tune_desk.specs.Results.{MayGrow, old_of, result_places}
use Rattle.tune_desk.proofs.OldTextsLemmas.{asked_spares, grown_spares, grows, grows_not, growth_failed, nothing_grown}
use Rattle.tune_desk.proofs.old_texts.grow_old_texts.Goals as goal

pub returns-in_default-clause-refused : goal.returns-in_default-clause-refused
returns-in_default-clause-refused g c = nothing_grown (string_bytes c.args.file.now) _

pub returns-in_err-is_new-clause-files : goal.returns-in_err-is_new-clause-files
returns-in_err-is_new-clause-files g c = asked_spares (string_bytes c.args.file.now) _ _ _ c.find_old.ensures

pub returns-in_default-piece_of-clause-files : goal.returns-in_default-piece_of-clause-files
returns-in_default-piece_of-clause-files g c = asked_spares (string_bytes c.args.file.now) _ _ _ c.find_old.ensures

pub returns-in-Ok-grow-clause-files : goal.returns-in-Ok-grow-clause-files
returns-in-Ok-grow-clause-files g c =
    let file = string_bytes c.args.file.now in
    let old : string_bytes c.in-Ok.old ≡ old_of file = search rules in
    grown_spares file _ _ _ _ _ (rw old at (c.in_ok-is_new.ensures)) (rw old at c.grow.ensures.deed)

pub returns-in-Ok-grow-clause-grown : goal.returns-in-Ok-grow-clause-grown
returns-in-Ok-grow-clause-grown g c =
    let file = string_bytes c.args.file.now in
    let old : string_bytes c.in-Ok.old ≡ old_of file = search rules in
    let is : IsPieceOf c.args.bytes.now c.as_slice.result.now = rw (c.as_slice.ensures.value) c.in-Ok-piece_of.ensures in
    grows file _ _ _ _ c.args.bytes.now _ c.find_old.ensures is (rw old at c.in-Ok-grow.ensures.deed)

pub returns-clause-files : goal.returns-clause-files
returns-clause-files g c =
    let file = string_bytes c.args.file.now in
    let old : string_bytes c.in-Ok.old ≡ old_of file = search rules in
    grown_spares file _ _ _ _ _ (rw old at (c.in_ok-is_new.ensures)) (rw old at c.grow.ensures.deed)

pub returns-clause-refused : goal.returns-clause-refused
returns-clause-refused g c =
    let file = string_bytes c.args.file.now in
    let old : string_bytes c.in-Ok.old ≡ old_of file = search rules in
    growth_failed file _ _ _ _ _ _ c.find_old.ensures (rw old at c.in-Err.ensures.deed)
