use Rattle.std.proofs.Common.{◌≡◌, rules, false, refl, string_bytes}
use Rattle.desk_backups.proofs.ThinLemmas.{old_apart, old_quiet}
use Rattle.desk_backups.proofs.old_copies.take_one.Goals as goal

pub returns-in-Ok : goal.returns-in-Ok
returns-in-Ok g c = λ thinning number was same is h.
    let differ : c.in-Ok-false.field-0 ≡ false = search rules in
    old_apart thinning number (string_bytes c.args.file.now) (string_bytes c.args.path.now) _ was _ _ _ same is h
    (rw differ at c.in-Ok-false.ensures.deed) c.remove.ensures.deed

pub returns-in-Err-remove : goal.returns-in-Err-remove
returns-in-Err-remove g c = λ thinning number was same is h.
    let differ : c.in-Ok-false.field-0 ≡ false = search rules in
    old_apart thinning number (string_bytes c.args.file.now) (string_bytes c.args.path.now) _ was _ _ _ same is h
    (rw differ at c.in-Ok-false.ensures.deed) c.remove.ensures.deed

pub returns-in-Err : goal.returns-in-Err
returns-in-Err g c = λ thinning number was same is h. old_quiet thinning was _ _ number _ h c.is_same.ensures.deed refl

pub returns-in-Ok-true : goal.returns-in-Ok-true
returns-in-Ok-true g c = λ thinning number was same is h. old_quiet thinning was _ _ number _ h c.is_same.ensures.deed refl
