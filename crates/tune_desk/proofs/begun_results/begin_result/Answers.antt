use Rattle.std.proofs.Common.{refl, Ok, Err, Some, string_bytes}
use Rattle.tune_desk.specs.Results.{result_places}
use Rattle.tune_desk.proofs.BeginLemmas.{begins_begun, begins_spares, begins_refused}
use Rattle.tune_desk.proofs.begun_results.begin_result.Goals as goal

pub returns-in-Ok-begin_at-clause-begun : goal.returns-in-Ok-begin_at-clause-begun
returns-in-Ok-begin_at-clause-begun g c =
    let out = string_bytes c.args.out.now in
    begins_begun (result_places (string_bytes c.args.file.now) (Some out) c.args.force) (string_bytes c.in-Ok.target) out _ _ _ refl c.in-Ok.ensures.deed
    c.in-Ok-begin_at.field-0 (c.in-Ok-begin_at.ensures.begins (Some out))

pub returns-in-Ok-begin_at-clause-new : goal.returns-in-Ok-begin_at-clause-new
returns-in-Ok-begin_at-clause-new g c = (c.in-Ok-begin_at.ensures.begins (Some (string_bytes c.args.out.now))).new

pub returns-in-Ok-begin_at-clause-files : goal.returns-in-Ok-begin_at-clause-files
returns-in-Ok-begin_at-clause-files g c =
    let out = string_bytes c.args.out.now in
    begins_spares (result_places (string_bytes c.args.file.now) (Some out) c.args.force) (string_bytes c.in-Ok.target) out _ _ _ refl c.in-Ok.ensures.deed
    (Ok c.in-Ok-begin_at.field-0) (c.in-Ok-begin_at.ensures.begins (Some out))

pub returns-in-Err-begin_at-clause-files : goal.returns-in-Err-begin_at-clause-files
returns-in-Err-begin_at-clause-files g c =
    let out = string_bytes c.args.out.now in
    begins_spares (result_places (string_bytes c.args.file.now) (Some out) c.args.force) (string_bytes c.in-Ok.target) out _ _ _ refl c.in-Ok.ensures.deed
    (Err c.in-Err-begin_at.why) (c.in-Err-begin_at.ensures.begins (Some out))

pub returns-in-Err-begin_at-clause-refused : goal.returns-in-Err-begin_at-clause-refused
returns-in-Err-begin_at-clause-refused g c =
    let out = string_bytes c.args.out.now in
    begins_refused (result_places (string_bytes c.args.file.now) (Some out) c.args.force) (string_bytes c.in-Ok.target) out _ _ _ refl c.in-Ok.ensures.deed
    _ refl (c.in-Err-begin_at.ensures.begins (Some out))
