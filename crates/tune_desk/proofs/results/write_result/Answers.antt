use Rattle.std.proofs.Common.{refl, string_bytes}
use Rattle.tune_desk.specs.Results.{places_for}
use Rattle.tune_desk.proofs.ResultLemmas.{spares_result, written_result, refused_result}
use Rattle.tune_desk.proofs.results.write_result.Goals as goal

pub returns-in-Ok-write_to-clause-files : goal.returns-in-Ok-write_to-clause-files
returns-in-Ok-write_to-clause-files g c =
    let out = string_bytes c.args.to.now.out.now in
    spares_result (places_for c.args.to.now) (string_bytes c.in-Ok.target) out _ _ _ refl c.in-Ok.ensures.deed
    c.args.bytes.now c.write_to.result c.write_to.ensures

pub returns-in-Ok-write_to-clause-written : goal.returns-in-Ok-write_to-clause-written
returns-in-Ok-write_to-clause-written g c =
    let out = string_bytes c.args.to.now.out.now in
    written_result (places_for c.args.to.now) (string_bytes c.in-Ok.target) out _ _ _ refl c.in-Ok.ensures.deed
    c.args.bytes.now c.write_to.result c.in-Ok-write_to.is c.write_to.ensures

pub returns-in-Err-write_to-clause-files : goal.returns-in-Err-write_to-clause-files
returns-in-Err-write_to-clause-files g c =
    let out = string_bytes c.args.to.now.out.now in
    spares_result (places_for c.args.to.now) (string_bytes c.in-Ok.target) out _ _ _ refl c.in-Ok.ensures.deed
    c.args.bytes.now c.write_to.result c.write_to.ensures

pub returns-in-Err-write_to-clause-refused : goal.returns-in-Err-write_to-clause-refused
returns-in-Err-write_to-clause-refused g c =
    let out = string_bytes c.args.to.now.out.now in
    refused_result (places_for c.args.to.now) (string_bytes c.in-Ok.target) out _ _ _ refl c.in-Ok.ensures.deed
    _ c.args.bytes.now c.write_to.result refl c.in-Err-write_to.is c.write_to.ensures
