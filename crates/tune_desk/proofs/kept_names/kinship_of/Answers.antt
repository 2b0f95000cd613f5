use Rattle.std.proofs.Common.{◌≡◌, ◌++◌, Some, None, string_bytes}
use Rattle.std.proofs.lemmas.Bool.Decides.{Decides-eqb}
use Rattle.std.proofs.lemmas.Slice.Eq.{strip_prefix_is}
use Rattle.std.specs.Path.{path_file_name}
use Rattle.tune_desk.proofs.NameLemmas.{like, unlike}
use Rattle.tune_desk.proofs.kept_names.kinship_of.Goals as goal

pub returns-in-Some-strip_prefix : goal.returns-in-Some-strip_prefix
returns-in-Some-strip_prefix c =
    let name = c.as_bytes.result.now in
    let of_file = c.as_bytes-2.result.now in
    let e : path_file_name (string_bytes c.args.path.now) ≡ Some name = cc (c.in-Some.ensures) in
    let k : path_file_name (string_bytes c.args.file.now) ≡ Some of_file = cc (c.in-Some-file_name.ensures) in
    let same : name ≡ of_file ++ c.in-Some-strip_prefix.ending.now =
    strip_prefix_is Decides-eqb name of_file (Some c.in-Some-strip_prefix.ending) c.in-Some-strip_prefix.ensures.cases in
    like _ _ name of_file e k _ same _ c.kinship_by_ending.ensures

pub returns-in-None : goal.returns-in-None
returns-in-None c =
    let name = c.as_bytes.result.now in
    let of_file = c.as_bytes-2.result.now in
    let e : path_file_name (string_bytes c.args.path.now) ≡ Some name = cc (c.in-Some.ensures) in
    let k : path_file_name (string_bytes c.args.file.now) ≡ Some of_file = cc (c.in-Some-file_name.ensures) in
    unlike _ _ name of_file e k (strip_prefix_is Decides-eqb name of_file None c.in-None.ensures.cases)
