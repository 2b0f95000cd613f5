use Rattle.std.proofs.Common.{◌≡◌, arith, ◌∙◌}
use Rattle.std.proofs.lemmas.Bool.Decides.{nat_tests}
use Rattle.std.specs.Char.{to_ascii_lowercase}
use Rattle.index_keys.proofs.CutBytes.{cut_small_is, cut_whole_small_is}
use Rattle.index_keys.proofs.index_key.IndexKey.cut_small.Goals as goal

pub returns-then-is_ascii_uppercase : goal.returns-then-is_ascii_uppercase
returns-then-is_ascii_uppercase g c =
    let m = c.min-count.ensures in
    c.new.ensures.value ∙ cut_small_is g.row.W c.args.fill c.min-count.result c.args.bytes.now c.copy_from_slice.new.self c.make_ascii_lowercase.new.self
    (λ i. omega (arith, c.type_inv.bytes i)) (omega (arith, m)) (omega (arith, m))
    (λ l. omega (arith, m, l)) c.copy_from_slice.ensures.after c.make_ascii_lowercase.ensures.after

pub returns : goal.returns
returns g c =
    let m = c.min-count.ensures in
    let same : to_ascii_lowercase c.args.fill ≡ c.args.fill = grind (arith, nat_tests, c.if-is_ascii_uppercase.false, c.is_ascii_uppercase.ensures.value) in
    c.new-2.ensures.value
    ∙ cut_whole_small_is g.row.W c.args.fill c.min-count.result c.args.bytes.now c.copy_from_slice.new.self c.make_ascii_lowercase-2.new.self
    (λ i. omega (arith, c.type_inv.bytes i)) (omega (arith, m)) (omega (arith, m))
    (λ l. omega (arith, m, l)) same c.copy_from_slice.ensures.after c.make_ascii_lowercase-2.ensures.after
