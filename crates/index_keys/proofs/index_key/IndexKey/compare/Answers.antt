use Rattle.std.proofs.Common.{◌≡◌, ◌<◌, arith, sym, ◌∙◌}
use Rattle.std.specs.declared.cmp.Ordering.TheVariants.{Less, Greater}
use Rattle.std.specs.Cmp.{nat_cmp_is, ranks}
use Rattle.std.specs.Ordering.{nat_cmp}
use Rattle.index_keys.specs.Entries.{rank}
use Rattle.index_keys.proofs.KeyNumbers.{bytes_rank, bytes_of_back}
use Rattle.index_keys.proofs.ByteOrder.{behind_same}
use Rattle.index_keys.proofs.index_key.IndexKey.compare.Goals as goal

pub returns-in-Less : goal.returns-in-Less
returns-in-Less g c =
    let one = c.self.inside.bytes in
    let other = c.other.inside.bytes in
    let a = bytes_rank g.row.W one other (bytes_of_back g.row.W one c.self.invariant) (bytes_of_back g.row.W other c.other.invariant) in
    let b = rw (c.self.view_is, c.other.view_is) at a in
    let h : c.args.self.now < c.args.other.now = rw (sym c.byte_order.ensures ∙ c.in-Less.is) at b in
    nat_cmp_is (rank (c.args.self.now, c.args.value)) (rank (c.args.other.now, c.args.other_value)) Less (omega arith)

-- the values tell
pub returns-in-Equal : goal.returns-in-Equal
returns-in-Equal g c =
    let one = c.self.inside.bytes in
    let other = c.other.inside.bytes in
    let a = bytes_rank g.row.W one other (bytes_of_back g.row.W one c.self.invariant) (bytes_of_back g.row.W other c.other.invariant) in
    let b = rw (c.self.view_is, c.other.view_is) at a in
    let h : c.args.self.now ≡ c.args.other.now = rw (sym c.byte_order.ensures ∙ c.in-Equal.is) at b in
    c.cmp.ensures
    ∙ nat_cmp_is (rank (c.args.self.now, c.args.value)) (rank (c.args.other.now, c.args.other_value)) (nat_cmp c.args.value c.args.other_value)
    (behind_same (nat_cmp c.args.value c.args.other_value) c.args.self.now c.args.other.now c.args.value c.args.other_value h
    (ranks c.args.value c.args.other_value))

pub returns-in-Greater : goal.returns-in-Greater
returns-in-Greater g c =
    let one = c.self.inside.bytes in
    let other = c.other.inside.bytes in
    let a = bytes_rank g.row.W one other (bytes_of_back g.row.W one c.self.invariant) (bytes_of_back g.row.W other c.other.invariant) in
    let b = rw (c.self.view_is, c.other.view_is) at a in
    let h : c.args.other.now < c.args.self.now = rw (sym c.byte_order.ensures ∙ c.in-Greater.is) at b in
    nat_cmp_is (rank (c.args.self.now, c.args.value)) (rank (c.args.other.now, c.args.other_value)) Greater (omega arith)
