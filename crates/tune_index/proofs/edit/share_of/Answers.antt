use Rattle.tune_index.proofs.Shares.{covers, covers_more, covers_some, turned}
use Rattle.tune_index.proofs.edit.share_of.Goals as goal

pub returns-clause-within : goal.returns-clause-within
returns-clause-within c =
    let first = covers c.args.count c.args.most c.div_ceil-leaves.result c.requires.most c.div_ceil-leaves.ensures in
    let some = covers_some c.args.count c.args.most c.div_ceil-leaves.result c.requires.count first.0 in
    let next = covers c.args.count c.div_ceil-leaves.result c.div_ceil.result some c.div_ceil.ensures in
    next.1 c.args.most (turned c.args.count c.div_ceil-leaves.result c.args.most first.0)

pub returns-clause-enough : goal.returns-clause-enough
returns-clause-enough c = λ leaves enough.
    let first = covers c.args.count c.args.most c.div_ceil-leaves.result c.requires.most c.div_ceil-leaves.ensures in
    let some = covers_some c.args.count c.args.most c.div_ceil-leaves.result c.requires.count first.0 in
    let next = covers c.args.count c.div_ceil-leaves.result c.div_ceil.result some c.div_ceil.ensures in
    covers_more c.args.count c.div_ceil.result c.div_ceil-leaves.result leaves (turned c.args.count c.div_ceil.result c.div_ceil-leaves.result next.0)
    (first.1 leaves enough)

pub returns-clause-even : goal.returns-clause-even
returns-clause-even c = λ share enough.
    let first = covers c.args.count c.args.most c.div_ceil-leaves.result c.requires.most c.div_ceil-leaves.ensures in
    let some = covers_some c.args.count c.args.most c.div_ceil-leaves.result c.requires.count first.0 in
    let next = covers c.args.count c.div_ceil-leaves.result c.div_ceil.result some c.div_ceil.ensures in
    next.1 share (turned c.args.count c.div_ceil-leaves.result share (enough c.div_ceil-leaves.result first.0))
