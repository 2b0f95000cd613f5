use Rattle.std.proofs.Common.{subst, sym, arith}
use Rattle.tune_format.proofs.Bytes.{root_is, root_made}
use Rattle.tune_format.specs.Written.{IsRoot}
use Rattle.tune_format.proofs.root.write_root.Goals as goal

pub returns-clause-bytes : goal.returns-clause-bytes
returns-clause-bytes c = root_made c.args.layout c.args.firsts c.head_bytes.result c.padded.result c.head_bytes.ensures c.padded.ensures

pub returns-clause-root : goal.returns-clause-root
returns-clause-root c = subst (λ bytes. IsRoot c.args.layout bytes c.args.firsts)
    (sym (root_made c.args.layout c.args.firsts c.head_bytes.result c.padded.result c.head_bytes.ensures c.padded.ensures))
    (root_is c.args.layout c.args.firsts (record {
      numbers = omega arith;
      titles = omega arith;
      rhythms = omega arith;
      scales = omega arith;
      incipits = omega arith;
      sets = omega arith;
    }))
