use Rattle.std.proofs.Common.{◌++◌, length, ap, sym, ◌∙◌, arith, append-nil, subst}
use Rattle.std.specs.Prelude.{codes}
use Rattle.std.specs.List.{AllByRecursion}
use Rattle.abc_fields.specs.Tunes.{joined}
use Rattle.abc_fields.specs.FileHeaders.{file_header}
use Rattle.abc_fields.specs.Inside.LinesLeft.{contents_of}
use Rattle.chosen_books.specs.Inside.Fronts.{IsCarriedLine}
use Rattle.chosen_books.proofs.HeaderLaw.{header_lines}
use Rattle.chosen_books.proofs.found_tunes.Front.of_lines.Goals as goal

pub returns-clause-front : goal.returns-clause-front
returns-clause-front c = λ text whole.
    let header = file_header (contents_of c.args.lines) in
    record {
      bytes = c.in_ok-bytes.ensures ∙ ap (λ ls. codes "\n" ++ joined ls) (sym (append-nil header));
      begin = omega (arith, c.len-begin.ensures, ap length c.in_ok-bytes.ensures);
      lines = subst (AllByRecursion IsCarriedLine) (sym (append-nil header)) (header_lines text (contents_of c.args.lines) whole);
      engrave = tt;
      short = omega (arith, c.if-begin.false, c.len-begin.ensures, ap length c.in_ok-bytes.ensures);
    }
