use Rattle.std.proofs.Common.{refl}
use Rattle.chosen_books.proofs.FrontLaw.{front_more}
use Rattle.chosen_books.proofs.found_tunes.Front.add.Goals as goal

pub returns : goal.returns
returns c = λ header between is engrave plain. front_more header between c.args.line.now c.args.self.now _ is engrave plain c.in_ok-push_line.ensures refl
