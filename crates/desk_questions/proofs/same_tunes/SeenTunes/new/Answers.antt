use Rattle.std.proofs.Common.{rules}
use Rattle.desk_questions.proofs.same_tunes.SeenTunes.new.Goals as goal

pub returns : goal.returns
returns c = record {
  texts = λ text. search rules;
  openings = λ key. search rules;
  rows = search rules;
}
