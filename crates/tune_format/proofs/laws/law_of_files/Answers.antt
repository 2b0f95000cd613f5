use Rattle.std.proofs.Common.{arith}
use Rattle.tune_format.proofs.FileLemmas.{pages_read, tunes_filed, sets_filed}
use Rattle.tune_format.proofs.StateLemmas.{few_pages, state_read, file_read, state_once, either_state, empty_state_of}
use Rattle.tune_format.proofs.laws.law_of_files.Goals as goal

pub returns : goal.returns
returns c = record {
  pages = λ file pages. pages_read pages file;
  tunes = λ layout pages tunes sets filed are few. tunes_filed pages tunes sets filed are (omega (arith, few, few_pages layout));
  sets = λ layout. sets_filed;
  state = state_read;
  file = file_read;
  once = state_once;
  either = either_state;
  empty = empty_state_of;
}
