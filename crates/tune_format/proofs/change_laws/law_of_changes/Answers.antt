use Rattle.tune_format.proofs.ChangeLemmas.{swap_part, has_text, row_at_place, add_text, put_text, cut_text, move_text}
use Rattle.tune_format.proofs.change_laws.law_of_changes.Goals as goal

pub returns : goal.returns
returns c = record {
  swapped = swap_part;
  has = has_text;
  row = row_at_place;
  added = add_text;
  put = put_text;
  cut = cut_text;
  moved = move_text;
}
