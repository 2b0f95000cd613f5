use Rattle.tune_parts.proofs.PartLemmas.{are_parts}
use Rattle.tune_format.proofs.TextLemmas.{length-texts, text_at, texts_join, rows_join, texts_put, rows_put, texts_cut, rows_cut, texts_inserted}
use Rattle.tune_format.proofs.TextLemmas.{rows_inserted}
use Rattle.tune_format.proofs.laws.law_of_texts.Goals as goal

pub returns : goal.returns
returns c = record {
  count = length-texts;
  at = text_at;
  joined = texts_join;
  rows = rows_join;
  put = texts_put;
  rows_put = rows_put;
  cut = texts_cut;
  rows_cut = rows_cut;
  inserted = texts_inserted;
  rows_inserted = rows_inserted;
  filed = λ s layout numbers searches set_lists texts tunes sets holds root are_numbers are_searches is_chain are_sets are_tunes. record {
    numbers = numbers;
    searches = searches;
    set_lists = set_lists;
    texts = texts;
    parts = are_parts s _ holds;
    root = root;
    are_numbers = are_numbers;
    are_searches = are_searches;
    sets_are_chain = is_chain;
    are_sets = are_sets;
    are_tunes = are_tunes;
  };
}
