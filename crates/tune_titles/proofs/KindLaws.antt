-- The keys of titles and of rhythms rise.
use Rattle.std.proofs.Common.{ℕ, List, Option, None, Some, map}
use Rattle.abc_fields.specs.Fields.{titles_of, rhythm_of}
use Rattle.index_keys.specs.Cuts.{cut_number}
use Rattle.index_keys.specs.KeyLists.{KeysRise}
use Rattle.index_keys.proofs.FoundKeys.{one_rises}
use Rattle.index_keys.proofs.KeyOrder.{keys_rise}
use Rattle.tune_titles.specs.Articles.{small_letters}
use Rattle.tune_titles.specs.TitleAndRhythmKeys.{title_keys, rhythm_keys, rhythm_keys_of}
use Rattle.tune_titles.specs.Titles.{sorting_title}

pub titles_rise : (text : List ℕ) → KeysRise 0 (title_keys text)
titles_rise text = keys_rise (map (λ title. cut_number 32 0 (sorting_title title)) (titles_of text))

rhythm_rises_of : (rhythm : Option (List ℕ)) → KeysRise 0 (rhythm_keys_of rhythm)
rhythm_rises_of None = tt
rhythm_rises_of (Some rhythm) = one_rises (cut_number 32 0 (small_letters rhythm))

pub rhythm_rises : (text : List ℕ) → KeysRise 0 (rhythm_keys text)
rhythm_rises text = rhythm_rises_of (rhythm_of text)
