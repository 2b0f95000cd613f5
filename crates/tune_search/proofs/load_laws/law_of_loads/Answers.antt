use Rattle.tune_search.proofs.LoadedFour.{held_four, same_four, there_four}
use Rattle.tune_search.proofs.LoadedIndex.{held_loaded, same_loaded, there_stored}
use Rattle.tune_search.proofs.load_laws.law_of_loads.Goals as goal

pub returns : goal.returns
returns c = record {
  held = λ width most was after first loaded front has loads.
      held_loaded width most was.pages was.claimed after first loaded.shape loaded.entries front has loads;
  there = there_stored;
  same = λ width most was after first loaded loads other others front more few are marks holds begins.
      same_loaded width most was.pages was.claimed after first loaded.shape loaded.entries loads other others front more few are marks holds begins;
  held_search = λ most was after firsts loaded front has loads.
      held_four most was.pages was.claimed after firsts loaded.shape loaded.runs front has loads;
  there_search = there_four;
  same_search = λ most was after firsts loaded loads other others front more few are marks notes hold begin.
      same_four most was.pages was.claimed after firsts loaded.shape loaded.runs loads other others front more few are marks notes hold begin;
}
