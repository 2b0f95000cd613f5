use Rattle.tune_sets.proofs.ByteLemmas.{sets_same}
use Rattle.tune_sets.proofs.ChangeLemmas.{are_renumbered}
use Rattle.tune_sets.proofs.LimitLemmas.{create_keeps, add_keeps, cut_keeps, drop_keeps}
use Rattle.tune_sets.proofs.PlaceLemmas.{created, added, cut_one, dropped, renumbers, holder-renumbered, least_holder, no_holder}
use Rattle.tune_sets.proofs.laws.law_of_set_lists.Goals as goal

pub returns : goal.returns
returns c = record {
  created = created;
  added = added;
  cut = cut_one;
  dropped = λ name sets are. dropped name sets are.rises;
  renumbered = renumbers;
  gone = holder-renumbered;
  held = least_holder;
  free = no_holder;
  limits_create = create_keeps;
  limits_add = add_keeps;
  limits_cut = cut_keeps;
  limits_drop = drop_keeps;
  limits_renumber = are_renumbered;
  bytes = λ sets others are_one are_other. sets_same sets others are_one.each are_other.each;
}
