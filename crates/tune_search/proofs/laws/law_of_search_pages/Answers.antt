use Rattle.tune_search.proofs.FewEntries.{few_by_incipit, few_by_rhythm, few_by_scale, few_by_title, few_for_texts}
use Rattle.tune_search.proofs.laws.law_of_search_pages.Goals as goal

pub returns-clause-titles : goal.returns-clause-titles
returns-clause-titles c = few_by_title

pub returns-clause-rhythms : goal.returns-clause-rhythms
returns-clause-rhythms c = few_by_rhythm

pub returns-clause-scales : goal.returns-clause-scales
returns-clause-scales c = few_by_scale

pub returns-clause-incipits : goal.returns-clause-incipits
returns-clause-incipits c = few_by_incipit

pub returns-clause-leaves : goal.returns-clause-leaves
returns-clause-leaves c = few_for_texts
