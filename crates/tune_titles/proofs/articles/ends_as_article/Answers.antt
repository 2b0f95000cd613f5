use Rattle.std.proofs.Common.{sym, ◌∙◌}
use Rattle.tune_titles.proofs.EndLemmas.{no_trailing_end}
use Rattle.tune_titles.proofs.articles.ends_as_article.Goals as goal

pub returns-in-len1-up : goal.returns-in-len1-up
returns-in-len1-up c is = no_trailing_end c.args.title.now c.in-len1-up.len_at_least (sym c.ends_article.ensures ∙ is)
