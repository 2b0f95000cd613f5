use Rattle.tune_titles.proofs.ArticleLaw.{law_of_articles, law_of_titles}
use Rattle.tune_titles.proofs.shown.sort_title.Goals as goal

pub returns-in_err-to_ascii_lowercase-clause-articles : goal.returns-in_err-to_ascii_lowercase-clause-articles
returns-in_err-to_ascii_lowercase-clause-articles c = law_of_articles c.args.title.now

pub returns-in_err-to_ascii_lowercase-clause-law : goal.returns-in_err-to_ascii_lowercase-clause-law
returns-in_err-to_ascii_lowercase-clause-law c = law_of_titles c.args.title.now

pub returns-clause-articles : goal.returns-clause-articles
returns-clause-articles c = law_of_articles c.args.title.now

pub returns-clause-law : goal.returns-clause-law
returns-clause-law c = law_of_titles c.args.title.now
