use Rattle.tune_queries.proofs.MatchLaw.{law_of_query}
use Rattle.tune_queries.proofs.queries.Query.sought.Goals as goal

pub returns-in_err-prefix_of-in-Title-clause-law : goal.returns-in_err-prefix_of-in-Title-clause-law
returns-in_err-prefix_of-in-Title-clause-law c = law_of_query c.args.notes c.args.self.now

pub returns-in_ok-prefix_of-in-Title-clause-law : goal.returns-in_ok-prefix_of-in-Title-clause-law
returns-in_ok-prefix_of-in-Title-clause-law c = law_of_query c.args.notes c.args.self.now

pub returns-in_err-rhythm_of-in-Rhythm-clause-law : goal.returns-in_err-rhythm_of-in-Rhythm-clause-law
returns-in_err-rhythm_of-in-Rhythm-clause-law c = law_of_query c.args.notes c.args.self.now

pub returns-in_ok-rhythm_of-in-Rhythm-clause-law : goal.returns-in_ok-rhythm_of-in-Rhythm-clause-law
returns-in_ok-rhythm_of-in-Rhythm-clause-law c = law_of_query c.args.notes c.args.self.now

pub returns-in_err-scale_of-in-Key-clause-law : goal.returns-in_err-scale_of-in-Key-clause-law
returns-in_err-scale_of-in-Key-clause-law c = law_of_query c.args.notes c.args.self.now

pub returns-in_ok-scale_of-in-Key-clause-law : goal.returns-in_ok-scale_of-in-Key-clause-law
returns-in_ok-scale_of-in-Key-clause-law c = law_of_query c.args.notes c.args.self.now

pub returns-in_err-steps_of-in-Notes-clause-law : goal.returns-in_err-steps_of-in-Notes-clause-law
returns-in_err-steps_of-in-Notes-clause-law c = law_of_query c.args.notes c.args.self.now

pub returns-in_ok-steps_of-in-Notes-clause-law : goal.returns-in_ok-steps_of-in-Notes-clause-law
returns-in_ok-steps_of-in-Notes-clause-law c = law_of_query c.args.notes c.args.self.now
