use Rattle.std.proofs.Common.{◌∙◌}
use Rattle.tune_journal.proofs.Puts.{put_found, put_others, put_some}
use Rattle.tune_journal.proofs.changes.Changes.put.Goals as goal

pub returns-clause-ok : goal.returns-clause-ok
returns-clause-ok c = c.replace.ensures ∙ c.in_ok-found.ensures.put c.args.image.now.bytes

pub returns-clause-found : goal.returns-clause-found
returns-clause-found c = put_found c.args.page c.args.image.now.bytes c.args.self.now c.replace.new.self (returns-clause-ok c)

pub returns-clause-others : goal.returns-clause-others
returns-clause-others c = put_others c.args.page c.args.image.now.bytes c.args.self.now c.replace.new.self (returns-clause-ok c)

pub returns-clause-some : goal.returns-clause-some
returns-clause-some c = put_some c.args.page c.args.image.now.bytes c.args.self.now c.replace.new.self (returns-clause-ok c)
