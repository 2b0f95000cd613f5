use Rattle.std.proofs.Common.{◌++◌, ◌∙◌}
use Rattle.tune_journal.specs.ChangeList.{padded_image}
use Rattle.tune_journal.proofs.Puts.{put_found, put_others}
use Rattle.tune_journal.proofs.changes.Changes.put_front.Goals as goal

-- a page that was not there
pub returns-then-found-clause-found : goal.returns-then-found-clause-found
returns-then-found-clause-found c =
    put_found c.args.page (padded_image (c.args.head.now ++ c.args.rest.now)) c.args.self.now c.find_or_add.new.self
    (c.in_ok-found.ensures.is_new c.if-found.true)

pub returns-then-found-clause-others : goal.returns-then-found-clause-others
returns-then-found-clause-others c =
    put_others c.args.page (padded_image (c.args.head.now ++ c.args.rest.now)) c.args.self.now c.find_or_add.new.self
    (c.in_ok-found.ensures.is_new c.if-found.true)

-- any other
pub returns-clause-ok : goal.returns-clause-ok
returns-clause-ok c = c.replace_front.ensures ∙ c.in_ok-found.ensures.put (padded_image (c.args.head.now ++ c.args.rest.now))

pub returns-clause-found : goal.returns-clause-found
returns-clause-found c = put_found c.args.page (padded_image (c.args.head.now ++ c.args.rest.now)) c.args.self.now c.replace_front.new.self
    (returns-clause-ok c)

pub returns-clause-others : goal.returns-clause-others
returns-clause-others c = put_others c.args.page (padded_image (c.args.head.now ++ c.args.rest.now)) c.args.self.now c.replace_front.new.self
    (returns-clause-ok c)
