use Rattle.std.proofs.Common.{◌++◌, IsSome, subst, ◌∙◌, ap}
use Rattle.std.proofs.lemmas.Bool.{false≢true}
use Rattle.tune_journal.specs.ChangeList.{padded_image, with_change}
use Rattle.tune_journal.proofs.ChangeLists.{image_of_missing}
use Rattle.tune_journal.proofs.Puts.{with_again}
use Rattle.tune_journal.proofs.changes.Changes.find_or_add.Goals as goal

pub returns-in_err-add-in-Err-clause-replaces : goal.returns-in_err-add-in-Err-clause-replaces
returns-in_err-add-in-Err-clause-replaces c =
    λ some. absurd (false≢true (subst IsSome (image_of_missing c.args.page c.in-Err.at c.args.self.now c.in-Err.ensures.missing) some))

pub returns-in_ok-add-in-Err-clause-put : goal.returns-in_ok-add-in-Err-clause-put
returns-in_ok-add-in-Err-clause-put c = λ image.
    ap (with_change c.args.page image) c.in_ok-add-in-Err.ensures.ok
    ∙ with_again c.args.page image (padded_image (c.args.head.now ++ c.args.rest.now)) c.args.self.now
