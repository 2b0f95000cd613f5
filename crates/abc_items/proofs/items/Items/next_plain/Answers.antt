use Rattle.std.proofs.Common.{◌∙◌, sym, ap}
use Rattle.abc_items.specs.Plain.{begin_plain}
use Rattle.abc_items.proofs.PlainBytes.{plain_begins}
use Rattle.abc_items.proofs.items.Items.next_plain.Goals as goal

pub returns-in_default-clause-plain : goal.returns-in_default-clause-plain
returns-in_default-clause-plain c =
    c.in_default.ensures.plain ∙ sym (plain_begins c.self.inside.at c.self.inside.rest.now) ∙ ap begin_plain c.self.view_is
