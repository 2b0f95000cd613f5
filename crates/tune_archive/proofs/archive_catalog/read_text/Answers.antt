use Rattle.std.proofs.Common.{◌≡◌, ℕ, List, subst}
use Rattle.std.specs.Prelude.{IfOk}
use Rattle.tune_pages.specs.Kept.{HonestAt}
use Rattle.tune_pages.specs.Stand.{Stand}
use Rattle.tune_contents.specs.Texts.{HoldsText}
use Rattle.tune_archive.proofs.archive_catalog.read_text.Goals as goal

pub returns-clause-text : goal.returns-clause-text
returns-clause-text g c =
    subst
    (λ (s : Stand). IfOk c.read_tune.result (λ text. HonestAt g.D.Disk.honest c.read_tune.new.edit.base.disk → (revision : ℕ) (other : List ℕ)
    → HoldsText c.args.layout s c.args.first revision other → text ≡ other))
    c.in_ok-begin.ensures.next c.read_tune.ensures.text
