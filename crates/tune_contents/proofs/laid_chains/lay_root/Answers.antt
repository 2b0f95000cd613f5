use Rattle.tune_pages.specs.Kept.{HonestAt}
use Rattle.tune_pages.proofs.Edits.{honest_before}
use Rattle.tune_contents.proofs.LayLemmas.{root_laid}
use Rattle.tune_contents.proofs.laid_chains.lay_root.Goals as goal

pub returns-clause-root : goal.returns-clause-root
returns-clause-root g c =
    root_laid c.put_page.result c.args.layout (HonestAt g.D.Disk.honest c.put_page.new.self.base.disk) c.args.edit.now.next
    c.has_root.new.edit.next c.put_page.new.self.next c.write_root.result.bytes c.args.firsts
    c.write_root.ensures.root (λ h. c.in_ok-has_root.ensures.consults.stand.same
    (honest_before g.D.Disk.honest c.has_root.new.edit c.put_page.new.self c.put_page.ensures.alters.base h)) c.put_page.ensures.next
