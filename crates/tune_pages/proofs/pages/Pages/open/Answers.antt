use Rattle.std.proofs.Common.{sym, subst}
use Rattle.tune_journal.specs.declared.open_fault.OpenFault.{OpenFault}
use Rattle.tune_pages.specs.OpenedPages.{IsUnopenedFor}
use Rattle.tune_pages.proofs.pages.Pages.open.Goals as goal

-- Where there is no memory for the marks, the file stands for the pages that it stood for.
pub returns-in-None-clause-refused : goal.returns-in-None-clause-refused
returns-in-None-clause-refused g c =
    let refused = c.out_of_memory.result in
    subst (λ (why : OpenFault). g.D.Disk.honest refused.disk → IsUnopenedFor why (g.D.Disk.state c.args.disk) (g.D.Disk.state refused.disk))
    (sym c.out_of_memory.ensures.why)
    (λ h. record {
      pages = c.in_ok-journal.journal.pages;
      stood = c.in_ok-journal.ensures.pages (subst g.D.Disk.honest c.out_of_memory.ensures.disk h);
      rest = c.out_of_memory.ensures.rest h;
    })
