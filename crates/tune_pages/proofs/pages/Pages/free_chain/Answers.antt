use Rattle.std.proofs.Common.{◌≡◌, ◌≢◌, arith}
use Rattle.tune_pages.specs.Work.{stand}
use Rattle.tune_pages.proofs.Looking.{looked_more}
use Rattle.tune_pages.proofs.Walks.{leads_some, frees_more, frees_link, frees_end}
use Rattle.tune_pages.proofs.pages.Pages.free_chain.Goals as goal

pub loop-page-preserved : goal.loop-page-preserved
loop-page-preserved g c =
    let inv = c.loop-page.invariant in
    let call = c.in-Ok-Some.ensures in
    let some = rw c.in-Ok-Some.field-0-is at c.in-Ok-Some.ensures in
    let at = c.loop-page.self in
    let so = looked_more g.D.Disk.honest g.D.Disk.failures g.D.Disk.state c.in-Ok-Some.field-0 c.args.self.now at c.free_link.new.self inv.looked call.looks in
    let ne : c.loop-page.page ≢ 0 = omega arith in
    record {
      looked = so;
      fits = call.fits;
      none = λ z. absurd (ne (inv.none z).0);
      idle = λ i. call.idle (inv.idle i);
      walk = λ h. frees_more (stand c.args.self.now c.args.work.now) (stand c.loop-page.self c.loop-page.work) (stand c.free_link.new.self c.free_link.new.work)
          c.args.first c.loop-page.page c.in-Ok-Some.next ne (inv.walk (call.looks.was_honest h)) (some.next h).0 (some.next h).1 (some.stand h);
    }

-- Where a page of the chain is no such page, the disk lies.
pub close-requires : goal.close-requires
close-requires g c = λ h.
    (let inv = c.loop-page.invariant in
    let none = rw c.in-Ok-None.field-0-is at c.in-Ok-None.ensures in
    let ne : c.loop-page.page ≢ 0 = omega arith in
    let walk = inv.walk (c.in-Ok-None.ensures.looks.was_honest h) in
    let some = c.requires.chain (inv.looked.was_honest (c.in-Ok-None.ensures.looks.was_honest h)) (leads_some _ _ _ _ ne walk.leads) in
    none.none h (frees_link _ _ _ _ _ _ ne walk some.2))

pub returns-clause-stand : goal.returns-clause-stand
returns-clause-stand g c = λ h trail all has.
    (let end : c.loop-page.page ≡ 0 = omega arith in
    frees_end (stand c.args.self.now c.args.work.now) (stand c.loop-page.self c.loop-page.work) c.args.first c.loop-page.page trail all end
    (c.loop-page.invariant.walk h) has)
