use Rattle.std.proofs.Common.{◌≡◌, ◌≢◌, ◌-◌, ◌++◌, length, false, refl, sym, ◌∙◌, ap, subst, arith, rules}
use Rattle.tune_journal.specs.Pages.{page_at}
use Rattle.tune_pages.specs.Chain.{next_page_of, piece_of, IsLink}
use Rattle.tune_pages.specs.Inside.Walking.{HasLink}
use Rattle.tune_pages.specs.Kept.{Kept}
use Rattle.tune_pages.specs.Stand.{Stand}
use Rattle.tune_pages.specs.Work.{stand}
use Rattle.tune_pages.proofs.Looking.{stand_marks, stand_kept, looked_none, looked_more}
use Rattle.tune_pages.proofs.Walks.{leads_some, reads_start, reads_more, reads_link, reads_enough, reads_end}
use Rattle.tune_pages.proofs.pages.Pages.walk_chain.Goals as goal

pub loop-page-init : goal.loop-page-init
loop-page-init g c =
    let shut : c.args.self.now.closed ≡ false = sym (ap (λ (k : Kept _). k.closed) c.self.view_is) ∙ c.if-self.false in
    let marks : length c.self.inside.used ≡ length c.args.self.now.used = ap (λ (k : Kept _). length k.used) c.self.view_is in
    let size : c.len-left.result ≡ length c.self.inside.used = search rules in
    record {
      looked = looked_none g.D.Disk.honest g.D.Disk.failures g.D.Disk.state c.args.self.now shut;
      fits = c.requires.fits;
      none = λ z. (z, c.new-bytes.ensures.items, refl);
      walk = λ h. reads_start (stand c.args.self.now c.args.work.now) c.args.first c.new-bytes.result.items c.len-left.result c.new-bytes.ensures.items
          (size ∙ marks ∙ sym (stand_marks c.args.self.now.pages c.args.self.now.used c.args.work.now c.requires.fits));
    }

pub loop-page-preserved : goal.loop-page-preserved
loop-page-preserved g c =
    let inv = c.loop-page.invariant in
    let call = c.in-Ok-Some.ensures in
    let some = rw c.in-Ok-Some.field-0-is at c.in-Ok-Some.ensures in
    let at = c.loop-page.self in
    let so = looked_more g.D.Disk.honest g.D.Disk.failures g.D.Disk.state c.in-Ok-Some.field-0 c.args.self.now at c.read_piece.new.self
    inv.looked call.reads.looks in
    let ne : c.loop-page.page ≢ 0 = omega arith in
    let more : c.loop-page.left ≢ 0 = omega arith in
    record {
      looked = so;
      fits = call.reads.fits;
      none = λ z. absurd (ne (inv.none z).0);
      walk = λ h.
          let now = call.reads.looks.was_honest h in
          let is = (stand_kept g.D.Disk.honest c.args.self.now c.loop-page.self c.args.work.now inv.looked.same).same now in
          let P : Stand → Type 0 = λ s. IsLink (page_at s.pages c.loop-page.page) × (c.in-Ok-Some.next ≡ next_page_of (page_at s.pages c.loop-page.page))
          × (c.read_piece.new.bytes.items ≡ c.loop-page.bytes.items ++ piece_of (page_at s.pages c.loop-page.page)) in
          let there = subst P is ((some.next h).0, (some.next h).1, some.bytes h) in
          reads_more (stand c.args.self.now c.args.work.now) c.args.first c.loop-page.page c.in-Ok-Some.next c.loop-page.bytes.items _
          c.loop-page.left (c.loop-page.left - 1) ne (inv.walk now) there.0 there.1 there.2 (omega (arith, more));
    }

-- Where turns are left for no more, the disk lies: a chain comes to its end before that.
pub close-requires : goal.close-requires
close-requires g c = λ h.
    (let inv = c.loop-page.invariant in
    let ne : c.loop-page.page ≢ 0 = omega arith in
    let none : c.loop-page.left ≡ 0 = omega arith in
    let walk = inv.walk h in
    let some = c.requires.chain (inv.looked.was_honest h) (leads_some _ _ _ _ ne walk.leads) in
    let left = reads_enough _ _ _ _ _ _ _ ne walk some.2 in
    absurd (omega (arith, left, none)))

-- And where a page of the chain is no such page.
pub close-requires-in-Ok-None : goal.close-requires-in-Ok-None
close-requires-in-Ok-None g c = λ h.
    (let inv = c.loop-page.invariant in
    let none = rw c.in-Ok-None.field-0-is at c.in-Ok-None.ensures in
    let ne : c.loop-page.page ≢ 0 = omega arith in
    let now = c.in-Ok-None.ensures.reads.looks.was_honest h in
    let walk = inv.walk now in
    let some = c.requires.chain (inv.looked.was_honest now) (leads_some _ _ _ _ ne walk.leads) in
    let link = reads_link _ _ _ _ _ _ _ ne walk some.2 in
    let is = (stand_kept g.D.Disk.honest c.args.self.now c.loop-page.self c.args.work.now inv.looked.same).same now in
    none.none h (subst (λ (s : Stand). HasLink s c.loop-page.page) (sym is) link))

pub returns-clause-bytes : goal.returns-clause-bytes
returns-clause-bytes g c = λ h trail all has.
    (let end : c.loop-page.page ≡ 0 = omega arith in
    reads_end (stand c.args.self.now c.args.work.now) c.args.first c.loop-page.page c.loop-page.bytes.items trail all c.loop-page.left end
    (c.loop-page.invariant.walk h) has)

pub returns-clause-reads : goal.returns-clause-reads
returns-clause-reads g c = record {
  looks = search rules;
  answer = search rules;
  fits = search rules;
  stand = stand_kept g.D.Disk.honest c.args.self.now c.loop-page.self c.args.work.now c.loop-page.invariant.looked.same;
}
