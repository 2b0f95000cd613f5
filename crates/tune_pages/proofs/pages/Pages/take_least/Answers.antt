use Rattle.std.proofs.Common.{◌≡◌, ◌++◌, ℕ, List, Bool, false, length, sym, ◌∙◌, ap, subst, arith}
use Rattle.tune_journal.specs.ChangeList.{padded_image}
use Rattle.tune_pages.specs.Kept.{Kept}
use Rattle.tune_pages.specs.Stand.{IsFull, IsLeastFree}
use Rattle.tune_pages.specs.Work.{stand_on, page_count_in}
use Rattle.tune_pages.proofs.Taking.{stand_used, stand_pages, take_within, take_fits, take_stand}
use Rattle.tune_journal.proofs.Above.{length-pages_after}
use Rattle.tune_pages.proofs.Searching.{full_not_free, Facts, kept_facts, free_in, not_root}
use Rattle.tune_pages.proofs.pages.Pages.take_least.Goals as goal

pub returns-in-None-clause-answer : goal.returns-in-None-clause-answer
returns-in-None-clause-answer g c =
    let shut : c.args.self.now.closed ≡ false = sym (ap (λ (k : Kept _). k.closed) c.self.view_is) ∙ c.if-self.false in
    (subst (λ (m : List Bool). IsFull m) (sym (stand_used c.args.self.now.pages c.args.self.now.used c.args.work.now)) c.in-None.ensures.none, shut)

pub take-requires-clause-page : goal.take-requires-clause-page
take-requires-clause-page g c =
    let shut : c.args.self.now.closed ≡ false = sym (ap (λ (k : Kept _). k.closed) c.self.view_is) ∙ c.if-self.false in
    let P : Kept _ → Type 0 = λ k. k.closed ≡ false → Facts k.pages k.used in
    let facts = subst P c.self.view_is (kept_facts _ _ _ _ _ c.self.invariant.0) shut in
    let lt = free_in c.args.self.now.pages c.args.self.now.used c.args.work.now c.in-Some.page c.requires.fits c.in-Some.ensures.some.least.free in
    omega (arith, lt, facts.few)

pub returns-in-Ok-clause-fits : goal.returns-in-Ok-clause-fits
returns-in-Ok-clause-fits g c =
    let shut : c.args.self.now.closed ≡ false = sym (ap (λ (k : Kept _). k.closed) c.self.view_is) ∙ c.if-self.false in
    let P : Kept _ → Type 0 = λ k. k.closed ≡ false → Facts k.pages k.used in
    let facts = subst P c.self.view_is (kept_facts _ _ _ _ _ c.self.invariant.0) shut in
    let lt = free_in c.args.self.now.pages c.args.self.now.used c.args.work.now c.in-Some.page c.requires.fits c.in-Some.ensures.some.least.free in
    let image : List ℕ = padded_image (c.args.head.now ++ c.args.rest.now) in
    take_fits c.args.self.now.pages c.args.self.now.used c.args.work.now c.take.new.self c.in-Some.page image c.requires.fits facts.below lt
    c.in-Some.ensures.some
    c.in-Ok.ensures.changes c.in-Ok.ensures.frontier c.in-Ok.ensures.freed

pub returns-in-Ok-clause-least : goal.returns-in-Ok-clause-least
returns-in-Ok-clause-least g c =
    subst (λ (m : List Bool). IsLeastFree m c.in-Some.page)
    (sym (stand_used c.args.self.now.pages c.args.self.now.used c.args.work.now)) c.in-Some.ensures.some.least

pub returns-in-Ok-clause-within : goal.returns-in-Ok-clause-within
returns-in-Ok-clause-within g c =
    let shut : c.args.self.now.closed ≡ false = sym (ap (λ (k : Kept _). k.closed) c.self.view_is) ∙ c.if-self.false in
    let P : Kept _ → Type 0 = λ k. k.closed ≡ false → Facts k.pages k.used in
    let facts = subst P c.self.view_is (kept_facts _ _ _ _ _ c.self.invariant.0) shut in
    let lt = free_in c.args.self.now.pages c.args.self.now.used c.args.work.now c.in-Some.page c.requires.fits c.in-Some.ensures.some.least.free in
    let image : List ℕ = padded_image (c.args.head.now ++ c.args.rest.now) in
    let most = take_within c.args.self.now.pages c.args.self.now.used c.args.work.now c.take.new.self c.in-Some.page image c.requires.fits facts.below lt
    c.in-Some.ensures.some c.in-Ok.ensures.changes c.in-Ok.ensures.frontier c.in-Ok.ensures.freed in
    let size : length (stand_on c.args.self.now.pages c.args.self.now.used c.args.work.now).pages ≡ page_count_in c.args.self.now.pages c.args.work.now =
    ap (λ (l : List (List ℕ)). length l) (stand_pages c.args.self.now.pages c.args.self.now.used c.args.work.now)
    ∙ length-pages_after c.args.self.now.pages (page_count_in c.args.self.now.pages c.args.work.now) c.args.work.now.changes (omega arith) in (
      not_root c.args.self.now.pages c.args.self.now.used c.args.work.now c.in-Some.page c.requires.fits facts.root c.in-Some.ensures.some.least.free,
      omega
          (arith, lt, facts.few),
      omega (arith, most, size),
    )

pub returns-in-Ok-clause-stand : goal.returns-in-Ok-clause-stand
returns-in-Ok-clause-stand g c =
    let shut : c.args.self.now.closed ≡ false = sym (ap (λ (k : Kept _). k.closed) c.self.view_is) ∙ c.if-self.false in
    let P : Kept _ → Type 0 = λ k. k.closed ≡ false → Facts k.pages k.used in
    let facts = subst P c.self.view_is (kept_facts _ _ _ _ _ c.self.invariant.0) shut in
    let lt = free_in c.args.self.now.pages c.args.self.now.used c.args.work.now c.in-Some.page c.requires.fits c.in-Some.ensures.some.least.free in
    let image : List ℕ = padded_image (c.args.head.now ++ c.args.rest.now) in
    take_stand c.args.self.now.pages c.args.self.now.used c.args.work.now c.take.new.self c.in-Some.page image c.requires.fits facts.below lt
    c.in-Some.ensures.some
    c.in-Ok.ensures.changes c.in-Ok.ensures.frontier c.in-Ok.ensures.freed

-- Where the file is full no page is found.
pub returns-in-Ok-clause-full : goal.returns-in-Ok-clause-full
returns-in-Ok-clause-full g c = λ full shut. absurd (full_not_free _ c.in-Some.page
    (subst (λ (m : List Bool). IsFull m) (stand_used c.args.self.now.pages c.args.self.now.used c.args.work.now) full) c.in-Some.ensures.some.least.free)

pub returns-in-Err-clause-full : goal.returns-in-Err-clause-full
returns-in-Err-clause-full g c = λ full shut. absurd (full_not_free _ c.in-Some.page
    (subst (λ (m : List Bool). IsFull m) (stand_used c.args.self.now.pages c.args.self.now.used c.args.work.now) full) c.in-Some.ensures.some.least.free)
