use Rattle.std.proofs.Common.{◌≡◌, ◌<◌, ◌+◌, ◌-◌, ◌++◌, List, ℕ, length, take, drop, sym, ◌∙◌, ap, subst, arith, rules}
use Rattle.std.proofs.lemmas.List.{length-drop, length-take, take_all, take-append-drop}
use Rattle.std.proofs.Math.Seq.{take-add}
use Rattle.std.proofs.lemmas.Result.{err_from_is_err_and}
use Rattle.tune_pages.specs.Chain.{piece_of}
use Rattle.tune_pages.specs.Inside.Link.{link_bytes}
use Rattle.tune_pages.specs.Stand.{Stand}
use Rattle.tune_pages.specs.Work.{stand_on}
use Rattle.tune_pages.proofs.Counting.{fault_for, none_at_first, none_left}
use Rattle.tune_pages.proofs.Putting.{Laid, laid_start, laid_more, laid_end, laid_used, taken_used}
use Rattle.tune_pages.proofs.Links.{link_full, link_last}
use Rattle.tune_pages.proofs.pages.Pages.put_links.Goals as goal

pub loop-at-init : goal.loop-at-init
loop-at-init g c =
    let ok = c.in_ok-first.ensures in
    record {
      fits = ok.fits;
      some = search rules;
      laid = laid_start _ _ c.in_ok-first.first ok.stand ok.least ok.within.0 ok.within.2;
    }

pub put_page-requires-clause-used : goal.put_page-requires-clause-used
put_page-requires-clause-used g c = taken_used _ _ _ _ _ _ _ c.loop-at.invariant.laid c.in_ok-next.ensures.stand

pub loop-at-preserved : goal.loop-at-preserved
loop-at-preserved g c =
    let next = c.in_ok-next.ensures in
    let piece : List ℕ = take 4090 (drop c.loop-at.at c.args.bytes.now) in
    let size : length piece ≡ 4090 = omega (arith, length-take 4090 (drop c.loop-at.at c.args.bytes.now), length-drop c.loop-at.at c.args.bytes.now) in
    let whole : c.loop-at.at + 4090 - c.loop-at.at ≡ 4090 = omega arith in
    let link = link_full c.in_ok-next.next piece c.link.result.bytes (omega (arith, next.within.1)) size (c.link.ensures
    ∙ ap (λ (n : ℕ). link_bytes c.in_ok-next.next (take n (drop c.loop-at.at c.args.bytes.now))) whole) in
    record {
      fits = c.in_ok-put_page.ensures.fits;
      some = omega arith;
      laid = subst (λ (done : List ℕ). Laid (stand_on c.args.self.now.pages c.args.self.now.used c.args.work.now)
          (stand_on c.args.self.now.pages c.args.self.now.used c.put_page.new.work) c.in_ok-first.first c.in_ok-next.next done)
          (ap (λ (l : List ℕ). take c.loop-at.at c.args.bytes.now ++ l) link.2 ∙ sym (take-add c.loop-at.at 4090 c.args.bytes.now))
          (laid_more _ _ _ _ _ _ _ _ _ c.loop-at.invariant.laid next.stand c.in_ok-put_page.ensures.stand next.least next.within.0 next.within.2 link.0
          link.1 (ap (λ (l : List ℕ). length l) link.2 ∙ size) link.3);
    }

pub put_page-requires-2-clause-used : goal.put_page-requires-2-clause-used
put_page-requires-2-clause-used g c = laid_used _ _ _ _ _ c.loop-at.invariant.laid

pub returns-clause-chain : goal.returns-clause-chain
returns-clause-chain g c =
    let rest : List ℕ = drop c.loop-at.at c.args.bytes.now in
    let link = link_last rest c.link-2.result.bytes (omega (arith, length-drop c.loop-at.at c.args.bytes.now))
    (omega (arith, length-drop c.loop-at.at c.args.bytes.now)) (c.link-2.ensures
    ∙ ap (λ (l : List ℕ). link_bytes 0 l)
    (take_all (length c.args.bytes.now - c.loop-at.at) rest (omega (arith, length-drop c.loop-at.at c.args.bytes.now)))) in
    let size : length (piece_of c.link-2.result.bytes) ≡ length rest = ap (λ (l : List ℕ). length l) link.2 in
    let left = length-drop c.loop-at.at c.args.bytes.now in
    laid_end _ _ _ _ _ _ _ _ c.loop-at.invariant.laid c.in_ok-put_page-2.ensures.stand link.0 link.1
    (ap (λ (l : List ℕ). take c.loop-at.at c.args.bytes.now ++ l) link.2 ∙ take-append-drop c.loop-at.at c.args.bytes.now) link.3
    (omega (arith, left, size)) (omega (arith, left, size))

-- Where no page is left, more are wanted.
pub returns-in_err-first-clause-answer : goal.returns-in_err-first-clause-answer
returns-in_err-first-clause-answer g c =
    let p = err_from_is_err_and c.from_residual.result c.from_residual.ensures.1 in
    let old : Stand = stand_on c.args.self.now.pages c.args.self.now.used c.args.work.now in
    let some : 0 < length c.args.bytes.now = search rules in
    rw (p.1, p.2) (fault_for c.in_err-first.field-0.0 c.args.self.now.closed _ _
    (none_at_first old (length c.args.bytes.now) some) c.in_err-first.ensures.answer)

pub returns-in_err-next-clause-answer : goal.returns-in_err-next-clause-answer
returns-in_err-next-clause-answer g c =
    let p = err_from_is_err_and c.from_residual-in_err-next.result c.from_residual-in_err-next.ensures.1 in
    let old : Stand = stand_on c.args.self.now.pages c.args.self.now.used c.args.work.now in
    let now : Stand = stand_on c.args.self.now.pages c.args.self.now.used c.loop-at.work in
    let read : length (take c.loop-at.at c.args.bytes.now) ≡ c.loop-at.at = omega (arith, length-take c.loop-at.at c.args.bytes.now) in
    let more : length (take c.loop-at.at c.args.bytes.now) + 4090 < length c.args.bytes.now = omega (arith, read) in
    rw (p.1, p.2) (fault_for c.in_err-next.field-0.0 c.args.self.now.closed _ _
    (none_left old now c.in_ok-first.first c.loop-at.page (take c.loop-at.at c.args.bytes.now)
    (length c.args.bytes.now) c.loop-at.invariant.laid more) c.in_err-next.ensures.answer)
