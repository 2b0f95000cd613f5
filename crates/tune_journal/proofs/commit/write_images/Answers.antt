use Rattle.std.proofs.Common.{ℕ, ◌<◌, ◌≤◌, refl, sym, ◌∙◌, ap, length, List, set, take, arith}
use Rattle.tune_disk.specs.Disk.{Written}
use Rattle.tune_disk.proofs.Moments.{spares_none, spares_then, spares_write}
use Rattle.tune_journal.specs.ChangeList.{change_at}
use Rattle.tune_journal.specs.Image.{pages_of, page_offset}
use Rattle.tune_journal.specs.Inside.Phases.{IsInNoPage}
use Rattle.tune_journal.specs.Pages.{changed_pages}
use Rattle.tune_journal.proofs.Loops.{image_more, changed-push, outside_image, take_entry, entry_below}
use Rattle.tune_journal.proofs.CallRuns.{writes_ok}
use Rattle.tune_journal.proofs.commit.write_images.Goals as goal

pub write_change-requires-clause-place : goal.write_change-requires-clause-place
write_change-requires-clause-place g c = omega (arith, c.loop-place-test.true, c.len-place-end.ensures.len)

pub write_change-requires-clause-pages : goal.write_change-requires-clause-pages
write_change-requires-clause-pages g c = c.requires

pub write_change-requires-clause-used : goal.write_change-requires-clause-used
write_change-requires-clause-used g c = c.loop-place.invariant.used

pub returns-in_err-write_change-clause-spares : goal.returns-in_err-write_change-clause-spares
returns-in_err-write_change-clause-spares g c = λ h.
    (let log = c.args.changes.now in
    let k : ℕ = c.loop-place.place in
    let page : ℕ = (change_at log k).0 in
    let image : List ℕ = (change_at log k).1 in
    let lt : k < length log = omega (arith, c.loop-place-test.true, c.len-place-end.ensures.len) in
    spares_then _ _ _ _ (c.loop-place.invariant.spares (c.write_change.ensures.calls.was_honest h))
    (spares_write (IsInNoPage log) (page_offset page) image c.write_change.result _ _ (c.write_change.ensures.write h)
    (λ i out. outside_image log k page i image lt refl c.write_change.ensures.size out)))

pub loop-place-init : goal.loop-place-init
loop-place-init g c = record {
  used = record { within = omega arith; zeros = c.blank-image.ensures };
  honest = λ h. h;
  spares = λ h. spares_none _ _;
  images = λ h n long all. refl;
  failures = refl;
}

pub loop-place-preserved : goal.loop-place-preserved
loop-place-preserved g c =
    let log = c.args.changes.now in
    let k : ℕ = c.loop-place.place in
    let page : ℕ = (change_at log k).0 in
    let image : List ℕ = (change_at log k).1 in
    let lt : k < length log = omega (arith, c.loop-place-test.true, c.len-place-end.ensures.len) in
    record {
      used = c.write_change.ensures.used;
      honest = λ h. c.loop-place.invariant.honest (c.write_change.ensures.calls.was_honest h);
      spares = λ h. spares_then _ _ _ _ (c.loop-place.invariant.spares (c.write_change.ensures.calls.was_honest h))
          (spares_write (IsInNoPage log) (page_offset page) image c.write_change.result _ _ (c.write_change.ensures.write h)
          (λ i out. outside_image log k page i image lt refl c.write_change.ensures.size out));
      images = λ h n long all.
          (let written : Written (page_offset page) image (g.D.Disk.state c.loop-place.disk).seen
          (g.D.Disk.state c.write_change.new.disk).seen =
          writes_ok _ _ c.write_change.result _ _ _ (c.in_ok-write_change.was) (c.write_change.ensures.write h) in
          let before = c.loop-place.invariant.images (c.write_change.ensures.calls.was_honest h) n long all in
          let long' : page_offset n ≤ length (g.D.Disk.state c.loop-place.disk).seen =
          omega (arith, long, (c.loop-place.invariant.spares (c.write_change.ensures.calls.was_honest h)).longer) in
          image_more n page image _ _ c.write_change.ensures.size (entry_below log n k page all lt refl) long' written
          ∙ ap (λ (l : List (List ℕ)). set l page image) before
          ∙ sym (changed-push (pages_of n (g.D.Disk.state c.args.disk.now).seen) (take k log) (page, image))
          ∙ ap (changed_pages (pages_of n (g.D.Disk.state c.args.disk.now).seen)) (sym (take_entry log k page image lt refl refl)));
      failures = c.in_ok-write_change.ensures.calls.counted ∙ c.loop-place.invariant.failures;
    }
