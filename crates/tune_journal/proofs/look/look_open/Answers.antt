use Rattle.std.proofs.Common.{◌≡◌, ◌↔◌, ◌≤◌, ℕ, IsTrue, length, sym, ◌∙◌, subst, arith}
use Rattle.tune_disk.specs.Disk.{DiskState}
use Rattle.tune_journal.specs.Image.{entry_offset, HasLog, entry_count_of, new_count_of}
use Rattle.tune_journal.specs.Inside.Looking.{Climbs}
use Rattle.tune_journal.proofs.Recovery.{second_number, tested, has_log, log_climbs, not_log, true_gives, false_gives}
use Rattle.tune_journal.proofs.look.look_open.Goals as goal

pub returns-then-count-gt-MOST_PAGES-clause-sees : goal.returns-then-count-gt-MOST_PAGES-clause-sees
returns-then-count-gt-MOST_PAGES-clause-sees g c = λ h size long log.
    (let old : DiskState = g.D.Disk.state c.args.disk.now in
    let h1 = c.in_ok-entries.ensures.looks.calls.was_honest h in
    let count : c.in_ok-count.count ≡ new_count_of old.seen = c.in_ok-count.ensures.number h1 (omega (arith, size, long)) in
    let entries : c.in_ok-entries.entries ≡ entry_count_of old.seen =
    second_number old _ _ (c.in_ok-count.ensures.looks.same h1) (omega (arith, size, long)) (c.in_ok-entries.ensures.number h) in
    not_log c.in_ok-count.count c.in_ok-entries.entries _ _ old.seen count entries log c.then-count-gt-MOST_PAGES.either)

pub returns-then-branch-clause-sees : goal.returns-then-branch-clause-sees
returns-then-branch-clause-sees g c = λ h size long.
    (let old : DiskState = g.D.Disk.state c.args.disk.now in
    let h2 = c.in_ok-check_log.ensures.looks.calls.was_honest h in
    let h1 = c.in_ok-entries.ensures.looks.calls.was_honest h2 in
    let count : c.in_ok-count.count ≡ new_count_of old.seen = c.in_ok-count.ensures.number h1 (omega (arith, size, long)) in
    let entries : c.in_ok-entries.entries ≡ entry_count_of old.seen =
    second_number old _ _ (c.in_ok-count.ensures.looks.same h1) (omega (arith, size, long)) (c.in_ok-entries.ensures.number h2) in
    let fits : entry_offset c.in_ok-count.count c.in_ok-entries.entries ≤ length old.seen =
    omega (arith, size, c.entry_offset.ensures, c.if-size-entry_offset.false) in
    let says : IsTrue c.in_ok-check_log.field-0 ↔ Climbs c.in_ok-count.count c.in_ok-entries.entries old.seen =
    tested _ _ old _ _ (c.in_ok-entries.ensures.looks.same h2 ∙ c.in_ok-count.ensures.looks.same h1) fits (c.in_ok-check_log.ensures.climbs h) in (
      sym count,
      sym entries,
      has_log c.in_ok-count.count c.in_ok-entries.entries old.seen (omega arith) (omega arith) (omega arith) fits
          (true_gives _ _ c.if-branch.true says),
    ))

pub returns-else-branch-clause-sees : goal.returns-else-branch-clause-sees
returns-else-branch-clause-sees g c = λ h size long log.
    (let old : DiskState = g.D.Disk.state c.args.disk.now in
    let h2 = c.in_ok-check_log.ensures.looks.calls.was_honest h in
    let h1 = c.in_ok-entries.ensures.looks.calls.was_honest h2 in
    let count : c.in_ok-count.count ≡ new_count_of old.seen = c.in_ok-count.ensures.number h1 (omega (arith, size, long)) in
    let entries : c.in_ok-entries.entries ≡ entry_count_of old.seen =
    second_number old _ _ (c.in_ok-count.ensures.looks.same h1) (omega (arith, size, long)) (c.in_ok-entries.ensures.number h2) in
    let fits : entry_offset c.in_ok-count.count c.in_ok-entries.entries ≤ length old.seen =
    omega (arith, size, c.entry_offset.ensures, c.if-size-entry_offset.false) in
    let says : IsTrue c.in_ok-check_log.field-0 ↔ Climbs c.in_ok-count.count c.in_ok-entries.entries old.seen =
    tested _ _ old _ _ (c.in_ok-entries.ensures.looks.same h2 ∙ c.in_ok-count.ensures.looks.same h1) fits (c.in_ok-check_log.ensures.climbs h) in
    false_gives _ _ c.if-branch.false says
    (log_climbs c.in_ok-count.count c.in_ok-entries.entries old.seen
    (subst (λ (k : ℕ). HasLog c.in_ok-count.count k old.seen) (sym entries)
    (subst (λ (m : ℕ). HasLog m (entry_count_of old.seen) old.seen) (sym count) log)).log))
