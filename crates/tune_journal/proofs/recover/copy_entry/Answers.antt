use Rattle.std.proofs.Common.{◌≡◌, ◌+◌, Result, Ok, Err, OnOk, inl, inr, ℕ, List, length, take, drop, ap, ◌∙◌, subst, arith, rules}
use Rattle.std.proofs.lemmas.List.{take_all, length-drop}
use Rattle.tune_disk.specs.Disk.{DiskState, Writes, Shows}
use Rattle.tune_journal.specs.Image.{number, window, entry_offset, page_offset}
use Rattle.tune_journal.specs.FileOffsets.{block_bytes, log_entry_bytes}
use Rattle.tune_journal.proofs.Agreeing.{number_of_entry, image_of_entry}
use Rattle.tune_journal.proofs.recover.copy_entry.Goals as goal

on_ok_from : {T E : Type 0} (r : Result T E) (P : Type 0) → P → OnOk r P
on_ok_from (Ok x) P p = p
on_ok_from (Err e) P p = tt

pub returns-then-page-least-clause-calls : goal.returns-then-page-least-clause-calls
returns-then-page-least-clause-calls g c = record {
  was_honest = c.in_ok-read.ensures.looks.calls.was_honest;
  ok = tt;
  counted = λ h has. (let size : length c.read.new.into ≡ log_entry_bytes = search rules in
      let shows : Shows (g.D.Disk.state c.args.disk.now).seen (entry_offset c.args.count c.args.entry) c.read.new.into =
      subst (λ (a : ℕ). Shows (g.D.Disk.state c.args.disk.now).seen a c.read.new.into) c.entry_offset.ensures (c.in_ok-read.ensures.read h) in
      let page : c.read_u32-page.result ≡ number (entry_offset c.args.count c.args.entry) (g.D.Disk.state c.args.disk.now).seen =
      number_of_entry (entry_offset c.args.count c.args.entry) _ c.read.new.into _ size shows (omega (arith, has.long)) c.read_u32-page.ensures in
      elim c.then-page-least.either [
        | inl less ↦ absurd (omega (arith, page, has.climbs, less))
        | inr over ↦ absurd (omega (arith, page, has.below, over.1))
      ]);
}

pub returns-clause-copies : goal.returns-clause-copies
returns-clause-copies g c = λ h has.
    (let before = c.write_at.ensures.calls.was_honest h in
    let old : DiskState = g.D.Disk.state c.args.disk.now in
    let size : length c.read.new.into ≡ log_entry_bytes = search rules in
    let shows : Shows old.seen (entry_offset c.args.count c.args.entry) c.read.new.into =
    subst (λ (a : ℕ). Shows old.seen a c.read.new.into) c.entry_offset.ensures (c.in_ok-read.ensures.read before) in
    let page : c.read_u32-page.result ≡ number (entry_offset c.args.count c.args.entry) old.seen =
    number_of_entry (entry_offset c.args.count c.args.entry) _ c.read.new.into _ size shows (omega (arith, has.long)) c.read_u32-page.ensures in
    let offset : c.page_offset.result ≡ page_offset (number (entry_offset c.args.count c.args.entry) old.seen) =
    c.page_offset.ensures ∙ ap (λ (p : ℕ). page_offset p) page in
    let part : drop 4 c.read.new.into ≡ window (entry_offset c.args.count c.args.entry + 4) block_bytes old.seen =
    image_of_entry (entry_offset c.args.count c.args.entry) c.read.new.into old.seen size shows (omega (arith, has.long)) in
    let image : take block_bytes (drop 4 c.read.new.into) ≡ window (entry_offset c.args.count c.args.entry + 4) block_bytes old.seen =
    take_all block_bytes (drop 4 c.read.new.into) (omega (arith, size, length-drop 4 c.read.new.into)) ∙ part in
    let same = c.in_ok-read.ensures.looks.same before in
    (subst (λ (t : DiskState). Writes (page_offset (number (entry_offset c.args.count c.args.entry) old.seen))
    (window (entry_offset c.args.count c.args.entry + 4) block_bytes old.seen) c.write_at.result t (g.D.Disk.state c.write_at.new.self)) same
    (subst (λ (b : List ℕ). Writes (page_offset (number (entry_offset c.args.count c.args.entry) old.seen)) b c.write_at.result (g.D.Disk.state c.read.new.self)
    (g.D.Disk.state c.write_at.new.self)) image
    (subst (λ (p : ℕ). Writes p (take block_bytes (drop 4 c.read.new.into)) c.write_at.result (g.D.Disk.state c.read.new.self)
    (g.D.Disk.state c.write_at.new.self)) offset (c.write_at.ensures.write h)))))

pub returns-clause-least : goal.returns-clause-least
returns-clause-least g c = on_ok_from c.write_at.result _ (λ h has.
    (let before = c.write_at.ensures.calls.was_honest h in
    let size : length c.read.new.into ≡ log_entry_bytes = search rules in
    let shows : Shows (g.D.Disk.state c.args.disk.now).seen (entry_offset c.args.count c.args.entry) c.read.new.into =
    subst (λ (a : ℕ). Shows (g.D.Disk.state c.args.disk.now).seen a c.read.new.into) c.entry_offset.ensures (c.in_ok-read.ensures.read before) in
    let page : c.read_u32-page.result ≡ number (entry_offset c.args.count c.args.entry) (g.D.Disk.state c.args.disk.now).seen =
    number_of_entry (entry_offset c.args.count c.args.entry) _ c.read.new.into _ size shows (omega (arith, has.long)) c.read_u32-page.ensures in
    ap (λ (n : ℕ). n + 1) page))
