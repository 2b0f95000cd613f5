use Rattle.std.proofs.Common.{◌≡◌, ℕ, inr, sym, ◌∙◌, ap, length, subst, arith}
use Rattle.std.proofs.lemmas.Result.{on_ok_weaker, err_from_is_err_and}
use Rattle.tune_disk.proofs.Moments.{spares_fewer}
use Rattle.tune_journal.specs.Image.{window}
use Rattle.tune_journal.specs.Inside.Phases.{KeepsBoth, IsInNoPage, IsOutside}
use Rattle.tune_journal.specs.FileOffsets.{count_offset}
use Rattle.tune_journal.proofs.CallRuns.{writes_fewer, writes_after}
use Rattle.tune_journal.proofs.Windows.{written_window}
use Rattle.tune_journal.proofs.Agreeing.{number_is, agree_pages_of, written_agrees}
use Rattle.tune_journal.proofs.commit.write_pages.Goals as goal

pub returns-clause-writes : goal.returns-clause-writes
returns-clause-writes g c = λ h.
    (let log = c.args.changes.now in
    let size : length c.number_bytes.result ≡ 4 = ap length c.number_bytes.ensures in
    writes_after (KeepsBoth log) c.write_synced.result _ _ _
    (spares_fewer (IsInNoPage log) (KeepsBoth log) _ _ (λ i out. out.0) (c.write_images.ensures.spares (c.write_synced.ensures.calls.was_honest h)))
    (writes_fewer (IsOutside count_offset (length c.number_bytes.result)) (KeepsBoth log) c.write_synced.result _ _
    (λ i out. subst (λ (n : ℕ). IsOutside count_offset n i) (sym size) out.1) (c.write_synced.ensures.writes h)))

pub returns-clause-images : goal.returns-clause-images
returns-clause-images g c =
    let size : length c.number_bytes.result ≡ 4 = ap length c.number_bytes.ensures in
    on_ok_weaker c.write_synced.result (λ w h n long all.
    (let before = c.write_synced.ensures.calls.was_honest h in
    let longer = (c.write_images.ensures.spares before).longer in
    agree_pages_of (IsOutside count_offset (length c.number_bytes.result)) _ _ (written_agrees count_offset c.number_bytes.result _ _ (omega arith) (w h)) n
    (omega (arith, long, longer)) (λ i le lt. inr (omega (arith, size)))
    ∙ c.in_ok-write_images.ensures.images before n long all)) c.write_synced.ensures.written

pub returns-clause-count : goal.returns-clause-count
returns-clause-count g c =
    let size : length c.number_bytes.result ≡ 4 = ap length c.number_bytes.ensures in
    on_ok_weaker c.write_synced.result (λ w h.
    (let written = w h in
    number_is count_offset c.args.count _ (omega arith)
    (subst (λ (n : ℕ). window count_offset n (g.D.Disk.state c.write_synced.new.disk).seen ≡ c.number_bytes.result) size
    (written_window count_offset c.number_bytes.result _ _ (omega arith) written) ∙ c.number_bytes.ensures))) c.write_synced.ensures.written

pub returns-in_err-write_images-clause-writes : goal.returns-in_err-write_images-clause-writes
returns-in_err-write_images-clause-writes g c =
    let p = err_from_is_err_and c.from_residual.result c.from_residual.ensures.1 in
    rw p.1 (λ h. spares_fewer (IsInNoPage c.args.changes.now) (KeepsBoth c.args.changes.now) _ _ (λ i out. out.0) (c.write_images.ensures.spares h))
