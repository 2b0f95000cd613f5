use Rattle.std.proofs.Common.{◌-◌, ◌≤◌, ◌++◌, ◌∙◌, ap, false, length, replicate, subst}
use Rattle.std.proofs.lemmas.Result.{err_from_is_err_and}
use Rattle.tune_pages.specs.OpenedPages.{IsUndoneFor}
use Rattle.tune_archive.specs.Inside.Holding.{IsShelf}
use Rattle.tune_archive.proofs.OpenedArchives.{opened_shelf, opened_state, opened_sound}
use Rattle.tune_archive.proofs.archive.Archive.with_claims.Goals as goal

pub over-requires : goal.over-requires
over-requires g c =
    let done = c.in_ok-pages.ensures in
    let limit = c.limit-marks.ensures in
    let most = c.most_pages-limit.ensures.most in
    opened_shelf g.D.Disk.honest g.D.Disk.state g.met.D.Disk.seen_may_stay c.args.opening.disk c.in_ok-pages.pages c.args.opening.pages
    c.args.opening.claimed c.args.contents done.disk done.pages
    (done.used ∙ ap (λ n. c.args.opening.claimed ++ replicate (n - length c.args.opening.pages) false) most) done.limit.1
    (limit.marks ∙ limit.limit ∙ done.limit.0 ∙ most) (subst (λ n. length c.args.opening.pages ≤ n) most done.few)
    (limit.below done.limit.1 0 limit.root) c.requires.rows c.requires.rest c.requires.claimed

-- so it holds of the archive that is given
shelf : (g : _) (c : goal.After-over g) → IsShelf g.D.Disk.honest g.D.Disk.state c.in_ok-pages.pages c.args.contents false
shelf g c =
    let done = c.in_ok-pages.ensures in
    let limit = c.limit-marks.ensures in
    let most = c.most_pages-limit.ensures.most in
    opened_shelf g.D.Disk.honest g.D.Disk.state g.met.D.Disk.seen_may_stay c.args.opening.disk c.in_ok-pages.pages c.args.opening.pages
    c.args.opening.claimed c.args.contents done.disk done.pages
    (done.used ∙ ap (λ n. c.args.opening.claimed ++ replicate (n - length c.args.opening.pages) false) most) done.limit.1
    (limit.marks ∙ limit.limit ∙ done.limit.0 ∙ most) (subst (λ n. length c.args.opening.pages ≤ n) most done.few)
    (limit.below done.limit.1 0 limit.root) c.requires.rows c.requires.rest c.requires.claimed

pub returns-clause-state : goal.returns-clause-state
returns-clause-state g c =
    opened_state g.D.Disk.honest g.D.Disk.state c.args.opening.disk c.in_ok-pages.pages c.args.opening.pages c.args.contents c.over.result (shelf g c)
    c.in_ok-pages.ensures.disk c.in_ok-pages.ensures.pages c.over.ensures.pages

pub returns-clause-sound : goal.returns-clause-sound
returns-clause-sound g c =
    opened_sound g.D.Disk.honest g.D.Disk.state c.in_ok-pages.pages c.args.contents c.over.result (shelf g c) c.over.ensures.pages

pub returns-in_err-pages-clause-refused : goal.returns-in_err-pages-clause-refused
returns-in_err-pages-clause-refused g c =
    let p = err_from_is_err_and c.from_residual.result c.from_residual.ensures.1 in
    rw (p.1, p.2) (subst (λ n. IsUndoneFor c.in_err-pages.field-0.0.why n (length c.args.opening.pages)) c.most_pages-limit.ensures.most
    c.in_err-pages.ensures.refused)
