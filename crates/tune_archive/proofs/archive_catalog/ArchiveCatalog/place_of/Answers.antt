use Rattle.std.proofs.Common.{◌≡◌, subst, length, ◌<◌, get_or, ℕ}
use Rattle.std.specs.Prelude.{IfSome, IfNone}
use Rattle.tune_format.specs.declared.rows.Row.{Row}
use Rattle.tune_contents.specs.Claimed.{RowsRise}
use Rattle.tune_archive.specs.Shelf.{Shelf}
use Rattle.tune_archive.proofs.FetchLemmas.{label_found, label_none}
use Rattle.tune_archive.proofs.archive_catalog.ArchiveCatalog.place_of.Goals as goal

pub returns-clause-found : goal.returns-clause-found
returns-clause-found g c =
    label_found c.args.self.now.contents.rows.items c.args.number c.place_of.result
    (subst (λ (a : Shelf g.row.D.Denot). IfSome c.place_of.result (λ place. place < length a.contents.rows.items)) c.self.view_is c.place_of.ensures.within)
    (subst (λ (a : Shelf g.row.D.Denot). IfSome c.place_of.result (λ place. (d : Row) → (get_or a.contents.rows.items place d).number ≡ c.args.number))
    c.self.view_is c.place_of.ensures.found)

pub returns-clause-none : goal.returns-clause-none
returns-clause-none g c =
    label_none c.args.self.now.contents.rows.items c.args.number c.place_of.result
    (subst (λ (a : Shelf g.row.D.Denot). RowsRise 0 a.contents.rows.items) c.self.view_is c.self.invariant.rows.rise)
    (subst (λ (a : Shelf g.row.D.Denot). IfNone c.place_of.result (RowsRise 0 a.contents.rows.items → (place : ℕ) (d : Row)
    → place < length a.contents.rows.items → (get_or a.contents.rows.items place d).number ≡ c.args.number → ⊥)) c.self.view_is
    c.place_of.ensures.none)
