-- How pages, pages that are being opened, and edits are stored: as the tuples of their fields.
use Rattle.std.specs.Prelude.{ℕ, List, Bool, Option, refl}
use Rattle.std.specs.Coded.{Coded, code_by, coded×, coded_ℕ, coded_list, coded_bool, coded_option}
use Rattle.tune_pages.specs.Claims.{Claims}
use Rattle.tune_pages.specs.Edited.{Edited}
use Rattle.tune_pages.specs.Kept.{Kept}
use Rattle.tune_pages.specs.Stand.{Stand}

-- codes of lists of pages, and of marks
abbrev pages_code : Coded (List (List ℕ))
pages_code = coded_list (coded_list coded_ℕ)

abbrev marks_code : Coded (List Bool)
marks_code = coded_list coded_bool

abbrev pub kept_code : {D : Type 0} → Coded D → Coded (Kept D)
kept_code {D} code =
    code_by (Option D × (List (List ℕ) × (List Bool × (ℕ × Bool))))
    (coded× (coded_option code) (coded× pages_code (coded× marks_code (coded× coded_ℕ coded_bool))))
    (λ k. (k.disk, (k.pages, (k.used, (k.limit, k.closed)))))
    (λ p. record {
      disk = p.0;
      pages = p.1.0;
      used = p.1.1.0;
      limit = p.1.1.1.0;
      closed = p.1.1.1.1;
    })
    (λ _. refl)

abbrev pub claims_code : {D : Type 0} → Coded D → Coded (Claims D)
claims_code {D} code =
    code_by (D × (List (List ℕ) × List Bool)) (coded× code (coded× pages_code marks_code))
    (λ s. (s.disk, (s.pages, s.claimed)))
    (λ p. record { disk = p.0; pages = p.1.0; claimed = p.1.1 }) (λ _. refl)

abbrev stand_code : Coded Stand
stand_code =
    code_by (List (List ℕ) × List Bool) (coded× pages_code marks_code) (λ s. (s.pages, s.used))
    (λ p. record { pages = p.0; used = p.1 }) (λ _. refl)

abbrev pub edited_code : {D : Type 0} → Coded D → Coded (Edited D)
edited_code {D} code =
    code_by (Kept D × (Stand × Bool)) (coded× (kept_code code) (coded× stand_code coded_bool))
    (λ e. (e.base, (e.next, e.live)))
    (λ p. record { base = p.0; next = p.1.0; live = p.1.1 }) (λ _. refl)
