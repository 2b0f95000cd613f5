-- What an add is given, and the books that it reads.
use Rattle.std.specs.Prelude.{◌≡◌, ◌≢◌, ◌⊎◌, ℕ, List, [], ◌∷◌, ◌++◌, codes, string_bytes}
use Rattle.std.specs.Prelude.{Result, IfOk}
use Rattle.tune_desk.specs.DeskDeeds.{DeskDeed, read}
use Rattle.tune_desk.specs.declared.desk.DeskFault.{DeskFault}
use Rattle.desk_terms.specs.declared.adding.Adding.{Adding}
use Rattle.desk_books.specs.declared.requests.Request.{Request}

-- What an add is given: FILE, what standard input gave, and how books are taken in.
pub record Given : Type 0 where
  pub file : List ℕ
  pub input : List ℕ
  pub how : Adding

abbrev pub given_of : List ℕ → List ℕ → Adding → Given
given_of file input how = record { file = file; input = input; how = how }

abbrev pub given_by : Request → Given
given_by request =
    given_of (string_bytes request.file.now) request.input.now request.how.now

-- The book at a path: what standard input gave for `-`, or a file that was read.
abbrev pub ReadsGivenBook : {D : Type 0} → List ℕ → List ℕ → Result (List ℕ) DeskFault
    → List (DeskDeed D) → List (DeskDeed D) → Type 0
ReadsGivenBook input path answer was now =
    ((path ≡ codes "-") × (now ≡ was) × IfOk answer (λ book. book ≡ input))
    ⊎ ((path ≢ codes "-") × (now ≡ was ++ read path answer ∷ []))
