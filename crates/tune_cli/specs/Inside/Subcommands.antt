-- The subcommands of the program.
use Rattle.std.specs.Prelude.{◌≡◌, ◌⊎◌, ℕ, List, codes}

abbrev pub IsSubcommand : List ℕ → Type 0
IsSubcommand name = (name ≡ codes "list") ⊎ ((name ≡ codes "make")
    ⊎ ((name ≡ codes "run") ⊎ ((name ≡ codes "check") ⊎ (name ≡ codes "upgrade"))))
