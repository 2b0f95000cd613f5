-- What is known of the book of old texts before it grows.
use Rattle.std.specs.Prelude.{ℕ, Bool, List, None, false, Ok, Result, MatchResult}
use Rattle.std.specs.List.{Contains}
use Rattle.tune_desk.specs.DeskDeeds.{DeskDeed, tested}
use Rattle.tune_desk.specs.Results.{MayGrow, AreFoundApart, archive_head, result_places}
use Rattle.tune_desk.specs.declared.old_texts.OldTextsFault.{OldTextsFault}

-- nothing
abbrev pub KnowsNothing : {D : Type 0} → List (DeskDeed D) → Type 0
KnowsNothing since = Unit {0}

-- it does not begin as an archive
abbrev pub KnowsNoArchive : {D : Type 0} → List ℕ → Result (Unit {0}) OldTextsFault
    → List (DeskDeed D) → Type 0
KnowsNoArchive old result since = MatchResult result
    (λ _. Contains since (tested old archive_head (Ok false))) (λ _. Unit {0})

-- nor is it FILE
abbrev pub KnowsOther : {D : Type 0} → List ℕ → List ℕ → Result (Unit {0}) OldTextsFault
    → List (DeskDeed D) → Type 0
KnowsOther file old result since = MatchResult result
    (λ _. AreFoundApart old file since × Contains since (tested old archive_head (Ok false)))
    (λ _. Unit {0})

-- it may grow
abbrev pub FindsOld : {D : Type 0} → List ℕ → List ℕ → Result Bool OldTextsFault
    → List (DeskDeed D) → Type 0
FindsOld file old result since = MatchResult result
    (λ _. MayGrow (result_places file None false) old since) (λ _. Unit {0})
