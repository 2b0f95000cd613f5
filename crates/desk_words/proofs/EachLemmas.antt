-- Words that are read in turn, as far as a loop has come.
use Rattle.std.proofs.Common.{List, ◌++◌, Result, Ok}
use Rattle.desk_words.specs.WordAnswers.{WordRefusal, and_then}

-- what was read, and what is still to be read
abbrev pub behind : {A : Type 0} → List A → Result (List A) WordRefusal → Result (List A) WordRefusal
behind done rest = and_then rest (λ values. Ok (done ++ values))
