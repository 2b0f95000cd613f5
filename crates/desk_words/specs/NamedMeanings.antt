-- What a command asks for, by its name.
use Rattle.std.specs.Prelude.{ℕ, List, Option, Some, None, Result, Err}
use Rattle.clap.specs.Words.{Text, Row}
use Rattle.desk_words.specs.declared.change_meanings.ChangeVerb.{ChangeVerb}
use Rattle.desk_words.specs.declared.order_meanings.Verb.{Verb}
use Rattle.desk_words.specs.WordAnswers.{WordRefusal, missing}
use Rattle.desk_words.specs.OrderMeanings.{OrderMeaning, order_meaning, verb_of}
use Rattle.desk_words.specs.ChangeMeanings.{change_of, change_verb_of}

abbrev pub change_by_verb : Option ChangeVerb → List Row → Result OrderMeaning WordRefusal
change_by_verb None rows = Err missing
change_by_verb (Some verb) rows = change_of verb rows

-- one that changes an archive
abbrev pub change_named : Text → List Row → Result OrderMeaning WordRefusal
change_named name rows = change_by_verb (change_verb_of name) rows

abbrev pub meaning_by_verb : ℕ → Option Verb → Text → List Row → Result OrderMeaning WordRefusal
meaning_by_verb chance None name rows = change_named name rows
meaning_by_verb chance (Some verb) name rows = order_meaning chance verb rows

-- any of them
abbrev pub meaning_named : ℕ → Text → List Row → Result OrderMeaning WordRefusal
meaning_named chance name rows = meaning_by_verb chance (verb_of name) name rows
