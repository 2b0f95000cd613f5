-- What of a book that was read is taken in.
use Rattle.std.specs.Prelude.{◌≡◌, ◌⊎◌, ℕ, List, [], ◌∷◌, Some, None, IsTrue}
use Rattle.abc_fields.specs.declared.book.BookFault.{BookFault}
use Rattle.chosen_books.specs.ChosenTunes.{GoIn, chosen_tunes, stays_whole, sums_then, texts_of}
use Rattle.chosen_books.specs.ChosenTunes.{refusal}
use Rattle.tune_store.specs.Limits.{longest_text}
use Rattle.tune_store.specs.TuneSteps.{refusal_of}
use Rattle.tune_store.specs.declared.layout.Layout.{Layout}
use Rattle.tune_store.specs.declared.command.Refusal.{Refusal}
use Rattle.tune_store.specs.declared.command.Refusal.TheVariants.{OutOfMemory}
use Rattle.desk_terms.specs.declared.adding.Adding.{Adding}

-- the sums of the texts that are known, before a book and behind it
pub record KnownSums : Type 0 where
  pub was : List (List ℕ)
  pub now : List (List ℕ)

-- These parts of a book are taken in: one after another they have the texts of the tunes that are
-- chosen of it; and a book of which nothing is to be chosen goes in as it stands.
pub record Chooses (how : Adding) (layout : Layout) (book : List ℕ) (known : KnownSums)
    (parts : List (List ℕ)) : Type 0 where
  pub taken : refusal how (longest_text layout) book ≡ None
  pub go_in : GoIn (longest_text layout) parts
      (texts_of (chosen_tunes how (longest_text layout) known.was book))
  pub whole : IsTrue (stays_whole how book) → parts ≡ book ∷ []
  pub sums : known.now ≡ sums_then how (longest_text layout) known.was book

-- Nothing of a book is taken in, for this reason; or there was no memory.
abbrev pub IsNotChosen : Adding → Layout → List ℕ → Refusal → Type 0
IsNotChosen how layout book why = (why ≡ OutOfMemory)
    ⊎ ((fault : BookFault) × (why ≡ refusal_of fault)
    × (refusal how (longest_text layout) book ≡ Some fault))
