-- The tunes of a book as far as they are found.
use Rattle.std.proofs.Common.{◌≡◌, ℕ, ◌+◌, ◌<◌, ◌≤◌, Bool, true, false, List, [], ◌∷◌, ◌++◌, length, drop, Ok, Err}
use Rattle.std.proofs.Common.{Result, ◌≢◌, get_or, drop-cons, length-drop, suc}
use Rattle.std.proofs.lemmas.Bool.{and_parts}
use Rattle.told_books.specs.Fates.{engraves}
use Rattle.told_books.specs.declared.fates.Fate.TheVariants.{Kept, Carried, Blank, Version, Dropped}
use Rattle.std.proofs.Common.{Option, Some, None, refl, ap, sym, ◌∙◌, subst, arith, append_assoc, append-nil}
use Rattle.std.proofs.lemmas.List.{length-append}
use Rattle.abc_fields.specs.Tunes.{is_tune_start, tune_run}
use Rattle.abc_fields.specs.FileHeaders.{file_header, with_header}
use Rattle.abc_fields.specs.declared.book.TuneFault.{TuneFault}
use Rattle.abc_fields.specs.declared.book.BookFault.{BookFault}
use Rattle.abc_fields.specs.declared.book.BookFault.TheVariants.{BookTooLong, NoTune, BadTune, OutOfMemory}
use Rattle.chosen_books.proofs.FrontLaw.{front_same}
use Rattle.told_books.specs.Fates.{book_lines, fates_of}
use Rattle.told_books.specs.ToldTunes.{fault_of_tune}
use Rattle.told_books.specs.ToldTunes as told
use Rattle.told_books.specs.declared.fates.Fate.{Fate}
use Rattle.told_books.specs.declared.tunes.ToldTune.{ToldTune}
use Rattle.chosen_books.specs.BookTunes.{BookTune, Passed, behind_line, behind_start, book_tunes, is_carried_between, nothing_passed, tune_here}
use Rattle.chosen_books.specs.BookTunes.{book_tunes_from}
use Rattle.chosen_books.specs.ChosenTunes.{with_left_out, bad_tunes, good_or, good_tunes}
use Rattle.chosen_books.specs.Inside.Fronts.{AllPlain, IsFront, OnMemory}
use Rattle.chosen_books.specs.declared.found_tunes.FoundTunes.{FoundTunes}
use Rattle.chosen_books.specs.declared.found_tunes.GoodTune.{GoodTune}
use Rattle.chosen_books.specs.declared.found_tunes.LeftOut.{LeftOut}
use Rattle.chosen_books.specs.declared.found_tunes.Front as front

-- GOOD TUNES AND BAD ONES
good_first : (fault : Option TuneFault) (tune : BookTune) (later : List GoodTune) → good_or fault tune later ≡ good_or fault tune [] ++ later
good_first None tune later = refl
good_first (Some fault) tune later = refl

bad_first : (fault : Option TuneFault) (tune : BookTune) (later : List LeftOut) → with_left_out fault tune later ≡ with_left_out fault tune [] ++ later
bad_first None tune later = refl
bad_first (Some fault) tune later = refl

-- AS FAR AS THE BOOK IS READ
pub record IsFound (carry : Bool) (longest : ℕ) (book : List ℕ) (i : ℕ) (left : List (List ℕ)) (ahead : front.Front) (found : FoundTunes) (tunes carried : ℕ)
    (rows : List ToldTune) : Type 0 where
  pub at : Passed
  pub line : at.line ≡ i + 1
  pub count : at.tunes ≡ tunes
  pub lines : length at.between ≡ carried
  pub few : tunes ≤ i
  pub some : carried ≤ i
  pub carries : IsFront (file_header (book_lines book)) at.between ahead
  pub good : found.good.items ++ good_tunes longest (book_tunes_from carry (file_header (book_lines book)) at (drop i (fates_of (book_lines book))) left)
      ≡ good_tunes longest (book_tunes carry book)
  pub bad : found.bad.items ++ bad_tunes longest (book_tunes_from carry (file_header (book_lines book)) at (drop i (fates_of (book_lines book))) left)
      ≡ bad_tunes longest (book_tunes carry book)
  pub told : drop tunes rows ≡ told.told_tunes_from longest (file_header (book_lines book)) (i + 1) left
  pub plain : AllPlain left

-- what is left of a book, of which the next line has this fate
pub record IsNext (book : List ℕ) (i : ℕ) (left : List (List ℕ)) (fate : Fate) (line : List ℕ) (rest : List (List ℕ)) : Type 0 where
  pub lines : left ≡ line ∷ rest
  pub fates : drop i (fates_of (book_lines book)) ≡ fate ∷ drop (i + 1) (fates_of (book_lines book))

tunes_other : (carry : Bool) (header : List (List ℕ)) (at : Passed) (fate : Fate) (fates : List Fate) (line : List ℕ) (rest : List (List ℕ))
    → is_tune_start line ≡ false
    → book_tunes_from carry header at (fate ∷ fates) (line ∷ rest)
    ≡ book_tunes_from carry header (behind_line (is_carried_between carry fate line) line at) fates rest
tunes_other carry header at fate fates line rest fails = rw fails refl

tunes_start : (carry : Bool) (header : List (List ℕ)) (at : Passed) (fate : Fate) (fates : List Fate) (line : List ℕ) (rest : List (List ℕ))
    → is_tune_start line ≡ true
    → book_tunes_from carry header at (fate ∷ fates) (line ∷ rest) ≡ tune_here header at rest ∷ book_tunes_from carry header (behind_start at) fates rest
tunes_start carry header at fate fates line rest holds = rw holds refl

rows_other : (longest number : ℕ) (header : List (List ℕ)) (line : List ℕ) (rest : List (List ℕ)) → is_tune_start line ≡ false
    → told.told_tunes_from longest header number (line ∷ rest) ≡ told.told_tunes_from longest header (number + 1) rest
rows_other longest number header line rest fails = rw fails refl

rows_start : (longest number : ℕ) (header : List (List ℕ)) (line : List ℕ) (rest : List (List ℕ)) → is_tune_start line ≡ true
    → told.told_tunes_from longest header number (line ∷ rest)
    ≡ record { line = number; fault = fault_of_tune longest (with_header header (tune_run rest)) } ∷ told.told_tunes_from longest header (number + 1) rest
rows_start longest number header line rest holds = rw holds refl

-- a line that starts no tune and is not carried
pub found_other : (carry : Bool) (longest : ℕ) (book : List ℕ) (i : ℕ) (left : List (List ℕ)) (ahead : front.Front) (found : FoundTunes) (tunes carried : ℕ)
    (rows : List ToldTune) (fate : Fate) (line : List ℕ) (rest : List (List ℕ)) → IsFound carry longest book i left ahead found tunes carried rows
    → IsNext book i left fate line rest → is_tune_start line ≡ false → is_carried_between carry fate line ≡ false
    → IsFound carry longest book (i + 1) rest ahead found tunes carried rows
found_other carry longest book i left ahead found tunes carried rows fate line rest was next fails none =
    let header = file_header (book_lines book) in
    let fates = drop (i + 1) (fates_of (book_lines book)) in
    let same : book_tunes_from carry header was.at (drop i (fates_of (book_lines book))) left
    ≡ book_tunes_from carry header (behind_line false line was.at) fates rest =
    ap (λ fs. book_tunes_from carry header was.at fs left) next.fates ∙ ap (book_tunes_from carry header was.at (fate ∷ fates)) next.lines
    ∙ tunes_other carry header was.at fate fates line rest fails ∙ ap (λ b. book_tunes_from carry header (behind_line b line was.at) fates rest) none in
    let plain : AllPlain (line ∷ rest) = subst AllPlain next.lines was.plain in
    record {
      at = behind_line false line was.at;
      line = omega (arith, was.line);
      count = was.count;
      lines = was.lines;
      few = omega (arith, was.few);
      some = omega (arith, was.some);
      carries = was.carries;
      good = ap (λ ts. found.good.items ++ good_tunes longest ts) (sym same) ∙ was.good;
      bad = ap (λ ts. found.bad.items ++ bad_tunes longest ts) (sym same) ∙ was.bad;
      told = was.told ∙ ap (told.told_tunes_from longest header (i + 1)) next.lines ∙ rows_other longest (i + 1) header line rest fails;
      plain = plain.1;
    }

-- a line that is carried
pub found_between : (carry : Bool) (longest : ℕ) (book : List ℕ) (i : ℕ) (left : List (List ℕ)) (old new : front.Front) (found : FoundTunes) (tunes carried : ℕ)
    (rows : List ToldTune) (fate : Fate) (line : List ℕ) (rest : List (List ℕ)) (was : IsFound carry longest book i left old found tunes carried rows)
    → IsNext book i left fate line rest → is_tune_start line ≡ false → is_carried_between carry fate line ≡ true
    → IsFront (file_header (book_lines book)) (was.at.between ++ line ∷ []) new
    → IsFound carry longest book (i + 1) rest new found tunes (carried + 1) rows
found_between carry longest book i left old new found tunes carried rows fate line rest was next fails some more =
    let header = file_header (book_lines book) in
    let fates = drop (i + 1) (fates_of (book_lines book)) in
    let same : book_tunes_from carry header was.at (drop i (fates_of (book_lines book))) left
    ≡ book_tunes_from carry header (behind_line true line was.at) fates rest =
    ap (λ fs. book_tunes_from carry header was.at fs left) next.fates ∙ ap (book_tunes_from carry header was.at (fate ∷ fates)) next.lines
    ∙ tunes_other carry header was.at fate fates line rest fails ∙ ap (λ b. book_tunes_from carry header (behind_line b line was.at) fates rest) some in
    let plain : AllPlain (line ∷ rest) = subst AllPlain next.lines was.plain in
    record {
      at = behind_line true line was.at;
      line = omega (arith, was.line);
      count = was.count;
      lines = omega (arith, was.lines, length-append was.at.between (line ∷ []));
      few = omega (arith, was.few);
      some = omega (arith, was.some);
      carries = more;
      good = ap (λ ts. found.good.items ++ good_tunes longest ts) (sym same) ∙ was.good;
      bad = ap (λ ts. found.bad.items ++ bad_tunes longest ts) (sym same) ∙ was.bad;
      told = was.told ∙ ap (told.told_tunes_from longest header (i + 1)) next.lines ∙ rows_other longest (i + 1) header line rest fails;
      plain = plain.1;
    }

tune_same : (place other line number carried many : ℕ) (lines : List (List ℕ)) → place ≡ other → line ≡ number → carried ≡ many
    → (let one : BookTune = record { place = place; line = line; lines = lines; carried = carried } in one)
    ≡ record { place = other; line = number; lines = lines; carried = many }
tune_same place other line number carried many lines first second third = rw (first, second, third) refl

-- a line that starts a tune
pub found_start : (carry : Bool) (longest : ℕ) (book : List ℕ) (i : ℕ) (left : List (List ℕ)) (old new : front.Front) (before found : FoundTunes)
    (tunes carried : ℕ) (rows : List ToldTune) (fate : Fate) (line : List ℕ) (rest : List (List ℕ)) (number : ℕ)
    (was : IsFound carry longest book i left old before tunes carried rows)
    → IsNext book i left fate line rest → is_tune_start line ≡ true → number ≡ i + 1
    → drop (tunes + 1) rows ≡ told.told_tunes_from longest (file_header (book_lines book)) (i + 1 + 1) rest
    → new.bytes.items ≡ old.bytes.items → new.begin ≡ old.begin
    → found.good.items ≡ before.good.items ++ good_or (fault_of_tune longest (with_header (file_header (book_lines book) ++ was.at.between) (tune_run rest)))
    (record {
      place = tunes + 1;
      line = number;
      lines = with_header (file_header (book_lines book) ++ was.at.between) (tune_run rest);
      carried = carried;
    }) []
    → found.bad.items ≡ before.bad.items
    ++ with_left_out (fault_of_tune longest (with_header (file_header (book_lines book) ++ was.at.between) (tune_run rest)))
    (record {
      place = tunes + 1;
      line = number;
      lines = with_header (file_header (book_lines book) ++ was.at.between) (tune_run rest);
      carried = carried;
    }) []
    → IsFound carry longest book (i + 1) rest new found (tunes + 1) carried rows
found_start carry longest book i left old new before found tunes carried rows fate line rest number was next starts same_line behind bytes begin good bad =
    let header = file_header (book_lines book) in
    let fates = drop (i + 1) (fates_of (book_lines book)) in
    let here = tune_here header was.at rest in
    let later = book_tunes_from carry header (behind_start was.at) fates rest in
    let fault = fault_of_tune longest here.lines in
    let same : book_tunes_from carry header was.at (drop i (fates_of (book_lines book))) left ≡ here ∷ later =
    ap (λ fs. book_tunes_from carry header was.at fs left) next.fates ∙ ap (book_tunes_from carry header was.at (fate ∷ fates)) next.lines
    ∙ tunes_start carry header was.at fate fates line rest starts in
    let tune = tune_same (tunes + 1) (was.at.tunes + 1) number was.at.line carried (length was.at.between) here.lines
    (omega (arith, was.count)) (omega (arith, was.line, same_line)) (sym was.lines) in
    let plain : AllPlain (line ∷ rest) = subst AllPlain next.lines was.plain in
    record {
      at = behind_start was.at;
      line = omega (arith, was.line);
      count = omega (arith, was.count);
      lines = was.lines;
      few = omega (arith, was.few);
      some = omega (arith, was.some);
      carries = front_same header was.at.between old new was.carries bytes begin;
      good = ap (λ ts. ts ++ good_tunes longest later) (good ∙ ap (λ t. before.good.items ++ good_or fault t []) tune)
          ∙ append_assoc before.good.items (good_or fault here []) (good_tunes longest later)
          ∙ ap (λ ts. before.good.items ++ ts) (sym (good_first fault here (good_tunes longest later)))
          ∙ ap (λ ts. before.good.items ++ good_tunes longest ts) (sym same) ∙ was.good;
      bad = ap (λ ts. ts ++ bad_tunes longest later) (bad ∙ ap (λ t. before.bad.items ++ with_left_out fault t []) tune)
          ∙ append_assoc before.bad.items (with_left_out fault here []) (bad_tunes longest later)
          ∙ ap (λ ts. before.bad.items ++ ts) (sym (bad_first fault here (bad_tunes longest later)))
          ∙ ap (λ ts. before.bad.items ++ bad_tunes longest ts) (sym same) ∙ was.bad;
      told = behind;
      plain = plain.1;
    }

-- the row of a tune
pub record IsRow (longest : ℕ) (header : List (List ℕ)) (i tunes : ℕ) (rows : List ToldTune) (rest : List (List ℕ)) : Type 0 where
  pub later : List ToldTune
  pub first : drop tunes rows ≡ record { line = i + 1; fault = fault_of_tune longest (with_header header (tune_run rest)) } ∷ later
  pub behind : later ≡ told.told_tunes_from longest header (i + 1 + 1) rest

pub row_of : (carry : Bool) (longest : ℕ) (book : List ℕ) (i : ℕ) (left : List (List ℕ)) (ahead : front.Front) (found : FoundTunes)
    (tunes carried : ℕ) (rows : List ToldTune) (fate : Fate) (line : List ℕ) (rest : List (List ℕ))
    → IsFound carry longest book i left ahead found tunes carried rows → IsNext book i left fate line rest → is_tune_start line ≡ true
    → IsRow longest (file_header (book_lines book)) i tunes rows rest
row_of carry longest book i left ahead found tunes carried rows fate line rest was next starts =
    let header = file_header (book_lines book) in
    record {
      later = told.told_tunes_from longest header (i + 1 + 1) rest;
      first = was.told ∙ ap (told.told_tunes_from longest header (i + 1)) next.lines ∙ rows_start longest (i + 1) header line rest starts;
      behind = refl;
    }

-- AT THE END
pub tunes_end : (carry : Bool) (header : List (List ℕ)) (at : Passed) (fates : List Fate) (left : List (List ℕ)) → left ≡ []
    → book_tunes_from carry header at fates left ≡ []
tunes_end carry header at [] left none = refl
tunes_end carry header at (fate ∷ fates) left none = ap (book_tunes_from carry header at (fate ∷ fates)) none

-- a fact holds where memory did not run out
pub memory_left : (answer : Result (List ℕ) BookFault) (fact : Type 0) → OnMemory answer fact → answer ≢ Err OutOfMemory → fact
memory_left (Ok text) fact holds left = holds
memory_left (Err BookTooLong) fact holds left = holds
memory_left (Err NoTune) fact holds left = holds
memory_left (Err (BadTune place fault)) fact holds left = holds
memory_left (Err OutOfMemory) fact holds left = absurd (left refl)

-- no line is left
pub good_end : (carry : Bool) (longest : ℕ) (book : List ℕ) (i : ℕ) (left : List (List ℕ)) (ahead : front.Front) (found : FoundTunes) (tunes carried : ℕ)
    (rows : List ToldTune) → (was : IsFound carry longest book i left ahead found tunes carried rows)
    → book_tunes_from carry (file_header (book_lines book)) was.at (drop i (fates_of (book_lines book))) left ≡ []
    → found.good.items ≡ good_tunes longest (book_tunes carry book)
good_end carry longest book i left ahead found tunes carried rows was none =
    sym (append-nil found.good.items) ∙ ap (λ ts. found.good.items ++ good_tunes longest ts) (sym none) ∙ was.good

pub bad_end : (carry : Bool) (longest : ℕ) (book : List ℕ) (i : ℕ) (left : List (List ℕ)) (ahead : front.Front) (found : FoundTunes) (tunes carried : ℕ)
    (rows : List ToldTune) → (was : IsFound carry longest book i left ahead found tunes carried rows)
    → book_tunes_from carry (file_header (book_lines book)) was.at (drop i (fates_of (book_lines book))) left ≡ []
    → found.bad.items ≡ bad_tunes longest (book_tunes carry book)
bad_end carry longest book i left ahead found tunes carried rows was none =
    sym (append-nil found.bad.items) ∙ ap (λ ts. found.bad.items ++ bad_tunes longest ts) (sym none) ∙ was.bad

-- at the first line
pub found_first : (carry : Bool) (longest : ℕ) (book : List ℕ) (left : List (List ℕ)) (ahead : front.Front) (found : FoundTunes) → left ≡ book_lines book
    → AllPlain (book_lines book) → IsFront (file_header (book_lines book)) [] ahead → found.good.items ≡ [] → found.bad.items ≡ []
    → IsFound carry longest book 0 left ahead found 0 0 (told.told_tunes_from longest (file_header (book_lines book)) 1 (book_lines book))
found_first carry longest book left ahead found whole plain carries good bad =
    let header = file_header (book_lines book) in
    record {
      at = nothing_passed;
      line = refl;
      count = refl;
      lines = refl;
      few = omega arith;
      some = omega arith;
      carries = carries;
      good = ap (λ ts. ts ++ good_tunes longest (book_tunes_from carry header nothing_passed (fates_of (book_lines book)) left)) good
          ∙ ap (λ ls. good_tunes longest (book_tunes_from carry header nothing_passed (fates_of (book_lines book)) ls)) whole;
      bad = ap (λ ts. ts ++ bad_tunes longest (book_tunes_from carry header nothing_passed (fates_of (book_lines book)) left)) bad
          ∙ ap (λ ls. bad_tunes longest (book_tunes_from carry header nothing_passed (fates_of (book_lines book)) ls)) whole;
      told = ap (told.told_tunes_from longest header 1) (sym whole);
      plain = subst AllPlain (sym whole) plain;
    }

-- THE NEXT LINE
drop_one : {A : Type 0} (xs : List A) (i : ℕ) (d : A) → i < length xs → drop i xs ≡ get_or xs i d ∷ drop (i + 1) xs
drop_one xs i d short = let next : suc i ≡ i + 1 = omega arith in drop-cons xs i d short ∙ ap (λ n. get_or xs i d ∷ drop n xs) next

pub next_of : (book : List ℕ) (items : List Fate) (i : ℕ) (left : List (List ℕ)) (line : List ℕ) (rest : List (List ℕ))
    → items ≡ fates_of (book_lines book) → i < length items → left ≡ line ∷ rest → IsNext book i left (get_or items i (Kept 0)) line rest
next_of book items i left line rest same short lines = record {
  lines = lines;
  fates = ap (drop i) (sym same) ∙ drop_one items i (Kept 0) short ∙ ap (λ fs. get_or items i (Kept 0) ∷ drop (i + 1) fs) same;
}

-- a line between tunes engraves
pub between_engraves : (carry : Bool) (fate : Fate) (line : List ℕ) → is_carried_between carry fate line ≡ true → engraves line ≡ true
between_engraves carry (Kept tune) line is = absurd (let h : false ≡ true = is in cc)
between_engraves carry Carried line is = absurd (let h : false ≡ true = is in cc)
between_engraves carry Blank line is = absurd (let h : false ≡ true = is in cc)
between_engraves carry Version line is = absurd (let h : false ≡ true = is in cc)
between_engraves carry (Dropped directive) line is = (and_parts carry (engraves line) is).1

first_same : (a b : ToldTune) (later others : List ToldTune) → a ∷ later ≡ b ∷ others → a ≡ b
first_same a b later others e = cc

rest_same : (a b : ToldTune) (later others : List ToldTune) → a ∷ later ≡ b ∷ others → later ≡ others
rest_same a b later others e = cc

-- a tune that is told starts here
pub record IsTold (longest : ℕ) (header : List (List ℕ)) (i tunes : ℕ) (rows : List ToldTune) (rest : List (List ℕ)) (tune : ToldTune) : Type 0 where
  pub number : tune.line ≡ i + 1
  pub fault : tune.fault ≡ fault_of_tune longest (with_header header (tune_run rest))
  pub behind : drop (tunes + 1) rows ≡ told.told_tunes_from longest header (i + 1 + 1) rest

pub told_of : (carry : Bool) (longest : ℕ) (book : List ℕ) (i : ℕ) (left : List (List ℕ)) (ahead : front.Front) (found : FoundTunes)
    (tunes carried : ℕ) (rows items : List ToldTune) (fate : Fate) (line : List ℕ) (rest : List (List ℕ)) (tune : ToldTune)
    → IsFound carry longest book i left ahead found tunes carried rows → IsNext book i left fate line rest → is_tune_start line ≡ true
    → items ≡ rows → tune ≡ get_or items tunes tune → IsTold longest (file_header (book_lines book)) i tunes rows rest tune
told_of carry longest book i left ahead found tunes carried rows items fate line rest tune was next starts same at =
    let header = file_header (book_lines book) in
    let row = row_of carry longest book i left ahead found tunes carried rows fate line rest was next starts in
    let short : tunes < length rows = omega (arith, length-drop tunes rows, ap length row.first) in
    let both = sym (drop_one rows tunes tune short) ∙ row.first in
    let is = at ∙ ap (λ ts. get_or ts tunes tune) same
    ∙ first_same (get_or rows tunes tune) _ (drop (tunes + 1) rows) row.later both in
    record {
      number = ap (λ t. t.line) is;
      fault = ap (λ t. t.fault) is;
      behind = rest_same (get_or rows tunes tune) _ (drop (tunes + 1) rows) row.later both ∙ row.behind;
    }
