-- Within an entry or a mark no other one begins.
use Rattle.std.proofs.Common.{◌≡◌, ◌≢◌, ℕ, ◌<◌, ◌^◌, Bool, true, List, [], ◌∷◌, ◌++◌, length}
use Rattle.std.proofs.Common.{inl, inr, refl, ap, sym, subst, ◌∙◌, arith, append_assoc, append-nil}
use Rattle.std.specs.Prelude.{◌==◌, ◌||◌, not, nat_eq, Option, None, Some, codes, decimal, IfSome, ⊤}
use Rattle.std.specs.Option.{option_map}
use Rattle.std.specs.List.{AllByRecursion, starts_with, list_all}
use Rattle.std.proofs.lemmas.Bool.{true≢false, ne_eqb, cond-false, and_parts}
use Rattle.abc_fields.specs.Bytes.{space, line_feed}
use Rattle.abc_fields.specs.Limits.{longest_tune}
use Rattle.abc_fields.specs.Lines.{ends_line, has_no_ending}
use Rattle.abc_fields.specs.Tunes.{IsTuneLine, IsTextWithin, joined}
use Rattle.tune_sets.specs.Names.{is_name_byte, is_good_name}
use Rattle.tune_undo.specs.OldEntries.{EntryValue, IsEntryPart, IsAfter, AreNumbers}
use Rattle.tune_undo.specs.EntryBytes.{after_word, length_word, kind_word, mark_word, IsMark, tune_line, book_tune, old_text, list_bytes, set_line}
use Rattle.tune_undo.specs.EntryBytes.{part_bytes, parts_bytes, IsEntry, entry_bytes, mark_bytes}
use Rattle.tune_undo.specs.OldItems.{OldEntry, IsOld, made_bytes, old_bytes, IsItemWritten, Item, Entered, Marked, ItemPlace, Top, Start, Within, next}
use Rattle.tune_undo.specs.declared.old_entries.EntryKind.{EntryKind}
use Rattle.tune_undo.specs.declared.old_entries.EntryKind.TheVariants as kind
use Rattle.tune_undo.specs.declared.old_entries.After.{After}
use Rattle.tune_undo.specs.declared.old_entries.Part.{Part}
use Rattle.tune_undo.specs.declared.old_entries.Part.TheVariants.{Tune, Set}
use Rattle.tune_undo.specs.declared.old_entries.Mark.{Mark}
use Rattle.tune_undo.proofs.FieldLaws.{Free, free_test, decimal_free}
use Rattle.tune_undo.proofs.LineLaws.{tune_line_parts, set_line_parts, old_line, old_parts, after_free, list_free, mark_free, made_free}
use Rattle.tune_undo.proofs.ItemLaws.{old_short}
use Rattle.tune_undo.proofs.PartLaws.{len_small, set_parts, book_tune_parts}

-- whether bytes begin as a part does
abbrev pub is_part_front : List ℕ → Bool
is_part_front bytes = starts_with nat_eq bytes (codes "% tune ") || starts_with nat_eq bytes (codes "% set ")

-- each line after an empty line begins as a part does
abbrev pub Quiet : ItemPlace → List ℕ → Type 0
Quiet place [] = ⊤
Quiet place (byte ∷ bytes) = (place ≡ Top → is_part_front (byte ∷ bytes) ≡ true) × Quiet (next place byte) bytes

abbrev pub place_after : ItemPlace → List ℕ → ItemPlace
place_after place [] = place
place_after place (byte ∷ bytes) = place_after (next place byte) bytes

pub place_after-append : (place : ItemPlace) (xs ys : List ℕ) → place_after place (xs ++ ys) ≡ place_after (place_after place xs) ys
place_after-append place [] ys = refl
place_after-append place (x ∷ xs) ys = place_after-append (next place x) xs ys

-- what follows such bytes at the top of a line after an empty one begins as a part does
pub quiet_at : (place : ItemPlace) (a zs : List ℕ) → Quiet place (a ++ zs) → place_after place a ≡ Top → 0 < length zs → is_part_front zs ≡ true
quiet_at place [] [] quiet top some = absurd (omega arith)
quiet_at place [] (z ∷ zs) quiet top some = quiet.0 top
quiet_at place (byte ∷ a) zs quiet top some = quiet_at (next place byte) a zs quiet.1 top some

-- LINES
quiet_byte : (place : ItemPlace) (byte : ℕ) (bytes : List ℕ) → place ≢ Top → byte ≢ line_feed → Quiet Within bytes → Quiet place (byte ∷ bytes)
quiet_byte place byte bytes low other quiet =
    let P : ItemPlace → Type 0 = λ p. Quiet p bytes in
    ((λ e. absurd (low e)), subst P (sym (cond-false (byte == line_feed) _ _ (ne_eqb byte line_feed other))) quiet)

within_low : Within ≢ Top
within_low e = cc

start_low : Start ≢ Top
start_low e = cc

quiet_front : (a ys : List ℕ) → Free line_feed a → Quiet Within ys → Quiet Within (a ++ ys)
quiet_front [] ys free quiet = quiet
quiet_front (byte ∷ a) ys free quiet = quiet_byte Within byte (a ++ ys) within_low free.0 (quiet_front a ys free.1 quiet)

quiet_feed : (ys : List ℕ) → Quiet Start ys → Quiet Within (line_feed ∷ ys)
quiet_feed ys quiet = ((λ e. absurd (within_low e)), quiet)

-- WORDS
length_feedless : (was : Option ℕ) → IfSome was (λ n. n < 2 ^ 32) → Free line_feed (length_word was)
length_feedless None small = free_test line_feed (codes "none") refl
length_feedless (Some n) small = decimal_free line_feed n (omega arith) small

name_bytes_feedless : (name : List ℕ) → list_all is_name_byte name ≡ true → Free line_feed name
name_bytes_feedless [] good = tt
name_bytes_feedless (byte ∷ name) good =
    let p = and_parts _ _ good in
    ((λ e. true≢false (sym p.0 ∙ ap is_name_byte e)), name_bytes_feedless name p.1)

name_feedless : (name : List ℕ) → is_good_name name ≡ true → Free line_feed name
name_feedless name good = name_bytes_feedless name (and_parts _ _ good).1

pub kind_feedless : (k : EntryKind) → Free line_feed (kind_word k)
kind_feedless kind.Delete = free_test line_feed (codes "delete") refl
kind_feedless kind.Replace = free_test line_feed (codes "replace") refl
kind_feedless kind.Put = free_test line_feed (codes "put") refl
kind_feedless kind.Cut = free_test line_feed (codes "cut") refl
kind_feedless kind.Move = free_test line_feed (codes "move") refl
kind_feedless kind.Drop = free_test line_feed (codes "drop") refl
kind_feedless kind.Add = free_test line_feed (codes "add") refl
kind_feedless kind.AddMore = free_test line_feed (codes "add-more") refl
kind_feedless kind.Load = free_test line_feed (codes "load") refl
kind_feedless kind.Kept = free_test line_feed (codes "kept") refl

-- TEXTS
line_feedless : (line : List ℕ) → has_no_ending line ≡ true → Free line_feed line
line_feedless [] plain = tt
line_feedless (byte ∷ line) plain =
    let p = and_parts _ _ plain in
    ((λ e. true≢false (sym p.0 ∙ ap (λ b. not (ends_line b)) e)), line_feedless line p.1)

line_quiet : (line ys : List ℕ) → IsTuneLine line → Quiet Start ys → Quiet Start (line ++ (line_feed ∷ ys))
line_quiet [] ys is quiet = absurd (true≢false is.inside)
line_quiet (byte ∷ line) ys is quiet =
    let free = line_feedless (byte ∷ line) is.plain in
    quiet_byte Start byte (line ++ (line_feed ∷ ys)) start_low free.0 (quiet_front line (line_feed ∷ ys) free.1 (quiet_feed ys quiet))

lines_quiet : (lines : List (List ℕ)) (ys : List ℕ) → AllByRecursion IsTuneLine lines → Quiet Start ys → Quiet Start (joined lines ++ ys)
lines_quiet [] ys each quiet = quiet
lines_quiet (line ∷ lines) ys each quiet =
    let whole : joined (line ∷ lines) ++ ys ≡ line ++ (line_feed ∷ (joined lines ++ ys)) =
    append_assoc (line ++ line_feed ∷ []) (joined lines) ys ∙ append_assoc line (line_feed ∷ []) (joined lines ++ ys) in
    subst (Quiet Start) (sym whole) (line_quiet line (joined lines ++ ys) each.0 (lines_quiet lines ys each.1 quiet))

-- a tune as a book has it
tune_quiet : (number : ℕ) (text ys : List ℕ) → number < 2 ^ 32 → IsTextWithin longest_tune text → Quiet Start ys → Quiet Start (book_tune number text ++ ys)
tune_quiet number text ys small good quiet =
    let t = good.tune_text in
    let lines : Quiet Start (text ++ ys) = subst (λ (b : List ℕ). Quiet Start (b ++ ys)) t.whole (lines_quiet t.lines ys t.each quiet) in
    subst (Quiet Start) (sym (book_tune_parts number text ys)) (
      (λ e. absurd (start_low e)),
      quiet_front (codes ":") (decimal number ++ (line_feed ∷ (text ++ ys))) (free_test line_feed (codes ":") refl)
          (quiet_front (decimal number) (line_feed ∷ (text ++ ys)) (decimal_free line_feed number (omega arith) small) (quiet_feed (text ++ ys) lines)),
    )

-- PARTS
-- what may stand at the top of a line, after an empty line or not
abbrev pub QuietTop : List ℕ → Type 0
QuietTop bytes = Quiet Top bytes × Quiet Start bytes

tune_line_quiet : (number : ℕ) (was : Option ℕ) (is : After) (ys : List ℕ) → number < 2 ^ 32 → IfSome was (λ n. n < 2 ^ 32) → IsAfter is
    → Quiet Start ys → QuietTop (tune_line number was is ++ ys)
tune_line_quiet number was is ys small short good quiet =
    let end = quiet_front (after_word is) (line_feed ∷ ys) (after_free is good) (quiet_feed ys quiet) in
    let after_is = quiet_front (codes " is ") (after_word is ++ (line_feed ∷ ys)) (free_test line_feed (codes " is ") refl) end in
    let after_was = quiet_front (length_word was) (codes " is " ++ (after_word is ++ (line_feed ∷ ys))) (length_feedless was short) after_is in
    let middle : List ℕ = length_word was ++ (codes " is " ++ (after_word is ++ (line_feed ∷ ys))) in
    let was_front = quiet_front (codes " was ") middle (free_test line_feed (codes " was ") refl) after_was in
    let front = quiet_front (decimal number) (codes " was " ++ middle) (decimal_free line_feed number (omega arith) small) was_front in
    let line = quiet_front (codes " tune ") (decimal number ++ (codes " was " ++ middle)) (free_test line_feed (codes " tune ") refl) front in
    subst QuietTop (sym (tune_line_parts number was is ys)) (((λ e. refl), line), ((λ e. refl), line))

set_line_quiet : (name word : List ℕ) (list : Option (List ℕ)) (ys : List ℕ) → is_good_name name ≡ true → Free line_feed word → IfSome list AreNumbers
    → Quiet Start ys → QuietTop (set_line name (space ∷ word) list ++ ys)
set_line_quiet name word list ys good free are quiet =
    let end = quiet_front (list_bytes list) (line_feed ∷ ys) (list_free list are) (quiet_feed ys quiet) in
    let words = quiet_front (space ∷ word) (list_bytes list ++ (line_feed ∷ ys)) ((λ e. omega arith), free) end in
    let front = quiet_front name (space ∷ (word ++ (list_bytes list ++ (line_feed ∷ ys)))) (name_feedless name good) words in
    let line = quiet_front (codes " set ") (name ++ (space ∷ (word ++ (list_bytes list ++ (line_feed ∷ ys))))) (free_test line_feed (codes " set ") refl)
    front in
    subst QuietTop (sym (set_line_parts name word list ys)) (((λ e. refl), line), ((λ e. refl), line))

old_text_quiet : (number : ℕ) (was : Option (List ℕ)) (ys : List ℕ) → number < 2 ^ 32 → IfSome was (λ text. IsTextWithin longest_tune text)
    → QuietTop ys → Quiet Start (old_text number was ++ ys)
old_text_quiet number None ys small good quiet = quiet.1
old_text_quiet number (Some text) ys small good quiet =
    subst (Quiet Start) (sym (append_assoc (book_tune number text) (codes "\n") ys))
    (tune_quiet number text (codes "\n" ++ ys) small good ((λ e. absurd (start_low e)), quiet.0))

part_quiet : (p : Part) (ys : List ℕ) → IsEntryPart p → QuietTop ys → QuietTop (part_bytes p ++ ys)
part_quiet (Tune number was is) ys part quiet =
    subst QuietTop (sym (append_assoc (tune_line number (option_map length was) is) (old_text number was) ys))
    (tune_line_quiet number (option_map length was) is (old_text number was ++ ys) part.0 (len_small was part.1.0) part.1.1
    (old_text_quiet number was ys part.0 part.1.0 quiet))
part_quiet (Set name was is) ys part quiet =
    subst QuietTop (sym (set_parts name was is ys))
    (set_line_quiet name (codes "was") was (set_line name (codes " is") is ++ ys) part.0 (free_test line_feed (codes "was") refl) part.1.0
    (set_line_quiet name (codes "is") is ys part.0 (free_test line_feed (codes "is") refl) part.1.1 quiet.1).1)

parts_quiet : (ps : List Part) → AllByRecursion IsEntryPart ps → QuietTop (parts_bytes ps)
parts_quiet [] are = (tt, tt)
parts_quiet (p ∷ ps) are = part_quiet p (parts_bytes ps) are.0 (parts_quiet ps are.1)

-- ITEMS
-- an item begins with these bytes, and within what follows them no item begins
pub record QuietItem (bytes : List ℕ) : Type 0 where
  pub more : List ℕ
  pub whole : bytes ≡ codes "% tunes-book " ++ more
  pub quiet : Quiet Within (codes " tunes-book " ++ more)

item_from : (more : List ℕ) → Quiet Within more → QuietItem (codes "% tunes-book " ++ more)
item_from more quiet =
    record { more = more; whole = refl; quiet = quiet_front (codes " tunes-book ") more (free_test line_feed (codes " tunes-book ") refl) quiet }

entry_quiet : (e : EntryValue) → IsEntry e → QuietItem (entry_bytes e)
entry_quiet e is =
    let body = parts_bytes e.parts in
    let few = is.count in
    let short = is.size in
    let count : List ℕ = decimal (length e.parts) in
    let size : List ℕ = decimal (length body) in
    let end = quiet_front size (line_feed ∷ body) (decimal_free line_feed (length body) (omega arith) short)
    (quiet_feed body (parts_quiet e.parts is.parts).1) in
    let second = quiet_front (codes " ") (size ++ (line_feed ∷ body)) (free_test line_feed (codes " ") refl) end in
    let middle = quiet_front count (codes " " ++ (size ++ (line_feed ∷ body))) (decimal_free line_feed (length e.parts) (omega arith) few) second in
    let first = quiet_front (codes " ") (count ++ (codes " " ++ (size ++ (line_feed ∷ body)))) (free_test line_feed (codes " ") refl) middle in
    item_from _ (quiet_front (kind_word e.kind) (codes " " ++ (count ++ (codes " " ++ (size ++ (line_feed ∷ body))))) (kind_feedless e.kind) first)

mark_quiet : (mark : Mark) → IsMark mark → QuietItem (mark_bytes mark)
mark_quiet mark good = item_from _ (quiet_front (mark_word mark) (codes "\n") (mark_free mark good) (quiet_feed [] tt))

old_quiet : (old : OldEntry) → IsOld old → QuietItem (old_bytes old)
old_quiet old is =
    let tune : List ℕ = book_tune old.number old.text in
    let lens : List ℕ = decimal (length tune) ++ made_bytes old.made in
    let body : Quiet Start tune = subst (Quiet Start) (append-nil tune) (tune_quiet old.number old.text [] is.number is.text tt) in
    let end = quiet_front lens (line_feed ∷ tune) (made_free (length tune) old.made (old_short old is) is.made) (quiet_feed tune body) in
    let third = quiet_front (codes " ") (lens ++ (line_feed ∷ tune)) (free_test line_feed (codes " ") refl) end in
    let middle = quiet_front (decimal old.revision) (codes " " ++ (lens ++ (line_feed ∷ tune))) (decimal_free line_feed old.revision (omega arith)
    (omega (arith, is.revision))) third in
    let second : Quiet Within (codes " " ++ (decimal old.revision ++ (codes " " ++ (lens ++ (line_feed ∷ tune))))) =
    quiet_front (codes " ") _ (free_test line_feed (codes " ") refl) middle in
    let front : Quiet Within (decimal old.number ++ (codes " " ++ (decimal old.revision ++ (codes " " ++ (lens ++ (line_feed ∷ tune)))))) =
    quiet_front (decimal old.number) _ (decimal_free line_feed old.number (omega arith) is.number) second in
    let first : Quiet Within (codes " " ++ (decimal old.number ++ (codes " " ++ (decimal old.revision ++ (codes " " ++ (lens ++ (line_feed ∷ tune))))))) =
    quiet_front (codes " ") _ (free_test line_feed (codes " ") refl) front in
    let all = quiet_front (kind_word old.kind) (codes " " ++ (decimal old.number ++
    (codes " " ++ (decimal old.revision ++ (codes " " ++ (lens ++ (line_feed ∷ tune)))))))
    (kind_feedless old.kind) first in
    subst QuietItem (sym (sym (append-nil (old_bytes old)) ∙ old_parts old []
    ∙ ap (λ t. old_line old.kind old.number old.revision lens t) (append-nil tune))) (item_from _ all)

pub item_quiet : (front : List ℕ) (item : Item) → IsItemWritten front item → QuietItem front
item_quiet front (Entered e) (inl w) = subst QuietItem (sym w.1) (entry_quiet e w.0)
item_quiet front (Entered e) (inr w) = subst QuietItem (sym w.2) (old_quiet w.0 w.1)
item_quiet front (Marked mark) (inl w) = subst QuietItem (sym w.1) (mark_quiet mark w.0)
item_quiet front (Marked mark) (inr w) = subst QuietItem (sym w.0)
    (item_from (codes "undoing\n") (quiet_front (codes "undoing") (codes "\n") (free_test line_feed (codes "undoing") refl) (quiet_feed [] tt)))
