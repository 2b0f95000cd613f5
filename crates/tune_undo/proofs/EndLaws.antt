-- What is put at the end of a book of old texts is read there, and nothing else changes.
use Rattle.std.proofs.Common.{◌≡◌, ◌≢◌, ℕ, ◌<◌, ◌≤◌, Bool, true, false, List, [], ◌∷◌, ◌++◌, length, take, drop}
use Rattle.std.proofs.Common.{inl, inr, refl, ap, sym, subst, ◌∙◌, arith, append_assoc, append-nil, length-append}
use Rattle.std.specs.Prelude.{◌==◌, nat_eq, Option, None, Some, codes, decimal, slice_index, ⊤}
use Rattle.std.specs.Option.{option_to_list}
use Rattle.std.specs.List.{starts_with}
use Rattle.std.proofs.lemmas.Bool.{true≢false, cond-true, or_cases, cases_lt}
use Rattle.std.proofs.lemmas.Bool.Decides.{Decides-eqb}
use Rattle.std.proofs.lemmas.Option.{none-some, same_Some}
use Rattle.std.proofs.lemmas.List.{append_cancel_left, take_at, take-append-le, take-append-drop}
use Rattle.std.proofs.lemmas.Slice.Eq.{starts_is}
use Rattle.abc_fields.specs.Bytes.{space, line_feed}
use Rattle.tune_undo.specs.OldEntries.{EntryValue, StepValue}
use Rattle.tune_undo.specs.EntryBytes.{kind_word, IsMark, parts_bytes, IsEntry, entry_bytes, mark_bytes}
use Rattle.tune_undo.specs.OldItems.{OldEntry, IsOld, old_bytes, IsItemWritten, BeginsWithItem, Item, Entered, Marked, ItemPlace, Top, Start, Within}
use Rattle.tune_undo.specs.OldItems.{place_after_feed}
use Rattle.tune_undo.specs.OldItems.{next, Stands, IsItemLog, standing, standing_after, after_item}
use Rattle.tune_undo.specs.OldTextLaws.{is_ended, before_piece, made_ready, IsWrittenItem, AddsItem, AddsNothing}
use Rattle.tune_undo.specs.Inside.ItemReading.{◌>>=◌, field_at, mark_of}
use Rattle.tune_undo.specs.Inside.EntryLines.{first_line_at, old_line_at, mark_line_at}
use Rattle.tune_undo.specs.declared.old_entries.EntryKind.{EntryKind}
use Rattle.tune_undo.specs.declared.old_entries.EntryKind.TheVariants as kind
use Rattle.tune_undo.specs.declared.old_entries.Mark.{Mark}
use Rattle.tune_undo.specs.declared.old_entries.Mark.TheVariants.{NotDone, Undone, Undoing}
use Rattle.tune_undo.proofs.FieldLaws.{bind_is, Free, free-append, field_again, decimal_free}
use Rattle.tune_undo.proofs.LineLaws.{first_line, entry_parts, old_line_takes, kind_free, mark_line_again, mark_written_again}
use Rattle.tune_undo.proofs.PartLaws.{cut, parts_same}
use Rattle.tune_undo.proofs.ItemLaws.{entry_again, old_again}
use Rattle.tune_undo.proofs.QuietLaws.{is_part_front, Quiet, place_after, place_after-append, quiet_at, item_quiet, kind_feedless}

-- AN ENTRY IS NOTHING ELSE
token_same : (a b x y : List ℕ) → Free space a → Free space b → a ++ (space ∷ x) ≡ b ++ (space ∷ y) → (a ≡ b) × (x ≡ y)
token_same a b x y free other e =
    let both = same_Some _ _ (sym (field_again space a x free) ∙ ap (field_at space) e ∙ field_again space b y other) in
    (ap (λ p. p.0) both, ap (λ p. p.1) both)

apart : (a b x y : List ℕ) → Free space a → Free line_feed b → a ++ (line_feed ∷ x) ≡ b ++ (space ∷ y) → ⊥
apart [] [] x y free other e = true≢false (ap (λ t. slice_index t 0 == 10) e)
apart [] (d ∷ b) x y free other e = other.0 (sym (ap (λ t. slice_index t 0) e))
apart (c ∷ a) [] x y free other e = free.0 (ap (λ t. slice_index t 0) e)
apart (c ∷ a) (d ∷ b) x y free other e = apart a b x y free.1 other.1 (ap (drop 1) e)

pub entry_not_old : (e : EntryValue) (rest : List ℕ) (old : OldEntry) (more : List ℕ) → IsEntry e → IsOld old
    → old_bytes old ++ more ≡ entry_bytes e ++ rest → ⊥
entry_not_old e rest old more is good same =
    let read = old_line_takes (entry_bytes e ++ rest) _ (old_again old more (entry_bytes e ++ rest) good same) in
    let few = is.count in
    let short = is.size in
    let next_revision = good.revision in
    let tails = ap (drop 13) (read.whole ∙ entry_parts e rest) in
    let kinds = token_same (kind_word old.kind) (kind_word e.kind) _ _ (kind_free old.kind) (kind_free e.kind) tails in
    let numbers = token_same (decimal old.number) (decimal (length e.parts)) _ _ (decimal_free space old.number (omega arith) good.number)
    (decimal_free space (length e.parts) (omega arith) few) kinds.1 in
    apart (decimal (length (parts_bytes e.parts))) (decimal old.revision) _ _ (decimal_free space (length (parts_bytes e.parts)) (omega arith) short)
    (decimal_free line_feed old.revision (omega arith) (omega arith)) (sym numbers.1)

pub mark_of_kind : (k : EntryKind) (more : List ℕ) → mark_of (kind_word k ++ (space ∷ more)) ≡ None
mark_of_kind kind.Delete more = refl
mark_of_kind kind.Replace more = refl
mark_of_kind kind.Put more = refl
mark_of_kind kind.Cut more = refl
mark_of_kind kind.Move more = refl
mark_of_kind kind.Drop more = refl
mark_of_kind kind.Add more = refl
mark_of_kind kind.AddMore more = refl
mark_of_kind kind.Load more = refl
mark_of_kind kind.Kept more = refl

pub entry_no_mark : (e : EntryValue) (rest : List ℕ) → IsEntry e → mark_line_at (entry_bytes e ++ rest) ≡ None
entry_no_mark e rest is =
    let few = is.count in
    let short = is.size in
    let numbers : List ℕ = decimal (length e.parts) ++ (space ∷ decimal (length (parts_bytes e.parts))) in
    let word : List ℕ = kind_word e.kind ++ (space ∷ numbers) in
    let more : List ℕ = parts_bytes e.parts ++ rest in
    let free : Free line_feed word = free-append line_feed (kind_word e.kind) (space ∷ numbers) (kind_feedless e.kind) (
      (λ same. omega arith),
      free-append line_feed (decimal (length e.parts)) (space ∷ decimal (length (parts_bytes e.parts)))
          (decimal_free line_feed (length e.parts) (omega arith) few)
          ((λ same. omega arith), decimal_free line_feed (length (parts_bytes e.parts)) (omega arith) short),
    ) in
    let shape : first_line e.kind (length e.parts) (length (parts_bytes e.parts)) more ≡ codes "% tunes-book " ++ (word ++ (line_feed ∷ more)) = sym
    (simp append_assoc) in
    ap mark_line_at (entry_parts e rest ∙ shape)
    ∙ (bind_is (field_at line_feed (word ++ (line_feed ∷ more))) _ (word, more) (field_again line_feed word more free)
    ∙ ap (λ (o : Option Mark). o >>= (λ mark. Some (mark, more))) (mark_of_kind e.kind numbers))

-- what begins with a written entry is that entry
entry_only : (e : EntryValue) (item : Item) (front rest : List ℕ) → IsEntry e → front ++ rest ≡ entry_bytes e → IsItemWritten front item
    → (item ≡ Entered e) × (front ≡ entry_bytes e)
entry_only e (Entered f) front rest is whole (inl w) =
    let both = same_Some _ _ (sym (entry_again f rest (entry_bytes e) w.0 (ap (λ t. t ++ rest) (sym w.1) ∙ whole))
    ∙ entry_again e [] (entry_bytes e) is (append-nil (entry_bytes e))) in
    let lines = ap (λ p. p.0) both in
    let sizes : length (parts_bytes f.parts) ≡ length (parts_bytes e.parts) = ap (λ l. l.len) lines in
    let bodies = cut (parts_bytes f.parts) (parts_bytes e.parts) rest [] sizes (ap (λ p. p.1) both) in
    let parts = parts_same f.parts e.parts w.0.parts is.parts bodies.0 in
    let kinds : f.kind ≡ e.kind = ap (λ l. l.kind) lines in
    let same : f ≡ e = λ i. record { kind = kinds i; parts = parts i } in
    (ap (λ g. Entered g) same, w.1 ∙ ap entry_bytes same)
entry_only e (Entered f) front rest is whole (inr w) =
    absurd (entry_not_old e [] w.0 rest is w.1 (ap (λ t. t ++ rest) (sym w.2) ∙ whole ∙ sym (append-nil (entry_bytes e))))
entry_only e (Marked mark) front rest is whole written =
    absurd (none-some _ (sym (entry_no_mark e [] is) ∙ ap mark_line_at (append-nil (entry_bytes e) ∙ sym whole) ∙ mark_written_again front mark rest written))

-- MARKS ARE NOTHING ELSE
mark_no_entry : (mark : Mark) → first_line_at (mark_bytes mark) ≡ None
mark_no_entry NotDone = refl
mark_no_entry Undone = refl
mark_no_entry (Undoing greatest) = refl

mark_no_old : (mark : Mark) → old_line_at (mark_bytes mark) ≡ None
mark_no_old NotDone = refl
mark_no_old Undone = refl
mark_no_old (Undoing greatest) = refl

mark_only : (mark : Mark) (item : Item) (front rest : List ℕ) → IsMark mark → front ++ rest ≡ mark_bytes mark → IsItemWritten front item
    → (item ≡ Marked mark) × (front ≡ mark_bytes mark)
mark_only mark (Entered f) front rest good whole (inl w) =
    absurd (none-some _ (sym (mark_no_entry mark) ∙ entry_again f rest (mark_bytes mark) w.0 (ap (λ t. t ++ rest) (sym w.1) ∙ whole)))
mark_only mark (Entered f) front rest good whole (inr w) =
    absurd (none-some _ (sym (mark_no_old mark) ∙ old_again w.0 rest (mark_bytes mark) w.1 (ap (λ t. t ++ rest) (sym w.2) ∙ whole)))
mark_only mark (Marked other) front rest good whole written =
    let both = same_Some _ _ (sym (mark_written_again front other rest written) ∙ ap mark_line_at (whole ∙ sym (append-nil (mark_bytes mark)))
    ∙ mark_line_again mark [] good) in
    let marks : other ≡ mark = ap (λ p. p.0) both in
    let none : rest ≡ [] = ap (λ p. p.1) both in
    (ap (λ m. Marked m) marks, sym (append-nil front) ∙ ap (λ t. front ++ t) (sym none) ∙ whole)

piece_only : (piece : List ℕ) (item other : Item) (front rest : List ℕ) → IsWrittenItem piece item → front ++ rest ≡ piece → IsItemWritten front other
    → (other ≡ item) × (front ≡ piece)
piece_only piece (Entered e) other front rest is whole written =
    let only = entry_only e other front rest is.0 (whole ∙ is.1) written in (only.0, only.1 ∙ sym is.1)
piece_only piece (Marked mark) other front rest is whole written =
    let only = mark_only mark other front rest is.0 (whole ∙ is.1) written in (only.0, only.1 ∙ sym is.1)

piece_written : (piece : List ℕ) (item : Item) → IsWrittenItem piece item → IsItemWritten piece item
piece_written piece (Entered e) is = inl is
piece_written piece (Marked mark) is = inl is

-- WHERE NOTHING BEGINS
not_part : (bytes more : List ℕ) (item : Item) → BeginsWithItem bytes item → is_part_front (bytes ++ more) ≡ true → ⊥
not_part bytes more item b part =
    let q = item_quiet b.front item b.written in
    let shape : bytes ++ more ≡ codes "% tunes-book " ++ ((q.more ++ b.rest) ++ more) =
    ap (λ t. t ++ more) (sym b.whole) ∙ ap (λ t. (t ++ b.rest) ++ more) q.whole in
    true≢false (sym part ∙ ap is_part_front shape)

quiet_found : (place : ItemPlace) (bytes more : List ℕ) (found : Option Item) → (place ≡ Top → is_part_front (bytes ++ more) ≡ true) → Stands place bytes found
    → found ≡ None
quiet_found Top bytes more None part stands = refl
quiet_found Top bytes more (Some item) part stands = absurd (not_part bytes more item stands (part refl))
quiet_found Start bytes more found part stands = stands
quiet_found Within bytes more found part stands = stands

quiet_log : (place : ItemPlace) (bytes more : List ℕ) (items : List Item) → Quiet place (bytes ++ more) → IsItemLog place bytes items → items ≡ []
quiet_log place [] more items quiet log = log
quiet_log place (byte ∷ bytes) more items quiet log =
    let none = quiet_found place (byte ∷ bytes) more log.0 quiet.0 log.2 in
    log.4 ∙ ap (λ o. option_to_list o ++ log.1) none ∙ quiet_log (next place byte) bytes more log.1 quiet.1 log.3

-- A BOOK AND WHAT FOLLOWS IT
-- no front of these bytes begins as a part does
abbrev pub NotPart : List ℕ → Type 0
NotPart ys = (zs rest : List ℕ) → zs ++ rest ≡ ys → is_part_front zs ≡ true → ⊥

begins_more : (bytes more : List ℕ) (item : Item) → BeginsWithItem bytes item → BeginsWithItem (bytes ++ more) item
begins_more bytes more item b = record {
  front = b.front;
  rest = b.rest ++ more;
  whole = sym (append_assoc b.front b.rest more) ∙ ap (λ t. t ++ more) b.whole;
  written = b.written;
}

cut_begins : (byte : ℕ) (bytes ys : List ℕ) (item : Item) → place_after Top (byte ∷ bytes) ≡ Top → NotPart ys → BeginsWithItem ((byte ∷ bytes) ++ ys) item
    → BeginsWithItem (byte ∷ bytes) item
cut_begins byte bytes ys item top other b = elim (cases_lt (length (byte ∷ bytes)) (length b.front)) [
  | inl long ↦
      let bs : List ℕ = byte ∷ bytes in
      let n : ℕ = length bs in
      let zs : List ℕ = drop n b.front in
      let fits : n ≤ length b.front = omega arith in
      let front_is : bs ≡ take n b.front = sym (take_at bs ys n refl) ∙ ap (take n) (sym b.whole) ∙ take-append-le n b.front b.rest fits in
      let whole : b.front ≡ bs ++ zs = sym (take-append-drop n b.front) ∙ ap (λ t. t ++ zs) (sym front_is) in
      let behind : zs ++ b.rest ≡ ys = append_cancel_left bs (zs ++ b.rest) ys
      (sym (append_assoc bs zs b.rest) ∙ ap (λ t. t ++ b.rest) (sym whole) ∙ b.whole) in
      let some : 0 < length zs = omega (arith, ap length whole, length-append bs zs) in
      let q = item_quiet b.front item b.written in
      let shape : bs ++ zs ≡ codes "% tunes-book " ++ q.more = sym whole ∙ q.whole in
      let head : byte ≡ 37 = ap (λ t. slice_index t 0) shape in
      let tail : codes " tunes-book " ++ q.more ≡ bytes ++ zs = sym (ap (drop 1) shape) in
      let inside : place_after Within bytes ≡ Top = sym (ap (λ c. place_after (next Top c) bytes) head) ∙ top in
      absurd (other zs b.rest behind (quiet_at Within bytes zs (subst (Quiet Within) tail q.quiet) inside some))
  | inr short ↦
      let bs : List ℕ = byte ∷ bytes in
      let n : ℕ = length b.front in
      let front_is : b.front ≡ take n bs = sym (take_at b.front b.rest n refl) ∙ ap (take n) b.whole ∙ take-append-le n bs ys short in
      record {
        front = b.front;
        rest = drop n bs;
        whole = ap (λ t. t ++ drop n bs) front_is ∙ take-append-drop n bs;
        written = b.written;
      }
]

stands_cut : (place : ItemPlace) (byte : ℕ) (bytes ys : List ℕ) (found : Option Item) → place_after place (byte ∷ bytes) ≡ Top → NotPart ys
    → Stands place ((byte ∷ bytes) ++ ys) found → Stands place (byte ∷ bytes) found
stands_cut Top byte bytes ys None top other stands = λ item b. stands item (begins_more (byte ∷ bytes) ys item b)
stands_cut Top byte bytes ys (Some item) top other stands = cut_begins byte bytes ys item top other stands
stands_cut Start byte bytes ys found top other stands = stands
stands_cut Within byte bytes ys found top other stands = stands

pub record Split (place : ItemPlace) (xs ys : List ℕ) (items : List Item) : Type 0 where
  pub before : List Item
  pub later : List Item
  pub front : IsItemLog place xs before
  pub back : IsItemLog Top ys later
  pub whole : items ≡ before ++ later

log_split : (place : ItemPlace) (xs ys : List ℕ) (items : List Item) → place_after place xs ≡ Top → NotPart ys → IsItemLog place (xs ++ ys) items
    → Split place xs ys items
log_split place [] ys items top other log =
    let P : ItemPlace → Type 0 = λ p. IsItemLog p ys items in
    record { before = []; later = items; front = refl; back = subst P top log; whole = refl }
log_split place (byte ∷ bytes) ys items top other log =
    let more = log_split (next place byte) bytes ys log.1 top other log.3 in
    let stands = stands_cut place byte bytes ys log.0 top other log.2 in record {
      before = option_to_list log.0 ++ more.before;
      later = more.later;
      front = (log.0, more.before, stands, more.front, refl);
      back = more.back;
      whole = log.4 ∙ ap (λ t. option_to_list log.0 ++ t) more.whole ∙ sym (append_assoc (option_to_list log.0) more.before more.later);
    }

-- THE END OF A BOOK
-- at the top of a line
abbrev pub IsOpen : ItemPlace → Type 0
IsOpen Top = ⊤
IsOpen Start = ⊤
IsOpen Within = ⊥

fed : (place : ItemPlace) → IsOpen (place_after_feed place)
fed Top = tt
fed Start = tt
fed Within = tt

ended_last : (place : ItemPlace) (byte : ℕ) (bytes : List ℕ) → is_ended (byte ∷ bytes) ≡ true → IsOpen (place_after place (byte ∷ bytes))
ended_last place byte [] ended = subst IsOpen (sym (cond-true (byte == line_feed) _ _ ended)) (fed place)
ended_last place byte (other ∷ bytes) ended = ended_last (next place byte) other bytes ended

ended_open : (bytes : List ℕ) → is_ended bytes ≡ true → IsOpen (place_after Top bytes)
ended_open [] ended = tt
ended_open (byte ∷ bytes) ended = ended_last Top byte bytes ended

feed_once : (place : ItemPlace) → IsOpen place → place_after place (codes "\n") ≡ Top
feed_once Top at_top = refl
feed_once Start at_top = refl
feed_once Within at_top = absurd at_top

feed_twice : (place : ItemPlace) → place_after place (codes "\n\n") ≡ Top
feed_twice Top = refl
feed_twice Start = refl
feed_twice Within = refl

fed_by : (book : List ℕ) (b : Bool) → is_ended book ≡ b → place_after (place_after Top book) (before_piece b) ≡ Top
fed_by book true ended = feed_once (place_after Top book) (ended_open book ended)
fed_by book false ended = feed_twice (place_after Top book)

ready_top : (book : List ℕ) → place_after Top (made_ready book) ≡ Top
ready_top book = place_after-append Top book (before_piece (is_ended book)) ∙ fed_by book (is_ended book) refl

-- PIECES
front_part : (zs more tail front : List ℕ) → zs ++ more ≡ codes "% tunes-book " ++ tail → starts_with nat_eq zs front ≡ true
    → front ++ (drop (length front) zs ++ more) ≡ codes "% tunes-book " ++ tail
front_part zs more tail front e starts =
    sym (append_assoc front (drop (length front) zs) more) ∙ ap (λ t. t ++ more) (sym ((starts_is Decides-eqb zs front _ refl).0 starts)) ∙ e

piece_not_part : (ys more tail : List ℕ) → ys ++ more ≡ codes "% tunes-book " ++ tail → NotPart ys
piece_not_part ys more tail e zs rest same part =
    let whole : zs ++ (rest ++ more) ≡ codes "% tunes-book " ++ tail = sym (append_assoc zs rest more) ∙ ap (λ t. t ++ more) same ∙ e in
    elim (or_cases _ _ part) [
      | inl tune ↦ true≢false (ap (λ t. slice_index t 6 == 32) (front_part zs (rest ++ more) tail (codes "% tune ") whole tune))
      | inr set ↦ true≢false (ap (λ t. slice_index t 2 == 115) (front_part zs (rest ++ more) tail (codes "% set ") whole set))
    ]

standing-push : (steps : List StepValue) (before : List Item) (item : Item)
    → standing_after steps (before ++ item ∷ []) ≡ after_item (standing_after steps before) item
standing-push steps [] item = refl
standing-push steps (i ∷ before) item = standing-push (after_item steps i) before item

-- what stands at the front of a piece
whole_found : (piece : List ℕ) (item : Item) (found : Option Item) (later items : List Item) → IsWrittenItem piece item → Stands Top piece found → later ≡ []
    → items ≡ option_to_list found ++ later → items ≡ item ∷ []
whole_found piece item None later items is stands none e =
    absurd (stands item (record { front = piece; rest = []; whole = append-nil piece; written = piece_written piece item is }))
whole_found piece item (Some other) later items is stands none e =
    e ∙ ap (λ l. other ∷ l) none ∙ ap (λ i. i ∷ []) (piece_only piece item other stands.front stands.rest is stands.whole stands.written).0

whole_log : (tail : List ℕ) (item : Item) (items : List Item) → IsWrittenItem (37 ∷ tail) item → Quiet Within tail → IsItemLog Top (37 ∷ tail) items → items
    ≡ item ∷ []
whole_log tail item items is quiet log =
    let none : log.1 ≡ [] = quiet_log Within tail [] log.1 (subst (Quiet Within) (sym (append-nil tail)) quiet) log.3 in
    whole_found (37 ∷ tail) item log.0 log.1 items is log.2 none log.4

cut_found : (front more piece : List ℕ) (item : Item) (found : Option Item) → IsWrittenItem piece item → front ++ more ≡ piece → 0 < length more
    → Stands Top front found → found ≡ None
cut_found front more piece item None is whole some stands = refl
cut_found front more piece item (Some other) is whole some stands =
    let same = (piece_only piece item other stands.front (stands.rest ++ more) is
    (sym (append_assoc stands.front stands.rest more) ∙ ap (λ t. t ++ more) stands.whole ∙ whole) stands.written).1 in
    absurd (omega (arith, ap length stands.whole, length-append stands.front stands.rest, ap length same, ap length whole, length-append front more))

cut_log : (front more tail : List ℕ) (item : Item) (items : List Item) → IsWrittenItem (37 ∷ tail) item → front ++ more ≡ 37 ∷ tail → 0 < length more
    → Quiet Within tail → IsItemLog Top front items → items ≡ []
cut_log [] more tail item items is whole some quiet log = log
cut_log (byte ∷ bytes) more tail item items is whole some quiet log =
    let head : byte ≡ 37 = ap (λ t. slice_index t 0) whole in
    let rest : bytes ++ more ≡ tail = ap (drop 1) whole in
    let P : ItemPlace → Type 0 = λ place. IsItemLog place bytes log.1 in
    let inside : IsItemLog Within bytes log.1 = subst P (ap (λ c. next Top c) head) log.3 in
    let none : log.1 ≡ [] = quiet_log Within bytes more log.1 (subst (Quiet Within) (sym rest) quiet) inside in
    log.4 ∙ ap (λ o. option_to_list o ++ log.1) (cut_found (byte ∷ bytes) more (37 ∷ tail) item log.0 is whole some log.2) ∙ none

-- LAWS
pub adds_item : (book piece : List ℕ) (item : Item) → IsWrittenItem piece item → AddsItem book piece item
adds_item book piece item is items log =
    let q = item_quiet piece item (piece_written piece item is) in
    let other = piece_not_part piece [] q.more (append-nil piece ∙ q.whole) in
    let s = log_split Top (made_ready book) piece items (ready_top book) other log in
    let back : IsItemLog Top (codes "% tunes-book " ++ q.more) s.later = subst (λ (t : List ℕ). IsItemLog Top t s.later) q.whole s.back in
    let is_shaped : IsWrittenItem (codes "% tunes-book " ++ q.more) item = subst (λ (t : List ℕ). IsWrittenItem t item) q.whole is in
    let one : s.later ≡ item ∷ [] = whole_log (codes " tunes-book " ++ q.more) item s.later is_shaped q.quiet back in
    let whole : items ≡ s.before ++ item ∷ [] = s.whole ∙ ap (λ t. s.before ++ t) one in
    (s.before, s.front, whole, ap standing whole ∙ standing-push [] s.before item)

pub adds_nothing : (book front more piece : List ℕ) (item : Item) → IsWrittenItem piece item → front ++ more ≡ piece → more ≢ [] → AddsNothing book front
adds_nothing book front more piece item is same some items log =
    let q = item_quiet piece item (piece_written piece item is) in
    let shape : front ++ more ≡ codes "% tunes-book " ++ q.more = same ∙ q.whole in
    let other = piece_not_part front more q.more shape in
    let s = log_split Top (made_ready book) front items (ready_top book) other log in
    let is_shaped : IsWrittenItem (codes "% tunes-book " ++ q.more) item = subst (λ (t : List ℕ). IsWrittenItem t item) q.whole is in
    let none : s.later ≡ [] = cut_log front more (codes " tunes-book " ++ q.more) item s.later is_shaped shape (has_some more some) q.quiet s.back in
    let whole : s.before ≡ items = sym (s.whole ∙ ap (λ t. s.before ++ t) none ∙ append-nil s.before) in
    subst (IsItemLog Top (made_ready book)) whole s.front
  where
    has_some : (more : List ℕ) → more ≢ [] → 0 < length more
    has_some [] some = absurd (some refl)
    has_some (byte ∷ more) some = omega arith
