-- A book of old texts has one log.
use Rattle.std.proofs.Common.{◌≡◌, ℕ, List, [], ◌∷◌, ◌++◌, length}
use Rattle.std.proofs.Common.{inl, inr, refl, ap, sym, ◌∙◌, arith, append_assoc}
use Rattle.std.specs.Prelude.{Option, None, Some, codes, decimal}
use Rattle.std.specs.Option.{option_to_list}
use Rattle.std.proofs.lemmas.Option.{none-some, same_Some}
use Rattle.std.proofs.lemmas.List.{append_cancel_left}
use Rattle.abc_fields.specs.Bytes.{space, line_feed}
use Rattle.tune_undo.specs.OldEntries.{EntryValue}
use Rattle.tune_undo.specs.EntryBytes.{kind_word, parts_bytes, book_tune, IsEntry, entry_bytes}
use Rattle.tune_undo.specs.OldItems.{OldEntry, IsOld, made_bytes, old_bytes, after_old, entry_of_old, IsItemWritten, Item, Entered, Marked, ItemPlace}
use Rattle.tune_undo.specs.OldItems.{Top, Start, Within, next, Stands, IsItemLog}
use Rattle.tune_undo.specs.Inside.ItemReading.{◌>>=◌, field_at}
use Rattle.tune_undo.specs.Inside.EntryLines.{mark_line_at}
use Rattle.tune_undo.specs.declared.old_entries.Part.TheVariants.{Tune}
use Rattle.tune_undo.specs.declared.old_entries.Mark.{Mark}
use Rattle.tune_undo.proofs.FieldLaws.{bind_is, Free, free-append, field_again, decimal_free}
use Rattle.tune_undo.proofs.LineLaws.{old_line, old_parts, made_free, mark_written_again}
use Rattle.tune_undo.proofs.PartLaws.{cut, parts_same}
use Rattle.tune_undo.proofs.ItemLaws.{entry_again, old_again, old_short}
use Rattle.tune_undo.proofs.QuietLaws.{kind_feedless}
use Rattle.tune_undo.proofs.EndLaws.{entry_not_old, mark_of_kind, entry_no_mark}

old_no_mark : (old : OldEntry) (rest : List ℕ) → IsOld old → mark_line_at (old_bytes old ++ rest) ≡ None
old_no_mark old rest is =
    let tune : List ℕ = book_tune old.number old.text in
    let lens : List ℕ = decimal (length tune) ++ made_bytes old.made in
    let low = is.revision in
    let second : List ℕ = decimal old.revision ++ (space ∷ lens) in
    let numbers : List ℕ = decimal old.number ++ (space ∷ second) in
    let word : List ℕ = kind_word old.kind ++ (space ∷ numbers) in
    let more : List ℕ = tune ++ rest in
    let free_second : Free line_feed second = free-append line_feed (decimal old.revision) (space ∷ lens)
    (decimal_free line_feed old.revision (omega arith) (omega arith))
    ((λ same. omega arith), made_free (length tune) old.made (old_short old is) is.made) in
    let free_numbers : Free line_feed numbers = free-append line_feed (decimal old.number) (space ∷ second)
    (decimal_free line_feed old.number (omega arith) is.number)
    ((λ same. omega arith), free_second) in
    let free : Free line_feed word = free-append line_feed (kind_word old.kind) (space ∷ numbers) (kind_feedless old.kind)
    ((λ same. omega arith), free_numbers) in
    let shape : old_line old.kind old.number old.revision lens more ≡ codes "% tunes-book " ++ (word ++ (line_feed ∷ more)) = sym (simp append_assoc) in
    ap mark_line_at (old_parts old rest ∙ shape)
    ∙ (bind_is (field_at line_feed (word ++ (line_feed ∷ more))) _ (word, more) (field_again line_feed word more free)
    ∙ ap (λ (o : Option Mark). o >>= (λ mark. Some (mark, more))) (mark_of_kind old.kind numbers))

-- entries at the front of the same bytes are one
new_same : (e f : EntryValue) (x y : List ℕ) → IsEntry e → IsEntry f → entry_bytes e ++ x ≡ entry_bytes f ++ y → e ≡ f
new_same e f x y is other same =
    let both = same_Some _ _ (sym (entry_again e x _ is same) ∙ entry_again f y _ other refl) in
    let lines = ap (λ p. p.0) both in
    let sizes : length (parts_bytes e.parts) ≡ length (parts_bytes f.parts) = ap (λ l. l.len) lines in
    let bodies = cut (parts_bytes e.parts) (parts_bytes f.parts) x y sizes (ap (λ p. p.1) both) in
    let parts = parts_same e.parts f.parts is.parts other.parts bodies.0 in
    let kinds : e.kind ≡ f.kind = ap (λ l. l.kind) lines in
    λ i. record { kind = kinds i; parts = parts i }

old_same : (old new : OldEntry) (x y : List ℕ) → IsOld old → IsOld new → old_bytes old ++ x ≡ old_bytes new ++ y → entry_of_old old ≡ entry_of_old new
old_same old new x y is other same =
    let both = same_Some _ _ (sym (old_again old x _ is same) ∙ old_again new y _ other refl) in
    let lines = ap (λ p. p.0) both in
    let kinds : old.kind ≡ new.kind = ap (λ l. l.kind) lines in
    let numbers : old.number ≡ new.number = ap (λ l. l.number) lines in
    let revisions : old.revision ≡ new.revision = ap (λ l. l.revision) lines in
    let sizes : length (book_tune old.number old.text) ≡ length (book_tune new.number new.text) = ap (λ l. l.len) lines in
    let tunes = (cut (book_tune old.number old.text) (book_tune new.number new.text) x y sizes (ap (λ p. p.1) both)).0 in
    let front : List ℕ = codes "X:" ++ (decimal old.number ++ (line_feed ∷ [])) in
    let texts : old.text ≡ new.text = append_cancel_left front old.text new.text (split old.number old.text ∙ tunes
    ∙ ap (λ n. book_tune n new.text) (sym numbers) ∙ sym (split old.number new.text)) in
    λ i. record { kind = kinds i; parts = Tune (numbers i) (Some (texts i)) (after_old (kinds i) (revisions i)) ∷ [] }
  where
    split : (number : ℕ) (text : List ℕ) → (codes "X:" ++ (decimal number ++ (line_feed ∷ []))) ++ text ≡ book_tune number text
    split number text = simp append_assoc

written_same : (a b : Item) (front other x y : List ℕ) → front ++ x ≡ other ++ y → IsItemWritten front a → IsItemWritten other b → a ≡ b
written_same (Entered e) (Entered f) front other x y same (inl w) (inl v) =
    ap (λ g. Entered g) (new_same e f x y w.0 v.0 (ap (λ t. t ++ x) (sym w.1) ∙ same ∙ ap (λ t. t ++ y) v.1))
written_same (Entered e) (Entered f) front other x y same (inl w) (inr v) =
    absurd (entry_not_old e x v.0 y w.0 v.1 (ap (λ t. t ++ y) (sym v.2) ∙ sym same ∙ ap (λ t. t ++ x) w.1))
written_same (Entered e) (Entered f) front other x y same (inr w) (inl v) =
    absurd (entry_not_old f y w.0 x v.0 w.1 (ap (λ t. t ++ x) (sym w.2) ∙ same ∙ ap (λ t. t ++ y) v.1))
written_same (Entered e) (Entered f) front other x y same (inr w) (inr v) =
    ap (λ g. Entered g) (sym w.3 ∙ old_same w.0 v.0 x y w.1 v.1 (ap (λ t. t ++ x) (sym w.2) ∙ same ∙ ap (λ t. t ++ y) v.2) ∙ v.3)
written_same (Entered e) (Marked mark) front other x y same (inl w) v =
    absurd (none-some _ (sym (entry_no_mark e x w.0) ∙ ap (λ t. mark_line_at (t ++ x)) (sym w.1) ∙ ap mark_line_at same ∙ mark_written_again other mark y v))
written_same (Entered e) (Marked mark) front other x y same (inr w) v =
    absurd (none-some _ (sym (old_no_mark w.0 x w.1) ∙ ap (λ t. mark_line_at (t ++ x)) (sym w.2) ∙ ap mark_line_at same ∙ mark_written_again other mark y v))
written_same (Marked mark) (Entered f) front other x y same w (inl v) =
    absurd (none-some _ (sym (entry_no_mark f y v.0) ∙ ap (λ t. mark_line_at (t ++ y)) (sym v.1) ∙ ap mark_line_at (sym same) ∙ mark_written_again front
    mark x w))
written_same (Marked mark) (Entered f) front other x y same w (inr v) =
    absurd (none-some _ (sym (old_no_mark v.0 y v.1) ∙ ap (λ t. mark_line_at (t ++ y)) (sym v.2) ∙ ap mark_line_at (sym same) ∙ mark_written_again front
    mark x w))
written_same (Marked mark) (Marked found) front other x y same w v =
    ap (λ p. Marked p.0) (same_Some _ _ (sym (mark_written_again front mark x w) ∙ ap mark_line_at same ∙ mark_written_again other found y v))

stands_same : (place : ItemPlace) (bytes : List ℕ) (a b : Option Item) → Stands place bytes a → Stands place bytes b → a ≡ b
stands_same Top bytes None None s t = refl
stands_same Top bytes None (Some item) s t = absurd (s item t)
stands_same Top bytes (Some item) None s t = absurd (t item s)
stands_same Top bytes (Some item) (Some other) s t =
    ap (λ i. Some i) (written_same item other s.front t.front s.rest t.rest (s.whole ∙ sym t.whole) s.written t.written)
stands_same Start bytes a b s t = s ∙ sym t
stands_same Within bytes a b s t = s ∙ sym t

log_same : (place : ItemPlace) (bytes : List ℕ) (a b : List Item) → IsItemLog place bytes a → IsItemLog place bytes b → a ≡ b
log_same place [] a b s t = s ∙ sym t
log_same place (byte ∷ bytes) a b s t =
    let found = stands_same place (byte ∷ bytes) s.0 t.0 s.2 t.2 in
    let later = log_same (next place byte) bytes s.1 t.1 s.3 t.3 in
    s.4 ∙ (λ i. option_to_list (found i) ++ later i) ∙ sym t.4

pub one_log : (book : List ℕ) (a b : List Item) → IsItemLog Top book a → IsItemLog Top book b → a ≡ b
one_log book a b s t = log_same Top book a b s t
