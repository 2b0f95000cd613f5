-- The bytes of a part tell the part.
use Rattle.std.proofs.Common.{◌≡◌, ℕ, zero, suc, ◌^◌, ◌<◌, ◌≤◌, true, false, List, [], ◌∷◌, ◌++◌, length, take, drop}
use Rattle.std.proofs.Common.{inl, inr, refl, ap, sym, subst, ◌∙◌, arith, append_assoc, append-nil, length-append}
use Rattle.std.specs.Prelude.{◌==◌, Option, None, Some, codes, decimal, slice_index, IfSome, IfNone}
use Rattle.std.specs.Option.{option_map}
use Rattle.std.specs.List.{AllByRecursion}
use Rattle.std.proofs.lemmas.Bool.{ne_eqb, cond-true, cond-false, false_from_ne_true, cases_Bool}
use Rattle.std.proofs.lemmas.Option.{none-some, same_Some}
use Rattle.std.proofs.lemmas.List.{append_cancel_left, take_at, drop_at}
use Rattle.abc_fields.specs.Bytes.{space, line_feed}
use Rattle.abc_fields.specs.Limits.{longest_tune}
use Rattle.abc_fields.specs.Tunes.{IsTextWithin}
use Rattle.tune_sets.specs.Names.{is_good_name}
use Rattle.tune_undo.specs.OldEntries.{AreNumbers, IsEntryPart}
use Rattle.tune_undo.specs.EntryBytes.{tune_line, book_tune, old_text, numbers_bytes, list_bytes, set_line, part_bytes, parts_bytes}
use Rattle.tune_undo.specs.Inside.ItemReading.{bytes_after, number_read}
use Rattle.tune_undo.specs.Inside.EntryLines.{tune_line_at, number_line_at, set_line_at, word_before_space, next_number}
use Rattle.tune_undo.specs.declared.part_lines.TuneLine.{TuneLine}
use Rattle.tune_undo.specs.declared.old_entries.After.{After}
use Rattle.tune_undo.specs.declared.old_entries.Part.{Part}
use Rattle.tune_undo.specs.declared.old_entries.Part.TheVariants.{Tune, Set}
use Rattle.tune_undo.proofs.FieldLaws.{bind_some, bind_is, after_takes, Free, decimal_free, number_again, number_takes}
use Rattle.tune_undo.proofs.WordLaws.{decimal_not_none}
use Rattle.tune_undo.proofs.LineLaws.{tune_line_again, number_line_again, number_line_takes, set_line_again, set_line_parts, set_line_takes}

-- two parts of one text with equal fronts by length are equal
pub cut : (a b x y : List ℕ) → length a ≡ length b → a ++ x ≡ b ++ y → (a ≡ b) × (x ≡ y)
cut a b x y same e = (
  sym (take_at a x (length a) refl) ∙ ap (take (length a)) e ∙ take_at b y (length a) (sym same),
  sym (drop_at a x (length a) refl) ∙ ap (drop (length a)) e ∙ drop_at b y (length a) (sym same),
)

-- NUMBERS
pub word_again : (word rest : List ℕ) → Free space word → word_before_space rest ≡ [] → word_before_space (word ++ rest) ≡ word
word_again [] rest free ends = ends
word_again (byte ∷ word) rest free ends =
    cond-false (byte == space) _ _ (ne_eqb byte space free.0) ∙ ap (λ t. byte ∷ t) (word_again word rest free.1 ends)

pub numbers_end : (numbers : List ℕ) → word_before_space (numbers_bytes numbers) ≡ []
numbers_end [] = refl
numbers_end (number ∷ numbers) = refl

pub next_again : (number : ℕ) (rest : List ℕ) → number < 2 ^ 32 → word_before_space rest ≡ [] → next_number ((codes " " ++ decimal number) ++ rest)
    ≡ Some (number, rest)
next_again number rest small ends =
    let word = word_again (decimal number) rest (decimal_free space number (omega arith) small) ends in
    bind_is (number_read (word_before_space (decimal number ++ rest))) _ number (ap number_read word ∙ number_again number small)
    ∙ ap (λ w. Some (number, drop (length w) (decimal number ++ rest))) word
    ∙ ap (λ t. Some (number, t)) (drop_at (decimal number) rest (length (decimal number)) refl)

-- numbers of which some are read are these and more
pub numbers_go : (so_far rest numbers : List ℕ) → AreNumbers so_far → AreNumbers numbers → word_before_space rest ≡ []
    → numbers_bytes so_far ++ rest ≡ numbers_bytes numbers
    → (more : List ℕ) × AreNumbers more × (rest ≡ numbers_bytes more) × (numbers ≡ so_far ++ more)
numbers_go [] rest numbers are others ends e = (numbers, others, e, refl)
numbers_go (n ∷ so_far) rest [] are others ends e = absurd (let l = ap length e in omega arith)
numbers_go (n ∷ so_far) rest (m ∷ numbers) are others ends e =
    let ends_first : word_before_space (numbers_bytes so_far ++ rest) ≡ [] = ends_go so_far rest ends in
    let same : Some (n, numbers_bytes so_far ++ rest) ≡ Some (m, numbers_bytes numbers) =
    sym (next_again n (numbers_bytes so_far ++ rest) are.0 ends_first) ∙ ap next_number
    (sym (append_assoc (codes " " ++ decimal n) (numbers_bytes so_far) rest) ∙ e)
    ∙ next_again m (numbers_bytes numbers) others.0 (numbers_end numbers) in
    let both = same_Some _ _ same in
    let head : m ≡ n = sym (ap (λ p. p.0) both) in
    let tail : numbers_bytes so_far ++ rest ≡ numbers_bytes numbers = ap (λ p. p.1) both in
    let go = numbers_go so_far rest numbers are.1 others.1 ends tail in
    (go.0, go.1, go.2, (λ i. head i ∷ go.3 i))
  where
    ends_go : (so_far rest : List ℕ) → word_before_space rest ≡ [] → word_before_space (numbers_bytes so_far ++ rest) ≡ []
    ends_go [] rest ends = ends
    ends_go (n ∷ so_far) rest ends = refl

pub numbers-append : (xs ys : List ℕ) → numbers_bytes (xs ++ ys) ≡ numbers_bytes xs ++ numbers_bytes ys
numbers-append [] ys = refl
numbers-append (x ∷ xs) ys = ap (λ t. (codes " " ++ decimal x) ++ t) (numbers-append xs ys)
    ∙ sym (append_assoc (codes " " ++ decimal x) (numbers_bytes xs) (numbers_bytes ys))

pub are-append : (xs : List ℕ) (x : ℕ) → AreNumbers xs → x < 2 ^ 32 → AreNumbers (xs ++ x ∷ [])
are-append [] x are small = (small, tt)
are-append (y ∷ xs) x are small = (are.0, are-append xs x are.1 small)

-- where a search for a space stops
pub word_first : (bytes : List ℕ) (i : ℕ) → i < length bytes → (slice_index bytes i == space) ≡ true
    → ((k : ℕ) → 0 ≤ k → k < i → (slice_index bytes k == space) ≡ true → ⊥) → word_before_space bytes ≡ take i bytes
word_first [] i l p none = absurd (omega arith)
word_first (byte ∷ bytes) zero l p none = cond-true (byte == space) _ _ p
word_first (byte ∷ bytes) (suc i) l p none =
    let no : (byte == space) ≡ false = false_from_ne_true _ (none 0 (omega arith) (omega arith)) in
    cond-false (byte == space) _ _ no ∙ ap (λ t. byte ∷ t) (word_first bytes i (omega arith) p (λ k low high. none (suc k) (omega arith) (omega arith)))

pub word_absent : (bytes : List ℕ) → ((k : ℕ) → 0 ≤ k → k < length bytes → (slice_index bytes k == space) ≡ true → ⊥) → word_before_space bytes ≡ bytes
word_absent [] none = refl
word_absent (byte ∷ bytes) none =
    let no : (byte == space) ≡ false = false_from_ne_true _ (none 0 (omega arith) (omega arith)) in
    cond-false (byte == space) _ _ no ∙ ap (λ t. byte ∷ t) (word_absent bytes (λ k low high. none (suc k) (omega arith) (omega arith)))

-- a number that is read, and what follows it
pub record NextRead (bytes : List ℕ) (number : ℕ) (rest : List ℕ) : Type 0 where
  pub whole : (codes " " ++ decimal number) ++ rest ≡ bytes
  pub small : number < 2 ^ 32
  pub ends : word_before_space rest ≡ []

word_split : (bytes : List ℕ) → (word_before_space bytes ++ drop (length (word_before_space bytes)) bytes ≡ bytes)
    × (word_before_space (drop (length (word_before_space bytes)) bytes) ≡ [])
word_split [] = (refl, refl)
word_split (byte ∷ bytes) = elim (cases_Bool (byte == space)) [
  | inl y ↦
      let none : word_before_space (byte ∷ bytes) ≡ [] = cond-true (byte == space) _ _ y in
      let P : List ℕ → Type 0 = λ w. (w ++ drop (length w) (byte ∷ bytes) ≡ byte ∷ bytes) × (word_before_space (drop (length w) (byte ∷ bytes)) ≡ []) in
      subst P (sym none) (refl, none)
  | inr n ↦
      let some : word_before_space (byte ∷ bytes) ≡ byte ∷ word_before_space bytes = cond-false (byte == space) _ _ n in
      let more = word_split bytes in
      let P : List ℕ → Type 0 = λ w. (w ++ drop (length w) (byte ∷ bytes) ≡ byte ∷ bytes) × (word_before_space (drop (length w) (byte ∷ bytes)) ≡ []) in
      subst P (sym some) (ap (λ t. byte ∷ t) more.0, more.1)
]

pub word_front : (bytes : List ℕ) → take (length (word_before_space bytes)) bytes ≡ word_before_space bytes
word_front bytes =
    let parts = word_split bytes in
    ap (take (length (word_before_space bytes))) (sym parts.0)
    ∙ take_at (word_before_space bytes) (drop (length (word_before_space bytes)) bytes) (length (word_before_space bytes)) refl

pub next_takes : (bytes : List ℕ) (r : ℕ × List ℕ) → next_number bytes ≡ Some r → NextRead bytes r.0 r.1
next_takes bytes r e =
    let front = bind_some (bytes_after (codes " ") bytes) _ r e in
    let n = bind_some (number_read (word_before_space front.0)) _ r front.2 in
    let number = number_takes (word_before_space front.0) n.0 n.1 in
    let parts = word_split front.0 in
    let P : ℕ × List ℕ → Type 0 = λ s. NextRead bytes s.0 s.1 in
    subst P (same_Some _ _ n.2) (record {
      whole = ap (λ w. codes " " ++ (w ++ drop (length (word_before_space front.0)) front.0)) (sym number.1) ∙ ap (λ t. codes " " ++ t) parts.0
          ∙ sym (after_takes (codes " ") bytes front.0 front.1);
      small = number.0;
      ends = parts.1;
    })

-- one number more is read
pub numbers_more : (numbers : List ℕ) (n : ℕ) (rest later bytes : List ℕ) → numbers_bytes numbers ++ rest ≡ bytes
    → (codes " " ++ decimal n) ++ later ≡ rest → numbers_bytes (numbers ++ n ∷ []) ++ later ≡ bytes
numbers_more numbers n rest later bytes same read =
    ap (λ t. t ++ later) (numbers-append numbers (n ∷ []) ∙ ap (λ t. numbers_bytes numbers ++ t) (append-nil (codes " " ++ decimal n)))
    ∙ append_assoc (numbers_bytes numbers) (codes " " ++ decimal n) later ∙ ap (λ t. numbers_bytes numbers ++ t) read ∙ same

-- where no number is read, these are no numbers
pub numbers_stop : (so_far rest numbers bytes : List ℕ) → AreNumbers so_far → word_before_space rest ≡ [] → numbers_bytes so_far ++ rest ≡ bytes
    → 0 < length rest → next_number rest ≡ None → AreNumbers numbers → numbers_bytes numbers ≡ bytes → ⊥
numbers_stop so_far rest numbers bytes are ends same some none others e =
    let go = numbers_go so_far rest numbers are others ends (same ∙ sym e) in
    stop go.0 rest go.1 go.2 some none
  where
    stop : (more rest : List ℕ) → AreNumbers more → rest ≡ numbers_bytes more → 0 < length rest → next_number rest ≡ None → ⊥
    stop [] rest are e some none = let l = ap length e in omega arith
    stop (m ∷ more) rest are e some none =
        none-some (m, numbers_bytes more) (sym none ∙ ap next_number e ∙ next_again m (numbers_bytes more) are.0 (numbers_end more))

-- the bytes of a list of numbers tell the list
pub numbers_same : (xs ys : List ℕ) → AreNumbers xs → AreNumbers ys → numbers_bytes xs ≡ numbers_bytes ys → xs ≡ ys
numbers_same xs ys are others e =
    let go = numbers_go xs [] ys are others refl (append-nil (numbers_bytes xs) ∙ e) in
    sym (go.3 ∙ ap (λ t. xs ++ t) (none_left go.0 go.2) ∙ append-nil xs)
  where
    none_left : (more : List ℕ) → [] ≡ numbers_bytes more → more ≡ []
    none_left [] e = refl
    none_left (m ∷ more) e = absurd (let l = ap length e in omega arith)

pub not_numbers : (numbers : List ℕ) → AreNumbers numbers → codes " none" ≡ numbers_bytes numbers → ⊥
not_numbers [] are e = let l = ap length e in omega arith
not_numbers (n ∷ numbers) are e =
    let word : codes "none" ≡ decimal n = ap (λ t. word_before_space (drop 1 t)) e
    ∙ word_again (decimal n) (numbers_bytes numbers) (decimal_free space n (omega arith) are.0) (numbers_end numbers) in
    decimal_not_none n are.0 (sym word)

pub list_same : (a b : Option (List ℕ)) → IfSome a AreNumbers → IfSome b AreNumbers → list_bytes a ≡ list_bytes b → a ≡ b
list_same None None are others e = refl
list_same None (Some ys) are others e = absurd (not_numbers ys others e)
list_same (Some xs) None are others e = absurd (not_numbers xs are (sym e))
list_same (Some xs) (Some ys) are others e = ap (λ t. Some t) (numbers_same xs ys are others e)

-- TUNES
pub book_tune_parts : (number : ℕ) (text later : List ℕ) → book_tune number text ++ later ≡ codes "X:" ++ (decimal number ++ (line_feed ∷ (text ++ later)))
book_tune_parts number text later = simp append_assoc

pub book_tune_again : (number : ℕ) (text later bytes : List ℕ) → number < 2 ^ 32 → book_tune number text ++ later ≡ bytes
    → number_line_at bytes ≡ Some (number, text ++ later)
book_tune_again number text later bytes small e =
    ap number_line_at (sym e ∙ book_tune_parts number text later) ∙ number_line_again number (text ++ later) small

-- the front of what follows the line is the text
pub text_front : (number other : ℕ) (text later rest bytes : List ℕ) (len : ℕ) → number < 2 ^ 32 → number_line_at bytes ≡ Some (other, rest)
    → length text ≡ len → book_tune number text ++ later ≡ bytes → (other ≡ number) × (len ≤ length rest) × (take len rest ≡ text)
text_front number other text later rest bytes len small read size e =
    let both = same_Some _ _ (sym read ∙ book_tune_again number text later bytes small e) in
    let whole : rest ≡ text ++ later = ap (λ p. p.1) both in
    (ap (λ p. p.0) both, omega (arith, ap length whole, length-append text later), ap (take len) whole ∙ take_at text later len size)

pub text_whole : (number other : ℕ) (text front later rest bytes : List ℕ) → number_line_at bytes ≡ Some (other, rest) → other ≡ number
    → rest ≡ front ++ later → text ≡ front → book_tune number text ++ later ≡ bytes
text_whole number other text front later rest bytes read same whole is =
    book_tune_parts number text later
    ∙ ap (λ n. codes "X:" ++ (decimal n ++ (line_feed ∷ (text ++ later)))) (sym same)
    ∙ ap (λ t. codes "X:" ++ (decimal other ++ (line_feed ∷ (t ++ later)))) is
    ∙ ap (λ t. codes "X:" ++ (decimal other ++ (line_feed ∷ t))) (sym whole) ∙ (number_line_takes bytes (other, rest) read).1

pub len_small : (was : Option (List ℕ)) → IfSome was (λ text. IsTextWithin longest_tune text) → IfSome (option_map length was) (λ n. n < 2 ^ 32)
len_small None is = tt
len_small (Some text) is = omega (arith, is.fits)

-- a tune at the front of bytes is read
pub tune_again : (number : ℕ) (was : Option (List ℕ)) (is : After) (later bytes : List ℕ) → IsEntryPart (Tune number was is)
    → part_bytes (Tune number was is) ++ later ≡ bytes
    → tune_line_at bytes ≡ Some (record { number = number; was = option_map length was; is = is }, old_text number was ++ later)
tune_again number was is later bytes part e =
    ap tune_line_at (sym e ∙ append_assoc (tune_line number (option_map length was) is) (old_text number was) later)
    ∙ tune_line_again number (option_map length was) is (old_text number was ++ later) part.0 (len_small was part.1.0) part.1.1

-- the text of a tune that stands at the front of what follows its line
pub record TextAfter (number len : ℕ) (rest later : List ℕ) : Type 0 where
  pub text : List ℕ
  pub good : IsTextWithin longest_tune text
  pub size : length text ≡ len
  pub whole : book_tune number text ++ (codes "\n" ++ later) ≡ rest

text_after : (number len : ℕ) (was : Option (List ℕ)) (rest later : List ℕ) → IfSome was (λ text. IsTextWithin longest_tune text)
    → option_map length was ≡ Some len → old_text number was ++ later ≡ rest → TextAfter number len rest later
text_after number len None rest later good size e = absurd (none-some len size)
text_after number len (Some text) rest later good size e =
    record { text = text; good = good; size = same_Some _ _ size; whole = sym (append_assoc (book_tune number text) (codes "\n") later) ∙ e }

pub tune_front : (number : ℕ) (was : Option (List ℕ)) (is : After) (later bytes rest : List ℕ) (line : TuneLine) (len : ℕ)
    → IsEntryPart (Tune number was is) → part_bytes (Tune number was is) ++ later ≡ bytes → tune_line_at bytes ≡ Some (line, rest) → line.was ≡ Some len
    → TextAfter line.number len rest later
tune_front number was is later bytes rest line len part e read size =
    let both = same_Some _ _ (sym (tune_again number was is later bytes part e) ∙ read) in
    let line_same = ap (λ p. p.0) both in
    let P : ℕ → Type 0 = λ n. TextAfter n len rest later in
    subst P (ap (λ l. l.number) line_same)
    (text_after number len was rest later part.1.0 (ap (λ l. l.was) line_same ∙ size) (ap (λ p. p.1) both))

-- a text and the empty line after it
pub text_ends : (number len : ℕ) (text rest found later : List ℕ) → length text ≡ len → book_tune number text ++ found ≡ rest
    → TextAfter number len rest later → bytes_after (codes "\n") found ≡ Some later
text_ends number len text rest found later size e front =
    let long : length (book_tune number text) ≡ length (book_tune number front.text) =
    omega (arith, length-append (decimal number) (line_feed ∷ text), length-append (decimal number) (line_feed ∷ front.text), size, front.size) in
    ap (bytes_after (codes "\n")) (cut (book_tune number text) (book_tune number front.text) found (codes "\n" ++ later) long (e ∙ sym front.whole)).1

pub tune_none_whole : (number : ℕ) (was : Option ℕ) (is : After) (rest bytes : List ℕ) → tune_line number was is ++ rest ≡ bytes → was ≡ None
    → part_bytes (Tune number None is) ++ rest ≡ bytes
tune_none_whole number was is rest bytes e none =
    append_assoc (tune_line number None is) [] rest ∙ ap (λ w. tune_line number w is ++ rest) (sym none) ∙ e

pub tune_whole : (number len : ℕ) (was : Option ℕ) (is : After) (text rest found later bytes : List ℕ) → tune_line number was is ++ rest ≡ bytes
    → was ≡ Some len → length text ≡ len → book_tune number text ++ found ≡ rest → bytes_after (codes "\n") found ≡ Some later
    → part_bytes (Tune number (Some text) is) ++ later ≡ bytes
tune_whole number len was is text rest found later bytes e some size whole ends =
    append_assoc (tune_line number (Some (length text)) is) (book_tune number text ++ codes "\n") later
    ∙ (λ i. tune_line number (Some (size i)) is ++ append_assoc (book_tune number text) (codes "\n") later i)
    ∙ ap (λ t. tune_line number (Some len) is ++ (book_tune number text ++ t)) (sym (after_takes (codes "\n") found later ends))
    ∙ (λ i. tune_line number (some_back i) is ++ whole i) ∙ e
  where
    some_back : Some len ≡ was
    some_back = sym some

-- SET LISTS
pub set_again : (name word : List ℕ) (list : Option (List ℕ)) (later bytes : List ℕ) → is_good_name name ≡ true → IfSome list AreNumbers
    → set_line name (space ∷ word) list ++ later ≡ bytes → set_line_at word bytes ≡ Some (name, list_bytes list, later)
set_again name word list later bytes good are e = ap (set_line_at word) (sym e) ∙ set_line_again name word list later good are

pub set_whole : (name given word numbers : List ℕ) (list : Option (List ℕ)) (later bytes : List ℕ) → set_line_at word bytes ≡ Some (given, numbers, later)
    → name ≡ given → list_bytes list ≡ numbers → set_line name (space ∷ word) list ++ later ≡ bytes
set_whole name given word numbers list later bytes read named same =
    set_line_parts name word list later
    ∙ ap (λ n. codes "% set " ++ (n ++ (space ∷ (word ++ (list_bytes list ++ (line_feed ∷ later)))))) named
    ∙ ap (λ t. codes "% set " ++ (given ++ (space ∷ (word ++ (t ++ (line_feed ∷ later)))))) same
    ∙ set_line_takes word bytes (given, numbers, later) read

-- a line of a set list at the front of bytes is the only one
pub set_line_same : (name other word : List ℕ) (list given : Option (List ℕ)) (x y : List ℕ) → is_good_name name ≡ true → is_good_name other ≡ true
    → IfSome list AreNumbers → IfSome given AreNumbers → set_line name (space ∷ word) list ++ x ≡ set_line other (space ∷ word) given ++ y
    → (name ≡ other) × (list ≡ given) × (x ≡ y)
set_line_same name other word list given x y good fine are others e =
    let both = same_Some _ _ (sym (set_line_again name word list x good are) ∙ ap (set_line_at word) e ∙ set_line_again other word given y fine others) in
    (ap (λ p. p.0) both, list_same list given are others (ap (λ p. p.1) both), ap (λ p. p.2) both)

pub set_parts : (name : List ℕ) (was is : Option (List ℕ)) (later : List ℕ) → part_bytes (Set name was is) ++ later
    ≡ set_line name (codes " was") was ++ (set_line name (codes " is") is ++ later)
set_parts name was is later = append_assoc (set_line name (codes " was") was) (set_line name (codes " is") is) later

-- what follows the first line of a set list
pub set_second : (name given : List ℕ) (was is found : Option (List ℕ)) (later rest bytes : List ℕ) → IsEntryPart (Set name was is)
    → part_bytes (Set name was is) ++ later ≡ bytes → is_good_name given ≡ true → IfSome found AreNumbers
    → set_line given (codes " was") found ++ rest ≡ bytes → (name ≡ given) × (set_line name (codes " is") is ++ later ≡ rest)
set_second name given was is found later rest bytes part e good are read =
    let same = set_line_same name given (codes "was") was found (set_line name (codes " is") is ++ later) rest part.0 good part.1.0 are
    (sym (set_parts name was is later) ∙ e ∙ sym read) in
    (same.0, same.2)

pub set_both : (name other : List ℕ) (was is : Option (List ℕ)) (rest later bytes : List ℕ) → set_line name (codes " was") was ++ rest ≡ bytes
    → set_line other (codes " is") is ++ later ≡ rest → other ≡ name → part_bytes (Set name was is) ++ later ≡ bytes
set_both name other was is rest later bytes first second same =
    set_parts name was is later
    ∙ ap (λ n. set_line name (codes " was") was ++ (set_line n (codes " is") is ++ later)) (sym same)
    ∙ ap (λ t. set_line name (codes " was") was ++ t) second ∙ first

-- PARTS
old_split : (number : ℕ) (text rest : List ℕ) → old_text number (Some text) ++ rest
    ≡ (codes "X:" ++ (decimal number ++ (line_feed ∷ []))) ++ (text ++ (line_feed ∷ rest))
old_split number text rest = simp append_assoc

-- a part at the front of bytes is the only one
tune_same : (number other : ℕ) (was found : Option (List ℕ)) (is given : After) (x y : List ℕ) → IsEntryPart (Tune number was is)
    → IsEntryPart (Tune other found given)
    → part_bytes (Tune number was is) ++ x ≡ part_bytes (Tune other found given) ++ y → (Tune number was is ≡ Tune other found given) × (x ≡ y)
tune_same number other was found is given x y part fine e =
    let both = same_Some _ _ (sym (tune_again number was is x _ part e) ∙ tune_again other found given y _ fine refl) in
    let line = ap (λ p. p.0) both in
    let number_same : number ≡ other = ap (λ l. l.number) line in
    let texts = texts_same other was found x y (ap (λ l. l.was) line)
    (ap (λ n. old_text n was ++ x) (sym number_same) ∙ ap (λ p. p.1) both) in
    ((λ i. Tune (number_same i) (texts.0 i) (line i).is), texts.1)
  where
    texts_same : (number : ℕ) (was found : Option (List ℕ)) (x y : List ℕ) → option_map length was ≡ option_map length found
        → old_text number was ++ x ≡ old_text number found ++ y → (was ≡ found) × (x ≡ y)
    texts_same number None None x y size e = (refl, e)
    texts_same number None (Some text) x y size e = absurd (none-some _ size)
    texts_same number (Some text) None x y size e = absurd (none-some _ (sym size))
    texts_same number (Some text) (Some other) x y size e =
        let same_size : length text ≡ length other = same_Some _ _ size in
        let front : List ℕ = codes "X:" ++ (decimal number ++ (line_feed ∷ [])) in
        let tails : text ++ (line_feed ∷ x) ≡ other ++ (line_feed ∷ y) = append_cancel_left front (text ++ (line_feed ∷ x)) (other ++ (line_feed ∷ y))
        (sym (old_split number text x) ∙ e ∙ old_split number other y) in
        let parts = cut text other (line_feed ∷ x) (line_feed ∷ y) same_size tails in
        (ap (λ t. Some t) parts.0, ap (drop 1) parts.1)

set_same : (name other : List ℕ) (was found is given : Option (List ℕ)) (x y : List ℕ) → IsEntryPart (Set name was is) → IsEntryPart (Set other found given)
    → part_bytes (Set name was is) ++ x ≡ part_bytes (Set other found given) ++ y → (Set name was is ≡ Set other found given) × (x ≡ y)
set_same name other was found is given x y part fine e =
    let first = set_line_same name other (codes "was") was found _ _ part.0 fine.0 part.1.0 fine.1.0
    (sym (set_parts name was is x) ∙ e ∙ set_parts other found given y) in
    let second = set_line_same name other (codes "is") is given x y part.0 fine.0 part.1.1 fine.1.1 first.2 in
    ((λ i. Set (first.0 i) (first.1 i) (second.1 i)), second.2)

pub part_same : (p q : Part) (x y : List ℕ) → IsEntryPart p → IsEntryPart q → part_bytes p ++ x ≡ part_bytes q ++ y → (p ≡ q) × (x ≡ y)
part_same (Tune number was is) (Tune other found given) x y part fine e = tune_same number other was found is given x y part fine e
part_same (Set name was is) (Set other found given) x y part fine e = set_same name other was found is given x y part fine e
part_same (Tune number was is) (Set other found given) x y part fine e = absurd (let third : 116 ≡ 115 = ap (λ t. slice_index t 2) e in omega arith)
part_same (Set name was is) (Tune other found given) x y part fine e = absurd (let third : 115 ≡ 116 = ap (λ t. slice_index t 2) e in omega arith)

-- where neither a tune nor a set list is read, no part is
pub part_none : (bytes : List ℕ) → ((number : ℕ) (was : Option (List ℕ)) (is : After) (later : List ℕ) → IsEntryPart (Tune number was is)
    → part_bytes (Tune number was is) ++ later ≡ bytes → ⊥)
    → ((name : List ℕ) (was is : Option (List ℕ)) (later : List ℕ) → IsEntryPart (Set name was is) → part_bytes (Set name was is) ++ later ≡ bytes → ⊥)
    → (p : Part) (later : List ℕ) → IsEntryPart p → part_bytes p ++ later ≡ bytes → ⊥
part_none bytes tunes sets (Tune number was is) later part e = tunes number was is later part e
part_none bytes tunes sets (Set name was is) later part e = sets name was is later part e

pub if_none : {X P Q : Type 0} (o : Option X) → (P → Q) → IfNone o P → IfNone o Q
if_none None f p = f p
if_none (Some x) f p = tt

pub parts-append : (ps qs : List Part) → parts_bytes (ps ++ qs) ≡ parts_bytes ps ++ parts_bytes qs
parts-append [] qs = refl
parts-append (p ∷ ps) qs = ap (λ t. part_bytes p ++ t) (parts-append ps qs) ∙ sym (append_assoc (part_bytes p) (parts_bytes ps) (parts_bytes qs))

pub are_parts-append : (ps : List Part) (p : Part) → AllByRecursion IsEntryPart ps → IsEntryPart p → AllByRecursion IsEntryPart (ps ++ p ∷ [])
are_parts-append [] p are part = (part, tt)
are_parts-append (q ∷ ps) p are part = (are.0, are_parts-append ps p are.1 part)

-- a part has bytes
pub part_some : (p : Part) (rest : List ℕ) → 0 < length (part_bytes p ++ rest)
part_some (Tune number was is) rest = omega arith
part_some (Set name was is) rest = omega arith

pub parts_more : (parts : List Part) (p : Part) (rest later bytes : List ℕ) → parts_bytes parts ++ rest ≡ bytes → part_bytes p ++ later ≡ rest
    → parts_bytes (parts ++ p ∷ []) ++ later ≡ bytes
parts_more parts p rest later bytes same read =
    ap (λ t. t ++ later) (parts-append parts (p ∷ []) ∙ ap (λ t. parts_bytes parts ++ t) (append-nil (part_bytes p)))
    ∙ append_assoc (parts_bytes parts) (part_bytes p) later ∙ ap (λ t. parts_bytes parts ++ t) read ∙ same

-- parts of which some are read are these and more
pub parts_go : (so_far : List Part) (rest : List ℕ) (parts : List Part) → AllByRecursion IsEntryPart so_far → AllByRecursion IsEntryPart parts
    → parts_bytes so_far ++ rest ≡ parts_bytes parts
    → (more : List Part) × AllByRecursion IsEntryPart more × (rest ≡ parts_bytes more) × (parts ≡ so_far ++ more)
parts_go [] rest parts are others e = (parts, others, e, refl)
parts_go (p ∷ so_far) rest [] are others e =
    absurd (let some = part_some p (parts_bytes so_far ++ rest) in
    let none = ap length (sym (append_assoc (part_bytes p) (parts_bytes so_far) rest) ∙ e) in omega arith)
parts_go (p ∷ so_far) rest (q ∷ parts) are others e =
    let same = part_same p q (parts_bytes so_far ++ rest) (parts_bytes parts) are.0 others.0
    (sym (append_assoc (part_bytes p) (parts_bytes so_far) rest) ∙ e) in
    let go = parts_go so_far rest parts are.1 others.1 same.1 in
    (go.0, go.1, go.2, (let head : q ≡ p = sym same.0 in λ i. head i ∷ go.3 i))

pub parts_stop : (so_far : List Part) (rest : List ℕ) (parts : List Part) (bytes : List ℕ) → AllByRecursion IsEntryPart so_far
    → parts_bytes so_far ++ rest ≡ bytes → 0 < length rest → ((p : Part) (later : List ℕ) → IsEntryPart p → part_bytes p ++ later ≡ rest → ⊥)
    → AllByRecursion IsEntryPart parts → parts_bytes parts ≡ bytes → ⊥
parts_stop so_far rest parts bytes are same some none others e =
    let go = parts_go so_far rest parts are others (same ∙ sym e) in
    stop go.0 rest go.1 go.2 some none
  where
    stop : (more : List Part) (rest : List ℕ) → AllByRecursion IsEntryPart more → rest ≡ parts_bytes more → 0 < length rest
        → ((p : Part) (later : List ℕ) → IsEntryPart p → part_bytes p ++ later ≡ rest → ⊥) → ⊥
    stop [] rest are e some none = let l = ap length e in omega arith
    stop (p ∷ more) rest are e some none = none p (parts_bytes more) are.0 (sym e)

-- the bytes of parts tell the parts
pub parts_same : (ps qs : List Part) → AllByRecursion IsEntryPart ps → AllByRecursion IsEntryPart qs → parts_bytes ps ≡ parts_bytes qs → ps ≡ qs
parts_same ps qs are others e =
    let go = parts_go ps [] qs are others (append-nil (parts_bytes ps) ∙ e) in
    sym (go.3 ∙ ap (λ t. ps ++ t) (none_left go.0 go.2) ∙ append-nil ps)
  where
    none_left : (more : List Part) → [] ≡ parts_bytes more → more ≡ []
    none_left [] e = refl
    none_left (p ∷ more) e = absurd (let some = part_some p (parts_bytes more) in let l = ap length e in omega arith)
