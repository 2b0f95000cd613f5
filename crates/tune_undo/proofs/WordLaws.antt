-- Words that are written are read, and words that are read were written so.
use Rattle.std.proofs.Common.{◌≡◌, ℕ, ◌^◌, ◌<◌, ◌≤◌, false, cond, List, ◌++◌, length}
use Rattle.std.proofs.Common.{◌⊎◌, inl, inr, refl, ap, sym, subst, ◌∙◌, arith}
use Rattle.std.specs.Prelude.{◌==◌, Option, None, Some, codes, decimal, IfSome}
use Rattle.std.specs.Str.{bytes_eq}
use Rattle.std.specs.Str.Parse.{AllDigits}
use Rattle.std.proofs.lemmas.Bool.{eqb-true, eq-eqb, ne_eqb, cond-true, cond-false, false_from_ne_true}
use Rattle.std.proofs.lemmas.Option.{none-some, same_Some}
use Rattle.std.proofs.lemmas.Fmt.{decimal_is_IsNumeral, length-decimal-le}
use Rattle.hex.specs.Hex.{encode_lower, decode_sized}
use Rattle.tune_undo.specs.OldEntries.{IsAfter}
use Rattle.tune_undo.specs.EntryBytes.{after_word, length_word, kind_word, mark_word, IsMark}
use Rattle.tune_undo.specs.Inside.ItemReading.{◌>>=◌, bytes_after, number_read, length_of, after_of_word, kind_read, mark_of}
use Rattle.tune_undo.specs.Inside.SumWords.{sum_of}
use Rattle.tune_undo.specs.declared.old_entries.EntryKind.{EntryKind}
use Rattle.tune_undo.specs.declared.old_entries.EntryKind.TheVariants as kind
use Rattle.tune_undo.specs.declared.old_entries.After.{After}
use Rattle.tune_undo.specs.declared.old_entries.After.TheVariants.{Nothing, Text, Revision}
use Rattle.tune_undo.specs.declared.old_entries.Mark.{Mark}
use Rattle.tune_undo.specs.declared.old_entries.Mark.TheVariants.{NotDone, Undone, Undoing}
use Rattle.tune_undo.proofs.SumLaws.{is_word, length_digits, sum_again, sum_takes_from}
use Rattle.tune_undo.proofs.FieldLaws.{bind_some, bind_is, chosen, after_takes, number_again, number_takes}

-- LENGTHS
pub decimal_not_none : (n : ℕ) → n < 2 ^ 32 → decimal n ≡ codes "none" → ⊥
decimal_not_none n small e =
    let are : AllDigits 10 (codes "none") = subst (AllDigits 10) e (decimal_is_IsNumeral n (omega arith)).0.1 in
    omega (arith, are.0)

pub length_again : (was : Option ℕ) → IfSome was (λ n. n < 2 ^ 32) → length_of (length_word was) ≡ Some was
length_again None small = refl
length_again (Some n) small =
    let no : bytes_eq (decimal n) (codes "none") ≡ false = false_from_ne_true _ (λ y. decimal_not_none n small (is_word _ _ y)) in
    cond-false _ _ _ no ∙ bind_is (number_read (decimal n)) _ n (number_again n small)

pub length_takes : (word : List ℕ) (was : Option ℕ) → length_of word ≡ Some was → IfSome was (λ n. n < 2 ^ 32) × (word ≡ length_word was)
length_takes word was e =
    let P : Option ℕ → Type 0 = λ o. IfSome o (λ n. n < 2 ^ 32) × (word ≡ length_word o) in
    elim (chosen (bytes_eq word (codes "none")) _ _ _ e) [
      | inl h ↦ subst P (same_Some _ _ h.1) (tt, is_word _ _ h.0)
      | inr h ↦
          let n = bind_some (number_read word) (λ len. Some (Some len)) was h.1 in
          subst P (same_Some _ _ n.2) (number_takes word n.0 n.1)
    ]

-- AFTER A CHANGE
pub after_word_again : (is : After) → IsAfter is → after_of_word (after_word is) ≡ Some is
after_word_again Nothing good = refl
after_word_again (Text sum) good =
    cond-true _ _ _ (eq-eqb _ _ (length_digits sum good)) ∙ bind_is (sum_of (encode_lower sum)) _ sum (sum_again sum good)
after_word_again (Revision revision) good =
    let short : length (decimal revision) ≤ 10 = length-decimal-le 10 revision (omega arith) (omega arith) (omega arith) in
    let long : ℕ = length (codes "revision " ++ decimal revision) in
    let other : (long == 64) ≡ false = ne_eqb long 64 (λ e. omega (arith, e, short)) in
    cond-false (long == 64) _ _ other ∙ bind_is (number_read (decimal revision)) _ revision (number_again revision good)

pub after_of_takes : (word : List ℕ) (is : After) → after_of_word word ≡ Some is → IsAfter is × (word ≡ after_word is)
after_of_takes word is e =
    let P : After → Type 0 = λ a. IsAfter a × (word ≡ after_word a) in
    elim (chosen (length word == 64) _ _ _ e) [
      | inl h ↦
          let s = bind_some (sum_of word) (λ sum. Some (Text sum)) is h.1 in
          subst P (same_Some _ _ s.2) (sum_takes_from word s.0 (decode_sized word 32) (eqb-true _ _ h.0) s.1)
      | inr h ↦ elim (chosen (bytes_eq word (codes "none")) _ _ _ h.1) [
        | inl n ↦ subst P (same_Some _ _ n.1) (tt, is_word _ _ n.0)
        | inr n ↦
            let r = bind_some (bytes_after (codes "revision ") word) (λ rest. number_read rest >>= λ n. Some (Revision n)) is n.1 in
            let m = bind_some (number_read r.0) (λ n. Some (Revision n)) is r.2 in
            let number = number_takes r.0 m.0 m.1 in
            subst P (same_Some _ _ m.2) (number.0, after_takes (codes "revision ") word r.0 r.1 ∙ ap (λ t. codes "revision " ++ t) number.1)
      ]
    ]

-- KINDS
pub kind_again : (k : EntryKind) → kind_read (kind_word k) ≡ Some k
kind_again kind.Delete = refl
kind_again kind.Replace = refl
kind_again kind.Put = refl
kind_again kind.Cut = refl
kind_again kind.Move = refl
kind_again kind.Drop = refl
kind_again kind.Add = refl
kind_again kind.AddMore = refl
kind_again kind.Load = refl
kind_again kind.Kept = refl

-- one more word that was asked for
asked : (word other : List ℕ) (k found : EntryKind) (more : Option EntryKind) → kind_word k ≡ other
    → cond (bytes_eq word other) (Some k) more ≡ Some found → (more ≡ Some found → word ≡ kind_word found) → word ≡ kind_word found
asked word other k found more spelled e go = elim (chosen (bytes_eq word other) _ _ _ e) [
  | inl h ↦ is_word _ _ h.0 ∙ sym spelled ∙ ap kind_word (same_Some _ _ h.1)
  | inr h ↦ go h.1
]

pub kind_takes : (word : List ℕ) (k : EntryKind) → kind_read word ≡ Some k → word ≡ kind_word k
kind_takes word k e =
    asked word (codes "delete") kind.Delete k _ refl e (λ e. asked word (codes "replace") kind.Replace k _ refl e
    (λ e. asked word (codes "put") kind.Put k _ refl e (λ e. asked word (codes "cut") kind.Cut k _ refl e
    (λ e. asked word (codes "move") kind.Move k _ refl e (λ e. asked word (codes "drop") kind.Drop k _ refl e
    (λ e. asked word (codes "add") kind.Add k _ refl e (λ e. asked word (codes "add-more") kind.AddMore k _ refl e
    (λ e. asked word (codes "load") kind.Load k _ refl e
    (λ e. asked word (codes "kept") kind.Kept k None refl e (λ e. absurd (none-some k e)))))))))))

-- MARKS
pub mark_again : (mark : Mark) → IsMark mark → mark_of (mark_word mark) ≡ Some mark
mark_again NotDone good = refl
mark_again Undone good = refl
mark_again (Undoing greatest) good = bind_is (number_read (decimal greatest)) _ greatest (number_again greatest good)

-- how the word of a mark is written
abbrev pub IsMarkWord : List ℕ → Mark → Type 0
IsMarkWord word mark = (IsMark mark × (word ≡ mark_word mark)) ⊎ ((word ≡ codes "undoing") × (mark ≡ Undoing 0))

pub mark_takes : (word : List ℕ) (mark : Mark) → mark_of word ≡ Some mark → IsMarkWord word mark
mark_takes word mark e =
    let P : Mark → Type 0 = IsMarkWord word in
    elim (chosen (bytes_eq word (codes "not done")) _ _ _ e) [
      | inl h ↦ subst P (same_Some _ _ h.1) (inl (tt, is_word _ _ h.0))
      | inr h ↦ elim (chosen (bytes_eq word (codes "undone")) _ _ _ h.1) [
        | inl h ↦ subst P (same_Some _ _ h.1) (inl (tt, is_word _ _ h.0))
        | inr h ↦ elim (chosen (bytes_eq word (codes "undoing")) _ _ _ h.1) [
          | inl h ↦ subst P (same_Some _ _ h.1) (inr (is_word _ _ h.0, refl))
          | inr h ↦
              let r = bind_some (bytes_after (codes "undoing ") word) (λ rest. number_read rest >>= λ n. Some (Undoing n)) mark h.1 in
              let m = bind_some (number_read r.0) (λ n. Some (Undoing n)) mark r.2 in
              let number = number_takes r.0 m.0 m.1 in
              subst P (same_Some _ _ m.2) (inl (number.0, after_takes (codes "undoing ") word r.0 r.1 ∙ ap (λ t. codes "undoing " ++ t) number.1))
        ]
      ]
    ]
