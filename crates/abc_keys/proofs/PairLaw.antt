-- A word leaves one signature: the one that is read byte by byte. So do the words of a text.
use Rattle.std.proofs.Common.{arith, ◌≡◌, ◌⊎◌, inl, inr, ℕ, List, [], ◌∷◌, ◌++◌, Bool, true, false}
use Rattle.std.proofs.Common.{Option, Some, None, refl, sym, ap, ◌∙◌, subst, append_assoc, cond}
use Rattle.std.specs.Prelude.{unwrap_or}
use Rattle.std.specs.List.{fold, slice_split}
use Rattle.abc_fields.specs.Bytes.{is_blank}
use Rattle.std.specs.Option.{option_map_or}
use Rattle.std.proofs.lemmas.Bool.Decides.{nat_tests}
use Rattle.abc_keys.specs.declared.letters.Letter.{Letter}
use Rattle.abc_keys.specs.declared.letters.Accidental.{Accidental}
use Rattle.abc_keys.specs.declared.letters.Accidental.TheVariants.{DoubleFlat, Flat, Natural, Sharp}
use Rattle.abc_keys.specs.declared.letters.Accidental.TheVariants.{DoubleSharp}
use Rattle.abc_keys.specs.declared.signatures.Signature.{Signature}
use Rattle.abc_fields.specs.Bytes.{is_one_of}
use Rattle.abc_keys.specs.Letters.{letter_of, spelling, accidental_of, doubled}
use Rattle.abc_keys.specs.Signatures.{with_accidental}
use Rattle.abc_keys.specs.Pairs.{Setting, AreSpelled, IsNoPairs, with_settings}
use Rattle.abc_keys.specs.Pairs.{WordLeaves, by_pairs, by_others, EachLeaves, WordsLeave}
use Rattle.abc_keys.specs.Accidentals.{with_word, with_words}
use Rattle.abc_keys.specs.Inside.PairSteps.{changed_by_pairs}

-- WORDS OF PAIRS CHANGE A SIGNATURE
-- an accidental and a letter after it set the letter
after_spelling : (s : Signature) (accidental : Accidental) (byte : ℕ) (rest : List ℕ)
    (letter : Letter) → letter_of byte ≡ Some letter
    → changed_by_pairs s None (spelling accidental ++ (byte ∷ rest)) ≡ changed_by_pairs
    (with_accidental s letter accidental) None rest
after_spelling s DoubleFlat byte rest letter names = rw names refl
after_spelling s Flat byte rest letter names = rw names refl
after_spelling s Natural byte rest letter names = rw names refl
after_spelling s Sharp byte rest letter names = rw names refl
after_spelling s DoubleSharp byte rest letter names = rw names refl

pairs_change : (s : Signature) (pairs : List Setting) (word : List ℕ) → AreSpelled pairs word
    → changed_by_pairs s None word ≡ Some (with_settings s pairs)
pairs_change s [] word spelled = ap (changed_by_pairs s None) spelled
pairs_change s (p ∷ pairs) word (byte, rest, names, whole, more) =
    ap (changed_by_pairs s None) whole ∙ after_spelling s p.accidental byte rest p.letter names
    ∙ pairs_change (with_accidental s p.letter p.accidental) pairs rest more

-- WORDS THAT CHANGE A SIGNATURE ARE PAIRS
-- the accidental that has begun, as it is written
abbrev begun : Option Accidental → List ℕ
begun None = []
begun (Some accidental) = spelling accidental

-- pairs, of which the first may have begun before the word
abbrev ArePairs : Option Accidental → List ℕ → Type 0
ArePairs before word = (pairs : List Setting) × AreSpelled pairs (begun before ++ word)

-- a byte of one is that byte
is_byte : (byte b : ℕ) → is_one_of (b ∷ []) byte ≡ true → byte ≡ b
is_byte byte b is = grind (arith, nat_tests)

-- a byte that is one accidental is its spelling
one_byte : (byte : ℕ) (accidental : Accidental) → accidental_of byte ≡ Some accidental
    → spelling accidental ≡ byte ∷ []
one_byte byte accidental is =
    by_tests (is_one_of (94 ∷ []) byte) (is_one_of (95 ∷ []) byte)
    (is_one_of (61 ∷ []) byte) refl refl refl is
  where
    spelled : (a : Accidental) (b : ℕ) → spelling a ≡ b ∷ [] → byte ≡ b → Some a ≡ Some accidental
        → spelling accidental ≡ byte ∷ []
    spelled a b one same chosen = let here : a ≡ accidental = cc in sym (ap spelling here) ∙ one
        ∙ ap (λ x. x ∷ []) (sym same)

    by_tests : (sharp flat natural : Bool) → is_one_of (94 ∷ []) byte ≡ sharp
        → is_one_of (95 ∷ []) byte ≡ flat → is_one_of (61 ∷ []) byte ≡ natural
        → cond sharp (Some Sharp)
        (cond flat (Some Flat) (cond natural (Some Natural) None)) ≡ Some accidental
        → spelling accidental ≡ byte ∷ []
    by_tests true flat natural s f n chosen = spelled Sharp 94 refl (is_byte byte 94 s) chosen
    by_tests false true natural s f n chosen = spelled Flat 95 refl (is_byte byte 95 f) chosen
    by_tests false false true s f n chosen = spelled Natural 61 refl (is_byte byte 61 n) chosen
    by_tests false false false s f n chosen = absurd (cc)

-- and a second byte that doubles it ends its spelling
two_bytes : (byte : ℕ) (accidental twice : Accidental) → doubled accidental byte ≡ Some twice
    → spelling twice ≡ spelling accidental ++ byte ∷ []
two_bytes byte Sharp twice is = by_test (is_one_of (94 ∷ []) byte) refl is
  where
    by_test : (same : Bool) → is_one_of (94 ∷ []) byte ≡ same
        → cond same (Some DoubleSharp) None ≡ Some twice → spelling twice ≡ 94 ∷ byte ∷ []
    by_test true s chosen = let here : DoubleSharp ≡ twice = cc in sym (ap spelling here)
        ∙ ap (λ x. 94 ∷ x ∷ []) (sym (is_byte byte 94 s))
    by_test false s chosen = absurd (cc)
two_bytes byte Flat twice is = by_test (is_one_of (95 ∷ []) byte) refl is
  where
    by_test : (same : Bool) → is_one_of (95 ∷ []) byte ≡ same
        → cond same (Some DoubleFlat) None ≡ Some twice → spelling twice ≡ 95 ∷ byte ∷ []
    by_test true s chosen = let here : DoubleFlat ≡ twice = cc in sym (ap spelling here)
        ∙ ap (λ x. 95 ∷ x ∷ []) (sym (is_byte byte 95 s))
    by_test false s chosen = absurd (cc)
two_bytes byte DoubleFlat twice is = absurd (cc)
two_bytes byte Natural twice is = absurd (cc)
two_bytes byte DoubleSharp twice is = absurd (cc)

-- what leads to a signature is pairs
abbrev LeadsToPairs : List ℕ → Type 0
LeadsToPairs word = (s after : Signature) (before : Option Accidental)
    → changed_by_pairs s before word ≡ Some after → ArePairs before word

-- a byte before a word begins an accidental
begins_pairs : (s after : Signature) (byte : ℕ) (word : List ℕ) (accidental : Option Accidental)
    → accidental_of byte ≡ accidental → LeadsToPairs word
    → option_map_or (λ a. changed_by_pairs s (Some a) word) accidental None ≡ Some after
    → ArePairs None (byte ∷ word)
begins_pairs s after byte word None e leads is = absurd (cc)
begins_pairs s after byte word (Some a) e leads is =
    let later = leads s after (Some a) is in (
      later.0,
      subst (λ (front : List ℕ). AreSpelled later.0 (front ++ word))
          (one_byte byte a e) later.1,
    )

-- or it ends a pair that has begun, or doubles its accidental
goes_on_with_pairs : (s after : Signature) (a : Accidental) (byte : ℕ) (word : List ℕ)
    (letter : Option Letter) (twice : Option Accidental)
    → letter_of byte ≡ letter → doubled a byte ≡ twice → LeadsToPairs word
    → option_map_or (λ l. changed_by_pairs (with_accidental s l a) None word) letter
    (option_map_or (λ b. changed_by_pairs s (Some b) word) twice None) ≡ Some after
    → ArePairs (Some a) (byte ∷ word)
goes_on_with_pairs s after a byte word (Some l) twice e f leads is =
    let later = leads (with_accidental s l a) after None is in
    (record { letter = l; accidental = a } ∷ later.0, (byte, word, e, refl, later.1))
goes_on_with_pairs s after a byte word None (Some b) e f leads is =
    let later = leads s after (Some b) is in (
      later.0,
      subst (λ (all : List ℕ). AreSpelled later.0 all)
          (ap (λ front. front ++ word) (two_bytes byte a b f)
          ∙ append_assoc (spelling a) (byte ∷ []) word) later.1,
    )
goes_on_with_pairs s after a byte word None None e f leads is = absurd (cc)

change_pairs : (word : List ℕ) → LeadsToPairs word
change_pairs [] s after None is = ([], refl)
change_pairs [] s after (Some a) is = absurd (cc)
change_pairs (byte ∷ word) s after None is =
    begins_pairs s after byte word (accidental_of byte) refl (change_pairs word) is
change_pairs (byte ∷ word) s after (Some a) is =
    goes_on_with_pairs s after a byte word (letter_of byte) (doubled a byte) refl refl
    (change_pairs word) is

-- THE SIGNATURE THAT A WORD LEAVES
-- a word of pairs sets them
pub pairs_set : (s : Signature) (pairs : List Setting) (word : List ℕ) → AreSpelled pairs word
    → with_word s word ≡ with_settings s pairs
pairs_set s pairs word spelled =
    ap (λ changed. unwrap_or changed s) (pairs_change s pairs word spelled)

-- the word is pairs, or none
pub is_pairs_or_none : (s : Signature) (word : List ℕ) (changed : Option Signature)
    → changed_by_pairs s None word ≡ changed
    → IsNoPairs word ⊎ ((pairs : List Setting) × AreSpelled pairs word)
is_pairs_or_none s word None is =
    inl (λ pairs spelled. let both : None ≡ Some (with_settings s pairs) = sym is
    ∙ pairs_change s pairs word spelled in cc)
is_pairs_or_none s word (Some after) is = inr (change_pairs word s after None is)

-- another word changes nothing
some_after : (s : Signature) (word : List ℕ) (changed : Option Signature)
    → changed_by_pairs s None word ≡ changed → IsNoPairs word → unwrap_or changed s ≡ s
some_after s word None is none = refl
some_after s word (Some after) is none =
    let pairs = change_pairs word s after None is in absurd (none pairs.0 pairs.1)

pub others_change_nothing : (s : Signature) (word : List ℕ) → IsNoPairs word → with_word s word ≡ s
others_change_nothing s word none = some_after s word (changed_by_pairs s None word) refl none

-- either way it is the signature that is left
is_left : (s : Signature) (word : List ℕ)
    → IsNoPairs word ⊎ ((pairs : List Setting) × AreSpelled pairs word)
    → WordLeaves s word (with_word s word)
is_left s word (inl none) =
    subst (λ after. WordLeaves s word after) (sym (others_change_nothing s word none))
    (by_others none)
is_left s word (inr (pairs, spelled)) =
    subst (λ after. WordLeaves s word after) (sym (pairs_set s pairs word spelled))
    (by_pairs pairs spelled)

pub is_left_by_word : (s : Signature) (word : List ℕ) → WordLeaves s word (with_word s word)
is_left_by_word s word = is_left s word (is_pairs_or_none s word (changed_by_pairs s None word) refl)

-- and no second one
pub only_left : (s after : Signature) (word : List ℕ) → WordLeaves s word after
    → after ≡ with_word s word
only_left s _ word (by_pairs pairs spelled) = sym (pairs_set s pairs word spelled)
only_left s _ word (by_others none) = sym (others_change_nothing s word none)

-- EACH WORD IN TURN
is_left_by_each : (s : Signature) (words : List (List ℕ))
    → EachLeaves s words (fold with_word s words)
is_left_by_each s [] = refl
is_left_by_each s (word ∷ words) =
    (with_word s word, is_left_by_word s word, is_left_by_each (with_word s word) words)

only_left_by_each : (s after : Signature) (words : List (List ℕ)) → EachLeaves s words after
    → after ≡ fold with_word s words
only_left_by_each s after [] same = same
only_left_by_each s after (word ∷ words) (next, first, more) =
    only_left_by_each next after words more
    ∙ ap (λ t. fold with_word t words) (only_left s next word first)

pub are_left : (s : Signature) (text : List ℕ) → WordsLeave s text (with_words s text)
are_left s text = is_left_by_each s (slice_split is_blank text)

pub only_are_left : (s after : Signature) (text : List ℕ) → WordsLeave s text after
    → after ≡ with_words s text
only_are_left s after text leave = only_left_by_each s after (slice_split is_blank text) leave
