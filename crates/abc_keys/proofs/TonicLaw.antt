-- The tonic and sign that a text begins with are those that `key_with_tonic` takes.
use Rattle.std.proofs.Common.{◌≡◌, ◌⊎◌, ℕ, Bool, true, false, ◌||◌, cond, List, [], ◌∷◌, ◌++◌}
use Rattle.std.proofs.Common.{Option, Some, None, refl, ap, sym, ◌∙◌, inl, inr, subst, ⊎_elim}
use Rattle.std.proofs.Common.{eqb}
use Rattle.std.specs.Prelude.{codes}
use Rattle.std.specs.List.{AllByRecursion}
use Rattle.std.specs.Option.{option_map_or}
use Rattle.std.proofs.lemmas.Bool.{or_cases, eqb-true}
use Rattle.abc_fields.specs.Bytes.{is_one_of, begins}
use Rattle.abc_keys.specs.declared.letters.Letter.{Letter}
use Rattle.abc_keys.specs.declared.letters.Letter.TheVariants.{C, D, E, F, G, A, B}
use Rattle.abc_keys.specs.declared.scales.Sign.{Sign}
use Rattle.abc_keys.specs.declared.scales.Sign.TheVariants.{Natural, Sharp, Flat}
use Rattle.abc_keys.specs.declared.keys.Key.TheVariants as key
use Rattle.abc_keys.specs.Inside.KeySteps.{capital_letter}
use Rattle.abc_keys.specs.Inside.KeySteps.{key_after_tonic, key_after_sign, key_after_letter}
use Rattle.abc_keys.specs.Inside.KeySteps.{key_with_tonic}
use Rattle.abc_keys.specs.KeyCases.{tonic_text, sign_text, may_follow_tonic, HasTonic}

-- A TONIC THAT A TEXT HAS IS TAKEN
-- the tonic
letter_taken : (tonic : Letter) (text : List ℕ)
    → key_with_tonic (tonic_text tonic ++ text) ≡ key_after_letter tonic text
letter_taken C text = refl
letter_taken D text = refl
letter_taken E text = refl
letter_taken F text = refl
letter_taken G text = refl
letter_taken A text = refl
letter_taken B text = refl

-- no sign
no_sign : (tonic : Letter) (text : List ℕ) → begins (is_one_of (codes "#b")) text ≡ false
    → key_after_letter tonic text ≡ key_after_sign tonic Natural text
no_sign tonic [] none = refl
no_sign tonic (byte ∷ text) none = by_tests (eqb byte 35) (eqb byte 98) none
  where
    by_tests : (sharp flat : Bool) → (sharp || (flat || false)) ≡ false
        → cond (sharp || false) (key_after_sign tonic Sharp text)
        (cond (flat || false) (key_after_sign tonic Flat text)
        (key_after_sign tonic Natural (byte ∷ text)))
        ≡ key_after_sign tonic Natural (byte ∷ text)
    by_tests true flat is = absurd (cc)
    by_tests false true is = absurd (cc)
    by_tests false false is = refl

-- the sign
sign_taken : (tonic : Letter) (sign : Sign) (text : List ℕ)
    → (sign ≡ Natural → begins (is_one_of (codes "#b")) text ≡ false)
    → key_after_letter tonic (sign_text sign ++ text) ≡ key_after_sign tonic sign text
sign_taken tonic Natural text taken = no_sign tonic text (taken refl)
sign_taken tonic Sharp text taken = refl
sign_taken tonic Flat text taken = refl

pub tonic_taken : (tonic : Letter) (sign : Sign) (rest text : List ℕ)
    → HasTonic tonic sign rest text
    → key_with_tonic text ≡ key_after_tonic tonic sign rest
tonic_taken tonic sign rest text has =
    ap key_with_tonic has.whole ∙ letter_taken tonic (sign_text sign ++ rest)
    ∙ sign_taken tonic sign rest has.taken ∙ rw has.follows refl

-- A TONIC THAT IS TAKEN IS IN THE TEXT
-- a byte of these is one for which holds what holds for each of them
of_each : (P : ℕ → Type 0) (bytes : List ℕ) (byte : ℕ) → AllByRecursion P bytes
    → is_one_of bytes byte ≡ true → P byte
of_each P [] byte each is = absurd (cc)
of_each P (b ∷ bytes) byte each is = ⊎_elim
    (λ here. subst P (sym (eqb-true byte b here)) each.0)
    (λ later. of_each P bytes byte each.1 later)
    (or_cases (eqb byte b) (is_one_of bytes byte) is)

-- the byte writes the tonic that it names
abbrev Writes : ℕ → Type 0
Writes byte = (tonic : Letter) → capital_letter byte ≡ Some tonic → byte ∷ [] ≡ tonic_text tonic

-- by the letter of a capital
written : (letter tonic : Letter) → Some letter ≡ Some tonic → tonic_text letter ≡ tonic_text tonic
written letter tonic same = let here : letter ≡ tonic = cc in ap tonic_text here

each_writes : AllByRecursion Writes (codes "ABCDEFG")
each_writes =
    (written A, (written B, (written C, (written D, (written E, (written F, (written G, tt)))))))

capital_writes : (byte : ℕ) → Writes byte
capital_writes byte tonic names = by_test (is_one_of (codes "ABCDEFG") byte) refl
  where
    by_test : (capital : Bool) → is_one_of (codes "ABCDEFG") byte ≡ capital
        → byte ∷ [] ≡ tonic_text tonic
    by_test true is = of_each Writes (codes "ABCDEFG") byte each_writes is tonic names
    by_test false is = let both : None ≡ Some tonic = rw is at names in absurd (cc)

-- the tonic, its sign and the rest of a text, or no key
abbrev pub TonicOrNone : List ℕ → Type 0
TonicOrNone text =
    ((tonic : Letter) × (sign : Sign) × (rest : List ℕ) × HasTonic tonic sign rest text)
    ⊎ (key_with_tonic text ≡ key.Unread)

-- what may follow, or no key
by_rest : (tonic : Letter) (sign : Sign) (rest text : List ℕ)
    → (sign ≡ Natural → begins (is_one_of (codes "#b")) rest ≡ false)
    → text ≡ tonic_text tonic ++ (sign_text sign ++ rest) → (follows : Bool)
    → may_follow_tonic rest ≡ follows → TonicOrNone text
by_rest tonic sign rest text taken whole true is =
    inl (tonic, sign, rest, record { taken = taken; follows = is; whole = whole })
by_rest tonic sign rest text taken whole false is =
    inr (ap key_with_tonic whole ∙ letter_taken tonic (sign_text sign ++ rest)
    ∙ sign_taken tonic sign rest taken ∙ rw is refl)

-- a sharp or a flat, or no sign
by_sign : (tonic : Letter) (later text : List ℕ) → text ≡ tonic_text tonic ++ later
    → TonicOrNone text
by_sign tonic [] text whole = by_rest tonic Natural [] text (λ same. refl) whole _ refl
by_sign tonic (byte ∷ later) text whole = by_tests (eqb byte 35) (eqb byte 98) refl refl
  where
    by_tests : (sharp flat : Bool) → eqb byte 35 ≡ sharp → eqb byte 98 ≡ flat → TonicOrNone text
    by_tests true flat is _ =
        by_rest tonic Sharp later text (λ same. absurd (cc))
        (whole ∙ ap (λ b. tonic_text tonic ++ (b ∷ later)) (eqb-true byte 35 is)) _ refl
    by_tests false true _ is =
        by_rest tonic Flat later text (λ same. absurd (cc))
        (whole ∙ ap (λ b. tonic_text tonic ++ (b ∷ later)) (eqb-true byte 98 is)) _ refl
    by_tests false false sharp flat =
        by_rest tonic Natural (byte ∷ later) text (λ same. rw (sharp, flat) refl) whole _ refl

pub tonic_said : (text : List ℕ) → TonicOrNone text
tonic_said [] = inr refl
tonic_said (byte ∷ text) = by_letter (capital_letter byte) refl
  where
    by_letter : (letter : Option Letter) → capital_letter byte ≡ letter → TonicOrNone (byte ∷ text)
    by_letter (Some tonic) names =
        by_sign tonic text (byte ∷ text)
        (ap (λ front. front ++ text) (capital_writes byte tonic names))
    by_letter None names =
        inr (ap (λ letter. option_map_or (λ tonic. key_after_letter tonic text) letter key.Unread)
        names)
