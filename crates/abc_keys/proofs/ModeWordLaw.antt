-- The words that say a mode are those of `mode_of`, each with its mode.
use Rattle.std.proofs.Common.{◌≡◌, ◌⊎◌, ℕ, Bool, true, false, ◌||◌, cond, List, ◌++◌, take, drop}
use Rattle.std.proofs.Common.{map, Option, Some, None, refl, ap, sym, ◌∙◌, inl, inr}
use Rattle.std.proofs.Common.{subst, nat_eq, ⊎_elim}
use Rattle.std.specs.Prelude.{codes}
use Rattle.std.specs.Cmp.Lexicographic.{pointwise}
use Rattle.std.specs.Char.{to_ascii_lowercase}
use Rattle.std.proofs.lemmas.Bool.{or_cases}
use Rattle.std.proofs.lemmas.List.{take-map, take-append-drop}
use Rattle.std.proofs.lemmas.Slice.Eq.{bytes_eq-Decides}
use Rattle.abc_keys.specs.declared.scales.Mode.TheVariants.{Major, Lydian, Mixolydian, Dorian}
use Rattle.abc_keys.specs.declared.scales.Mode.TheVariants.{Minor, Phrygian, Locrian}
use Rattle.abc_keys.specs.declared.mode_words.ModeWord.{ModeWord}
use Rattle.abc_keys.specs.declared.mode_words.ModeWord.TheVariants.{Mode as AsMode, Explicit}
use Rattle.abc_keys.specs.Inside.ModeWords.{mode_of}
use Rattle.abc_keys.specs.KeyCases.{IsName, IsModeWord, m_alone, begins_with_name}

-- BYTES IN SMALL LETTERS
-- bytes that are these bytes
abbrev are : List ℕ → List ℕ → Bool
are text also = pointwise nat_eq text also

-- what three small letters say
abbrev of_three : List ℕ → Option ModeWord
of_three three =
    cond (are three (codes "maj") || are three (codes "ion")) (Some (AsMode Major))
    (cond (are three (codes "min") || are three (codes "aeo")) (Some (AsMode Minor))
    (cond (are three (codes "mix")) (Some (AsMode Mixolydian))
    (cond (are three (codes "dor")) (Some (AsMode Dorian))
    (cond (are three (codes "phr")) (Some (AsMode Phrygian))
    (cond (are three (codes "lyd")) (Some (AsMode Lydian))
    (cond (are three (codes "loc")) (Some (AsMode Locrian))
    (cond (are three (codes "exp")) (Some Explicit) None)))))))

-- what a word says, by its bytes in small letters
abbrev of_small : List ℕ → Option ModeWord
of_small small = cond (are small (codes "m")) (Some (AsMode Minor)) (of_three (take 3 small))

by_small : (word : List ℕ) → mode_of word ≡ of_small (map to_ascii_lowercase word)
by_small word =
    ap (λ three.
    cond (are (map to_ascii_lowercase word) (codes "m")) (Some (AsMode Minor)) (of_three three))
    (sym (take-map to_ascii_lowercase 3 word))

-- A MODE WORD SAYS ITS MODE
-- bytes that begin with a name
name_says : (name more : List ℕ) (said : ModeWord) → IsName name said
    → of_small (name ++ more) ≡ Some said
name_says name more (AsMode Major) (inl is) = ap (λ n. of_small (n ++ more)) is
name_says name more (AsMode Major) (inr is) = ap (λ n. of_small (n ++ more)) is
name_says name more (AsMode Minor) (inl is) = ap (λ n. of_small (n ++ more)) is
name_says name more (AsMode Minor) (inr is) = ap (λ n. of_small (n ++ more)) is
name_says name more (AsMode Mixolydian) is = ap (λ n. of_small (n ++ more)) is
name_says name more (AsMode Dorian) is = ap (λ n. of_small (n ++ more)) is
name_says name more (AsMode Phrygian) is = ap (λ n. of_small (n ++ more)) is
name_says name more (AsMode Lydian) is = ap (λ n. of_small (n ++ more)) is
name_says name more (AsMode Locrian) is = ap (λ n. of_small (n ++ more)) is
name_says name more Explicit is = ap (λ n. of_small (n ++ more)) is

pub mode_word_says : (word : List ℕ) (said : ModeWord) → IsModeWord word said
    → mode_of word ≡ Some said
mode_word_says _ _ (m_alone word is) = by_small word ∙ ap of_small is
mode_word_says _ _ (begins_with_name word name more said whole is) = by_small word
    ∙ ap of_small whole ∙ name_says name more said is

-- A WORD THAT SAYS A MODE IS A MODE WORD
-- bytes that are these bytes
are_same : (text also : List ℕ) → are text also ≡ true → text ≡ also
are_same text also same = (bytes_eq-Decides text also).0 same

are_either : (text first second : List ℕ) → (are text first || are text second) ≡ true
    → (text ≡ first) ⊎ (text ≡ second)
are_either text first second either =
    ⊎_elim (λ one. inl (are_same text first one)) (λ two. inr (are_same text second two))
    (or_cases (are text first) (are text second) either)

-- one name, and then the others
one_name : (test : Bool) (three : List ℕ) (chosen said : ModeWord) (others : Option ModeWord)
    → (test ≡ true → IsName three chosen)
    → (others ≡ Some said → IsName three said) → cond test (Some chosen) others ≡ Some said
    → IsName three said
one_name true three chosen said others here later is = let same : chosen ≡ said =
    cc in subst (λ s. IsName three s) same (here refl)
one_name false three chosen said others here later is = later is

three_name : (three : List ℕ) (said : ModeWord) → of_three three ≡ Some said → IsName three said
three_name three said =
    one_name _ three (AsMode Major) said _ (are_either three (codes "maj") (codes "ion"))
    (one_name _ three (AsMode Minor) said _ (are_either three (codes "min") (codes "aeo"))
    (one_name _ three (AsMode Mixolydian) said _ (are_same three (codes "mix"))
    (one_name _ three (AsMode Dorian) said _ (are_same three (codes "dor"))
    (one_name _ three (AsMode Phrygian) said _ (are_same three (codes "phr"))
    (one_name _ three (AsMode Lydian) said _ (are_same three (codes "lyd"))
    (one_name _ three (AsMode Locrian) said _ (are_same three (codes "loc"))
    (one_name _ three Explicit said _ (are_same three (codes "exp")) (λ is. absurd (cc)))))))))

-- by `m` alone, or by a name
small_is : (word small : List ℕ) (said : ModeWord) (alone : Bool)
    → map to_ascii_lowercase word ≡ small → are small (codes "m") ≡ alone
    → cond alone (Some (AsMode Minor)) (of_three (take 3 small)) ≡ Some said → IsModeWord word said
small_is word small said true whole one is =
    let same : AsMode Minor ≡ said =
    cc in subst (λ s. IsModeWord word s) same
    (m_alone word (whole ∙ are_same small (codes "m") one))
small_is word small said false whole one is =
    begins_with_name word (take 3 small) (drop 3 small) said
    (whole ∙ sym (take-append-drop 3 small)) (three_name (take 3 small) said is)

pub said_by_mode_word : (word : List ℕ) (said : ModeWord) → mode_of word ≡ Some said
    → IsModeWord word said
said_by_mode_word word said is = let small =
    map to_ascii_lowercase word in small_is word small said _ refl refl (sym (by_small word) ∙ is)

-- and where it says none, it is none
pub no_mode_word : (word : List ℕ) → mode_of word ≡ None → (said : ModeWord) → IsModeWord word said
    → ⊥
no_mode_word word none said is = let both : None ≡ Some said = sym none
    ∙ mode_word_says word said is in cc
