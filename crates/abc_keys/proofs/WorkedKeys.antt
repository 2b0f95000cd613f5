-- Key texts worked out by hand, each by its case.
use Rattle.std.proofs.Common.{pos, negsuc, [], refl, inl, arith}
use Rattle.std.specs.Prelude.{codes}
use Rattle.abc_keys.specs.declared.letters.Letter.{Letter}
use Rattle.abc_keys.specs.declared.letters.Letter.TheVariants.{D, F, G}
use Rattle.abc_keys.specs.declared.letters.Accidental.TheVariants as accidental
use Rattle.abc_keys.specs.declared.scales.Sign.{Sign}
use Rattle.abc_keys.specs.declared.scales.Sign.TheVariants.{Natural, Sharp}
use Rattle.abc_keys.specs.declared.scales.Mode.{Mode}
use Rattle.abc_keys.specs.declared.scales.Mode.TheVariants.{Major, Mixolydian, Phrygian}
use Rattle.abc_keys.specs.declared.scales.Scale.{Scale}
use Rattle.abc_keys.specs.declared.mode_words.ModeWord.TheVariants.{Mode as AsMode, Explicit}
use Rattle.abc_keys.specs.declared.keys.Key.TheVariants as key
use Rattle.abc_keys.specs.Signatures.{no_accidentals}
use Rattle.abc_keys.specs.Fifths.{listed_count}
use Rattle.abc_keys.specs.Keys.{key_of_text}
use Rattle.abc_keys.specs.KeyCases.{IsModeWord, begins_with_name, HasWord, SaysMode, by_word, by_other_word, HasTonic, none_first, pipes, pipes_with_sharps}
use Rattle.abc_keys.specs.KeyCases.{modal, explicit, by_case, IsKeyText}
use Rattle.abc_keys.proofs.PairLaw.{are_left}
use Rattle.abc_keys.proofs.KeyCaseLaw.{is_key_text}

-- a scale by its parts
abbrev scale : Letter → Sign → Mode → Scale
scale tonic sign mode = record { tonic = tonic; sign = sign; mode = mode }

-- F sharp Mixolydian: F C G D A sharp
sharp_tonic : IsKeyText (codes "F#Mix")
    (key.Modal (scale F Sharp Mixolydian)
    (record no_accidentals { f = accidental.Sharp; c = accidental.Sharp; g = accidental.Sharp; d = accidental.Sharp; a = accidental.Sharp }))
unfolding listed_count
sharp_tonic =
    let tonic : HasTonic F Sharp (codes "Mix") (codes "F#Mix") = record { taken = λ same. refl; follows = refl; whole = refl } in
    let word : HasWord [] (codes "Mix") [] (codes "Mix") =
    record { blank = refl; some = omega arith; letters = record { all = refl; ends = refl }; whole = refl } in
    let named : IsModeWord (codes "Mix") (AsMode Mixolydian) = begins_with_name _ (codes "mix") [] _ refl refl in
    by_case _ _ (modal _ _ [] (scale F Sharp Mixolydian) (pos 5) _ tonic (by_word _ [] _ [] _ word refl named) refl (are_left _ []))

-- D Phrygian, B and E flat, and then F sharp
sharp_after_the_mode : IsKeyText (codes "D Phr ^f")
    (key.Modal (scale D Natural Phrygian) (record no_accidentals { b = accidental.Flat; e = accidental.Flat; f = accidental.Sharp }))
unfolding listed_count
sharp_after_the_mode =
    let tonic : HasTonic D Natural (codes " Phr ^f") (codes "D Phr ^f") = record { taken = λ same. refl; follows = refl; whole = refl } in
    let word : HasWord (codes " ") (codes "Phr") (codes " ^f") (codes " Phr ^f") =
    record { blank = refl; some = omega arith; letters = record { all = refl; ends = refl }; whole = refl } in
    let named : IsModeWord (codes "Phr") (AsMode Phrygian) = begins_with_name _ (codes "phr") [] _ refl refl in
    let said : SaysMode (codes " Phr ^f") (AsMode Phrygian) (codes " ^f") = by_word _ _ _ (codes " ^f") _ word refl named in
    by_case _ _ (modal _ _ (codes " ^f") (scale D Natural Phrygian) (negsuc 1) _ tonic said refl (are_left _ (codes " ^f")))

-- G major: the word stands before `=`, and is no pair
word_before_equals : IsKeyText (codes "G m=d") (key.Modal (scale G Natural Major) (record no_accidentals { f = accidental.Sharp }))
unfolding listed_count
word_before_equals =
    let tonic : HasTonic G Natural (codes " m=d") (codes "G m=d") = record { taken = λ same. refl; follows = refl; whole = refl } in
    let word : HasWord (codes " ") (codes "m") (codes "=d") (codes " m=d") =
    record { blank = refl; some = omega arith; letters = record { all = refl; ends = refl }; whole = refl } in
    let said : SaysMode (codes " m=d") (AsMode Major) (codes " m=d") = by_other_word _ _ _ (codes "=d") word (omega arith) (inl refl) in
    by_case _ _ (modal _ _ (codes " m=d") (scale G Natural Major) (pos 1) _ tonic said refl (are_left _ (codes " m=d")))

-- the accidentals that are set and no others, after any tonic
explicit_accidentals : IsKeyText (codes "G# exp _b") (key.Explicit (record no_accidentals { b = accidental.Flat }))
explicit_accidentals =
    let tonic : HasTonic G Sharp (codes " exp _b") (codes "G# exp _b") = record { taken = λ same. refl; follows = refl; whole = refl } in
    let word : HasWord (codes " ") (codes "exp") (codes " _b") (codes " exp _b") =
    record { blank = refl; some = omega arith; letters = record { all = refl; ends = refl }; whole = refl } in
    let named : IsModeWord (codes "exp") Explicit = begins_with_name _ (codes "exp") [] _ refl refl in
    by_case _ _ (explicit _ _ (codes " _b") G Sharp _ tonic (by_word _ _ _ (codes " _b") _ word refl named) (are_left _ (codes " _b")))

-- pipes: without a signature, and with F and C sharp
pipes_alone : IsKeyText (codes "HP") (key.Highland no_accidentals)
pipes_alone = by_case _ _ (pipes _ [] refl refl)

sharp_pipes : IsKeyText (codes "Hp ^g") (key.Highland (record no_accidentals { f = accidental.Sharp; c = accidental.Sharp }))
sharp_pipes = by_case _ _ (pipes_with_sharps _ (codes " ^g") refl refl)

-- `none`, with blanks round the text
no_key : IsKeyText (codes " None ^f\t") (key.Bare (record no_accidentals { f = accidental.Sharp }))
no_key = by_case _ _ (none_first _ (codes "None") (codes " ^f") _ refl refl refl (are_left _ (codes " ^f")))

-- G sharp major has eight sharps, and a small letter is no tonic: no case says a key
unlisted_scale : IsKeyText (codes "G#") key.Unread
unfolding key_of_text listed_count
unlisted_scale = is_key_text (codes "G#")

small_tonic : IsKeyText (codes "e dor") key.Unread
unfolding key_of_text
small_tonic = is_key_text (codes "e dor")
