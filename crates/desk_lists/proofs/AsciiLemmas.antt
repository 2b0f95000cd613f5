-- Texts of ASCII have no marks, and their capitals have small letters.
use Rattle.std.proofs.Common.{◌≡◌, ℕ, zero, suc, ◌<◌, true, not, List, [], ◌∷◌, map, All, refl, sym, ap, ◌∙◌, arith, suc-le-suc, zero-le}
use Rattle.std.proofs.Common.{IsAscii, chars, encode_utf8_all}
use Rattle.std.proofs.lemmas.Bool.Decides.{nat_tests}
use Rattle.std.proofs.lemmas.Str.{chars-IsAscii}
use Rattle.std.proofs.lemmas.Str.Ascii.{IsAscii-map, encodes-IsAscii}
use Rattle.std.specs.Char.{to_ascii_lowercase}
use Rattle.ucd_table.proofs.Computing.{tables}
use Rattle.ucd_table.proofs.Facts.{Stepped-below}
use Rattle.ucd_category.specs.declared.GeneralCategoryGroup.TheVariants.{Mark}
use Rattle.ucd_category.specs.GeneralCategory.{general_category}
use Rattle.ucd_category.specs.GeneralCategoryGroup.{in_group}
use Rattle.ucd_category.proofs.GeneralCategoryLemmas.{general_category_stepped}
use Rattle.unicode_normalization.specs.Forms.{Nfd}
use Rattle.unicode_normalization.specs.Lookups.{is_combining_mark}
use Rattle.unicode_normalization.proofs.FormsLemmas.{normalize-ascii}
use Rattle.caseless.specs.Caseless.{default_case_fold}
use Rattle.caseless.proofs.CaselessLemmas.{default_case_fold-ascii, All-chars}
use Rattle.desk_lists.specs.Folding.{without_marks, folded_bytes}

-- each of the 128 characters is tried
no_mark : (c : ℕ) → c < 128 → not (is_combining_mark c) ≡ true
unfolding tables general_category_stepped
no_mark c h = Stepped-below general_category general_category_stepped (λ _ category. not (in_group Mark category)) 128 refl c h

keeps_all : (cs : List ℕ) → All (λ c. c < 128) cs → without_marks cs ≡ cs
keeps_all [] all = refl
keeps_all (c ∷ cs) all =
    let first = no_mark c (all zero 0 (suc-le-suc zero-le)) in
    let rest = keeps_all cs (λ k d lt. all (suc k) d (suc-le-suc lt)) in
    rw first (ap (λ more. c ∷ more) rest)

lower_ascii : (c : ℕ) → c < 128 → to_ascii_lowercase c < 128
lower_ascii c h = grind (arith, nat_tests)

pub folded-IsAscii : (text : List ℕ) → IsAscii text → map to_ascii_lowercase text ≡ folded_bytes text
folded-IsAscii text ascii =
    let all = All-chars text ascii in
    let apart = normalize-ascii Nfd (chars text) all in
    let bare = ap without_marks apart ∙ keeps_all (chars text) all in
    let small = ap default_case_fold bare ∙ default_case_fold-ascii (chars text) all ∙ ap (map to_ascii_lowercase) (chars-IsAscii text ascii) in
    sym (ap encode_utf8_all small ∙ encodes-IsAscii _ (IsAscii-map to_ascii_lowercase text lower_ascii ascii))
