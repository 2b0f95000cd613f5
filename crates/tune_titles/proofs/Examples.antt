-- Titles from outside, with what they are sorted by and shown as, computed by the definitions.
use Rattle.std.proofs.Common.{◌≡◌, true, false, refl}
use Rattle.std.specs.Prelude.{codes, [], ◌∷◌}
use Rattle.index_keys.specs.Cuts.{cut_number}
use Rattle.tune_titles.specs.TitleAndRhythmKeys.{title_keys, rhythm_keys}
use Rattle.tune_titles.specs.Titles.{sorting_title, index_title, title_matches}

-- an article alone is no article
the_alone : sorting_title (codes "The") ≡ codes "the"
the_alone = refl

the_alone-shown : index_title (codes "The") ≡ codes "The"
the_alone-shown = refl

leading_article : sorting_title (codes "A Reel") ≡ codes "reel"
leading_article = refl

leading_article-shown : index_title (codes "A Reel") ≡ codes "Reel, A"
leading_article-shown = refl

trailing_article : sorting_title (codes "Reel, an") ≡ codes "reel"
trailing_article = refl

trailing_article-shown : index_title (codes "Reel, an") ≡ codes "Reel, an"
trailing_article-shown = refl

-- the leading one is looked for first, and one is taken
both_articles : sorting_title (codes "The Kesh, The") ≡ codes "kesh, the"
both_articles = refl

both_articles-shown : index_title (codes "The Kesh, The") ≡ codes "Kesh, The, The"
both_articles-shown = refl

-- nothing stands before this comma
comma_first : sorting_title (codes ", The") ≡ codes ", the"
comma_first = refl

comma_first-shown : index_title (codes ", The") ≡ codes ", The"
comma_first-shown = refl

-- two titles that agree in their first 32 bytes
other_end : title_matches (codes "humours of ballyconnell and the w") (codes "Humours of Ballyconnell and the East") ≡ false
other_end = refl

same_end : title_matches (codes "humours of ballyconnell and the w") (codes "Humours of Ballyconnell and the West") ≡ true
same_end = refl

other_article : title_matches (codes "the kesh") (codes "Kesh Jig, The") ≡ true
other_article = refl

-- the keys of two titles rise, and two titles that agree in 32 bytes have one key
two_titles : title_keys (codes "T:The Kesh Jig\nT:Kesh, The\nK:G\n") ≡ cut_number 32 0 (codes "kesh") ∷ cut_number 32 0 (codes "kesh jig") ∷ []
two_titles = refl

one_key : title_keys (codes "T:Humours of Ballyconnell and the East\nT:Humours of Ballyconnell and the West\nK:G\n")
    ≡ cut_number 32 0 (codes "humours of ballyconnell and the ") ∷ []
one_key = refl

rhythm_key : rhythm_keys (codes "R:Slip Jig\nK:G\n") ≡ cut_number 32 0 (codes "slip jig") ∷ []
rhythm_key = refl

no_rhythm : rhythm_keys (codes "K:G\n") ≡ []
no_rhythm = refl
