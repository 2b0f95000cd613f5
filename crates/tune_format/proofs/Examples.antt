-- The definitions, tried on bytes that were written out by hand.
use Rattle.std.proofs.Common.{◌≡◌, [], ◌∷◌, take, refl}
use Rattle.tune_store.specs.declared.layout.Layout.TheVariants.{One}
use Rattle.tune_store.specs.declared.tune.Tune.{Tune}
use Rattle.tune_format.specs.Filed.{rows_of_tunes}
use Rattle.tune_parts.specs.Parts.{Part, chain_part}
use Rattle.tune_format.specs.Reading.{tune_of, sets_written}
use Rattle.tune_format.specs.Written.{IsRoot, head_of_root, no_firsts, number_entries, number_key, stored_tune}
use Rattle.tune_format.specs.declared.root.Firsts.{Firsts}

-- the chains of an archive, on pages that are not alike
abbrev firsts : Firsts
firsts = record {
  numbers = 7;
  searches = record { titles = 8; rhythms = 9; scales = 266; incipits = 11 };
  sets = 65536;
}

root_written : head_of_root One firsts ≡ 0 ∷ 0 ∷ 0 ∷ 1 ∷ 0 ∷ 0 ∷ 0 ∷ 7 ∷ 0 ∷ 0 ∷ 0 ∷ 8 ∷ 0 ∷ 0 ∷ 0 ∷ 9 ∷ 0 ∷ 0 ∷ 1 ∷ 10 ∷ 0 ∷ 0 ∷ 0 ∷ 11 ∷ 0 ∷ 1 ∷ 0 ∷ 0 ∷ []
root_written = refl

root_read : IsRoot One (0 ∷ 0 ∷ 0 ∷ 1 ∷ 0 ∷ 0 ∷ 0 ∷ 7 ∷ 0 ∷ 0 ∷ 0 ∷ 8 ∷ 0 ∷ 0 ∷ 0 ∷ 9 ∷ 0 ∷ 0 ∷ 1 ∷ 10 ∷ 0 ∷ 0 ∷ 0 ∷ 11 ∷ 0 ∷ 1 ∷ 0 ∷ 0 ∷ 5 ∷ []) firsts
root_read = record { is_version = refl; numbers = refl; titles = refl; rhythms = refl; scales = refl; incipits = refl; sets = refl }

-- the root of a made archive
made_written : take 8 (head_of_root One no_firsts) ≡ 0 ∷ 0 ∷ 0 ∷ 1 ∷ 0 ∷ 0 ∷ 0 ∷ 0 ∷ []
made_written = refl

-- tune 999,999 at revision 9,999, with the text `X`, in a chain from page 70,000 on
abbrev last : Tune
last = record { number = 999999; revision = 9999; text = 88 ∷ [] }

tune_written : stored_tune last ≡ 39 ∷ 15 ∷ 88 ∷ []
tune_written = refl

tune_read : tune_of 999999 (39 ∷ 15 ∷ 88 ∷ []) ≡ last
tune_read = refl

abbrev part : Part
part = chain_part 70000 (70000 ∷ []) (39 ∷ 15 ∷ 88 ∷ [])

entry_written : number_entries (rows_of_tunes (last ∷ []) (part ∷ [])) ≡ (number_key 999999, 70000) ∷ []
entry_written = refl

-- the set `a` of tunes 1 and 258, and the set `b` of none
sets_read : sets_written (1 ∷ 97 ∷ 0 ∷ 2 ∷ 0 ∷ 0 ∷ 0 ∷ 1 ∷ 0 ∷ 0 ∷ 1 ∷ 2 ∷ 1 ∷ 98 ∷ 0 ∷ 0 ∷ [])
    ≡ record { name = 97 ∷ []; numbers = 1 ∷ 258 ∷ [] } ∷ record { name = 98 ∷ []; numbers = [] } ∷ []
sets_read = refl
