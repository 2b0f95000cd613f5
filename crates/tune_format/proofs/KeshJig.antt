-- An archive of one tune on its twelve pages, as they were written out by hand; pages are cut where their zeros begin.
use Rattle.std.proofs.Common.{◌≡◌, ℕ, List, [], ◌∷◌, ◌++◌, length, refl, subst, sym, ap, zero, suc, codes, arith}
use Rattle.std.specs.List.{Contains}
use Rattle.byteorder.specs.Endian.{big_bytes}
use Rattle.abc_items.specs.Inside.ItemRows as Rows
use Rattle.abc_keys.specs.Keys as Keys
use Rattle.abc_keys.specs.Fifths as Fifths
use Rattle.abc_notes.specs.Music as Music
use Rattle.abc_notes.specs.Pitches as Pitches
use Rattle.index_keys.specs.Cuts.{cut_number}
use Rattle.index_keys.specs.Entries.{Entry}
use Rattle.index_keys.specs.Holdings.{HoldsEntries}
use Rattle.tune_incipit.specs.Incipits as Incipits
use Rattle.tune_incipit.specs.ScaleAndIncipitKeys.{incipit_keys, scale_keys}
use Rattle.tune_index.specs.Leaves as Leaves
use Rattle.tune_pages.specs.Chain as Chain
use Rattle.tune_parts.specs.Parts.{chain_part, leaf_part}
use Rattle.tune_search.specs.IndexParts.{IndexParts}
use Rattle.tune_search.specs.Searches.{SearchParts}
use Rattle.tune_store.specs.declared.layout.Layout.TheVariants.{One}
use Rattle.tune_store.specs.declared.tune.Tune.{Tune}
use Rattle.tune_titles.specs.TitleAndRhythmKeys.{rhythm_keys, title_keys}
use Rattle.tune_format.specs.Filed.{Filed}
use Rattle.tune_format.specs.Written.{number_key}

abbrev text : List ℕ
text = codes "T:The Kesh Jig\nR:jig\nM:6/8\nK:G\nG3 GAB|A3 ABd|\n"

abbrev tune : Tune
tune = record { number = 1; revision = 1; text = text }

-- ITS KEYS
abbrev title_key : ℕ
title_key = cut_number 32 0 (codes "kesh jig")

abbrev rhythm_key : ℕ
rhythm_key = cut_number 32 0 (codes "jig")

abbrev scale_key : ℕ
scale_key = cut_number 32 0 (codes "G 0")

-- the steps 0 2 2 -2 0 2 3, each with 2 ^ 31 in four bytes, and four zeros
abbrev incipit_key : ℕ
incipit_key = cut_number 32 0 (128 ∷ 0 ∷ 0 ∷ 0 ∷ 128 ∷ 0 ∷ 0 ∷ 2 ∷ 128 ∷ 0 ∷ 0 ∷ 2 ∷ 127 ∷ 255 ∷ 255 ∷ 254
    ∷ 128 ∷ 0 ∷ 0 ∷ 0 ∷ 128 ∷ 0 ∷ 0 ∷ 2 ∷ 128 ∷ 0 ∷ 0 ∷ 3 ∷ 0 ∷ 0 ∷ 0 ∷ 0 ∷ [])

its_title : title_keys text ≡ title_key ∷ []
its_title = refl

its_rhythm : rhythm_keys text ≡ rhythm_key ∷ []
its_rhythm = refl

its_scale : scale_keys text ≡ scale_key ∷ []
unfolding Keys.key_of_text Fifths.listed_count
its_scale = refl

its_incipit : incipit_keys 8 text ≡ incipit_key ∷ []
unfolding Keys.key_of_text Fifths.listed_count Incipits.incipit_of Incipits.differences Pitches.sounded_notes Music.events_after_header
    Music.body_events Music.line_events Music.item_events Rows.first_item Rows.enclosed Rows.inline_field Rows.chord Rows.tuplet Rows.note Music.plain_events
    Music.written Pitches.borne Pitches.in_force
its_incipit = refl

-- ITS PAGES
-- a page of a chain that ends there, and a leaf of one entry, of the value 1
abbrev link : List ℕ → List ℕ
link bytes = 0 ∷ 0 ∷ 0 ∷ 0 ∷ (big_bytes 2 (length bytes) ++ bytes)

abbrev leaf_of : ℕ → List ℕ
leaf_of key = 0 ∷ 1 ∷ (big_bytes 32 key ++ (0 ∷ 0 ∷ 0 ∷ 1 ∷ []))

abbrev pages : List (List ℕ)
pages =
    (0 ∷ 0 ∷ 0 ∷ 1 ∷ 0 ∷ 0 ∷ 0 ∷ 7 ∷ 0 ∷ 0 ∷ 0 ∷ 8 ∷ 0 ∷ 0 ∷ 0 ∷ 9 ∷ 0 ∷ 0 ∷ 0 ∷ 10 ∷ 0 ∷ 0 ∷ 0 ∷ 11 ∷ 0 ∷ 0 ∷ 0 ∷ 0 ∷ [])
    ∷ link (0 ∷ 1 ∷ text)
    ∷ leaf_of (number_key 1) ∷ leaf_of title_key ∷ leaf_of rhythm_key ∷ leaf_of scale_key ∷ leaf_of incipit_key
    ∷ link (0 ∷ 0 ∷ 0 ∷ 2 ∷ []) ∷ link (0 ∷ 0 ∷ 0 ∷ 3 ∷ []) ∷ link (0 ∷ 0 ∷ 0 ∷ 4 ∷ []) ∷ link (0 ∷ 0 ∷ 0 ∷ 5 ∷ []) ∷ link (0 ∷ 0 ∷ 0 ∷ 6 ∷ []) ∷ []

twelve : length pages ≡ 12
twelve = refl

-- an index of one leaf
abbrev index_of : ℕ → ℕ → ℕ → IndexParts
index_of list page key = record { list = chain_part list (list ∷ []) (0 ∷ 0 ∷ 0 ∷ page ∷ []); leaves = leaf_part page (leaf_of key) ∷ [] }

abbrev searches : SearchParts
searches = record {
  titles = index_of 8 3 title_key;
  rhythms = index_of 9 4 rhythm_key;
  scales = index_of 10 5 scale_key;
  incipits = index_of 11 6 incipit_key;
}

-- the entries of one tune with one key
one_entry : (keys_of : List ℕ → List ℕ) (number key : ℕ) (own : List ℕ) → keys_of own ≡ key ∷ []
    → HoldsEntries keys_of ((number, own) ∷ []) ((key, number) ∷ [])
one_entry keys_of number key own same = record { held = held; only = only }
  where
    held : (tune : ℕ × List ℕ) (k : ℕ) → Contains {X = ℕ × List ℕ} ((number, own) ∷ []) tune → Contains (keys_of tune.1) k
        → Contains {X = Entry} ((key, number) ∷ []) (k, tune.0)
    held other k (zero, l, e) c =
        let at : Contains (key ∷ []) k = subst (λ (keys : List ℕ). Contains keys k) same (subst (λ (t : ℕ × List ℕ). Contains (keys_of t.1) k) (sym e) c) in
        go at
      where
        go : Contains (key ∷ []) k → Contains {X = Entry} ((key, number) ∷ []) (k, other.0)
        go (zero, l2, e2) = (0, omega arith, λ i. (e2 i, (e i).0))
        go (suc n, l2, e2) = absurd (omega arith)
    held other k (suc n, l, e) c = absurd (omega arith)

    only : (entry : Entry) → Contains {X = Entry} ((key, number) ∷ []) entry
        → (tune : ℕ × List ℕ) × Contains {X = ℕ × List ℕ} ((number, own) ∷ []) tune × (tune.0 ≡ entry.1) × Contains (keys_of tune.1) entry.0
    only entry (zero, l, e) =
        let itself : Contains {X = ℕ × List ℕ} ((number, own) ∷ []) (number, own) = (0, omega arith, refl) in
        let at : Contains (key ∷ []) entry.0 = (0, omega arith, ap (λ (x : Entry). x.0) e) in
        ((number, own), itself, ap (λ (x : Entry). x.1) e, subst (λ (keys : List ℕ). Contains keys entry.0) (sym same) at)
    only entry (suc n, l, e) = absurd (omega arith)

-- the state of one tune is filed on these pages
filed : Filed One pages (tune ∷ []) []
unfolding Chain.next_page_of Chain.size_of Chain.piece_of Leaves.capacity Leaves.value_in Leaves.value_bytes Leaves.count_in Leaves.leaf_in
filed = record {
  numbers = index_of 7 2 (number_key 1);
  searches = searches;
  set_lists = chain_part 0 [] [];
  texts = chain_part 1 (1 ∷ []) (0 ∷ 1 ∷ text) ∷ [];
  parts = record {
    stand = (
      record {
        leads = (
          refl,
          omega arith,
          omega arith,
          record { some = omega arith; most = omega arith; full = λ ne. absurd (ne refl) },
          refl,
        );
        holds = refl;
      },
      (
        record { alone = refl; above = omega arith; there = omega arith; holds = refl },
        (
          record {
            leads = (refl, omega arith, omega arith, record { some = omega arith; most = omega arith; full = λ ne. absurd (ne refl) }, refl);
            holds = refl;
          },
          (
            record { alone = refl; above = omega arith; there = omega arith; holds = refl },
            (
              record {
                leads = (refl, omega arith, omega arith, record { some = omega arith; most = omega arith; full = λ ne. absurd (ne refl) }, refl);
                holds = refl;
              },
              (
                record { alone = refl; above = omega arith; there = omega arith; holds = refl },
                (
                  record {
                    leads = (refl, omega arith, omega arith, record { some = omega arith; most = omega arith; full = λ ne. absurd (ne refl) }, refl);
                    holds = refl;
                  },
                  (
                    record { alone = refl; above = omega arith; there = omega arith; holds = refl },
                    (
                      record {
                        leads = (refl, omega arith, omega arith, record { some = omega arith; most = omega arith; full = λ ne. absurd (ne refl) }, refl);
                        holds = refl;
                      },
                      (
                        record { alone = refl; above = omega arith; there = omega arith; holds = refl },
                        (
                          record { leads = refl; holds = refl },
                          (
                            record {
                              leads = (refl, omega arith, omega arith, record { some = omega arith; most = omega arith; full = λ ne. absurd (ne refl) }, refl);
                              holds = refl;
                            },
                            tt,
                          ),
                        ),
                      ),
                    ),
                  ),
                ),
              ),
            ),
          ),
        ),
      ),
    );
    apart = (refl, (refl, (refl, (refl, (refl, (refl, (refl, (refl, (refl, (refl, (refl, (refl, tt))))))))))));
  };
  root = record { is_version = refl; numbers = refl; titles = refl; rhythms = refl; scales = refl; incipits = refl; sets = refl };
  are_numbers = record {
    is_chain = refl;
    leaves = (record { is_leaf = refl; form = record { some = omega arith; within = omega arith } }, tt);
    listed = refl;
    hold = refl;
    rising = (omega arith, tt);
  };
  are_searches = record {
    titles = record {
      entries = (title_key, 1) ∷ [];
      holds = record {
        is_chain = refl;
        leaves = (
          record {
            is_leaf = refl;
            form = record { some = omega arith; within = omega arith };
          },
          tt,
        );
        listed = refl;
        hold = refl;
        rising = (omega arith, tt);
      };
      exact = one_entry title_keys 1 title_key text its_title;
    };
    rhythms = record {
      entries = (rhythm_key, 1) ∷ [];
      holds = record {
        is_chain = refl;
        leaves = (
          record {
            is_leaf = refl;
            form = record { some = omega arith; within = omega arith };
          },
          tt,
        );
        listed = refl;
        hold = refl;
        rising = (omega arith, tt);
      };
      exact = one_entry rhythm_keys 1 rhythm_key text its_rhythm;
    };
    scales = record {
      entries = (scale_key, 1) ∷ [];
      holds = record {
        is_chain = refl;
        leaves = (
          record {
            is_leaf = refl;
            form = record { some = omega arith; within = omega arith };
          },
          tt,
        );
        listed = refl;
        hold = refl;
        rising = (omega arith, tt);
      };
      exact = one_entry scale_keys 1 scale_key text its_scale;
    };
    incipits = record {
      entries = (incipit_key, 1) ∷ [];
      holds = record {
        is_chain = refl;
        leaves = (
          record {
            is_leaf = refl;
            form = record { some = omega arith; within = omega arith };
          },
          tt,
        );
        listed = refl;
        hold = refl;
        rising = (omega arith, tt);
      };
      exact = one_entry (incipit_keys 8) 1 incipit_key text its_incipit;
    };
  };
  sets_are_chain = refl;
  are_sets = refl;
  are_tunes = record { are_chains = (refl, tt); hold = refl };
}
