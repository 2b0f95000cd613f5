use Rattle.std.proofs.Common.{◌≡◌, ℕ, ◌+◌, ◌-◌, ◌<◌, ◌≤◌, List, [], ◌∷◌, Bor, length, map, drop, get_or, refl, sym, ap, ◌∙◌, arith}
use Rattle.std.proofs.lemmas.List.{drop_more}
use Rattle.index_keys.specs.Cuts.{cut_number}
use Rattle.index_keys.specs.KeyLists.{with_key, rising_keys}
use Rattle.index_keys.proofs.KeyOrder.{keys_rise}
use Rattle.tune_titles.specs.Titles.{sorting_title}
use Rattle.tune_titles.proofs.search_keys.row_of_title_keys.Goals as goal

abbrev keys_from : List (Bor (List ℕ)) → ℕ → List ℕ
keys_from titles from = rising_keys (map (λ title. cut_number 32 0 (sorting_title title.now)) (drop from titles))

-- the keys of the titles from one on are those of the titles behind it, with its own
one_more : (titles : List (Bor (List ℕ))) (from : ℕ) (none : Bor (List ℕ)) → 0 < from → from ≤ length titles
    → keys_from titles (from - 1) ≡ with_key (cut_number 32 0 (sorting_title (get_or titles (from - 1) none).now)) (keys_from titles from)
one_more titles from none some within =
    let next : from - 1 + 1 ≡ from = omega arith in
    ap (λ (rest : List (Bor (List ℕ))). rising_keys (map (λ title. cut_number 32 0 (sorting_title title.now)) rest))
    (drop_more titles (from - 1) none (omega arith))
    ∙ ap (λ (n : ℕ). with_key (cut_number 32 0 (sorting_title (get_or titles (from - 1) none).now)) (keys_from titles n)) next

mapped : (titles : List (Bor (List ℕ))) → map (λ title. cut_number 32 0 (sorting_title title.now)) titles
    ≡ map (λ title. cut_number 32 0 (sorting_title title)) (map (λ title. title.now) titles)
mapped [] = refl
mapped (title ∷ titles) = ap (λ (keys : List ℕ). cut_number 32 0 (sorting_title title.now) ∷ keys) (mapped titles)

pub loop-left-preserved : goal.loop-left-preserved
loop-left-preserved c =
    let titles = c.as_slice-titles.result.now in
    let inv = c.loop-left.invariant in
    record {
      within = omega (arith, inv.within);
      room = omega (arith, c.add_key.ensures.most, inv.room, c.loop-left-test.true);
      keys = c.add_key.ensures.added (rw inv.keys (keys_rise (map (λ title. cut_number 32 0 (sorting_title title.now)) (drop c.loop-left.left titles))))
          ∙ ap (λ (key : ℕ). with_key key c.loop-left.keys.items) c.key_of_title.ensures
          ∙ ap (λ (keys : List ℕ). with_key (cut_number 32 0 (sorting_title (get_or titles (c.loop-left.left - 1) (record { ref_ptr = (0, 0); now = [] })).now))
          keys) inv.keys
          ∙ sym (one_more titles c.loop-left.left (record { ref_ptr = (0, 0); now = [] }) (omega (arith, c.loop-left-test.true)) inv.within);
    }

pub returns : goal.returns
returns c =
    let none : c.loop-left.left ≡ 0 = omega (arith, c.loop-left-test.false) in
    c.loop-left.invariant.keys ∙ ap (keys_from c.as_slice-titles.result.now) none
    ∙ ap rising_keys (mapped c.as_slice-titles.result.now)
    ∙ ap (λ (titles : List (List ℕ)). rising_keys (map (λ title. cut_number 32 0 (sorting_title title)) titles)) c.as_slice-titles.ensures
