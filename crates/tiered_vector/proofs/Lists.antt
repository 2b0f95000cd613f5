-- Lists in two parts, of which each is changed.
use Rattle.std.proofs.Common.{◌≡◌, ℕ, ◌<◌, ◌≤◌, List, [], ◌∷◌, ◌++◌, length, get_or, ◌∙◌, ap, sym, append_assoc, arith}
use Rattle.std.proofs.lemmas.List.{get_or_append_left}
use Rattle.std.proofs.lemmas.List.Edits.{remove-append_left, insert-append_left}
use Rattle.std.specs.List.{insert, remove}

-- the first item of a list passed on, where another one came behind the last
pub first_passed : {T : Type 0} (all all' : List T) (last gone : T) → 0 < length all → all ++ last ∷ [] ≡ gone ∷ all'
    → (gone ≡ get_or all 0 gone) × (all' ≡ remove all 0 ++ last ∷ [])
first_passed [] all' last gone some passed = absurd (omega arith)
first_passed (x ∷ xs) all' last gone some passed = (cc, cc)

-- an item of the front
pub item_in_front : {T : Type 0} (all front back : List T) → all ≡ front ++ back → (place : ℕ) (d : T) → place < length front
    → get_or front place d ≡ get_or all place d
item_in_front all front back was place d within = sym (get_or_append_left front back d place within) ∙ ap (λ xs. get_or xs place d) (sym was)

module _ {T : Type 0} (all front back all' front' back' : List T) (was : all ≡ front ++ back) (is : all' ≡ front' ++ back') where
  -- each item moved one place down
  pub moved_down : (last next gone : T) → back ++ last ∷ [] ≡ next ∷ back' → front ++ next ∷ [] ≡ gone ∷ front' → all ++ last ∷ [] ≡ gone ∷ all'
  moved_down last next gone behind before =
      ap (λ xs. xs ++ last ∷ []) was ∙ append_assoc front back (last ∷ []) ∙ ap (λ xs. front ++ xs) behind ∙ sym (append_assoc front (next ∷ []) back')
      ∙ ap (λ xs. xs ++ back') before ∙ ap (λ xs. gone ∷ xs) (sym is)

  -- each item moved one place up
  pub moved_up : (first next gone : T) → next ∷ back ≡ back' ++ gone ∷ [] → first ∷ front ≡ front' ++ next ∷ [] → first ∷ all ≡ all' ++ gone ∷ []
  moved_up first next gone behind before =
      ap (λ xs. first ∷ xs) was ∙ ap (λ xs. xs ++ back) before ∙ append_assoc front' (next ∷ []) back ∙ ap (λ xs. front' ++ xs) behind
      ∙ sym (append_assoc front' back' (gone ∷ [])) ∙ ap (λ xs. xs ++ gone ∷ []) (sym is)

  -- an item gone from the front
  pub gone_from : (place : ℕ) (last next : T) → place < length front → back ++ last ∷ [] ≡ next ∷ back' → front' ≡ remove front place ++ next ∷ []
      → all' ≡ remove all place ++ last ∷ []
  gone_from place last next within behind before =
      let left = remove front place in
      is ∙ ap (λ xs. xs ++ back') before ∙ append_assoc left (next ∷ []) back' ∙ ap (λ xs. left ++ xs) (sym behind) ∙ sym (append_assoc left back (last ∷ []))
      ∙ ap (λ xs. xs ++ last ∷ []) (sym (remove-append_left front back place within)) ∙ ap (λ xs. remove xs place ++ last ∷ []) (sym was)

  -- an item come into the front
  pub come_into : (place : ℕ) (item next gone : T) → place ≤ length front → next ∷ back ≡ back' ++ gone ∷ [] → front' ++ next ∷ [] ≡ insert front place item
      → insert all place item ≡ all' ++ gone ∷ []
  come_into place item next gone within behind before =
      ap (λ xs. insert xs place item) was ∙ insert-append_left front back place item within ∙ ap (λ xs. xs ++ back) (sym before)
      ∙ append_assoc front' (next ∷ []) back ∙ ap (λ xs. front' ++ xs) behind ∙ sym (append_assoc front' back' (gone ∷ []))
      ∙ ap (λ xs. xs ++ gone ∷ []) (sym is)
