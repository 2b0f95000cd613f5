-- Parts of tunes, behind any others, through the changes of an archive.
use Rattle.std.proofs.Common.{◌≡◌, ℕ, suc, ◌+◌, List, [], ◌∷◌, ◌++◌, length, take, drop, set}
use Rattle.std.proofs.Common.{sym, ◌∙◌, ap, subst, arith, append_assoc, append-nil}
use Rattle.std.specs.List.{remove, insert}
use Rattle.std.proofs.Math.Seq.{set-append_seam, take-append_seam, drop-append_seam}
use Rattle.std.proofs.lemmas.List.{drop-drop, take-append-drop}
use Rattle.tune_pages.specs.Stand.{Stand, PutsChain, HasChain, without_pages}
use Rattle.tune_store.specs.declared.tune.Tune.{Tune}
use Rattle.tune_format.specs.Filed.{row_of_tune, rows_of_tunes, HoldsTuneAt}
use Rattle.tune_parts.specs.Parts.{Part, HoldsParts, chain_part}
use Rattle.tune_parts.proofs.PartLemmas.{put_parts, free_parts, has_part, move_part}
use Rattle.tune_format.proofs.TextLemmas.{length-texts, rows_count, rows_join}

pub swap_part : (s new : Stand) (part : Part) (first : ℕ) (trail bytes : List ℕ) (before after : List Part) → HoldsParts s (before ++ part ∷ after)
    → PutsChain (without_pages part.trail s) new first trail bytes → HoldsParts new (before ++ chain_part first trail bytes ∷ after)
swap_part s new part first trail bytes before after holds put =
    put_parts (without_pages part.trail s) new first trail bytes before after put (free_parts s part before after holds)

-- where the part of a tune stands
length-before : (texts : List Part) (tunes : List Tune) (place : ℕ) (at : HoldsTuneAt texts tunes place) → length at.before ≡ place
length-before texts tunes place at = length-texts at.before at.front at.holds_front ∙ at.is_place

here : (ahead texts : List Part) (tunes : List Tune) (place : ℕ) (at : HoldsTuneAt texts tunes place)
    → ahead ++ texts ≡ (ahead ++ at.before) ++ at.part ∷ at.after
here ahead texts tunes place at = ap (λ l. ahead ++ l) at.are_texts ∙ sym (append_assoc ahead at.before (at.part ∷ at.after))

cut_here : (ahead texts : List Part) (tunes : List Tune) (place : ℕ) (at : HoldsTuneAt texts tunes place)
    → (ahead ++ at.before) ++ at.after ≡ ahead ++ remove texts place
cut_here ahead texts tunes place at =
    let n = length-before texts tunes place at in
    let whole = at.before ++ at.part ∷ at.after in
    let one : suc place ≡ length at.before + 1 = omega (arith, n) in
    let behind : drop (suc place) whole ≡ at.after = ap (λ k. drop k whole) one ∙ sym (drop-drop 1 (length at.before) whole)
    ∙ ap (drop 1) (drop-append_seam at.before (at.part ∷ at.after)) in
    let front : take place whole ≡ at.before = ap (λ k. take k whole) (sym n) ∙ take-append_seam at.before (at.part ∷ at.after) in
    let left : remove texts place ≡ at.before ++ at.after = ap (λ l. remove l place) at.are_texts ∙ (λ i. front i ++ behind i) in
    append_assoc ahead at.before at.after ∙ ap (λ l. ahead ++ l) (sym left)

put_here : (ahead texts : List Part) (tunes : List Tune) (place : ℕ) (at : HoldsTuneAt texts tunes place) (part : Part)
    → (ahead ++ at.before) ++ part ∷ at.after ≡ ahead ++ set texts place part
put_here ahead texts tunes place at part =
    append_assoc ahead at.before (part ∷ at.after)
    ∙ ap (λ l. ahead ++ l) (sym (ap (λ l. set l place part) at.are_texts ∙ ap (λ k. set (at.before ++ at.part ∷ at.after) k part)
    (sym (length-before texts tunes place at)) ∙ set-append_seam at.before at.part at.after part))

held_here : (s : Stand) (ahead texts : List Part) (tunes : List Tune) (place : ℕ) → HoldsParts s (ahead ++ texts) → (at : HoldsTuneAt texts tunes place)
    → HoldsParts s ((ahead ++ at.before) ++ at.part ∷ at.after)
held_here s ahead texts tunes place holds at = subst (HoldsParts s) (here ahead texts tunes place at) holds

pub has_text : (s : Stand) (ahead texts : List Part) (tunes : List Tune) (place : ℕ) → HoldsParts s (ahead ++ texts) → (at : HoldsTuneAt texts tunes place)
    → HasChain s at.part.first at.part.trail at.part.bytes
has_text s ahead texts tunes place holds at = has_part s at.part (ahead ++ at.before) at.after at.is_chain (held_here s ahead texts tunes place holds at)

pub row_at_place : (texts : List Part) (tunes : List Tune) (place : ℕ) (at : HoldsTuneAt texts tunes place)
    → (rows_of_tunes tunes texts ≡ rows_of_tunes at.front at.before ++ row_of_tune at.tune at.part ∷ rows_of_tunes at.back at.after)
    × (length (rows_of_tunes at.front at.before) ≡ place)
row_at_place texts tunes place at = (
  (λ i. rows_of_tunes (at.are_tunes i) (at.are_texts i)) ∙ rows_join at.before (at.part ∷ at.after) at.front (at.tune ∷ at.back) at.holds_front,
  rows_count at.front at.before at.holds_front ∙ at.is_place,
)

pub add_text : (s new : Stand) (ahead texts : List Part) (first : ℕ) (trail bytes : List ℕ) → HoldsParts s (ahead ++ texts) → PutsChain s new first trail bytes
    → HoldsParts new (ahead ++ (texts ++ chain_part first trail bytes ∷ []))
add_text s new ahead texts first trail bytes holds put =
    subst (HoldsParts new) (append_assoc ahead texts (chain_part first trail bytes ∷ []))
    (put_parts s new first trail bytes (ahead ++ texts) [] put (subst (HoldsParts s) (sym (append-nil (ahead ++ texts))) holds))

pub put_text : (s new : Stand) (ahead texts : List Part) (tunes : List Tune) (place first : ℕ) (trail bytes : List ℕ) → HoldsParts s (ahead ++ texts)
    → (at : HoldsTuneAt texts tunes place) → PutsChain (without_pages at.part.trail s) new first trail bytes
    → HoldsParts new (ahead ++ set texts place (chain_part first trail bytes))
put_text s new ahead texts tunes place first trail bytes holds at put =
    subst (HoldsParts new) (put_here ahead texts tunes place at (chain_part first trail bytes))
    (swap_part s new at.part first trail bytes (ahead ++ at.before) at.after (held_here s ahead texts tunes place holds at) put)

pub cut_text : (s : Stand) (ahead texts : List Part) (tunes : List Tune) (place : ℕ) → HoldsParts s (ahead ++ texts) → (at : HoldsTuneAt texts tunes place)
    → HoldsParts (without_pages at.part.trail s) (ahead ++ remove texts place)
cut_text s ahead texts tunes place holds at =
    subst (HoldsParts (without_pages at.part.trail s)) (cut_here ahead texts tunes place at)
    (free_parts s at.part (ahead ++ at.before) at.after (held_here s ahead texts tunes place holds at))

pub move_text : (s : Stand) (ahead texts : List Part) (tunes : List Tune) (place to : ℕ) → HoldsParts s (ahead ++ texts) → (at : HoldsTuneAt texts tunes place)
    → HoldsParts s (ahead ++ insert (remove texts place) to at.part)
move_text s ahead texts tunes place to holds at =
    let left = remove texts place in
    let same : (ahead ++ at.before) ++ at.after ≡ (ahead ++ take to left) ++ drop to left = cut_here ahead texts tunes place at
    ∙ ap (λ l. ahead ++ l) (sym (take-append-drop to left)) ∙ sym (append_assoc ahead (take to left) (drop to left)) in
    subst (HoldsParts s) (append_assoc ahead (take to left) (at.part ∷ drop to left))
    (move_part s at.part (ahead ++ at.before) at.after (ahead ++ take to left) (drop to left) same (held_here s ahead texts tunes place holds at))
