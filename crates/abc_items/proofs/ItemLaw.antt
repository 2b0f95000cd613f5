-- The items of a text are items by the table, one after another, and no others are.
use Rattle.std.proofs.Common.{◌≡◌, ℕ, zero, suc, ◌+◌, ◌-◌, ◌<◌, List, [], ◌∷◌, ◌++◌, length, take, drop, refl, ap, sym, ◌∙◌, arith, subst}
use Rattle.std.proofs.lemmas.List.{append_cancel_left, length-append, take-append-drop}
use Rattle.abc_items.specs.Grammar.{ItemText, text_of_items, IsItem, EachIsItem, AreItems}
use Rattle.abc_items.specs.Inside.ItemRows.{first_item, items_after}
use Rattle.abc_items.specs.ItemSpans.{items_of}
use Rattle.abc_items.proofs.FirstItem.{first_item_is, item_has_byte, one_item}

-- THE ITEMS OF A TEXT
-- an item before the items of the rest
more_items : (item : ItemText) (rest : List ℕ) (items : List ItemText) → IsItem item.kind item.text rest → AreItems items rest
    → AreItems (item ∷ items) (item.text ++ rest)
more_items item rest items is are =
    let P : List ℕ → Type 0 = λ r. IsItem item.kind item.text r in
    record { whole = ap (λ r. item.text ++ r) are.whole; each = (subst P (sym are.whole) is, are.each) }

-- past an item is past its first byte and the others
drop_past : (n : ℕ) (byte : ℕ) (text : List ℕ) → 0 < n → drop (n - 1) text ≡ drop n (byte ∷ text)
drop_past zero byte text some = absurd (omega arith)
drop_past (suc n) byte text some = let less : suc n - 1 ≡ n = omega arith in ap (λ k. drop k text) less

-- a front with a byte has a length
taken_some : (n : ℕ) (text : List ℕ) → 0 < length (take n text) → 0 < n
taken_some zero text some = some
taken_some (suc n) text some = omega arith

-- the length of a first item
pub first_item_some : (byte : ℕ) (text : List ℕ) → 0 < (first_item (byte ∷ text)).length
first_item_some byte text =
    let item = first_item (byte ∷ text) in
    taken_some item.length (byte ∷ text)
    (item_has_byte item.kind (take item.length (byte ∷ text)) (drop item.length (byte ∷ text)) (first_item_is byte text).fits)

-- after the bytes that are skipped come items
first_and_more : (byte : ℕ) (text : List ℕ)
    → AreItems (items_after ((first_item (byte ∷ text)).length - 1) text) (drop ((first_item (byte ∷ text)).length - 1) text)
    → AreItems (items_after 0 (byte ∷ text)) (byte ∷ text)
first_and_more byte text are =
    let item = first_item (byte ∷ text) in
    let past = drop_past item.length byte text (first_item_some byte text) in
    let P : List ℕ → Type 0 = λ r. AreItems (items_after (item.length - 1) text) r in
    let Q : List ℕ → Type 0 = λ line. AreItems (items_after 0 (byte ∷ text)) line in
    subst Q (take-append-drop item.length (byte ∷ text))
    (more_items (record { kind = item.kind; text = take item.length (byte ∷ text) }) (drop item.length (byte ∷ text)) (items_after (item.length - 1) text)
    (first_item_is byte text) (subst P past are))

-- what follows the skipped bytes are items, one after another
items_after_are : (skip : ℕ) (text : List ℕ) → AreItems (items_after skip text) (drop skip text)
items_after_are zero [] = record { whole = refl; each = tt }
items_after_are (suc skip) [] = record { whole = refl; each = tt }
items_after_are zero (byte ∷ text) = first_and_more byte text (items_after_are ((first_item (byte ∷ text)).length - 1) text)
items_after_are (suc skip) (byte ∷ text) = items_after_are skip text

-- the items of a text are items by the table, one after another
pub items_are : (text : List ℕ) → AreItems (items_of text) text
items_are text = items_after_are 0 text

-- NO OTHER ITEMS
-- items have bytes
no_items : (item : ItemText) (items : List ItemText) → EachIsItem (item ∷ items) → [] ≡ text_of_items (item ∷ items) → ⊥
no_items item items are same =
    let some = item_has_byte item.kind item.text (text_of_items items) are.0.fits in
    let long : 0 ≡ length item.text + length (text_of_items items) = ap length same ∙ length-append item.text (text_of_items items) in
    omega arith

-- items of one kind and one text are the same
same_item_texts : (item also : ItemText) → item.kind ≡ also.kind → item.text ≡ also.text → item ≡ also
same_item_texts item also kinds texts = λ i. record { kind = kinds i; text = texts i }

-- items of one text are the same, one after another
same_items : (items others : List ItemText) → EachIsItem items → EachIsItem others → text_of_items items ≡ text_of_items others → items ≡ others
same_items [] [] are those same = refl
same_items [] (also ∷ others) are those same = absurd (no_items also others those same)
same_items (item ∷ items) [] are those same = absurd (no_items item items are (sym same))
same_items (item ∷ items) (also ∷ others) are those same =
    let one = one_item item.kind also.kind item.text (text_of_items items) also.text (text_of_items others) are.0 those.0 same in
    let rest : text_of_items items ≡ text_of_items others =
    append_cancel_left also.text (text_of_items items) (text_of_items others) (ap (λ t. t ++ text_of_items items) (sym one.texts) ∙ same) in
    λ i. same_item_texts item also one.kinds one.texts i ∷ same_items items others are.1 those.1 rest i

-- a text has no other items
pub items_unique : (text : List ℕ) (items : List ItemText) → AreItems items text → items ≡ items_of text
items_unique text items are = let those = items_are text in same_items items (items_of text) are.each those.each (are.whole ∙ sym those.whole)

-- so each text has items
abbrev pub said_items : (text : List ℕ) → (items : List ItemText) × AreItems items text
said_items text = (items_of text, items_are text)

-- ONE STEP
-- skipped bytes are as good as dropped
pub skipped : (skip : ℕ) (text : List ℕ) → items_after skip text ≡ items_of (drop skip text)
skipped zero text = refl
skipped (suc skip) [] = refl
skipped (suc skip) (byte ∷ text) = skipped skip text

-- the items of a text with a byte: the first one, and those of the rest
pub items_step : (byte : ℕ) (text : List ℕ)
    → items_of (byte ∷ text)
    ≡ record { kind = (first_item (byte ∷ text)).kind; text = take (first_item (byte ∷ text)).length (byte ∷ text) } ∷ items_of
    (drop (first_item (byte ∷ text)).length (byte ∷ text))
items_step byte text =
    let item = first_item (byte ∷ text) in
    let past = drop_past item.length byte text (first_item_some byte text) in
    ap (λ items. record { kind = item.kind; text = take item.length (byte ∷ text) } ∷ items) (skipped (item.length - 1) text ∙ ap items_of past)
