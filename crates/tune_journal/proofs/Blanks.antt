-- Images that end in zeros.
use Rattle.std.proofs.Common.{◌≡◌, ℕ, ◌+◌, ◌-◌, ◌<◌, ◌≤◌, List, [], ◌++◌, length, take, drop, replicate, length-append, length-take, sym, ◌∙◌, ap}
use Rattle.std.proofs.Common.{arith, append_assoc}
use Rattle.std.proofs.lemmas.List.{append-nil, take_all, drop-drop, length-drop, length-replicate, drop_at, drop_all, drop-replicate}
use Rattle.std.proofs.lemmas.List.{replicate-append-replicate}
use borrow.Rule.Slice.PartMut.{put_mid, post_of}
use Rattle.tune_journal.specs.ChangeList.{padded_image}
use Rattle.tune_journal.specs.FileOffsets.{block_bytes}
use Rattle.tune_journal.specs.Inside.ShortImages.{IsBlankFrom}

-- from its end on an image has no bytes
pub blank_end : (image : List ℕ) → length image ≡ block_bytes → IsBlankFrom 4096 image
blank_end image size = record { within = omega arith; zeros = drop_all 4096 image (omega (arith, size)) }

-- later bytes are zeros too
pub blank_later : (used size : ℕ) (image : List ℕ) → used ≤ size → size ≤ block_bytes → IsBlankFrom used image → IsBlankFrom size image
blank_later used size image le most blank =
    let same : used + (size - used) ≡ size = omega (arith, le) in
    let count : 4096 - used - (size - used) ≡ 4096 - size = omega (arith, le) in
    record {
      within = most;
      zeros = ap (λ (n : ℕ). drop n image) (sym same)
          ∙ sym (drop-drop (size - used) used image)
          ∙ ap (λ (l : List ℕ). drop (size - used) l) blank.zeros
          ∙ drop-replicate (size - used) (4096 - used) 0
          ∙ ap (λ (n : ℕ). replicate n 0) count;
    }

-- and earlier ones, once they are cleared
pub blank_sooner : (used size : ℕ) (image zeros : List ℕ) → size < used → length image ≡ block_bytes → zeros ≡ replicate (used - size) 0
    → IsBlankFrom used image → IsBlankFrom size (put_mid size (used - size) image zeros)
blank_sooner used size image zeros lt long is blank =
    let most : used ≤ 4096 = blank.within in
    let front : length (take size image) ≡ size = omega (arith, lt, most, long, length-take size image) in
    let same : size + (used - size) ≡ used = omega (arith, lt) in
    let count : used - size + (4096 - used) ≡ 4096 - size = omega (arith, lt, most) in
    record {
      within = omega (arith, lt, most);
      zeros = drop_at (take size image) (zeros ++ post_of size (used - size) image) size front
          ∙ ap (λ (l : List ℕ). l ++ drop (used - size) (drop size image)) is
          ∙ ap (λ (l : List ℕ). replicate (used - size) 0 ++ l) (drop-drop (used - size) size image ∙ ap (λ (n : ℕ). drop n image) same ∙ blank.zeros)
          ∙ replicate-append-replicate (used - size) (4096 - used) 0
          ∙ ap (λ (n : ℕ). replicate n 0) count;
    }

-- TWO PARTS before zeros: what stands behind the first
pub zeros_behind : (n : ℕ) (image : List ℕ) → image ≡ replicate block_bytes 0
    → take (length image - n) (drop n image) ≡ replicate (length (take (length image - n) (drop n image))) 0
zeros_behind n image is =
    let rest : take (length image - n) (drop n image) ≡ replicate (4096 - n) 0 = take_all (length image - n) (drop n image) (omega (arith, length-drop n image))
    ∙ ap (λ (l : List ℕ). drop n l) is ∙ drop-replicate n 4096 0 in
    let size : length (take (length image - n) (drop n image)) ≡ 4096 - n = omega (arith, ap length rest, length-replicate {A = ℕ}) in
    rest ∙ ap (λ (m : ℕ). replicate m 0) (sym size)

-- and both
pub both_padded : (head rest image front behind : List ℕ) → length head + length rest ≤ block_bytes → length image ≡ block_bytes → front ≡ head
    → behind ≡ rest ++ replicate (length (take (length image - length head) (drop (length head) image)) - length rest) 0
    → front ++ drop (length head) (put_mid (length head) (length image - length head) image behind) ≡ padded_image (head ++ rest)
both_padded head rest image front behind few long first second =
    let n : ℕ = length head in
    let zeros : List ℕ = replicate (4096 - length (head ++ rest)) 0 in
    let before : length (take n image) ≡ n = omega (arith, few, long, length-take n image) in
    let none : post_of n (length image - n) image ≡ [] = drop_all (length image - n) (drop n image) (omega (arith, length-drop n image)) in
    let count : length (take (length image - n) (drop n image)) - length rest ≡ 4096 - length (head ++ rest) =
    omega (arith, few, long, length-take (length image - n) (drop n image), length-drop n image, length-append head rest) in
    ap (λ (l : List ℕ). l ++ drop n (put_mid n (length image - n) image behind)) first
    ∙ ap (λ (l : List ℕ). head ++ l)
    (drop_at (take n image) (behind ++ post_of n (length image - n) image) n before
    ∙ ap (λ (l : List ℕ). behind ++ l) none
    ∙ append-nil behind
    ∙ second
    ∙ ap (λ (m : ℕ). rest ++ replicate m 0) count)
    ∙ sym (append_assoc head rest zeros)
