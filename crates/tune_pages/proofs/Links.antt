-- Pages of chains, as bytes.
use Rattle.std.proofs.Common.{◌≡◌, ◌≢◌, ℕ, ◌+◌, ◌-◌, ◌^◌, ◌<◌, ◌≤◌, List, ◌++◌, length, take, drop, replicate, refl, sym, ◌∙◌, ap, subst}
use Rattle.std.proofs.Common.{arith, append_assoc, length-append}
use Rattle.std.proofs.lemmas.List.{take_at, drop_at, drop-drop}
use Rattle.byteorder.specs.Endian.{big_bytes, big_number}
use Rattle.byteorder.specs.Numbers.{big_number-reads_back}
use Rattle.tune_journal.specs.ChangeList.{padded_image}
use Rattle.tune_pages.specs.Chain.{next_page_of, size_of, piece_of, IsLink, IsPadded}
use Rattle.tune_pages.specs.Inside.Link.{link_bytes}

module _ (next : ℕ) (piece : List ℕ) (fits : next < 2 ^ 32) (few : length piece ≤ 4090) where
  rest : List ℕ
  rest = replicate (4090 - length piece) 0

  parts : link_bytes next piece ≡ big_bytes 4 next ++ (big_bytes 2 (length piece) ++ (piece ++ rest))
  unfolding rest link_bytes
  parts = simp append_assoc

  behind : drop 4 (link_bytes next piece) ≡ big_bytes 2 (length piece) ++ (piece ++ rest)
  behind = ap (λ (l : List ℕ). drop 4 l) parts ∙ drop_at (big_bytes 4 next) (big_bytes 2 (length piece) ++ (piece ++ rest)) 4 refl

  pub next_of-link : next_page_of (link_bytes next piece) ≡ next
  unfolding next_page_of
  next_of-link = ap (big_number 4) parts ∙ big_number-reads_back 4 next (big_bytes 2 (length piece) ++ (piece ++ rest)) fits

  pub size_of-link : size_of (link_bytes next piece) ≡ length piece
  unfolding size_of
  size_of-link = ap (big_number 2) behind ∙ big_number-reads_back 2 (length piece) (piece ++ rest) (omega arith)

  behind_head : drop 6 (link_bytes next piece) ≡ piece ++ rest
  behind_head = sym (drop-drop 2 4 (link_bytes next piece)) ∙ ap (λ (l : List ℕ). drop 2 l) behind
      ∙ drop_at (big_bytes 2 (length piece)) (piece ++ rest) 2 refl

  pub piece_of-link : piece_of (link_bytes next piece) ≡ piece
  unfolding piece_of
  piece_of-link =
      ap (λ (n : ℕ). take n (drop 6 (link_bytes next piece))) size_of-link
      ∙ ap (λ (l : List ℕ). take (length piece) l) behind_head
      ∙ take_at piece rest (length piece) refl

  pub padded-link : IsPadded (link_bytes next piece)
  unfolding rest
  padded-link =
      ap (λ (n : ℕ). drop (6 + n) (link_bytes next piece)) size_of-link
      ∙ sym (drop-drop (length piece) 6 (link_bytes next piece))
      ∙ ap (λ (l : List ℕ). drop (length piece) l) behind_head
      ∙ drop_at piece rest (length piece) refl
      ∙ ap (λ (n : ℕ). replicate (4090 - n) 0) (sym size_of-link)

  pub link_is : 0 < length piece → (next ≢ 0 → length piece ≡ 4090) → IsLink (link_bytes next piece)
  link_is some full = record {
    some = omega (arith, size_of-link);
    most = omega (arith, size_of-link);
    full = λ ne. size_of-link ∙ full (λ is. ne (next_of-link ∙ is));
  }

pub link_full : (next : ℕ) (piece image : List ℕ) → next < 2 ^ 32 → length piece ≡ 4090 → image ≡ link_bytes next piece
    → IsLink image × (next_page_of image ≡ next) × (piece_of image ≡ piece) × IsPadded image
link_full next piece image fits size is =
    subst (λ (i : List ℕ). IsLink i × (next_page_of i ≡ next) × (piece_of i ≡ piece) × IsPadded i) (sym is) (
      link_is next piece fits (omega arith) (omega arith) (λ ne. size),
      next_of-link next piece fits (omega arith),
      piece_of-link next piece fits (omega arith),
      padded-link next piece fits (omega arith),
    )

pub link_last : (piece image : List ℕ) → 0 < length piece → length piece ≤ 4090 → image ≡ link_bytes 0 piece
    → IsLink image × (next_page_of image ≡ 0) × (piece_of image ≡ piece) × IsPadded image
link_last piece image some few is =
    subst (λ (i : List ℕ). IsLink i × (next_page_of i ≡ 0) × (piece_of i ≡ piece) × IsPadded i) (sym is) (
      link_is 0 piece (omega arith) few some (λ ne. absurd (ne refl)),
      next_of-link 0 piece (omega arith) few,
      piece_of-link 0 piece
          (omega arith) few,
      padded-link 0 piece (omega arith) few,
    )

-- a page that ends a chain, by its bytes alone, with zeros behind them
pub link_padded : (head piece : List ℕ) → head ≡ big_bytes 4 0 ++ big_bytes 2 (length piece) → padded_image (head ++ piece) ≡ link_bytes 0 piece
unfolding link_bytes
link_padded head piece is_head =
    let size : length head ≡ 6 = ap length is_head in
    let count : 4096 - length (head ++ piece) ≡ 4090 - length piece = omega (arith, size, length-append head piece) in
    append_assoc head piece (replicate (4096 - length (head ++ piece)) 0)
    ∙ ap (λ (n : ℕ). head ++ (piece ++ replicate n 0)) count
    ∙ ap (λ (l : List ℕ). l ++ (piece ++ replicate (4090 - length piece) 0)) is_head
