-- Numbers, roots and keys of numbers as bytes.
use Rattle.std.proofs.Common.{◌≡◌, ℕ, ◌+◌, ◌-◌, ◌*◌, ◌^◌, ◌<◌, List, [], ◌++◌, length, replicate, slice_index}
use Rattle.std.proofs.Common.{refl, sym, ◌∙◌, ap, arith}
use Rattle.byteorder.specs.Endian.{big_bytes, big_from, big_number}
use Rattle.byteorder.specs.Numbers.{big_from-lt, big_number-reads_back}
use Rattle.tune_store.specs.Limits.{layout_number}
use Rattle.tune_store.specs.declared.layout.Layout.{Layout}
use Rattle.tune_store.specs.declared.layout.Layout.TheVariants.{One, Two}
use Rattle.tune_format.specs.Written.{IsRoot, head_of_root, number_at, root_bytes}
use Rattle.tune_format.specs.declared.root.Firsts.{Firsts}

-- a number at the front of bytes is read back
pub number_front : (x : ℕ) (rest : List ℕ) → x < 2 ^ 32 → number_at 0 (big_bytes 4 x ++ rest) ≡ x
number_front x rest small = big_number-reads_back 4 x rest (omega (arith, small))

-- THE ROOT
small_layout : (layout : Layout) → layout_number layout < 2 ^ 32
small_layout One = omega arith
small_layout Two = omega arith

-- pages that a root may name
pub record AreSmallFirsts (firsts : Firsts) : Type 0 where
  pub numbers : firsts.numbers < 2 ^ 32
  pub titles : firsts.searches.titles < 2 ^ 32
  pub rhythms : firsts.searches.rhythms < 2 ^ 32
  pub scales : firsts.searches.scales < 2 ^ 32
  pub incipits : firsts.searches.incipits < 2 ^ 32
  pub sets : firsts.sets < 2 ^ 32

pub root_is : (layout : Layout) (firsts : Firsts) → AreSmallFirsts firsts → IsRoot layout (root_bytes layout firsts) firsts
unfolding root_bytes
root_is layout firsts small =
    let zeros = replicate 4068 0 in
    let s = firsts.searches in
    let sets = big_bytes 4 firsts.sets ++ zeros in
    let incipits = big_bytes 4 s.incipits ++ sets in
    let scales = big_bytes 4 s.scales ++ incipits in
    let rhythms = big_bytes 4 s.rhythms ++ scales in
    let titles = big_bytes 4 s.titles ++ rhythms in
    let numbers = big_bytes 4 firsts.numbers ++ titles in
    record {
      is_version = number_front (layout_number layout) numbers (small_layout layout);
      numbers = number_front firsts.numbers titles small.numbers;
      titles = number_front s.titles rhythms small.titles;
      rhythms = number_front s.rhythms scales small.rhythms;
      scales = number_front s.scales incipits small.scales;
      incipits = number_front s.incipits sets small.incipits;
      sets = number_front firsts.sets zeros small.sets;
    }

-- what a root says, and zeros to the end of the page
pub root_made : (layout : Layout) (firsts : Firsts) (head bytes : List ℕ) → head ≡ head_of_root layout firsts
    → bytes ≡ head ++ replicate (4096 - length head) 0 → bytes ≡ root_bytes layout firsts
unfolding root_bytes
root_made layout firsts head bytes is padded = padded ∙ ap (λ l. l ++ replicate (4096 - length l) 0) is

-- KEYS OF NUMBERS
-- 32 bytes spell the number of the first four of them, and what is behind
parted : (xs : List ℕ) → big_from 0 32 xs ≡ big_from 0 4 xs * 256 ^ 28 + big_from 4 28 xs
parted xs =
    let rest = big_from 4 28 xs in
    let whole : big_from 0 32 xs
    ≡ slice_index xs 0 * 256 ^ 31 + (slice_index xs 1 * 256 ^ 30 + (slice_index xs 2 * 256 ^ 29 + (slice_index xs 3 * 256 ^ 28 + rest))) = refl in
    let front : big_from 0 4 xs
    ≡ slice_index xs 0 * 256 ^ 3 + (slice_index xs 1 * 256 ^ 2 + (slice_index xs 2 * 256 ^ 1 + (slice_index xs 3 * 256 ^ 0 + 0))) = refl in
    omega (arith, whole, front)

-- the number of which bytes are the key
pub key_number : (number key : ℕ) (xs : List ℕ) → ((k : ℕ) → slice_index xs k < 256) → big_from 0 32 xs ≡ key → number * 256 ^ 28 ≡ key
    → big_from 0 4 xs ≡ number
key_number number key xs small is same =
    let split = parted xs in
    let rest = big_from-lt 4 28 xs small in
    omega (arith, split, rest, is, same)

-- a number in four bytes, and zeros behind
pub key_made : (number : ℕ) → number < 2 ^ 32 → big_from 0 32 (big_bytes 4 number ++ replicate 28 0) ≡ number * 256 ^ 28
key_made number small =
    let xs = big_bytes 4 number ++ replicate 28 0 in
    let split = parted xs in
    let front = number_front number (replicate 28 0) small in
    let zeros : big_from 4 28 xs ≡ 0 = refl in
    omega (arith, split, front, zeros)

-- keys that have the same bytes are the same
pub same_key : (one other : ℕ) → one < 256 ^ 32 → other < 256 ^ 32 → big_bytes 32 one ≡ big_bytes 32 other → one ≡ other
same_key one other less also same =
    sym (big_number-reads_back 32 one [] less) ∙ ap (λ (l : List ℕ). big_number 32 (l ++ [])) same ∙ big_number-reads_back 32 other [] also
