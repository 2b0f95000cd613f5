-- What a disk in memory makes of a file by filling what was written.
use Rattle.std.proofs.Common.{◌≡◌, ◌⊎◌, inl, inr, ℕ, ◌+◌, ◌-◌, ◌<◌, ◌≤◌, List, [], ◌∷◌, ◌++◌, length, get_or, replicate, refl, sym, ◌∙◌, ap, arith}
use Rattle.std.proofs.Common.{length-append, Vec, Global}
use Rattle.std.proofs.lemmas.Bool.{cases_lt}
use Rattle.std.proofs.lemmas.List.{get_or-append_right, get_or_append_left, get_or-replicate, length-replicate, get_or_default}
use Rattle.tune_disk.specs.Disk.{DiskState, MayLeave, Untouched}
use Rattle.tune_disk.specs.Inside.Fills.{Fills}
use Rattle.tune_disk.specs.Memory.{IsFilled, IsStableAt}
use Rattle.tune_disk.specs.declared.memory.Record.{Record}
use Rattle.tune_disk.specs.declared.memory.Record.TheVariants.{Write, Sync}

-- one record more that is no sync
pub no_later_sync : (records : List Record) (i at : ℕ) (v : Vec ℕ Global) (one : Record) → one ≡ get_or records i one → one ≡ Write at v → i < length records
    → (synced : ℕ) → ((k : ℕ) → synced ≤ k → k < i → get_or records k Sync ≡ Sync → ⊥)
    → (k : ℕ) → synced ≤ k → k < i + 1 → get_or records k Sync ≡ Sync → ⊥
no_later_sync records i at v one is write lt synced before k le less sync = elim (cases_lt k i) [
  | inl earlier ↦ before k le earlier sync
  | inr ge ↦
      (let here : k ≡ i = omega (arith, ge, less) in
      let both : Write at v ≡ Sync =
      sym write ∙ is ∙ get_or_default records i one Sync lt ∙ sym (ap (λ (j : ℕ). get_or records j Sync) here) ∙ sync in
      cc)
]

-- whether an offset was written
untouched_or : (ranges : List (ℕ × ℕ)) (i : ℕ) → Untouched ranges i ⊎ (Untouched ranges i → ⊥)
untouched_or [] i = inl tt
untouched_or (range ∷ ranges) i = elim (untouched_or ranges i) [
  | inr touched ↦ inr (λ u. touched u.1)
  | inl rest ↦ elim (cases_lt i range.0) [
    | inl lt ↦ inl (inl lt, rest)
    | inr from ↦ elim (cases_lt i (range.0 + range.1)) [
      | inl within ↦ inr (λ u. within_it i range.0 range.1 from within u.0)
      | inr past ↦ inl (inr past, rest)
    ]
  ]
]
  where
    within_it : (i at n : ℕ) → at ≤ i → i < at + n → (i < at) ⊎ (at + n ≤ i) → ⊥
    within_it i at n from to (inl lt) = absurd (omega arith)
    within_it i at n from to (inr ge) = absurd (omega arith)

-- no range fills nothing
pub fills_none : (byte : ℕ) (file : List ℕ) → Fills byte [] file file
fills_none byte file = record {
  long = refl;
  outside = λ i _. refl;
  inside = λ i _ touched. absurd (touched tt);
}

-- one range more
pub fills_more : (byte at n : ℕ) (ranges : List (ℕ × ℕ)) (old mid new : List ℕ) → Fills byte ranges old mid → Fills byte ((at, n) ∷ []) mid new
    → Fills byte ((at, n) ∷ ranges) old new
fills_more byte at n ranges old mid new before one = record {
  long = one.long ∙ before.long;
  outside = λ i u. one.outside i (u.0, tt) ∙ before.outside i u.1;
  inside = λ i lt touched.
      elim (untouched_or ((at, n) ∷ []) i) [
        | inr here ↦ one.inside i lt here
        | inl out ↦
            one.outside i out
            ∙ before.inside i (omega (arith, lt, one.long)) (λ u. touched (out.0, u))
      ];
}

-- What the last sync left, made as long as the present content, and then filled.
module _ (byte : ℕ) (s : DiskState) (longer file : List ℕ) (stays : MayLeave s.now s.seen)
    (long : longer ≡ s.now.stable ++ replicate (length s.seen - length s.now.stable) byte) (fills : Fills byte s.now.written longer file) where
  abbrev behind : List ℕ
  behind = replicate (length s.seen - length s.now.stable) byte

  length_longer : length longer ≡ length s.seen
  length_longer =
      ap length long ∙ omega (arith, length-append s.now.stable behind, length-replicate (length s.seen - length s.now.stable) byte, stays.no_shorter)

  within : (i : ℕ) → i < length s.now.stable → get_or longer i 0 ≡ get_or s.now.stable i 0
  within i lt = ap (λ (l : List ℕ). get_or l i 0) long ∙ get_or_append_left s.now.stable behind 0 i lt

  past : (i : ℕ) → length s.now.stable ≤ i → i < length longer → get_or longer i 0 ≡ byte
  past i ge lt =
      ap (λ (l : List ℕ). get_or l i 0) long
      ∙ get_or-append_right s.now.stable behind (length s.now.stable) i 0 refl ge
      ∙ get_or-replicate (length s.seen - length s.now.stable) (i - length s.now.stable) byte 0 (omega (arith, ge, lt, length_longer))

  pub filled_is : IsFilled byte s file
  filled_is = record {
    long = fills.long ∙ length_longer;
    stable = λ i at. fills.outside i at.1 ∙ within i at.0;
    filled = λ i lt other. each i lt other (untouched_or s.now.written i) (cases_lt i (length s.now.stable));
  }
    where
      each : (i : ℕ) → i < length file → (IsStableAt s i → ⊥) → Untouched s.now.written i ⊎ (Untouched s.now.written i → ⊥)
          → (i < length s.now.stable) ⊎ (length s.now.stable ≤ i) → get_or file i 0 ≡ byte
      each i lt other (inr touched) where_is = fills.inside i lt touched
      each i lt other (inl untouched) (inl less) = absurd (other (less, untouched))
      each i lt other (inl untouched) (inr ge) = fills.outside i untouched ∙ past i ge (omega (arith, lt, fills.long))

-- a stop may leave such a file
pub filled_stays : (byte : ℕ) (s : DiskState) (file : List ℕ) → MayLeave s.now s.seen → IsFilled byte s file → MayLeave s.now file
filled_stays byte s file stays is = record {
  no_shorter = omega (arith, stays.no_shorter, is.long);
  no_longer = omega (arith, stays.no_longer, is.long);
  same = λ i lt untouched. is.stable i (lt, untouched);
}
