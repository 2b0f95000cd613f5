-- What stops may have left over calls of a disk, and of a store over it.
use Rattle.std.proofs.Common.{◌≡◌, ◌⊎◌, inl, inr, ℕ, ◌≤◌, ◌<◌, List, [], ◌∷◌, ◌++◌, length, sym, ◌∙◌, ap, subst, arith, append_assoc, length-append}
use Rattle.tune_disk.specs.Disk.{Medium, DiskState}
use Rattle.tune_disk.specs.Stops.{SinceThen, LeavesOnly, EachLeavesOnly}
use Rattle.tune_store.specs.State.{State}
use Rattle.tune_store.specs.StoreStops.{Among, Passes, StandsForOne}
use Rattle.tune_archive.specs.Media.{moment_of, LeftAt, LeftFrom}
use Rattle.tune_archive.proofs.Media.{left_now}

-- A medium of two lists leaves files of a kind alone, as each of the first list does, or is in the second.
leaves_or_before : (P : List ℕ → Type 0) (a c b : List Medium) (m : Medium) (o : List Medium) → a ++ c ≡ b ++ m ∷ o → EachLeavesOnly a P
    → LeavesOnly m P ⊎ ((d : List Medium) × (c ≡ d ++ m ∷ o))
leaves_or_before P [] c b m o e each = inr (b, e)
leaves_or_before P (x ∷ a) c [] m o e each = (let first : x ≡ m = cc in inl (subst (λ (y : Medium). LeavesOnly y P) first each.0))
leaves_or_before P (x ∷ a) c (y ∷ b) m o e each = (let rest : a ++ c ≡ b ++ m ∷ o = cc in leaves_or_before P a c b m o rest each.1)

-- A medium of two lists with fewer behind it than the second has is in the second.
in_second : (a c b : List Medium) (m : Medium) (o : List Medium) → a ++ c ≡ b ++ m ∷ o → length o < length c → (d : List Medium) × (c ≡ d ++ m ∷ o)
in_second [] c b m o e few = (b, e)
in_second (x ∷ a) c [] m o e few =
    let rest : a ++ c ≡ o = cc in
    let size : length (a ++ c) ≡ length o = ap (λ (l : List Medium). length l) rest in
    absurd (omega (arith, few, size, length-append a c))
in_second (x ∷ a) c (y ∷ b) m o e few = (let rest : a ++ c ≡ b ++ m ∷ o = cc in in_second a c b m o rest few)

module _ (old new : DiskState) (P : List ℕ → Type 0) (then : SinceThen old new P) where
  pub moment_rises : moment_of old ≤ moment_of new
  moment_rises =
      let size : length (new.now ∷ new.past) ≡ length (then.since ++ (old.now ∷ old.past)) = ap (λ (l : List Medium). length l) then.history in
      omega (arith, size, length-append then.since (old.now ∷ old.past))

  -- what a stop might have left it might still have left
  pub left_stays : (since : ℕ) (file : List ℕ) → LeftFrom old since file → LeftFrom new since file
  left_stays since file left = record {
    newer = then.since ++ left.newer;
    medium = left.medium;
    older = left.older;
    history =
        then.history ∙ ap (λ (l : List Medium). then.since ++ l) left.history ∙ sym (append_assoc then.since left.newer (left.medium ∷ left.older));
    later = left.later;
    left = left.left;
  }

  -- and at a moment of then no other file
  pub left_recalled : (at : ℕ) (file : List ℕ) → at ≤ moment_of old → LeftAt new at file → LeftAt old at file
  left_recalled at file early left =
      let is_then = left.is_then in
      let few : length left.older < length (old.now ∷ old.past) = omega (arith, is_then, early) in
      let there = in_second then.since (old.now ∷ old.past) left.newer left.medium left.older (sym then.history ∙ left.history) few in
      record { newer = there.0; medium = left.medium; older = left.older; history = there.1; is_then = left.is_then; left = left.left }

  -- and beside that files of the kind that the calls leave alone
  pub left_then : (since : ℕ) (file : List ℕ) → LeftFrom new since file → LeftFrom old since file ⊎ P file
  left_then since file left =
      elim (leaves_or_before P then.since (old.now ∷ old.past) left.newer left.medium left.older (sym then.history ∙ left.history) then.each) [
        | inl leaves ↦ inr (leaves file left.left)
        | inr there ↦
            inl (record { newer = there.0; medium = left.medium; older = left.older; history = there.1; later = left.later; left = left.left })
      ]

  -- what is left since the moment at which the calls began is of that kind
  pub left_of_kind : (file : List ℕ) → LeftFrom new (moment_of old) file → P file
  left_of_kind file left = elim (left_then (moment_of old) file left) [
    | inl before ↦ then.first file (left_now old file before)
    | inr kind ↦ kind
  ]

-- A store over a disk, which is as it was or from which stops left files of a kind alone, passed these states: each such file stands for one of them.
pub passes_on_disk : {S : Type 0} (honest sound : S → Type 0) (state : S → State) (disk : S → DiskState) (stands_for : List ℕ → State → Type 0)
    (old new : S) (states : List State) (P : List ℕ → Type 0) → (honest new → Among (state new) (state old ∷ states)) → (honest new → honest old)
    → (sound old → sound new) → (honest new → (disk new ≡ disk old) ⊎ SinceThen (disk old) (disk new) P)
    → (sound old → honest new → (file : List ℕ) → P file → StandsForOne stands_for (state old ∷ states) file)
    → Passes (record {
      honest = honest;
      sound = sound;
      state = state;
      moment = λ s. moment_of (disk s);
      left_at = λ s. LeftAt (disk s);
      left_since = λ s. LeftFrom (disk s);
      stands_for = stands_for;
    }) old new states
passes_on_disk honest sound state disk stands_for old new states P reaches was stays moves stands = record {
  reaches = reaches;
  was_honest = was;
  stays_sound = stays;
  later = λ h. elim (moves h) [
    | inl same ↦ (let n : moment_of (disk new) ≡ moment_of (disk old) = ap moment_of same in omega (arith, n))
    | inr then ↦ moment_rises _ _ _ then
  ];
  keeps = λ h since file left. elim (moves h) [
    | inl same ↦ subst (λ (d : DiskState). LeftFrom d since file) (sym same) left
    | inr then ↦ left_stays _ _ _ then since file left
  ];
  recalls = λ h at file early left. elim (moves h) [
    | inl same ↦ subst (λ (d : DiskState). LeftAt d at file) same left
    | inr then ↦ left_recalled _ _ _ then at file early left
  ];
  leaves = λ is h since file early left. elim (moves h) [
    | inl same ↦ inl (subst (λ (d : DiskState). LeftFrom d since file) same left)
    | inr then ↦ elim (left_then _ _ _ then since file left) [
      | inl before ↦ inl before
      | inr kind ↦ inr (stands is h file kind)
    ]
  ];
}
