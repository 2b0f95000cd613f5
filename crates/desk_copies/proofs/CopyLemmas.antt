-- Disks that are copied part by part.
use Rattle.std.proofs.Common.{◌≡◌, ◌⊎◌, inl, inr, ℕ, zero, suc, ◌+◌, ◌<◌, ◌≤◌, List, ◌++◌, length, get_or, take, drop, sym, ◌∙◌, ap, subst, arith}
use Rattle.std.proofs.Common.{length-append, length-drop, refl, [], Result}
use Rattle.desk_copies.specs.Copies.{IsCopied, IsLookedAt}
use Rattle.std.proofs.lemmas.List.{ext_get_or, places, drop-take, take-append-drop, take-take, length-take, get_or_past, get_or_append_left, take_all}
use Rattle.sha2.specs.Hashers.{Holds256}
use Rattle.sha2.specs.Sha256.{sha256}
use Rattle.sha2.specs.declared.Sha256.{Sha256}
use Rattle.tune_disk.specs.Disk.{Shows, Written, length_after, DiskState, Looks, GoesTo, settled}
use Rattle.tune_disk.proofs.Writes.{written_once}

-- what is shown at a place is that part of the file
pub shown_part : (file bytes : List ℕ) (at n : ℕ) → length bytes ≡ n → at + n ≤ length file → Shows file at bytes → bytes ≡ take n (drop at file)
shown_part file bytes at n size fits shows = ext_get_or 0 bytes (take n (drop at file)) same each
  where
    same : length bytes ≡ length (take n (drop at file))
    same = omega (arith, size, fits, length-take n (drop at file), length-drop at file)

    each : (i : ℕ) → i < length bytes → get_or bytes i 0 ≡ get_or (take n (drop at file)) i 0
    each i lt = shows i lt ∙ grind (arith, places, size)

-- a front, and the part behind it
pub take-more : (file : List ℕ) (at n : ℕ) → take (at + n) file ≡ take at file ++ take n (drop at file)
take-more file at n =
    let whole = take-append-drop at (take (at + n) file) in
    sym (rw (take-take at (at + n) file (omega arith), drop-take at n file) at whole)

long_after : (at n long : ℕ) → at ≡ long → long + n ≡ length_after at n long
long_after at zero long is = omega arith
long_after at (suc n) long is = omega (arith, is)

-- bytes that are written at the end of a file
pub written_end : (at : ℕ) (bytes old new : List ℕ) → at ≡ length old → Written at bytes old new → new ≡ old ++ bytes
written_end at bytes old new is w = written_once at bytes old new (old ++ bytes) w end
  where
    outside : (i : ℕ) → (i < at) ⊎ (at + length bytes ≤ i) → get_or (old ++ bytes) i 0 ≡ get_or old i 0
    outside i (inl lt) = get_or_append_left old bytes 0 i (omega (arith, is, lt))
    outside i (inr ge) =
        get_or_past (old ++ bytes) i 0 (omega (arith, is, ge, length-append old bytes)) ∙ sym (get_or_past old i 0 (omega (arith, is, ge)))

    end : Written at bytes old (old ++ bytes)
    end = record {
      long = length-append old bytes ∙ long_after at (length bytes) (length old) is;
      inside = λ k lt. grind (arith, places, is);
      outside = outside;
    }

-- DISKS THAT ARE LOOKED AT
module _ {D : Type 0} (honest : D → Type 0) (state : D → DiskState) where
  pub looked_same : (disk : D) → IsLookedAt honest state disk disk
  looked_same disk = record { was_honest = λ h. h; same = λ h. refl }

  pub looked_then : (a b c : D) → IsLookedAt honest state a b → IsLookedAt honest state b c → IsLookedAt honest state a c
  looked_then a b c h k = record { was_honest = λ m. h.was_honest (k.was_honest m); same = λ m. k.same m ∙ h.same (k.was_honest m) }

  pub looked_by : {T E : Type 0} (failures : D → ℕ) (result : Result T E) (a b : D) → Looks honest failures state result a b → IsLookedAt honest state a b
  looked_by failures result a b h = record { was_honest = h.calls.was_honest; same = h.same }

-- one part more
module _ (file : List ℕ) (at n : ℕ) (bytes : List ℕ) (size : length bytes ≡ n) (fits : at + n ≤ length file) (shows : Shows file at bytes) where
  is : bytes ≡ take n (drop at file)
  is = shown_part file bytes at n size fits shows

  pub copied_more : (old new : List ℕ) → old ≡ take at file → Written at bytes old new → new ≡ take (at + n) file
  copied_more old new so_far written =
      let reach : at ≡ length old = omega (arith, fits, ap (λ (l : List ℕ). length l) so_far, length-take at file) in
      written_end at bytes old new reach written ∙ ap (λ l. l ++ bytes) so_far ∙ ap (λ l. take at file ++ l) is ∙ sym (take-more file at n)

  pub part_more : take at file ++ bytes ≡ take (at + n) file
  part_more = ap (λ l. take at file ++ l) is ∙ sym (take-more file at n)

pub take_none : (file : List ℕ) → take 0 file ≡ []
take_none file = refl

module _ {D : Type 0} (honest : D → Type 0) (state : D → DiskState) where
  -- the length was asked, that nothing stands was, the parts were copied, and the disk was synced
  pub copied_all : (from from1 from2 to to1 to2 to3 : D) (size : ℕ) (sum : List ℕ)
      → IsLookedAt honest state from from1 → (honest from1 → size ≡ length (state from).seen)
      → IsLookedAt honest state to to1 → (honest to1 → (state to).seen ≡ [])
      → IsLookedAt honest state from1 from2 → (honest to2 → honest to1)
      → (honest from2 → honest to2 → size ≡ length (state from1).seen → (state to1).seen ≡ []
      → ((state to2).seen ≡ (state from1).seen) × (sum ≡ sha256 (state from1).seen))
      → (honest to3 → honest to2)
      → (honest to3 → ((state to3).seen ≡ (state to2).seen) × GoesTo (settled (state to2).seen) (state to2) (state to3))
      → honest from2 → honest to3 → IsCopied (state from) (state to3) sum
  copied_all from from1 from2 to to1 to2 to3 size sum first sized second empty third kept copied last synced h k =
      let k2 = last k in
      let k1 = kept k2 in
      let h1 = third.was_honest h in
      let same : state from1 ≡ state from = first.same h1 in
      let long : size ≡ length (state from1).seen = sized h1 ∙ ap (λ (s : DiskState). length s.seen) (sym same) in
      let none : (state to1).seen ≡ [] = ap (λ (s : DiskState). s.seen) (second.same k1) ∙ empty k1 in
      let both = copied h k2 long none in
      let seen : (state to2).seen ≡ (state from).seen = both.0 ∙ ap (λ (s : DiskState). s.seen) same in
      record {
        shown = (synced k).0 ∙ seen;
        kept = (synced k).1.now ∙ ap settled seen;
        summed = both.1 ∙ ap (λ (s : DiskState). sha256 s.seen) same;
      }

  pub summed_all : (disk disk1 disk2 : D) (size : ℕ) (sum : List ℕ) → IsLookedAt honest state disk disk1 → (honest disk1 → size ≡ length (state disk).seen)
      → IsLookedAt honest state disk1 disk2 → (honest disk2 → size ≡ length (state disk1).seen → sum ≡ sha256 (state disk1).seen) → honest disk2
      → sum ≡ sha256 (state disk).seen
  summed_all disk disk1 disk2 size sum first sized second summed h =
      let h1 = second.was_honest h in
      let same : state disk1 ≡ state disk = first.same h1 in
      summed h (sized h1 ∙ ap (λ (s : DiskState). length s.seen) (sym same)) ∙ ap (λ (s : DiskState). sha256 s.seen) same

  -- one part more, and the rest
  pub part_copied : (from from1 to to1 : D) (sum sum1 : Sha256) (at n : ℕ) (bytes : List ℕ) → length bytes ≡ n
      → (honest from1 → Shows (state from).seen at bytes) → (honest to1 → Written at bytes (state to).seen (state to1).seen) → honest from1 → honest to1
      → at + n ≤ length (state from).seen → (state to).seen ≡ take at (state from).seen → (state to1).seen ≡ take (at + n) (state from).seen
  part_copied from from1 to to1 sum sum1 at n bytes size shows writes h k fits so_far =
      copied_more (state from).seen at n bytes size fits (shows h) (state to).seen (state to1).seen so_far (writes k)

  pub part_summed : (from from1 : D) (sum sum1 : Sha256) (at n : ℕ) (bytes : List ℕ) → length bytes ≡ n → (honest from1 → Shows (state from).seen at bytes)
      → ((before : List ℕ) → Holds256 sum before → Holds256 sum1 (before ++ bytes)) → honest from1 → at + n ≤ length (state from).seen
      → Holds256 sum (take at (state from).seen) → Holds256 sum1 (take (at + n) (state from).seen)
  part_summed from from1 sum sum1 at n bytes size shows fed h fits holds =
      subst (Holds256 sum1) (part_more (state from).seen at n bytes size fits (shows h)) (fed (take at (state from).seen) holds)

-- all of a file
pub take_whole : (file : List ℕ) (size at : ℕ) → size ≡ length file → size ≤ at → take at file ≡ file
take_whole file size at is least = take_all at file (omega (arith, is, least))

module _ {D : Type 0} (honest : D → Type 0) (state : D → DiskState) where
  -- a turn of the loop
  pub turn_copied : (first from from1 to0 to to1 : D) (size at some : ℕ) → IsLookedAt honest state first from → IsLookedAt honest state from from1
      → (honest to1 → honest to)
      → (honest from → honest to → size ≡ length (state first).seen → (state to0).seen ≡ [] → (state to).seen ≡ take at (state first).seen)
      → (honest from1 → honest to1 → at + some ≤ length (state from).seen → (state to).seen ≡ take at (state from).seen
      → (state to1).seen ≡ take (at + some) (state from).seen)
      → at + some ≤ size → honest from1 → honest to1 → size ≡ length (state first).seen → (state to0).seen ≡ []
      → (state to1).seen ≡ take (at + some) (state first).seen
  turn_copied first from from1 to0 to to1 size at some looked then kept so_far did within h k sized none =
      let same : state from ≡ state first = looked.same (then.was_honest h) in
      let fits : at + some ≤ length (state first).seen = omega (arith, within, sized) in
      subst (λ (s : DiskState). (state to1).seen ≡ take (at + some) s.seen) same
      (did h k (subst (λ (s : DiskState). at + some ≤ length s.seen) (sym same) fits)
      (subst (λ (s : DiskState). (state to).seen ≡ take at s.seen) (sym same) (so_far (then.was_honest h) (kept k) sized none)))

  pub turn_summed : (first from from1 : D) (sum sum1 : Sha256) (size at some : ℕ) → IsLookedAt honest state first from → IsLookedAt honest state from from1
      → (honest from → size ≡ length (state first).seen → Holds256 sum (take at (state first).seen))
      → (honest from1 → at + some ≤ length (state from).seen → Holds256 sum (take at (state from).seen) → Holds256 sum1 (take (at + some) (state from).seen))
      → at + some ≤ size → honest from1 → size ≡ length (state first).seen → Holds256 sum1 (take (at + some) (state first).seen)
  turn_summed first from from1 sum sum1 size at some looked then so_far did within h sized =
      let same : state from ≡ state first = looked.same (then.was_honest h) in
      let fits : at + some ≤ length (state first).seen = omega (arith, within, sized) in
      subst (λ (s : DiskState). Holds256 sum1 (take (at + some) s.seen)) same
      (did h (subst (λ (s : DiskState). at + some ≤ length s.seen) (sym same) fits)
      (subst (λ (s : DiskState). Holds256 sum (take at s.seen)) (sym same) (so_far (then.was_honest h) sized)))
