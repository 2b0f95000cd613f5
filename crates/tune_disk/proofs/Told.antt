-- What a file that told one thing more stands for.
use Rattle.std.proofs.Common.{◌≡◌, ◌⊎◌, inl, inr, ℕ, ◌+◌, ◌-◌, ◌<◌, ◌≤◌, List, [], ◌∷◌, ◌++◌, length, get_or, refl, sym, ◌∙◌, ap, subst, arith, Result, Ok, Err}
use Rattle.std.proofs.Common.{IfOk, OnOk, OnErr, IsErr, MatchResult, is_ok}
use Rattle.std.proofs.lemmas.Bool.{cases_lt}
use Rattle.std.proofs.lemmas.List.{get_or_past, append-nil, append_assoc}
use Rattle.tune_disk.specs.ByteWrites.{put}
use Rattle.tune_disk.specs.Disk.{DiskState, Written, Torn, GoesTo, Writes, Syncs, touched}
use Rattle.tune_disk.specs.FileTold.{History, Course, told_at, course, AnswerFits, AnswersFit, after_write, after_sync}
use Rattle.tune_disk.proofs.Overwrites.{put_written}
use Rattle.tune_disk.specs.Inside.ToldMore.{IsToldMore, IsToldRead, IsToldWrite}
use Rattle.tune_disk.specs.Inside.ToldMore.{IsToldBroken, IsToldTaken}
use Rattle.tune_disk.specs.declared.file.told.Told.{Told}
use Rattle.tune_disk.specs.declared.file.told.Told.TheVariants.{Length, Byte, Ended, Begun, Put, Wrote, Broke, Synced}

-- what a file told, with the offset of each answer
abbrev Log : Type 0
Log = List (ℕ × Told)

-- One answer more.

course_more : (h : History) (c : Course) (all : Log) (at : ℕ) (one : Told) → course h c (all ++ (at, one) ∷ []) ≡ told_at h at one (course h c all)
course_more h c [] at one = refl
course_more h c (first ∷ all) at one = course_more h (told_at h first.0 first.1 c) all at one

fit_more : (h : History) (c : Course) (all : Log) (at : ℕ) (one : Told) → AnswersFit h c (all ++ (at, one) ∷ [])
    → AnswersFit h c all × AnswerFits h (course h c all) at one
fit_more h c [] at one fit = (tt, fit.0)
fit_more h c (first ∷ all) at one fit = (let rest = fit_more h (told_at h first.0 first.1 c) all at one fit.1 in ((fit.0, rest.0), rest.1))

module _ (old new : Log) (at : ℕ) (one : Told) (is : new ≡ old ++ (at, one) ∷ []) where
  course_is : (h : History) (c : Course) → course h c new ≡ told_at h at one (course h c old)
  course_is h c = ap (course h c) is ∙ course_more h c old at one

  state_is : (h : History) (c : Course) → (course h c new).state ≡ (told_at h at one (course h c old)).state
  state_is h c = ap (λ (k : Course). k.state) (course_is h c)

  fit_is : (h : History) (c : Course) → AnswersFit h c new → AnswersFit h c old × AnswerFits h (course h c old) at one
  fit_is h c fit = fit_more h c old at one (subst (AnswersFit h c) is fit)

  more_told : ((h : History) (c : Course) → (told_at h at one c).state ≡ c.state) → IsToldMore old new
  more_told same = record { fits = λ h c fit. (fit_is h c fit).0; state = λ h c. state_is h c ∙ same h (course h c old) }

told_none : (log : Log) → IsToldMore log log
told_none log = record { fits = λ h c fit. fit; state = λ h c. refl }

pub told_same : (a z : Log) → z ≡ a → IsToldMore a z
told_same a z is = subst (IsToldMore a) (sym is) (told_none a)

pub told_then : (a b c : Log) → IsToldMore a b → IsToldMore b c → IsToldMore a c
told_then a b c s t = record { fits = λ h k fit. s.fits h k (t.fits h k fit); state = λ h k. t.state h k ∙ s.state h k }

-- Reads.

-- one byte more
pub read_byte : (at n b : ℕ) (bytes : List ℕ) (a m z : Log) → b ≡ get_or bytes n 0 → IsToldRead at n bytes a m → z ≡ m ++ (at + n, Byte b) ∷ []
    → IsToldRead at (n + 1) bytes a z
read_byte at n b bytes a m z b_is r is = record {
  more = told_then a m z r.more (more_told m z (at + n) (Byte b) is (λ h c. refl));
  shown = λ h c fit k lt. (let one = fit_is m z (at + n) (Byte b) is h c fit in each h c one.0 one.1 k (last_or k lt));
}
  where
    last_or : (k : ℕ) → k < n + 1 → (k < n) ⊎ (k ≡ n)
    last_or k lt = elim (cases_lt k n) [
      | inl less ↦ inl less
      | inr ge ↦ inr (omega arith)
    ]

    each : (h : History) (c : Course) → AnswersFit h c m → AnswerFits h (course h c m) (at + n) (Byte b) → (k : ℕ) → (k < n) ⊎ (k ≡ n)
        → get_or bytes k 0 ≡ get_or (course h c a).state.seen (at + k) 0
    each h c fit one k (inl less) = r.shown h c fit k less
    each h c fit one k (inr last) =
        ap (λ (j : ℕ). get_or bytes j 0) last ∙ sym b_is ∙ one
        ∙ ap (λ (l : List ℕ). get_or l (at + n) 0) (ap (λ (s : DiskState). s.seen) (r.more.state h c))
        ∙ ap (λ (j : ℕ). get_or (course h c a).state.seen (at + j) 0) (sym last)

-- a read that found the end, and a buffer of zeros
pub read_ended : (at n : ℕ) (bytes : List ℕ) (a z : Log) → z ≡ a ++ (at, Ended) ∷ [] → ((k : ℕ) → get_or bytes k 0 ≡ 0) → IsToldRead at n bytes a z
read_ended at n bytes a z is zeros = record {
  more = more_told a z at Ended is (λ h c. refl);
  shown = λ h c fit k lt. zeros k ∙ sym (get_or_past (course h c a).state.seen (at + k) 0 (past h c k (fit_is a z at Ended is h c fit).1));
}
  where
    past : (h : History) (c : Course) (k : ℕ) → length (course h c a).state.seen ≤ at → length (course h c a).state.seen ≤ at + k
    past h c k le = omega (arith, le)

-- a read that goes on behind another
pub read_join : (at d n : ℕ) (xs ys zs : List ℕ) (a m z : Log) → IsToldRead at d xs a m → IsToldRead (at + d) n ys m z
    → ((k : ℕ) → k < d → get_or zs k 0 ≡ get_or xs k 0) → ((k : ℕ) → k < n → get_or zs (d + k) 0 ≡ get_or ys k 0) → IsToldRead at (d + n) zs a z
read_join at d n xs ys zs a m z r s front back = record {
  more = told_then a m z r.more s.more;
  shown = λ h c fit k lt. each h c fit k (part k lt);
}
  where
    part : (k : ℕ) → k < d + n → (k < d) ⊎ ((j : ℕ) × (j < n) × (k ≡ d + j))
    part k lt = elim (cases_lt k d) [
      | inl less ↦ inl less
      | inr ge ↦ inr (k - d, omega arith, omega arith)
    ]

    shift : (j : ℕ) → (at + d) + j ≡ at + (d + j)
    shift j = omega arith

    each : (h : History) (c : Course) → AnswersFit h c z → (k : ℕ) → (k < d) ⊎ ((j : ℕ) × (j < n) × (k ≡ d + j))
        → get_or zs k 0 ≡ get_or (course h c a).state.seen (at + k) 0
    each h c fit k (inl less) = front k less ∙ r.shown h c (s.more.fits h c fit) k less
    each h c fit k (inr it) =
        ap (λ (i : ℕ). get_or zs i 0) it.2 ∙ back it.0 it.1 ∙ s.shown h c fit it.0 it.1
        ∙ ap (λ (l : List ℕ). get_or l ((at + d) + it.0) 0) (ap (λ (t : DiskState). t.seen) (r.more.state h c))
        ∙ ap (λ (i : ℕ). get_or (course h c a).state.seen i 0) (shift it.0 ∙ ap (λ (i : ℕ). at + i) (sym it.2))

-- A write.

hand_is : (old new : Log) (at : ℕ) (one : Told) → new ≡ old ++ (at, one) ∷ [] → (h : History) (c : Course)
    → (course h c new).hand ≡ (told_at h at one (course h c old)).hand
hand_is old new at one is h c = ap (λ (k : Course). k.hand) (course_is old new at one is h c)

pub taken_none : (log : Log) → IsToldTaken [] log log
taken_none log = record { more = told_none log; hand = λ h c. sym (append-nil (course h c log).hand) }

pub taken_then : (xs ys : List ℕ) (a m z : Log) → IsToldTaken xs a m → IsToldTaken ys m z → IsToldTaken (xs ++ ys) a z
taken_then xs ys a m z r s = record {
  more = told_then a m z r.more s.more;
  hand = λ h c.
      s.hand h c ∙ ap (λ (l : List ℕ). l ++ ys) (r.hand h c) ∙ append_assoc (course h c a).hand xs ys;
}

-- one byte more
pub taken_more : (at b : ℕ) (bytes : List ℕ) (a m z : Log) → IsToldTaken bytes a m → z ≡ m ++ (at, Put b) ∷ [] → IsToldTaken (bytes ++ b ∷ []) a z
taken_more at b bytes a m z r is =
    taken_then bytes (b ∷ []) a m z r (record { more = more_told m z at (Put b) is (λ h c. refl); hand = λ h c. hand_is m z at (Put b) is h c })

-- A write began at b, which took these bytes by m, and ended at z.
module _ (at : ℕ) (a b m z : Log) (begun : b ≡ a ++ (at, Begun) ∷ []) where
  began : IsToldMore a b
  began = more_told a b at Begun begun (λ h c. refl)

  pub written_told : (bytes : List ℕ) → IsToldTaken bytes b m → z ≡ m ++ (at, Wrote) ∷ [] → IsToldWrite at bytes a z
  written_told bytes r is = record {
    fits = λ h c fit. began.fits h c (r.more.fits h c (fit_is m z at Wrote is h c fit).0);
    state = λ h c.
        (let hand = (course h c m).hand in
        let s = (course h c a).state in
        let same : hand ≡ bytes = r.hand h c ∙ ap (λ (l : List ℕ). l ++ bytes) (hand_is a b at Begun begun h c) in
        state_is m z at Wrote is h c
        ∙ ap (λ (t : DiskState). after_write at (length hand) (put at hand t.seen) t) (r.more.state h c ∙ began.state h c)
        ∙ ap (λ (l : List ℕ). after_write at (length l) (put at l s.seen) s) same);
  }

  pub broken_told : (n : ℕ) → IsToldMore b m → z ≡ m ++ (at, Broke n) ∷ [] → IsToldBroken at n a z
  broken_told n r is = record {
    fits = λ h c fit. began.fits h c (r.fits h c (fit_is m z at (Broke n) is h c fit).0);
    state = λ h c fit.
        (let content = get_or h.broken (course h c m).failed [] in
        let same : (course h c m).state ≡ (course h c a).state = r.state h c ∙ began.state h c in (
          content,
          (
            subst (λ (t : DiskState). Torn at n t.seen content) same (fit_is m z at (Broke n) is h c fit).1,
            state_is m z at (Broke n) is h c ∙ ap (λ (t : DiskState). after_write at n content t) same,
          ),
        ));
  }

-- What the calls of the system owe the disk.

pub on_ok : {T E : Type 0} (r : Result T E) (P : Type 0) → P → OnOk r P
on_ok (Ok v) P p = p
on_ok (Err e) P p = tt

pub on_err : {T E : Type 0} (r : Result T E) (P : Type 0) → P → OnErr r P
on_err (Ok v) P p = tt
on_err (Err e) P p = p

-- an answer without its error is one where the answer was
pub same_answer : {T E F : Type 0} (r : Result T E) (t : Result T F) → MatchResult r (λ v. t ≡ Ok v) (λ _. IsErr t) → is_ok t ≡ is_ok r
same_answer (Ok v) t same = ap is_ok same
same_answer (Err e) (Err f) same = refl
same_answer (Err e) (Ok v) same = cc

pub length_more : {E : Type 0} (r : Result ℕ E) (a z : Log) → IfOk r (λ n. z ≡ a ++ (0, Length n) ∷ []) → OnErr r (z ≡ a) → IsToldMore a z
length_more (Ok n) a z ok err = more_told a z 0 (Length n) ok (λ h c. refl)
length_more (Err e) a z ok err = told_same a z err

pub length_told : {E F : Type 0} (h : History) (c : Course) (r : Result ℕ E) (t : Result ℕ F) (a z : Log) → IfOk r (λ n. z ≡ a ++ (0, Length n) ∷ [])
    → MatchResult r (λ n. t ≡ Ok n) (λ _. IsErr t) → IfOk t (λ n. AnswersFit h c z → n ≡ length (course h c a).state.seen)
length_told h c (Ok n) (Ok m) a z ok same = λ fit. (let it : m ≡ n = cc in it ∙ (fit_is a z 0 (Length n) ok h c fit).1)
length_told h c r (Err e) a z ok same = tt
length_told h c (Err e) (Ok m) a z ok same = cc

pub sync_more : {T E : Type 0} (r : Result T E) (a z : Log) → OnOk r (z ≡ a ++ (0, Synced) ∷ []) → OnErr r (z ≡ a)
    → (h : History) (c : Course) → AnswersFit h c z → AnswersFit h c a
sync_more (Ok t) a z ok err h c fit = (fit_is a z 0 Synced ok h c fit).0
sync_more (Err e) a z ok err h c fit = subst (AnswersFit h c) err fit

pub sync_told : {T U E F : Type 0} (h : History) (c : Course) (r : Result T E) (t : Result U F) (a z : Log) → OnOk r (z ≡ a ++ (0, Synced) ∷ [])
    → OnErr r (z ≡ a) → is_ok t ≡ is_ok r → Syncs t (course h c a).state (course h c z).state
sync_told h c (Ok x) (Ok y) a z ok err same =
    let is : (course h c z).state ≡ after_sync (course h c a).state = state_is a z 0 Synced ok h c in
    (ap (λ (s : DiskState). s.seen) is, record { now = ap (λ (s : DiskState). s.now) is; past = ap (λ (s : DiskState). s.past) is })
sync_told h c (Err x) (Err y) a z ok err same = ap (λ (l : Log). (course h c l).state) err
sync_told h c (Ok x) (Err y) a z ok err same = cc
sync_told h c (Err x) (Ok y) a z ok err same = cc

pub write_more : {T E : Type 0} (r : Result T E) (at : ℕ) (bytes : List ℕ) (a z : Log) → OnOk r (IsToldWrite at bytes a z)
    → OnErr r (IsToldBroken at (length bytes) a z) → (h : History) (c : Course) → AnswersFit h c z → AnswersFit h c a
write_more (Ok t) at bytes a z ok err h c fit = ok.fits h c fit
write_more (Err e) at bytes a z ok err h c fit = err.fits h c fit

write_goes : (at n : ℕ) (content : List ℕ) (s z : DiskState) → z ≡ after_write at n content s → GoesTo (touched at n s.now) s z
write_goes at n content s z is = record { now = ap (λ (t : DiskState). t.now) is; past = ap (λ (t : DiskState). t.past) is }

pub write_told : {T U E F : Type 0} (h : History) (c : Course) (r : Result T E) (t : Result U F) (at : ℕ) (bytes : List ℕ) (a z : Log)
    → OnOk r (IsToldWrite at bytes a z) → OnErr r (IsToldBroken at (length bytes) a z) → is_ok t ≡ is_ok r → AnswersFit h c z
    → Writes at bytes t (course h c a).state (course h c z).state
write_told h c (Ok x) (Ok y) at bytes a z ok err same fit =
    let s = (course h c a).state in
    let is = ok.state h c in (
      subst (Written at bytes s.seen) (sym (ap (λ (t : DiskState). t.seen) is)) (put_written at bytes s.seen),
      write_goes at (length bytes) (put at bytes s.seen) s (course h c z).state is,
    )
write_told h c (Err x) (Err y) at bytes a z ok err same fit =
    let n = length bytes in
    let s = (course h c a).state in
    let left = err.state h c fit in
    inr (
      subst (Torn at n s.seen) (sym (ap (λ (t : DiskState). t.seen) left.1.1)) left.1.0,
      write_goes at n left.0 s (course h c z).state left.1.1,
    )
write_told h c (Ok x) (Err y) at bytes a z ok err same fit = cc
write_told h c (Err x) (Ok y) at bytes a z ok err same fit = cc
