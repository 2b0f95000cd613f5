-- How a run of calls of a disk goes on.
use Rattle.std.proofs.Common.{◌≡◌, ◌⊎◌, inl, inr, ℕ, ◌+◌, ◌<◌, ◌≤◌, List, [], ◌∷◌, ◌++◌, length, get_or, refl, sym}
use Rattle.std.proofs.Common.{◌∙◌, ap, subst, arith, length-append, Result, Ok, Err}
use Rattle.std.proofs.lemmas.List.{append_assoc, ext_get_or}
use Rattle.tune_disk.specs.Disk.{Medium, DiskState, MayLeave, GoesTo, touched, settled, Writes, Syncs}
use Rattle.tune_disk.proofs.Overwrites.{longer_after}
use Rattle.tune_disk.specs.Inside.Spares.{KeepsOffsets, EachKeepsOffsets, SparesOffsets, Agrees}
use Rattle.tune_disk.specs.Stops.{LeavesOnly, EachLeavesOnly, SinceThen}

-- Runs of writes that spare some bytes.

keeps_none : (Kept : ℕ → Type 0) (m : Medium) → KeepsOffsets Kept m m
keeps_none Kept m = record { stable = refl; untouched = λ i _ u. u }

keeps_fewer : (Kept Fewer : ℕ → Type 0) → ((i : ℕ) → Fewer i → Kept i) → (a b : Medium) → KeepsOffsets Kept a b → KeepsOffsets Fewer a b
keeps_fewer Kept Fewer f a b k = record { stable = k.stable; untouched = λ i fewer u. k.untouched i (f i fewer) u }

keeps_then : (Kept : ℕ → Type 0) (a b c : Medium) → KeepsOffsets Kept a b → KeepsOffsets Kept b c → KeepsOffsets Kept a c
keeps_then Kept a b c k l = record { stable = l.stable ∙ k.stable; untouched = λ i kept u. l.untouched i kept (k.untouched i kept u) }

each_keeps_fewer : (Kept Fewer : ℕ → Type 0) → ((i : ℕ) → Fewer i → Kept i) → (a : Medium) (ms : List Medium) → EachKeepsOffsets Kept a ms
    → EachKeepsOffsets Fewer a ms
each_keeps_fewer Kept Fewer f a [] e = tt
each_keeps_fewer Kept Fewer f a (m ∷ ms) e = (keeps_fewer Kept Fewer f a m e.0, each_keeps_fewer Kept Fewer f a ms e.1)

each_keeps_then : (Kept : ℕ → Type 0) (a b : Medium) → KeepsOffsets Kept a b → (ms : List Medium) → EachKeepsOffsets Kept b ms → EachKeepsOffsets Kept a ms
each_keeps_then Kept a b k [] e = tt
each_keeps_then Kept a b k (m ∷ ms) e = (keeps_then Kept a b m k e.0, each_keeps_then Kept a b k ms e.1)

each_keeps_both : (Kept : ℕ → Type 0) (a : Medium) (ms ns : List Medium) → EachKeepsOffsets Kept a ms → EachKeepsOffsets Kept a ns
    → EachKeepsOffsets Kept a (ms ++ ns)
each_keeps_both Kept a [] ns e f = f
each_keeps_both Kept a (m ∷ ms) ns e f = (e.0, each_keeps_both Kept a ms ns e.1 f)

-- a run behind a run
since_both : (a b c : DiskState) (s t : List Medium) → b.now ∷ b.past ≡ s ++ (a.now ∷ a.past) → c.now ∷ c.past ≡ t ++ (b.now ∷ b.past)
    → c.now ∷ c.past ≡ (t ++ s) ++ (a.now ∷ a.past)
since_both a b c s t first then = then ∙ ap (λ (l : List Medium). t ++ l) first ∙ sym (append_assoc t s (a.now ∷ a.past))

-- Nothing happened.
pub spares_none : (Kept : ℕ → Type 0) (s : DiskState) → SparesOffsets Kept s s
spares_none Kept s = record {
  since = [];
  history = refl;
  each = tt;
  now = keeps_none Kept s.now;
  longer = omega arith;
  seen = λ i _. refl;
}

pub spares_then : (Kept : ℕ → Type 0) (a b c : DiskState) → SparesOffsets Kept a b → SparesOffsets Kept b c → SparesOffsets Kept a c
spares_then Kept a b c s t = record {
  since = t.since ++ s.since;
  history = since_both a b c s.since t.since s.history t.history;
  each = each_keeps_both Kept a.now t.since s.since (each_keeps_then Kept a.now b.now s.now t.since t.each) s.each;
  now = keeps_then Kept a.now b.now c.now s.now t.now;
  longer = omega (arith, s.longer, t.longer);
  seen = λ i kept. t.seen i kept ∙ s.seen i kept;
}

-- fewer offsets are kept
pub spares_fewer : (Kept Fewer : ℕ → Type 0) (a b : DiskState) → ((i : ℕ) → Fewer i → Kept i) → SparesOffsets Kept a b → SparesOffsets Fewer a b
spares_fewer Kept Fewer a b f s = record {
  since = s.since;
  history = s.history;
  each = each_keeps_fewer Kept Fewer f a.now s.since s.each;
  now = keeps_fewer Kept Fewer f a.now b.now s.now;
  longer = s.longer;
  seen = λ i k. s.seen i (f i k);
}

module _ (Kept : ℕ → Type 0) (at : ℕ) (bytes : List ℕ) (out : (i : ℕ) → Kept i → (i < at) ⊎ (at + length bytes ≤ i)) where
  -- one write, whole or not
  spares_touch : (a b : DiskState) → GoesTo (touched at (length bytes) a.now) a b → length a.seen ≤ length b.seen
      → ((i : ℕ) → (i < at) ⊎ (at + length bytes ≤ i) → get_or b.seen i 0 ≡ get_or a.seen i 0) → SparesOffsets Kept a b
  spares_touch a b to longer same =
      let keeps : KeepsOffsets Kept a.now (touched at (length bytes) a.now) = record { stable = refl; untouched = λ i kept u. (out i kept, u) } in
      record {
        since = touched at (length bytes) a.now ∷ [];
        history = λ i. to.now i ∷ to.past i;
        each = (keeps, tt);
        now = subst (KeepsOffsets Kept a.now) (sym to.now) keeps;
        longer = longer;
        seen = λ i kept. same i (out i kept);
      }

  written_spares : {T E : Type 0} (r : Result T E) (a b : DiskState) → Writes at bytes r a b → SparesOffsets Kept a b
  written_spares (Ok t) a b w = spares_touch a b w.1 (omega (arith, w.0.long, longer_after at (length bytes) (length a.seen))) w.0.outside
  written_spares (Err e) a b (inl same) = subst (λ (s : DiskState). SparesOffsets Kept a s) (sym same) (spares_none Kept a)
  written_spares (Err e) a b (inr w) = spares_touch a b w.1 w.0.no_shorter w.0.outside

-- one write, whatever it answered
pub spares_write : {T E : Type 0} (Kept : ℕ → Type 0) (at : ℕ) (bytes : List ℕ) (r : Result T E) (a b : DiskState) → Writes at bytes r a b
    → ((i : ℕ) → Kept i → (i < at) ⊎ (at + length bytes ≤ i)) → SparesOffsets Kept a b
spares_write Kept at bytes r a b w out = written_spares Kept at bytes out r a b w

-- What a stop leaves over a settled disk.

-- a settled disk leaves one file
pub settled_leaves : (file c : List ℕ) → MayLeave (settled file) c → c ≡ file
settled_leaves file c left =
    ext_get_or 0 c file (omega (arith, left.no_shorter, left.no_longer)) (λ i lt. left.same i (omega (arith, left.no_longer)) tt)

-- What a stop leaves over a settled disk agrees with its file at each offset that was kept.
keeps_agrees : (Kept : ℕ → Type 0) (file : List ℕ) (m : Medium) → KeepsOffsets Kept (settled file) m → (c : List ℕ) → MayLeave m c → Agrees Kept file c
keeps_agrees Kept file m keeps c left = record {
  longer = omega (arith, left.no_shorter, ap length keeps.stable);
  same = λ i lt kept.
      left.same i (omega (arith, lt, ap length keeps.stable)) (keeps.untouched i kept tt) ∙ ap (λ (l : List ℕ). get_or l i 0) keeps.stable;
}

-- What stops leave since some moment.

module _ (P : List ℕ → Type 0) where
  each_agrees : (Kept : ℕ → Type 0) (file : List ℕ) → ((c : List ℕ) → Agrees Kept file c → P c) → (ms : List Medium)
      → EachKeepsOffsets Kept (settled file) ms → EachLeavesOnly ms P
  each_agrees Kept file so [] e = tt
  each_agrees Kept file so (m ∷ ms) e = ((λ c left. so c (keeps_agrees Kept file m e.0 c left)), each_agrees Kept file so ms e.1)

  -- a phase of writes over a settled disk
  pub spares_since : (Kept : ℕ → Type 0) (a b : DiskState) → a.now ≡ settled a.seen → SparesOffsets Kept a b → ((c : List ℕ) → Agrees Kept a.seen c → P c)
      → SinceThen a b P
  spares_since Kept a b rest s so =
      let first = subst (λ (m : Medium). KeepsOffsets Kept m a.now) rest (keeps_none Kept a.now) in
      record {
        since = s.since;
        history = s.history;
        each = each_agrees Kept a.seen so s.since (subst (λ (m : Medium). EachKeepsOffsets Kept m s.since) rest s.each);
        first = λ c left. so c (keeps_agrees Kept a.seen a.now first c left);
      }

  each_both : (ms ns : List Medium) → EachLeavesOnly ms P → EachLeavesOnly ns P → EachLeavesOnly (ms ++ ns) P
  each_both [] ns e f = f
  each_both (m ∷ ms) ns e f = (e.0, each_both ms ns e.1 f)

  pub since_then : (a b c : DiskState) → SinceThen a b P → SinceThen b c P → SinceThen a c P
  since_then a b c s t = record {
    since = t.since ++ s.since;
    history = since_both a b c s.since t.since s.history t.history;
    each = each_both t.since s.since t.each s.each;
    first = s.first;
  }

  pub since_same : (a : DiskState) → LeavesOnly a.now P → SinceThen a a P
  since_same a first = record { since = []; history = refl; each = tt; first = first }

  now_from : (a b : DiskState) (ms : List Medium) → b.now ∷ b.past ≡ ms ++ (a.now ∷ a.past) → EachLeavesOnly ms P → LeavesOnly a.now P → LeavesOnly b.now P
  now_from a b [] is each first = let same : b.now ≡ a.now = cc in subst (λ (m : Medium). LeavesOnly m P) (sym same) first
  now_from a b (m ∷ ms) is each first = let same : b.now ≡ m = cc in subst (λ (m : Medium). LeavesOnly m P) (sym same) each.0

  -- what a stop leaves now is among them
  pub since_now : (a b : DiskState) → SinceThen a b P → LeavesOnly b.now P
  since_now a b s = now_from a b s.since s.history s.each s.first

  -- a sync goes on to a file that a stop may leave already
  pub since_sync : {T E : Type 0} (r : Result T E) (a b c : DiskState) → SinceThen a b P → MayLeave b.now b.seen → Syncs r b c → SinceThen a c P
  since_sync (Ok t) a b c s stays sync =
      let here = since_now a b s b.seen stays in
      since_then a b c s (record {
        since = settled b.seen ∷ [];
        history = λ i. sync.1.now i ∷ sync.1.past i;
        each = ((λ file left. subst P (sym (settled_leaves b.seen file left)) here), tt);
        first = since_now a b s;
      })
  since_sync (Err e) a b c s stays same = subst (λ (x : DiskState). SinceThen a x P) (sym same) s

  pub since_weaker : (Q : List ℕ → Type 0) → ((c : List ℕ) → P c → Q c) → (a b : DiskState) → SinceThen a b P → SinceThen a b Q
  since_weaker Q so a b s = record {
    since = s.since;
    history = s.history;
    each = each_weaker s.since s.each;
    first = λ c left. so c (s.first c left);
  }
    where
      each_weaker : (ms : List Medium) → EachLeavesOnly ms P → EachLeavesOnly ms Q
      each_weaker [] e = tt
      each_weaker (m ∷ ms) e = ((λ c left. so c (e.0 c left)), each_weaker ms e.1)

-- A medium with no fewer behind it than are behind the present one is the present one.
pub left_by_present : (now : Medium) (past newer : List Medium) (m : Medium) (older : List Medium) (file : List ℕ) → now ∷ past ≡ newer ++ m ∷ older
    → length past ≤ length older → MayLeave m file → MayLeave now file
left_by_present now past [] m older file e le may = (let same : now ≡ m = cc in subst (λ (x : Medium). MayLeave x file) (sym same) may)
left_by_present now past (y ∷ newer) m older file e le may =
    (let size : length (now ∷ past) ≡ length ((y ∷ newer) ++ m ∷ older) = ap (λ (l : List Medium). length l) e in
    absurd (omega (arith, le, size, length-append newer (m ∷ older))))
