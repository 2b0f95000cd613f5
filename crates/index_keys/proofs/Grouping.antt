-- Entries of which each key is kept once: an entry that comes behind them.
use Rattle.std.proofs.Common.{◌≡◌, ℕ, zero, suc, ◌+◌, ◌-◌, ◌<◌, ◌≤◌, List, [], ◌∷◌, ◌++◌, map, length}
use Rattle.std.proofs.Common.{get_or, slice_index, arith, refl, sym, ap, ◌∙◌, subst, Bool, IsTrue, false, inl, inr}
use Rattle.std.proofs.lemmas.Bool.{cases_lt}
use Rattle.std.proofs.lemmas.List.{get_or_default, get_or_append_left, length-append, length-map, map-append}
use Rattle.std.proofs.Math.ListN.{get_or-map}
use Rattle.std.proofs.Math.Seq.{get_or-append_seam}
use Rattle.std.specs.List.{AllByRecursion}
use Rattle.index_keys.specs.Entries.{Entry, rank, IsRising}
use Rattle.index_keys.specs.Groups.{IsGrouped, placed_entry}
use Rattle.index_keys.proofs.RisingEntries.{rises_push}

known_at : (count : ℕ) (places : List (ℕ × ℕ)) (i : ℕ) (d : ℕ × ℕ) → AllByRecursion (λ place. place.0 < count) places → i < length places
    → (get_or places i d).0 < count
known_at count [] i d known l = absurd (omega arith)
known_at count (p ∷ places) zero d known l = known.0
known_at count (p ∷ places) (suc i) d known l = known_at count places i d known.1 (omega arith)

known_more : (count more : ℕ) (places : List (ℕ × ℕ)) (p : ℕ × ℕ) → AllByRecursion (λ place. place.0 < count) places → count ≤ more → p.0 < more
    → AllByRecursion (λ place. place.0 < more) (places ++ p ∷ [])
known_more count more [] p known up l = (l, tt)
known_more count more (q ∷ places) p known up l = ((let h = known.0 in omega arith), known_more count more places p known.1 up l)

-- a key behind the others changes no entry
kept : (keys : List ℕ) (key : ℕ) (places : List (ℕ × ℕ)) → AllByRecursion (λ place. place.0 < length keys) places
    → map (placed_entry (keys ++ key ∷ [])) places ≡ map (placed_entry keys) places
kept keys key [] known = refl
kept keys key (p ∷ places) known =
    ap (λ (k : ℕ). (k, p.1) ∷ map (placed_entry (keys ++ key ∷ [])) places) (get_or_append_left keys (key ∷ []) 0 p.0 known.0)
    ∙ ap (λ (es : List Entry). placed_entry keys p ∷ es) (kept keys key places known.1)

-- the last of the entries has this place, and this key
pub record IsLast (keys : List ℕ) (places : List (ℕ × ℕ)) (count : ℕ) (p : ℕ × ℕ) (k : ℕ) : Type 0 where
  pub grouped : IsGrouped keys places
  pub rising : IsRising (map (placed_entry keys) places)
  pub counted : count ≡ length places
  pub some : 0 < count
  pub place : p ≡ get_or places (count - 1) p
  pub key : k ≡ get_or keys p.0 k

last_key : (keys : List ℕ) (places : List (ℕ × ℕ)) (count : ℕ) (p : ℕ × ℕ) (k : ℕ) → IsLast keys places count p k → slice_index keys p.0 ≡ k
last_key keys places count p k last =
    let within = known_at (length keys) places (count - 1) p last.grouped.known (omega (arith, last.counted, last.some)) in
    let known : p.0 < length keys = subst (λ (q : ℕ × ℕ). q.0 < length keys) (sym last.place) within in
    get_or_default keys p.0 0 k known ∙ sym last.key

-- an entry comes behind them just where the last one stands before it
joins : (keys : List ℕ) (places : List (ℕ × ℕ)) (count : ℕ) (p : ℕ × ℕ) (k : ℕ) → IsLast keys places count p k → (e : Entry)
    → (rank (k, p.1) < rank e → IsRising (map (placed_entry keys) places ++ e ∷ []))
    × (IsRising (map (placed_entry keys) places ++ e ∷ []) → rank (k, p.1) < rank e)
joins keys places count p k last e =
    let same : placed_entry keys p ≡ (k, p.1) = ap (λ (x : ℕ). (x, p.1)) (last_key keys places count p k last) in
    let long = length-map places (placed_entry keys) in
    let at : placed_entry keys p ≡ get_or (map (placed_entry keys) places) (count - 1) (placed_entry keys p) =
    ap (placed_entry keys) last.place ∙ sym (get_or-map (placed_entry keys) places (count - 1) p) in
    let both = rises_push (map (placed_entry keys) places) (count - 1) e (placed_entry keys p) (omega (arith, long, last.counted, last.some)) at last.rising in
    let rank_is = ap rank same in (
      (λ l. both.0 (omega (arith, rank_is, l))),
      (λ up. let l = both.1 up in omega (arith, rank_is, l)),
    )

-- what a test of two numbers has told
pub not_below : (m n : ℕ) (below : Bool) → (m < n → IsTrue below) → below ≡ false → n ≤ m
not_below m n below up told = elim (cases_lt m n) [
  | inl less ↦ absurd (let t = up less in cc)
  | inr over ↦ over
]

-- ONE ENTRY MORE
-- an entry that does not stand behind the last one does not come behind them
pub refuses : (keys : List ℕ) (places : List (ℕ × ℕ)) (count : ℕ) (p : ℕ × ℕ) (k : ℕ) → IsLast keys places count p k → (e : Entry) → rank e ≤ rank (k, p.1)
    → IsRising (map (placed_entry keys) places ++ e ∷ []) → ⊥
refuses keys places count p k last e l up = let h = (joins keys places count p k last e).1 up in omega (arith, h, l)

-- an entry of the last one's key
pub puts_same : (keys : List ℕ) (places : List (ℕ × ℕ)) (count : ℕ) (p : ℕ × ℕ) (k key value : ℕ) (now : List (ℕ × ℕ)) → IsLast keys places count p k
    → k ≡ key → p.1 < value → now ≡ places ++ (p.0, value) ∷ []
    → (map (placed_entry keys) now ≡ map (placed_entry keys) places ++ (key, value) ∷ []) × IsRising (map (placed_entry keys) now)
puts_same keys places count p k key value now last same above is =
    let all : map (placed_entry keys) now ≡ map (placed_entry keys) places ++ (key, value) ∷ [] =
    ap (map (placed_entry keys)) is ∙ map-append (placed_entry keys) places ((p.0, value) ∷ [])
    ∙ ap (λ (x : ℕ). map (placed_entry keys) places ++ (x, value) ∷ []) (last_key keys places count p k last ∙ same) in
    let up = (joins keys places count p k last (key, value)).0 (omega (arith, same, above)) in
    (all, subst (λ (es : List Entry). IsRising es) (sym all) up)

-- an entry of a key that was not there
pub puts_other : (keys : List ℕ) (places : List (ℕ × ℕ)) (key value : ℕ) (more : List ℕ) (now : List (ℕ × ℕ)) → IsGrouped keys places
    → IsRising (map (placed_entry keys) places ++ (key, value) ∷ []) → more ≡ keys ++ key ∷ [] → now ≡ places ++ (length keys, value) ∷ []
    → (map (placed_entry more) now ≡ map (placed_entry keys) places ++ (key, value) ∷ []) × IsRising (map (placed_entry more) now)
puts_other keys places key value more now grouped up one two =
    let all : map (placed_entry more) now ≡ map (placed_entry keys) places ++ (key, value) ∷ [] =
    ap (λ (ks : List ℕ). map (placed_entry ks) now) one ∙ ap (map (placed_entry (keys ++ key ∷ []))) two
    ∙ map-append (placed_entry (keys ++ key ∷ [])) places ((length keys, value) ∷ [])
    ∙ ap (λ (es : List Entry). es ++ placed_entry (keys ++ key ∷ []) (length keys, value) ∷ []) (kept keys key places grouped.known)
    ∙ ap (λ (x : ℕ). map (placed_entry keys) places ++ (x, value) ∷ []) (get_or-append_seam keys key [] 0) in
    (all, subst (λ (es : List Entry). IsRising es) (sym all) up)

pub grouped_more : (keys : List ℕ) (places : List (ℕ × ℕ)) (key value : ℕ) (more : List ℕ) (now : List (ℕ × ℕ)) → IsGrouped keys places
    → more ≡ keys ++ key ∷ [] → now ≡ places ++ (length keys, value) ∷ [] → IsGrouped more now
grouped_more keys places key value more now grouped one two =
    let longer : length more ≡ length keys + 1 = ap length one ∙ length-append keys (key ∷ []) in
    let all = length-append places ((length keys, value) ∷ []) in
    let now_long = ap length two in
    record {
      known = subst (λ (ps : List (ℕ × ℕ)). AllByRecursion (λ place. place.0 < length more) ps) (sym two)
          (known_more (length keys) (length more) places (length keys, value) grouped.known (omega (arith, longer)) (omega (arith, longer)));
      few = let f = grouped.few in omega (arith, f, longer, all, now_long);
    }

-- the first entry, or one behind the last one
pub rises_first : (keys : List ℕ) (places : List (ℕ × ℕ)) (e : Entry) → length places ≡ zero → IsRising (map (placed_entry keys) places ++ e ∷ [])
rises_first keys [] e none = (omega arith, tt)
rises_first keys (p ∷ places) e none = absurd (omega (arith, none))

pub rises_behind : (keys : List ℕ) (places : List (ℕ × ℕ)) (count : ℕ) (p : ℕ × ℕ) (k : ℕ) → IsLast keys places count p k → (e : Entry) → rank (k, p.1) < rank e
    → IsRising (map (placed_entry keys) places ++ e ∷ [])
rises_behind keys places count p k last e l = (joins keys places count p k last e).0 l
