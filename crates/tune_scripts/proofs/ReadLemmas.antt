-- What reads take, one after another.
use Rattle.std.proofs.Common.{◌≡◌, ℕ, zero, ◌+◌, ◌<◌, ◌≤◌, suc, get_or, take, subst, Bool, true, false, eqb, List, [], ◌∷◌, ◌++◌, length, drop}
use Rattle.std.proofs.Common.{Option, None, Some}
use Rattle.std.proofs.Common.{refl, ap, sym, ◌∙◌, arith}
use Rattle.std.specs.List.{list_all}
use Rattle.std.specs.Io.KnownBytes.{Consumes, IsAtEnd}
use Rattle.std.proofs.lemmas.List.{append_assoc, append-nil, length-append, length-take-le, drop_at, take_at, take-append-le, take_more, get_or-take}
use borrow.Rule.Slice.PartMut.{put_mid, post_of}
use Rattle.std.proofs.lemmas.Bool.{and_parts, not-true, true≢false, false_from_ne_true, eqb-true}
use Rattle.abc_fields.specs.Bytes.{line_feed}
use Rattle.tune_scripts.specs.Limits.{longest_line}
use Rattle.tune_scripts.specs.InputLines.{before_feed, after_feed, has_feed}
use Rattle.tune_scripts.specs.Consoles.{is_inside}
use Rattle.tune_scripts.specs.Inside.Reads.{TakesLine, LosesLongLine}

pub consumes_more : (a b c : Option (List ℕ)) (x y : List ℕ) → Consumes a b x → Consumes b c y → Consumes a c (x ++ y)
consumes_more None b c x y h k = tt
consumes_more (Some xs) None c x y h k = absurd h
consumes_more (Some xs) (Some ys) None x y h k = absurd k
consumes_more (Some xs) (Some ys) (Some zs) x y h k = h ∙ ap (λ r. x ++ r) k ∙ sym (append_assoc x y zs)

before_inside : (p r : List ℕ) → list_all is_inside p ≡ true → before_feed (p ++ r) ≡ p ++ before_feed r
before_inside [] r h = refl
before_inside (b ∷ p) r h =
    let parts = and_parts (is_inside b) (list_all is_inside p) h in
    rw (not-true (eqb b line_feed) parts.0) (ap (λ l. b ∷ l) (before_inside p r parts.1))

after_inside : (p r : List ℕ) → list_all is_inside p ≡ true → after_feed (p ++ r) ≡ after_feed r
after_inside [] r h = refl
after_inside (b ∷ p) r h =
    let parts = and_parts (is_inside b) (list_all is_inside p) h in
    rw (not-true (eqb b line_feed) parts.0) (after_inside p r parts.1)

feed_inside : (p r : List ℕ) → list_all is_inside p ≡ true → has_feed (p ++ r) ≡ has_feed r
feed_inside [] r h = refl
feed_inside (b ∷ p) r h =
    let parts = and_parts (is_inside b) (list_all is_inside p) h in
    rw (not-true (eqb b line_feed) parts.0) (feed_inside p r parts.1)

some_before : (p : List ℕ) (b : ℕ) (r : List ℕ) → 0 < length (p ++ b ∷ r)
some_before p b r = omega (arith, length-append p (b ∷ r))

pub inside_append : (p q : List ℕ) → list_all is_inside p ≡ true → list_all is_inside q ≡ true → list_all is_inside (p ++ q) ≡ true
inside_append [] q h k = k
inside_append (b ∷ p) q h k =
    let parts = and_parts (is_inside b) (list_all is_inside p) h in
    rw (parts.0) (inside_append p q parts.1 k)

-- bytes without a feed
pub inside_of : (p : List ℕ) → ((j : ℕ) → j < length p → eqb (get_or p j 0) line_feed ≡ true → ⊥) → list_all is_inside p ≡ true
inside_of [] h = refl
inside_of (b ∷ p) h =
    let none : eqb b line_feed ≡ false = false_from_ne_true (eqb b line_feed) (h 0 (omega arith)) in
    rw none (inside_of p (λ j l. h (suc j) (omega arith)))

-- a line with its feed
line_whole : (old new : Option (List ℕ)) (line : List ℕ) → list_all is_inside line ≡ true → Consumes old new (line ++ line_feed ∷ [])
    → TakesLine old new line true
line_whole None new line h a = tt
line_whole (Some xs) None line h a = absurd a
line_whole (Some xs) (Some zs) line h a =
    let e : xs ≡ line ++ line_feed ∷ zs = a ∙ append_assoc line (line_feed ∷ []) zs in (
      zs,
      refl,
      rw e record {
        some = some_before line line_feed zs;
        bytes = before_inside line (line_feed ∷ zs) h ∙ append-nil line;
        after = after_inside line (line_feed ∷ zs) h;
        feed = feed_inside line (line_feed ∷ zs) h;
      },
    )

-- a line of which the last part came with its feed
pub line_fed : (old mid new : Option (List ℕ)) (line part : List ℕ) → list_all is_inside line ≡ true → list_all is_inside part ≡ true
    → Consumes old mid line → Consumes mid new (part ++ line_feed ∷ []) → TakesLine old new (line ++ part) true
line_fed old mid new line part h k a b =
    line_whole old new (line ++ part) (inside_append line part h k)
    (subst (Consumes old new) (sym (append_assoc line part (line_feed ∷ []))) (consumes_more old mid new line (part ++ line_feed ∷ []) a b))

-- a line that the end cuts
pub line_last : (old mid new : Option (List ℕ)) (line : List ℕ) → 0 < length line → list_all is_inside line ≡ true
    → Consumes old mid line → IsAtEnd mid → Consumes mid new [] → TakesLine old new line false
line_last None mid new line l h a e b = tt
line_last (Some xs) None new line l h a e b = absurd a
line_last (Some xs) (Some ys) None line l h a e b = absurd b
line_last (Some xs) (Some ys) (Some zs) line l h a e b =
    let all : xs ≡ line ++ [] = a ∙ ap (λ r. line ++ r) e in
    let none : [] ≡ zs = sym e ∙ b in (
      zs,
      refl,
      rw all record {
        some = omega (arith, length-append line []);
        bytes = before_inside line [] h ∙ append-nil line;
        after = after_inside line [] h ∙ none;
        feed = feed_inside line [] h;
      },
    )

-- a line that is too long, of which one byte more than a line may have was read
pub line_long : (old new : Option (List ℕ)) (line : List ℕ) → length line ≡ longest_line + 1 → list_all is_inside line ≡ true → Consumes old new line
    → LosesLongLine old new
line_long None new line l h c = tt
line_long (Some xs) None line l h c = absurd c
line_long (Some xs) (Some zs) line l h c =
    let long : longest_line < length (before_feed xs) = rw (c, before_inside line zs h) (omega (arith, length-append line (before_feed zs), l)) in
    (long, ap Some (sym (ap (drop (longest_line + 1)) c ∙ drop_at line zs (longest_line + 1) l)))

take-append-more : (p q : List ℕ) (n : ℕ) → take (length p + n) (p ++ q) ≡ p ++ take n q
take-append-more [] q n =
    let none : 0 + n ≡ n = omega arith in
    ap (λ k. take k q) none
take-append-more (b ∷ p) q n =
    let more : suc (length p) + n ≡ suc (length p + n) = omega arith in
    ap (λ k. take k (b ∷ (p ++ q))) more ∙ ap (λ l. b ∷ l) (take-append-more p q n)

-- WHAT A BUFFER SHOWS
pub some_of : (n : ℕ) → eqb n 0 ≡ false → 0 < n
some_of zero e = absurd (true≢false e)
some_of (suc n) e = omega arith

pub copied_front : (shown copied rest : List ℕ) (n : ℕ) → copied ≡ take n shown → n ≤ length shown → take n (copied ++ rest) ≡ take n shown
copied_front shown copied rest n e h = take_at copied rest n (ap length e ∙ length-take-le n shown h) ∙ e

pub feed_shown : (shown : List ℕ) (most n : ℕ) → most ≤ length shown → n < most → eqb (get_or (take most shown) n 0) line_feed ≡ true
    → take (n + 1) shown ≡ take n shown ++ line_feed ∷ []
feed_shown shown most n m l is =
    take_more shown n 0 (omega arith) ∙ ap (λ b. take n shown ++ b ∷ []) (sym (get_or-take most shown n 0 l) ∙ eqb-true _ _ is)

pub inside_shown : (shown : List ℕ) (most n : ℕ) → most ≤ length shown → n ≤ most
    → ((j : ℕ) → j < n → eqb (get_or (take most shown) j 0) line_feed ≡ true → ⊥) → list_all is_inside (take n shown) ≡ true
inside_shown shown most n m l h =
    let size = length-take-le n shown (omega arith) in
    inside_of (take n shown)
    (λ j k is. h j (omega arith) (ap (λ b. eqb b line_feed) (get_or-take most shown j 0 (omega arith) ∙ sym (get_or-take n shown j 0 (omega arith))) ∙ is))

-- bytes that were taken behind others of a line
pub part_behind : (line room new : List ℕ) (len n : ℕ) → new ≡ take len line ++ room → len ≤ length line → n ≤ length room
    → take (len + n) new ≡ take len line ++ take n room
part_behind line room new len n e l m =
    let own = length-take-le len line l in
    ap (take (len + n)) e ∙ ap (λ k. take (k + n) (take len line ++ room)) (sym own) ∙ take-append-more (take len line) room n

-- the same after a write to the rest of a line
pub part_put : (line room : List ℕ) (len k n : ℕ) → len ≤ length line → n ≤ length room
    → take (len + n) (put_mid len k line room) ≡ take len line ++ take n room
part_put line room len k n l m =
    part_behind line (room ++ post_of len k line) (put_mid len k line room) len n refl l (omega (arith, length-append room (post_of len k line)))
    ∙ ap (λ q. take len line ++ q) (take-append-le n room (post_of len k line) m)

-- the bytes of a book that were taken so far
pub record IsTaken (old new : Option (List ℕ)) (len left : ℕ) (wanted room : Bool) (kept : List ℕ) : Type 0 where
  pub got : List ℕ
  pub took : Consumes old new got
  pub size : length got + left ≡ len
  pub wants : room ≡ true → wanted ≡ true
  pub keeps : room ≡ true → kept ≡ got
