-- Fields that are written are read, and fields that are read were written so.
use Rattle.std.proofs.Common.{◌≡◌, ◌≢◌, ℕ, zero, suc, ◌^◌, ◌<◌, ◌≤◌, Bool, true, false, cond, List, [], ◌∷◌, ◌++◌, length, take, drop}
use Rattle.std.proofs.Common.{◌⊎◌, inl, inr, refl, ap, sym, subst, ◌∙◌, arith}
use Rattle.std.specs.Prelude.{◌==◌, ◌&&◌, not, nat_lt, nat_eq, Option, None, Some, decimal, slice_index}
use Rattle.std.specs.List.{AllByRecursion, starts_with, list_all}
use Rattle.std.specs.Str.{bytes_eq}
use Rattle.std.specs.Str.Parse.{digits_value, AllDigits}
use Rattle.std.proofs.lemmas.Bool.{eqb-true, eqb-false, eq-eqb, ne_eqb, ltb-true, lt-ltb, and_parts, and_from, cond-true, cond-false}
use Rattle.std.proofs.lemmas.Bool.{false_from_ne_true, not-true}
use Rattle.std.proofs.lemmas.Bool.Decides.{Decides-eqb}
use Rattle.std.proofs.lemmas.Option.{none-some, same_Some, cond_some}
use Rattle.std.proofs.lemmas.List.{drop_at}
use Rattle.std.proofs.lemmas.Fmt.{decimal_is_IsNumeral}
use Rattle.std.proofs.lemmas.Slice.Eq.{bytes_eq-Decides, starts_is}
use Rattle.std.proofs.lemmas.Str.Parse.{digit_from_value}
use Rattle.tune_undo.specs.Inside.ItemReading.{◌>>=◌, bytes_after, onto, field_at, number_read, number_read_at}

-- STEPS
pub bind_some : {A B : Type 0} (o : Option A) (f : A → Option B) (y : B) → (o >>= f) ≡ Some y → (x : A) × (o ≡ Some x) × (f x ≡ Some y)
bind_some None f y e = absurd (none-some y e)
bind_some (Some x) f y e = (x, refl, e)

pub bind_is : {A B : Type 0} (o : Option A) (f : A → Option B) (x : A) → o ≡ Some x → (o >>= f) ≡ f x
bind_is o f x e = ap (λ p. p >>= f) e

pub chosen : {A : Type 0} (b : Bool) (x y z : A) → cond b x y ≡ z → ((b ≡ true) × (x ≡ z)) ⊎ ((b ≡ false) × (y ≡ z))
chosen true x y z e = inl (refl, e)
chosen false x y z e = inr (refl, e)

-- FRONTS
pub after_takes : (front bytes rest : List ℕ) → bytes_after front bytes ≡ Some rest → bytes ≡ front ++ rest
after_takes front bytes rest e =
    let p = cond_some (starts_with nat_eq bytes front) (drop (length front) bytes) rest e in
    (starts_is Decides-eqb bytes front _ refl).0 p.0 ∙ ap (λ t. front ++ t) p.1

pub after_again : (front rest : List ℕ) → bytes_after front (front ++ rest) ≡ Some rest
after_again front rest =
    cond-true _ _ _ ((starts_is Decides-eqb (front ++ rest) front _ refl).1 rest refl) ∙ ap (λ t. Some t) (drop_at front rest (length front) refl)

-- FIELDS
-- a byte is not among these
abbrev pub Free : ℕ → List ℕ → Type 0
Free end bytes = AllByRecursion (λ byte. byte ≢ end) bytes

pub free-append : (end : ℕ) (a b : List ℕ) → Free end a → Free end b → Free end (a ++ b)
free-append end [] b free more = more
free-append end (byte ∷ a) b free more = (free.0, free-append end a b free.1 more)

-- the same by a test, which computes on a literal
pub free_test : (end : ℕ) (bytes : List ℕ) → list_all (λ byte. not (byte == end)) bytes ≡ true → Free end bytes
free_test end [] test = tt
free_test end (byte ∷ bytes) test =
    let p = and_parts _ _ test in (eqb-false byte end (not-true _ p.0), free_test end bytes p.1)

pub free_index : (end : ℕ) (bytes : List ℕ) (k : ℕ) → Free end bytes → 0 ≢ end → slice_index bytes k ≢ end
free_index end [] k free zero_no = zero_no
free_index end (byte ∷ bytes) zero free zero_no = free.0
free_index end (byte ∷ bytes) (suc k) free zero_no = free_index end bytes k free.1 zero_no

pub field_again : (end : ℕ) (field rest : List ℕ) → Free end field → field_at end (field ++ (end ∷ rest)) ≡ Some (field, rest)
field_again end [] rest free = cond-true (end == end) _ _ (eq-eqb end end refl)
field_again end (byte ∷ field) rest free =
    cond-false (byte == end) _ _ (ne_eqb byte end free.0) ∙ ap (onto byte) (field_again end field rest free.1)

onto_some : (byte : ℕ) (o : Option (List ℕ × List ℕ)) (f : List ℕ × List ℕ) → onto byte o ≡ Some f
    → (g : List ℕ × List ℕ) × (o ≡ Some g) × (f ≡ (byte ∷ g.0, g.1))
onto_some byte None f e = absurd (none-some f e)
onto_some byte (Some g) f e = (g, refl, sym (same_Some _ _ e))

pub field_takes : (end : ℕ) (bytes : List ℕ) (f : List ℕ × List ℕ) → field_at end bytes ≡ Some f → (bytes ≡ f.0 ++ (end ∷ f.1)) × Free end f.0
field_takes end [] f e = absurd (none-some f e)
field_takes end (byte ∷ bytes) f e =
    let P : List ℕ × List ℕ → Type 0 = λ g. (byte ∷ bytes ≡ g.0 ++ (end ∷ g.1)) × Free end g.0 in
    elim (chosen (byte == end) _ _ _ e) [
      | inl h ↦
          let same : byte ≡ end = eqb-true byte end h.0 in
          subst P (same_Some _ _ h.1) (ap (λ b. b ∷ bytes) same, tt)
      | inr h ↦
          let o = onto_some byte (field_at end bytes) f h.1 in
          let more = field_takes end bytes o.0 o.1 in
          subst P (sym o.2) (ap (λ t. byte ∷ t) more.0, (eqb-false byte end h.0, more.1))
    ]

-- the place that a search names
pub field_first : (end : ℕ) (bytes : List ℕ) (i : ℕ) → i < length bytes → (slice_index bytes i == end) ≡ true
    → ((k : ℕ) → 0 ≤ k → k < i → (slice_index bytes k == end) ≡ true → ⊥) → field_at end bytes ≡ Some (take i bytes, drop (suc i) bytes)
field_first end [] i l p none = absurd (omega arith)
field_first end (byte ∷ bytes) zero l p none = cond-true (byte == end) _ _ p
field_first end (byte ∷ bytes) (suc i) l p none =
    let no : (byte == end) ≡ false = false_from_ne_true _ (none 0 (omega arith) (omega arith)) in
    cond-false (byte == end) _ _ no ∙ ap (onto byte) (field_first end bytes i (omega arith) p (λ k low high. none (suc k) (omega arith) (omega arith)))

pub field_absent : (end : ℕ) (bytes : List ℕ) → ((k : ℕ) → 0 ≤ k → k < length bytes → (slice_index bytes k == end) ≡ true → ⊥) → field_at end bytes ≡ None
field_absent end [] none = refl
field_absent end (byte ∷ bytes) none =
    let no : (byte == end) ≡ false = false_from_ne_true _ (none 0 (omega arith) (omega arith)) in
    cond-false (byte == end) _ _ no ∙ ap (onto byte) (field_absent end bytes (λ k low high. none (suc k) (omega arith) (omega arith)))

-- NUMBERS
digits_free : (end : ℕ) (digits : List ℕ) → end < 48 → AllDigits 10 digits → Free end digits
digits_free end [] low are = tt
digits_free end (digit ∷ digits) low are =
    let range = digit_from_value digit are.0 in
    ((λ same. omega arith), digits_free end digits low are.1)

pub decimal_free : (end n : ℕ) → end < 48 → n < 2 ^ 32 → Free end (decimal n)
decimal_free end n low small = digits_free end (decimal n) low (decimal_is_IsNumeral n (omega arith)).0.1

pub number_again : (n : ℕ) → n < 2 ^ 32 → number_read (decimal n) ≡ Some n
number_again n small =
    let value : digits_value 10 (decimal n) ≡ n = (decimal_is_IsNumeral n (omega arith)).1 in
    let P : ℕ → Type 0 = λ m. cond (nat_lt m (2 ^ 32) && bytes_eq (decimal m) (decimal n)) (Some m) None ≡ Some n in
    subst P (sym value) (cond-true _ _ _ (and_from _ _ (lt-ltb n (2 ^ 32) small) ((bytes_eq-Decides (decimal n) (decimal n)).1 refl)))

pub number_takes : (word : List ℕ) (n : ℕ) → number_read word ≡ Some n → (n < 2 ^ 32) × (word ≡ decimal n)
number_takes word n e =
    let m = digits_value 10 word in
    let p = cond_some (nat_lt m (2 ^ 32) && bytes_eq (decimal m) word) m n e in
    let q = and_parts _ _ p.0 in
    let P : ℕ → Type 0 = λ k. (k < 2 ^ 32) × (word ≡ decimal k) in
    subst P p.1 (ltb-true m (2 ^ 32) q.0, sym ((bytes_eq-Decides (decimal m) word).0 q.1))

pub number_at_again : (end n : ℕ) (rest : List ℕ) → end < 48 → n < 2 ^ 32 → number_read_at end (decimal n ++ (end ∷ rest)) ≡ Some (n, rest)
number_at_again end n rest low small =
    bind_is (field_at end (decimal n ++ (end ∷ rest))) _ (decimal n, rest) (field_again end (decimal n) rest (decimal_free end n low small))
    ∙ bind_is (number_read (decimal n)) _ n (number_again n small)

pub number_at_takes : (end : ℕ) (bytes : List ℕ) (r : ℕ × List ℕ) → number_read_at end bytes ≡ Some r → (r.0 < 2 ^ 32) × (bytes ≡ decimal r.0 ++ (end ∷ r.1))
number_at_takes end bytes r e =
    let f = bind_some (field_at end bytes) (λ field. number_read field.0 >>= λ number. Some (number, field.1)) r e in
    let n = bind_some (number_read f.0.0) (λ number. Some (number, f.0.1)) r f.2 in
    let word = number_takes f.0.0 n.0 n.1 in
    let P : ℕ × List ℕ → Type 0 = λ s. (s.0 < 2 ^ 32) × (bytes ≡ decimal s.0 ++ (end ∷ s.1)) in
    subst P (same_Some _ _ n.2) (word.0, (field_takes end bytes f.0 f.1).0 ∙ ap (λ t. t ++ (end ∷ f.0.1)) word.1)
