-- Entries put into a list and taken out of it: what is among them then.
use Rattle.std.proofs.Common.{◌≡◌, ◌≢◌, ℕ, ◌+◌, ◌*◌, ◌^◌, ◌<◌, ◌≤◌, ◌⊎◌, List, [], ◌∷◌, sym, ap, ◌∙◌, arith, inl, inr, subst}
use Rattle.std.specs.List.{Contains}
use Rattle.std.proofs.lemmas.Bool.{cases_lt, cases_eq}
use Rattle.index_keys.specs.Entries.{Entry, rank, EntriesRiseFrom, IsRising, entry_inserted, inserted_all, removed, removed_all}
use Rattle.index_keys.proofs.Members.{contains_first, contains_later, contains_cases, contains_none}
use Rattle.index_keys.proofs.RisingEntries.{inserted_front, inserted_later, inserted_there, removed_there, removed_later, removed-rises}

-- each value is below 2 ^ 32
abbrev pub SmallValues : List Entry → Type 0
SmallValues es = (x : Entry) → Contains es x → x.1 < 2 ^ 32

-- entries of one rank are one entry
key_same : (k l v w : ℕ) → v < 2 ^ 32 → w < 2 ^ 32 → k * 2 ^ 32 + v ≡ l * 2 ^ 32 + w → k ≡ l
key_same k l v w a b e = omega arith

value_same : (k l v w : ℕ) → v < 2 ^ 32 → w < 2 ^ 32 → k * 2 ^ 32 + v ≡ l * 2 ^ 32 + w → v ≡ w
value_same k l v w a b e = omega arith

pub rank_same : (x y : Entry) → x.1 < 2 ^ 32 → y.1 < 2 ^ 32 → rank x ≡ rank y → x ≡ y
rank_same (k, v) (l, w) a b e =
    let f = key_same k l v w a b e in
    let s = value_same k l v w a b e in
    ap (λ (z : ℕ). (z, v)) f ∙ ap (λ (z : ℕ). (l, z)) s

-- ONE ENTRY PUT IN
put_old : (e : Entry) (es : List Entry) (x : Entry) → Contains es x → Contains (entry_inserted e es) x
put_old e [] x h = absurd (contains_none x h)
put_old e (y ∷ ys) x h = elim (cases_lt (rank e) (rank y)) [
  | inl front ↦ rw (inserted_front e y ys front) (contains_later e (y ∷ ys) x h)
  | inr rest ↦ elim (cases_lt (rank y) (rank e)) [
    | inl later ↦ rw (inserted_later e y ys later) (elim (contains_cases y ys x h) [
      | inl here ↦ subst (λ (z : Entry). Contains (y ∷ entry_inserted e ys) z) here (contains_first y (entry_inserted e ys))
      | inr l ↦ contains_later y (entry_inserted e ys) x (put_old e ys x l)
    ])
    | inr there ↦ rw (inserted_there e y ys (omega arith)) h
  ]
]

put_new : (e : Entry) (es : List Entry) → e.1 < 2 ^ 32 → SmallValues es → Contains (entry_inserted e es) e
put_new e [] v s = contains_first e []
put_new e (y ∷ ys) v s = elim (cases_lt (rank e) (rank y)) [
  | inl front ↦ rw (inserted_front e y ys front) (contains_first e (y ∷ ys))
  | inr rest ↦ elim (cases_lt (rank y) (rank e)) [
    | inl later ↦ rw (inserted_later e y ys later) (contains_later y (entry_inserted e ys) e (put_new e ys v (λ x h. s x (contains_later y ys x h))))
    | inr there ↦
        let same : y ≡ e = rank_same y e (s y (contains_first y ys)) v (omega arith) in
        rw (inserted_there e y ys (omega arith)) (subst (λ (z : Entry). Contains (y ∷ ys) z) same (contains_first y ys))
  ]
]

put_back : (e : Entry) (es : List Entry) (x : Entry) → Contains (entry_inserted e es) x → (e ≡ x) ⊎ Contains es x
put_back e [] x h = elim (contains_cases e [] x h) [ inl s ↦ inl s | inr n ↦ absurd (contains_none x n) ]
put_back e (y ∷ ys) x h = elim (cases_lt (rank e) (rank y)) [
  | inl front ↦ contains_cases e (y ∷ ys) x (rw (inserted_front e y ys front) at h)
  | inr rest ↦ elim (cases_lt (rank y) (rank e)) [
    | inl later ↦ elim (contains_cases y (entry_inserted e ys) x (rw (inserted_later e y ys later) at h)) [
      | inl here ↦ inr (subst (λ (z : Entry). Contains (y ∷ ys) z) here (contains_first y ys))
      | inr l ↦ elim (put_back e ys x l) [ inl s ↦ inl s | inr m ↦ inr (contains_later y ys x m) ]
    ]
    | inr there ↦ inr (rw (inserted_there e y ys (omega arith)) at h)
  ]
]

put_small : (e : Entry) (es : List Entry) → e.1 < 2 ^ 32 → SmallValues es → SmallValues (entry_inserted e es)
put_small e es v s x h = elim (put_back e es x h) [ inl here ↦ subst (λ (z : Entry). z.1 < 2 ^ 32) here v | inr old ↦ s x old ]

-- A RUN PUT IN
pub all_old : (run es : List Entry) (x : Entry) → Contains es x → Contains (inserted_all run es) x
all_old [] es x h = h
all_old (e ∷ run) es x h = all_old run (entry_inserted e es) x (put_old e es x h)

pub all_new : (run es : List Entry) (x : Entry) → SmallValues run → SmallValues es → Contains run x → Contains (inserted_all run es) x
all_new [] es x r s h = absurd (contains_none x h)
all_new (e ∷ run) es x r s h =
    let v : e.1 < 2 ^ 32 = r e (contains_first e run) in
    elim (contains_cases e run x h) [
      | inl here ↦ all_old run (entry_inserted e es) x (subst (λ (z : Entry). Contains (entry_inserted e es) z) here (put_new e es v s))
      | inr l ↦ all_new run (entry_inserted e es) x (λ y k. r y (contains_later e run y k)) (put_small e es v s) l
    ]

pub all_back : (run es : List Entry) (x : Entry) → Contains (inserted_all run es) x → Contains run x ⊎ Contains es x
all_back [] es x h = inr h
all_back (e ∷ run) es x h = elim (all_back run (entry_inserted e es) x h) [
  | inl r ↦ inl (contains_later e run x r)
  | inr m ↦ elim (put_back e es x m) [ inl s ↦ inl (subst (λ (z : Entry). Contains (e ∷ run) z) s (contains_first e run)) | inr o ↦ inr o ]
]

-- ONE ENTRY TAKEN OUT
take_other : (e : Entry) (es : List Entry) (x : Entry) → e ≢ x → Contains es x → x.1 < 2 ^ 32 → e.1 < 2 ^ 32 → Contains (removed e es) x
take_other e [] x d h v w = absurd (contains_none x h)
take_other e (y ∷ ys) x d h v w = elim (cases_eq (rank y) (rank e)) [
  | inl there ↦ rw (removed_there e y ys there) (elim (contains_cases y ys x h) [
    | inl here ↦ absurd (let s : rank x ≡ rank e = subst (λ (z : Entry). rank z ≡ rank e) here there in d (sym (rank_same x e v w s)))
    | inr l ↦ l
  ])
  | inr later ↦ rw (removed_later e y ys later) (elim (contains_cases y ys x h) [
    | inl here ↦ subst (λ (z : Entry). Contains (y ∷ removed e ys) z) here (contains_first y (removed e ys))
    | inr l ↦ contains_later y (removed e ys) x (take_other e ys x d l v w)
  ])
]

take_back : (e : Entry) (es : List Entry) (x : Entry) → Contains (removed e es) x → Contains es x
take_back e [] x h = h
take_back e (y ∷ ys) x h = elim (cases_eq (rank y) (rank e)) [
  | inl there ↦ contains_later y ys x (rw (removed_there e y ys there) at h)
  | inr later ↦ elim (contains_cases y (removed e ys) x (rw (removed_later e y ys later) at h)) [
    | inl here ↦ subst (λ (z : Entry). Contains (y ∷ ys) z) here (contains_first y ys)
    | inr l ↦ contains_later y ys x (take_back e ys x l)
  ]
]

over : (low : ℕ) (es : List Entry) (x : Entry) → EntriesRiseFrom low es → Contains es x → low ≤ rank x
over low [] x r h = absurd (contains_none x h)
over low (y ∷ ys) x r h = elim (contains_cases y ys x h) [
  | inl here ↦ subst (λ (z : Entry). low ≤ rank z) here r.0
  | inr l ↦ let o = over (rank y + 1) ys x r.1 l in let b = r.0 in omega arith
]

take_gone : (low : ℕ) (e : Entry) (es : List Entry) → EntriesRiseFrom low es → Contains (removed e es) e → ⊥
take_gone low e [] r h = contains_none e h
take_gone low e (y ∷ ys) r h = elim (cases_eq (rank y) (rank e)) [
  | inl there ↦ let o = over (rank y + 1) ys e r.1 (rw (removed_there e y ys there) at h) in omega arith
  | inr later ↦ elim (contains_cases y (removed e ys) e (rw (removed_later e y ys later) at h)) [
    | inl here ↦ later (ap rank here)
    | inr l ↦ take_gone (rank y + 1) e ys r.1 l
  ]
]

-- A RUN TAKEN OUT
pub run_back : (run es : List Entry) (x : Entry) → Contains (removed_all run es) x → Contains es x
run_back [] es x h = h
run_back (e ∷ run) es x h = take_back e es x (run_back run (removed e es) x h)

pub run_gone : (run es : List Entry) (x : Entry) → IsRising es → Contains (removed_all run es) x → Contains run x → ⊥
run_gone [] es x up h r = contains_none x r
run_gone (e ∷ run) es x up h r = elim (contains_cases e run x r) [
  | inl here ↦ take_gone 0 e es up (subst (λ (z : Entry). Contains (removed e es) z) (sym here) (run_back run (removed e es) x h))
  | inr l ↦ run_gone run (removed e es) x (removed-rises 0 es e up) h l
]

pub run_other : (run es : List Entry) (x : Entry) → SmallValues run → x.1 < 2 ^ 32 → (Contains run x → ⊥) → Contains es x → Contains (removed_all run es) x
run_other [] es x s v d h = h
run_other (e ∷ run) es x s v d h =
    run_other run (removed e es) x (λ y k. s y (contains_later e run y k)) v (λ r. d (contains_later e run x r))
    (take_other e es x (λ same. d (subst (λ (z : Entry). Contains (e ∷ run) z) same (contains_first e run))) h v (s e (contains_first e run)))
